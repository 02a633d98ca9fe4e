-- What is listed stays enough where the state of one atom changes and those that it reaches are listed anew.
use Rattle.std.proofs.Common.{◌≡◌, ℕ, ◌-◌, ◌<◌, Bool, true, false, not, ◌&&◌, ◌||◌, Option, Some, None, ◌⊎◌, inl, inr, refl, sym, ap, ◌∙◌, subst, arith, eqb-true}
use Rattle.std.specs.Prelude.{nat_eq, is_some, is_none}
use Rattle.tf_numbers.specs.Numbers.{has_number}
use Rattle.tf_numbers.proofs.BelowLemmas.{all_at, all_of}
use Rattle.tf_numbers.proofs.TruthLemmas.{clash, never_true, true_both, and_first, and_second, true_first, true_second, or_either, neither_first, neither_second}
use Rattle.tf_links.specs.Bits.{has, room}
use Rattle.tf_states.specs.declared.state.AtomState.{AtomState}
use Rattle.tf_model.specs.Plan.{Outline, count, holds, is_before, is_retry, is_task, own_flow}
use Rattle.tf_model.specs.History.{Snapshot, Resolve, is_at_work, is_pending, is_running, is_success, is_failure, is_reverting, is_retrying, is_revert_failure, is_settled, is_done, is_executed}
use Rattle.tf_model.specs.Readiness.{is_unmarked, can_run, can_revert, lets_run, lets_revert, refused}
use Rattle.tf_model.specs.Forced.{is_unhurt, is_unhurt_at, is_marked_again, is_to_begin_again, is_refused, holds_with, is_interrupted, is_candidate}
use Rattle.tf_order.specs.Graph.{predecessors_of, successors_of}
use Rattle.tf_machine.specs.Cases.{applies, IsCaseAt, is_asked_again}
use Rattle.tf_machine.specs.declared.cases.Case.{Case}
use Rattle.tf_machine.specs.declared.cases.Case.TheVariants as case
use Rattle.tf_machine.specs.declared.worklists.Worklist.{Worklist}
use Rattle.tf_facts.proofs.LayoutLemmas.{before_below, before_below_first}
use Rattle.tf_machine.specs.Worklists.{ListedAt, HasRoom, IsListed, SameAt, AgreesOnAtom, IsMovedAt, IsListedWithin}
use Rattle.tf_machine.proofs.CountLemmas.{successor_told, predecessor_told}

-- ---- one atom's entry in a worklist

-- what is listed alike is listed as well
pub alike : (plan : Outline) (s : Snapshot) (old new : Worklist) (a : ℕ) → SameAt old new a → ListedAt plan s old a → ListedAt plan s new a
alike plan s old new a same listed = record {
  cases = λ out. listed.cases (sym same.forcing ∙ out);
  never = λ out. listed.never (sym same.forcing ∙ out);
  again = λ out. listed.again (sym same.forcing ∙ out);
  ready = λ out. listed.ready (sym same.ready ∙ out);
  busy = λ out. listed.busy (sym same.busy ∙ out);
}

pub alike_on : (old new newer : Worklist) (a : ℕ) → SameAt old new a → SameAt new newer a → SameAt old newer a
alike_on old new newer a first second = record { forcing = second.forcing ∙ first.forcing; ready = second.ready ∙ first.ready; busy = second.busy ∙ first.busy }

pub alike_now : (list : Worklist) (a : ℕ) → SameAt list list a
alike_now list a = record { forcing = refl; ready = refl; busy = refl }

-- alike or listed, and so again
pub moved_on : (plan : Outline) (s : Snapshot) (old new newer : Worklist) (a : ℕ) → SameAt old new a ⊎ ListedAt plan s new a → SameAt new newer a ⊎ ListedAt plan s newer a → SameAt old newer a ⊎ ListedAt plan s newer a
moved_on plan s old new newer a (inl same) (inl again) = inl (alike_on old new newer a same again)
moved_on plan s old new newer a (inr listed) (inl again) = inr (alike plan s new newer a again listed)
moved_on plan s old new newer a first (inr listed) = inr listed

-- listed, and then alike or listed
pub listed_on : (plan : Outline) (s : Snapshot) (new newer : Worklist) (a : ℕ) → ListedAt plan s new a → SameAt new newer a ⊎ ListedAt plan s newer a → ListedAt plan s newer a
listed_on plan s new newer a listed (inl again) = alike plan s new newer a again listed
listed_on plan s new newer a listed (inr again) = again

-- alike but at one atom, which is listed
pub moved_but : (plan : Outline) (s : Snapshot) (old new : Worklist) (a b : ℕ) → ((c : ℕ) → nat_eq a c ≡ false → SameAt old new c) → ListedAt plan s new a → SameAt old new b ⊎ ListedAt plan s new b
moved_but plan s old new a b others here = by (nat_eq a b) refl
  where
    by : (x : Bool) → nat_eq a b ≡ x → SameAt old new b ⊎ ListedAt plan s new b
    by true same = inr (subst (ListedAt plan s new) (eqb-true a b same) here)
    by false other = inl (others b other)

pub moved_none : (plan : Outline) (s : Snapshot) (list : Worklist) (a : ℕ) → SameAt list list a ⊎ ListedAt plan s list a
moved_none plan s list a = inl (alike_now list a)

-- no case applies where none was found
pub no_case_told : (plan : Outline) (s : Snapshot) (a : ℕ) → IsCaseAt plan s a None → (k : Case) → applies plan s k a ≡ false
no_case_told plan s a none case.Attempt = none 0 (omega arith)
no_case_told plan s a none case.Again = none 1 (omega arith)
no_case_told plan s a none case.Reverted = none 2 (omega arith)
no_case_told plan s a none case.Resolution = none 3 (omega arith)
no_case_told plan s a none case.Retrying = none 4 (omega arith)
no_case_told plan s a none case.Revert = none 5 (omega arith)
no_case_told plan s a none case.Ignore = none 6 (omega arith)
no_case_told plan s a none case.Run = none 7 (omega arith)

-- ---- what can't be reached stays

-- a is before b and done with only where b may come to run
runs_still : (plan : Outline) (s t : Snapshot) (a b : ℕ) → ((c : ℕ) → nat_eq a c ≡ false → t.state c ≡ s.state c) → AgreesOnAtom s t b → is_done (t.state a) && is_before plan a b ≡ false → can_run plan t b ≡ true → can_run plan s b ≡ true
unfolding can_run
runs_still plan s t a b states before far is =
    true_both (is_pending (s.state b) && is_unmarked s b) _
    (sym (ap (λ (x : AtomState). is_pending x && is_unmarked t b) before.state ∙ ap (λ (m : Option Resolve). is_pending (s.state b) && is_none m) before.mark)
    ∙ told)
    (all_of (count plan) (lets_run plan s b) (λ c below. by c below (nat_eq a c) refl))
  where
    told : is_pending (t.state b) && is_unmarked t b ≡ true
    told = and_first (is_pending (t.state b) && is_unmarked t b) _ is

    let_all : (c : ℕ) → c < count plan → lets_run plan t b c ≡ true
    let_all c below = all_at (count plan) (lets_run plan t b) c (and_second (is_pending (t.state b) && is_unmarked t b) _ is) below

    there : (c : ℕ) → a ≡ c → c < count plan → (x : Bool) → is_before plan c b ≡ x → (not x || is_done (s.state c)) ≡ true
    there c same below true before = absurd (clash (is_done (t.state a) && is_before plan a b)
        (true_both (is_done (t.state a)) _ (ap (λ (d : ℕ). is_done (t.state d)) same ∙ (sym (ap (λ (x : Bool). not x || is_done (t.state c)) before) ∙ let_all c below)) (ap (λ (d : ℕ). is_before plan d b) same ∙ before)) far)
    there c same below false before = refl

    by : (c : ℕ) → c < count plan → (x : Bool) → nat_eq a c ≡ x → lets_run plan s b c ≡ true
    by c below true same = there c (eqb-true a c same) below (is_before plan c b) refl
    by c below false apart = ap (λ (x : AtomState). not (is_before plan c b) || is_done x) (sym (states c apart)) ∙ let_all c below

reverts_still : (plan : Outline) (s t : Snapshot) (a b : ℕ) → ((c : ℕ) → nat_eq a c ≡ false → t.state c ≡ s.state c) → AgreesOnAtom s t b → is_settled (t.state a) && is_before plan b a ≡ false → can_revert plan t b ≡ true → can_revert plan s b ≡ true
unfolding can_revert
reverts_still plan s t a b states before far is =
    true_both (is_executed (s.state b) && not (is_unmarked s b)) _
    (sym (ap (λ (x : AtomState). is_executed x && not (is_unmarked t b)) before.state ∙ ap (λ (m : Option Resolve). is_executed (s.state b) && not (is_none m)) before.mark)
    ∙ told)
    (all_of (count plan) (lets_revert plan s b) (λ c below. by c below (nat_eq a c) refl))
  where
    told : is_executed (t.state b) && not (is_unmarked t b) ≡ true
    told = and_first (is_executed (t.state b) && not (is_unmarked t b)) _ is

    let_all : (c : ℕ) → c < count plan → lets_revert plan t b c ≡ true
    let_all c below = all_at (count plan) (lets_revert plan t b) c (and_second (is_executed (t.state b) && not (is_unmarked t b)) _ is) below

    there : (c : ℕ) → a ≡ c → c < count plan → (x : Bool) → is_before plan b c ≡ x → (not x || is_settled (s.state c)) ≡ true
    there c same below true before = absurd (clash (is_settled (t.state a) && is_before plan b a)
        (true_both (is_settled (t.state a)) _ (ap (λ (d : ℕ). is_settled (t.state d)) same ∙ (sym (ap (λ (x : Bool). not x || is_settled (t.state c)) before) ∙ let_all c below)) (ap (λ (d : ℕ). is_before plan b d) same ∙ before)) far)
    there c same below false before = refl

    by : (c : ℕ) → c < count plan → (x : Bool) → nat_eq a c ≡ x → lets_revert plan s b c ≡ true
    by c below true same = there c (eqb-true a c same) below (is_before plan b c) refl
    by c below false apart = ap (λ (x : AtomState). not (is_before plan b c) || is_settled x) (sym (states c apart)) ∙ let_all c below

-- an atom whose state, mark and hand stay is listed still, where it can do no more than before
stays_listed : (plan : Outline) (s t : Snapshot) (old new : Worklist) (b : ℕ) → AgreesOnAtom s t b
    → (can_run plan t b ≡ true → can_run plan s b ≡ true) → (can_revert plan t b ≡ true → can_revert plan s b ≡ true)
    → SameAt old new b → ListedAt plan s old b → ListedAt plan t new b
stays_listed plan s t old new b before runs reverts same listed = record {
  cases = λ out. by (sym same.forcing ∙ out);
  never = λ out is. listed.never (sym same.forcing ∙ out) (runs is);
  again = λ out. again ∙ listed.again (sym same.forcing ∙ out);
  ready = λ out. never_true (is_candidate plan t b) (λ is. clash (is_candidate plan s b) (candidate is) (listed.ready (sym same.ready ∙ out)));
  busy = λ out. before.hand ∙ listed.busy (sym same.busy ∙ out);
}
  where
    -- a test of the state stays
    state_stays : (test : AtomState → Bool) (x : Bool) → x && test (s.state b) ≡ false → x && test (t.state b) ≡ false
    state_stays test x is = ap (λ (y : AtomState). x && test y) before.state ∙ is

    again : is_asked_again plan t b ≡ is_asked_again plan s b
    again = ap (λ (y : AtomState). (is_retry plan b && is_success y) && is_marked_again (own_flow plan b) (t.mark b)) before.state
        ∙ ap (λ (m : Option Resolve). (is_retry plan b && is_success (s.state b)) && is_marked_again (own_flow plan b) m) before.mark

    by : has old.forcing b ≡ false → (k : Case) → applies plan t k b ≡ false
    by out case.Attempt = state_stays is_running (is_retry plan b) (listed.cases out case.Attempt)
    by out case.Again = state_stays is_retrying (is_retry plan b) (listed.cases out case.Again)
    by out case.Reverted = state_stays is_reverting (is_retry plan b) (listed.cases out case.Reverted)
    by out case.Resolution = ap (λ (y : AtomState). is_failure y && is_unmarked t b) before.state ∙ (ap (λ (m : Option Resolve). is_failure (s.state b) && is_none m) before.mark ∙ listed.cases out case.Resolution)
    by out case.Retrying = never_true (is_to_begin_again plan t b) (λ is.
        clash (is_asked_again plan t b)
        (true_both (is_retry plan b && is_success (t.state b)) _ (and_first (is_retry plan b && is_success (t.state b)) _ is) (and_first (is_marked_again (own_flow plan b) (t.mark b)) _ (and_second (is_retry plan b && is_success (t.state b)) _ is)))
        (again ∙ listed.again out))
    by out case.Revert = never_true (is_retry plan b && can_revert plan t b) (λ is.
        clash (is_retry plan b && can_revert plan s b) (true_both (is_retry plan b) _ (and_first (is_retry plan b) _ is) (reverts (and_second (is_retry plan b) _ is))) (listed.cases out case.Revert))
    by out case.Ignore = never_true (is_refused plan t b) (λ is.
        let none : refused plan t b ≡ None = listed.never out (runs (and_first (can_run plan t b) _ is)) t in
        clash (is_some (refused plan t b)) (and_second (can_run plan t b) _ is) (ap is_some none))
    by out case.Run = never_true (is_retry plan b && can_run plan t b) (λ is.
        clash (is_retry plan b && can_run plan s b) (true_both (is_retry plan b) _ (and_first (is_retry plan b) _ is) (runs (and_second (is_retry plan b) _ is))) (listed.cases out case.Run))

    interrupted : is_interrupted plan t b ≡ is_interrupted plan s b
    interrupted = ap (λ (y : AtomState). is_task plan b && (is_at_work y && is_none (t.hand b))) before.state ∙ ap (λ (h : Option ℕ). is_task plan b && (is_at_work (s.state b) && is_none h)) before.hand

    either : can_run plan t b || can_revert plan t b ≡ true → can_run plan s b || can_revert plan s b ≡ true
    either is = elim (or_either (can_run plan t b) _ is) [
      | inl run ↦ true_first (can_run plan s b) _ (runs run)
      | inr revert ↦ true_second (can_run plan s b) _ (reverts revert)
    ]

    candidate : is_candidate plan t b ≡ true → is_candidate plan s b ≡ true
    candidate is = elim (or_either (is_interrupted plan t b) _ is) [
      | inl work ↦ true_first (is_interrupted plan s b) _ (sym interrupted ∙ work)
      | inr able ↦ true_second (is_interrupted plan s b) _ (true_both (is_task plan b) _ (and_first (is_task plan b) _ able) (either (and_second (is_task plan b) _ able)))
    ]

-- ---- after the state or the hand of one atom changed

-- b is listed, since it was and can do no more, or since it was listed anew
around_at : (plan : Outline) (s t : Snapshot) (old new : Worklist) (a b : ℕ) → ((c : ℕ) → nat_eq a c ≡ false → t.state c ≡ s.state c) → AgreesOnAtom s t b → ListedAt plan s old b
    → SameAt old new b ⊎ ListedAt plan t new b
    → (is_done (t.state a) ≡ true → has_number (successors_of plan a) b ≡ true → can_run plan t b ≡ true → ListedAt plan t new b)
    → (is_settled (t.state a) ≡ true → has_number (predecessors_of plan a) b ≡ true → can_revert plan t b ≡ true → ListedAt plan t new b)
    → ListedAt plan t new b
around_at plan s t old new a b states before was (inr listed) runs reverts = listed
around_at plan s t old new a b states before was (inl same) runs reverts = by_run (is_done (t.state a) && (is_before plan a b && can_run plan t b)) refl
  where
    by_revert : (can_run plan t b ≡ true → can_run plan s b ≡ true) → (x : Bool) → is_settled (t.state a) && (is_before plan b a && can_revert plan t b) ≡ x → ListedAt plan t new b
    by_revert still true is =
        let rest = and_second (is_settled (t.state a)) _ is in
        reverts (and_first (is_settled (t.state a)) _ is) (predecessor_told plan b a ∙ and_first (is_before plan b a) _ rest) (and_second (is_before plan b a) _ rest)
    by_revert still false is = stays_listed plan s t old new b before still (λ able. reverts_still plan s t a b states before (far able) able) same was
      where
        far : can_revert plan t b ≡ true → is_settled (t.state a) && is_before plan b a ≡ false
        far able = never_true (is_settled (t.state a) && is_before plan b a) (λ near.
            clash (is_settled (t.state a) && (is_before plan b a && can_revert plan t b))
            (true_both (is_settled (t.state a)) _ (and_first (is_settled (t.state a)) _ near) (true_both (is_before plan b a) _ (and_second (is_settled (t.state a)) _ near) able)) is)

    by_run : (x : Bool) → is_done (t.state a) && (is_before plan a b && can_run plan t b) ≡ x → ListedAt plan t new b
    by_run true is =
        let rest = and_second (is_done (t.state a)) _ is in
        runs (and_first (is_done (t.state a)) _ is) (successor_told plan a b ∙ and_first (is_before plan a b) _ rest) (and_second (is_before plan a b) _ rest)
    by_run false is = by_revert (λ able. runs_still plan s t a b states before (far able) able) (is_settled (t.state a) && (is_before plan b a && can_revert plan t b)) refl
      where
        far : can_run plan t b ≡ true → is_done (t.state a) && is_before plan a b ≡ false
        far able = never_true (is_done (t.state a) && is_before plan a b) (λ near.
            clash (is_done (t.state a) && (is_before plan a b && can_run plan t b))
            (true_both (is_done (t.state a)) _ (and_first (is_done (t.state a)) _ near) (true_both (is_before plan a b) _ (and_second (is_done (t.state a)) _ near) able)) is)

-- nobody is REVERT_FAILURE then, where nobody was and the atom isn't
unhurt_still : (plan : Outline) (s t : Snapshot) (a : ℕ) (old new : Bool) → ((c : ℕ) → nat_eq a c ≡ false → t.state c ≡ s.state c) → new ≡ old || is_revert_failure (t.state a) → (old ≡ false → is_unhurt plan s ≡ true) → new ≡ false → is_unhurt plan t ≡ true
unhurt_still plan s t a old new states is was not_hurt = all_of (count plan) (is_unhurt_at t) (λ b below. by b below (nat_eq a b) refl)
  where
    none : old || is_revert_failure (t.state a) ≡ false
    none = sym is ∙ not_hurt

    by : (b : ℕ) → b < count plan → (x : Bool) → nat_eq a b ≡ x → is_unhurt_at t b ≡ true
    by b below true same = ap (λ (c : ℕ). not (is_revert_failure (t.state c))) (sym (eqb-true a b same)) ∙ ap not (neither_second old _ none)
    by b below false other = ap (λ (x : AtomState). not (is_revert_failure x)) (states b other) ∙ all_at (count plan) (is_unhurt_at s) b (was (neither_first old _ none)) below

-- the worklist after those that can run, those that can revert or run their flow again, and the atom itself were listed
pub around_listed : (plan : Outline) (s t : Snapshot) (a : ℕ) (flow : Option ℕ) (old start first second third : Worklist) (hurt : Bool) → IsMovedAt plan a flow s t → IsListed plan s old → IsListedWithin plan t flow old start
    → ((b : ℕ) → SameAt start first b ⊎ ListedAt plan t first b)
    → ((b : ℕ) → is_done (t.state a) ≡ true → has_number (successors_of plan a) b ≡ true → can_run plan t b ≡ true → ListedAt plan t first b)
    → ((b : ℕ) → SameAt first second b ⊎ ListedAt plan t second b)
    → ((b : ℕ) → is_settled (t.state a) ≡ true → has_number (predecessors_of plan a) b ≡ true → can_revert plan t b ≡ true → ListedAt plan t second b)
    → (a < count plan → ListedAt plan t third a) → ((b : ℕ) → nat_eq a b ≡ false → SameAt second third b)
    → HasRoom plan third → third.hurt ≡ start.hurt → hurt ≡ third.hurt || is_revert_failure (t.state a)
    → IsListed plan t (record { forcing = third.forcing; ready = third.ready; busy = third.busy; hurt = hurt })
around_listed plan s t a flow old start first second third hurt moved listed spanned moved1 runs moved2 reverts here others room kept is = record {
  room = record { forcing = room.forcing; ready = room.ready; busy = room.busy };
  each = λ b below. at b below (nat_eq a b) refl;
  unhurt = unhurt_still plan s t a old.hurt hurt moved.states (is ∙ ap (λ (x : Bool). x || is_revert_failure (t.state a)) (kept ∙ spanned.hurt)) listed.unhurt;
}
  where
    so : (b : ℕ) → ListedAt plan t third b → ListedAt plan t (record { forcing = third.forcing; ready = third.ready; busy = third.busy; hurt = hurt }) b
    so b told = record { cases = told.cases; never = told.never; again = told.again; ready = told.ready; busy = told.busy }

    at : (b : ℕ) → b < count plan → (x : Bool) → nat_eq a b ≡ x → ListedAt plan t (record { forcing = third.forcing; ready = third.ready; busy = third.busy; hurt = hurt }) b
    at b below true same = so b (subst (ListedAt plan t third) (eqb-true a b same) (here (subst (λ (n : ℕ). n < count plan) (sym (eqb-true a b same)) below)))
    at b below false other = so b (by (holds_with plan flow b) refl)
      where
        -- it stays as it is, or is listed, from the start on
        after : SameAt start third b ⊎ ListedAt plan t third b
        after = moved_on plan t start second third b (moved_on plan t start first second b (moved1 b) (moved2 b)) (inl (others b other))

        by : (x : Bool) → holds_with plan flow b ≡ x → ListedAt plan t third b
        by true held = listed_on plan t start third b (spanned.listed b held) after
        by false free = around_at plan s t old third a b moved.states (moved.others b other free) (listed.each b below)
            (moved_on plan t old start third b (spanned.moved b) after)
            (λ done inside able. alike plan t second third b (others b other) (listed_on plan t first second b (runs b done inside able) (moved2 b)))
            (λ settled inside able. alike plan t second third b (others b other) (reverts b settled inside able))

-- nothing is listed anew where no flow is named
pub within_none : (plan : Outline) (s : Snapshot) (list : Worklist) → HasRoom plan list → IsListedWithin plan s None list list
within_none plan s list room = record { room = room; hurt = refl; moved = λ a. inl (alike_now list a); listed = λ a never. absurd (cc) }

-- the worklist after the atoms of a flow were listed, whose marks alone changed
pub flow_listed : (plan : Outline) (s t : Snapshot) (g : ℕ) (old new : Worklist) → IsMovedAt plan (count plan) (Some g) s t → IsListed plan s old → IsListedWithin plan t (Some g) old new → IsListed plan t new
flow_listed plan s t g old new moved listed spanned = record {
  room = spanned.room;
  each = λ b below. by b below (holds plan g b) refl;
  unhurt = λ calm. all_of (count plan) (is_unhurt_at t) (λ b below.
      ap (λ (x : AtomState). not (is_revert_failure x)) (moved.states b (apart b below)) ∙ all_at (count plan) (is_unhurt_at s) b (listed.unhurt (sym spanned.hurt ∙ calm)) below);
}
  where
    apart : (b : ℕ) → b < count plan → nat_eq (count plan) b ≡ false
    apart b below = never_true (nat_eq (count plan) b) (λ is. let same = eqb-true (count plan) b is in absurd (omega (arith, same, below)))

    by : (b : ℕ) → b < count plan → (x : Bool) → holds plan g b ≡ x → ListedAt plan t new b
    by b below true held = spanned.listed b held
    by b below false free = around_at plan s t old new (count plan) b moved.states (moved.others b (apart b below) free) (listed.each b below) (spanned.moved b)
        (λ done inside able. absurd (never_after inside))
        (λ settled inside able. absurd (never_before inside))
      where
        never_after : has_number (successors_of plan (count plan)) b ≡ true → ⊥
        never_after inside = let out : count plan < count plan = before_below_first plan (count plan) b (sym (successor_told plan (count plan) b) ∙ inside) in omega (arith, out)

        never_before : has_number (predecessors_of plan (count plan)) b ≡ true → ⊥
        never_before inside = let out : count plan < count plan = before_below plan b (count plan) (sym (predecessor_told plan b (count plan)) ∙ inside) in omega (arith, out)
