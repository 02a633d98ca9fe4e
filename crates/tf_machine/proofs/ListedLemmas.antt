-- A worklist made atom by atom, over intervals, spans and all atoms, and what it tells.
use Rattle.std.proofs.Common.{◌≡◌, ℕ, ◌+◌, ◌-◌, ◌<◌, ◌≤◌, List, [], drop, get_or, length, Bool, true, false, not, ◌||◌, ◌≢◌, Option, None, ◌⊎◌, inl, inr, refl, sym, ap, ◌∙◌, subst, arith, eqb-true, eq-eqb}
use Rattle.std.specs.Prelude.{nat_eq, is_none}
use Rattle.tf_numbers.specs.Numbers.{has_number, all_below, first_below, is_number}
use Rattle.tf_numbers.proofs.BelowLemmas.{all_of, first_none, none_at}
use Rattle.tf_numbers.proofs.ListLemmas.{drop_whole}
use Rattle.tf_numbers.proofs.TruthLemmas.{clash, never_true, true_first, true_second}
use Rattle.tf_links.specs.Bits.{has, room, words_for}
use Rattle.tf_links.proofs.BitLemmas.{past_none}
use Rattle.std.proofs.lemmas.Bool.{cases_lt}
use Rattle.tf_model.specs.Plan.{Outline, count}
use Rattle.tf_model.specs.History.{Snapshot}
use Rattle.tf_model.specs.Forced.{is_unhurt}
use Rattle.tf_model.specs.Steps.{is_not_with, is_idle}
use Rattle.tf_hands.specs.Hands.{is_with}
use Rattle.tf_machine.specs.declared.worklists.Worklist.{Worklist}
use Rattle.tf_machine.specs.declared.compiled.Span.{Span}
use Rattle.tf_machine.specs.Compiled.{IsSpanAround}
use Rattle.tf_machine.specs.declared.worklists.Reach.{Reach}
use Rattle.tf_machine.specs.declared.worklists.Reach.TheVariants as reach
use Rattle.tf_machine.specs.Worklists.{ListedAt, HasRoom, IsListed, SameAt, IsListedWithin, AreRelisted, is_reached, counts_in}
use Rattle.tf_machine.specs.declared.counters.Counters.{Counters}
use Rattle.tf_machine.specs.Counts.{waiting_of, holding_of, AreCounted}
use Rattle.tf_machine.specs.Intervals.{IsZeroless}
use Rattle.tf_machine.proofs.CountLemmas.{none_waiting, none_holding}
use Rattle.tf_machine.proofs.ReadinessLemmas.{never_runs, never_reverts}
use Rattle.tf_machine.proofs.IntervalLemmas.{IsPassed, left_or_there}
use Rattle.std.proofs.lemmas.Option.{get_or_from_slice_get}
use Rattle.tf_machine.proofs.WorkLemmas.{alike, alike_now, moved_on, listed_on, moved_but}

-- ---- some atoms, one after another

-- so far: each is as it was or listed; and those reached among the first are listed
pub record AreSoFar (plan : Outline) (s : Snapshot) (how : Reach) (atoms left : List ℕ) (old now : Worklist) : Type 0 where
  pub room : HasRoom plan now
  pub hurt : now.hurt ≡ old.hurt
  pub moved : (a : ℕ) → SameAt old now a ⊎ ListedAt plan s now a
  pub reached : (a : ℕ) → has_number atoms a ≡ true → is_reached plan s how a ≡ true → (has_number left a ≡ true) ⊎ ListedAt plan s now a

pub none_so_far : (plan : Outline) (s : Snapshot) (how : Reach) (atoms : List ℕ) (old : Worklist) → HasRoom plan old → AreSoFar plan s how atoms atoms old old
none_so_far plan s how atoms old room = record { room = room; hurt = refl; moved = λ a. inl (alike_now old a); reached = λ a inside able. inl inside }

-- an interval more is as it was or listed, and listed where it is reached
pub interval_so_far : (plan : Outline) (s : Snapshot) (how : Reach) (atoms : List ℕ) (k e x : ℕ) (old now new : Worklist) → IsPassed atoms k e x
    → AreSoFar plan s how atoms (drop k atoms) old now → AreRelisted plan s how x (x + (e - k)) now new → AreSoFar plan s how atoms (drop e atoms) old new
interval_so_far plan s how atoms k e x old now new passed far are = record {
  room = are.room;
  hurt = are.hurt ∙ far.hurt;
  moved = λ a. moved_on plan s old now new a (far.moved a) (are.moved a);
  reached = λ a inside able. elim (far.reached a inside able) [
    | inl left ↦ elim (left_or_there atoms k e x a passed left) [
      | inl here ↦ inr (are.reached a here.0 here.1 able)
      | inr behind ↦ inl behind
    ]
    | inr listed ↦ inr (listed_on plan s now new a listed (are.moved a))
  ];
}

pub all_so_far : (plan : Outline) (s : Snapshot) (how : Reach) (atoms : List ℕ) (k : ℕ) (old now : Worklist) → length atoms ≤ k → AreSoFar plan s how atoms (drop k atoms) old now
    → (a : ℕ) → has_number atoms a ≡ true → is_reached plan s how a ≡ true → ListedAt plan s now a
all_so_far plan s how atoms k old now past far a inside able = elim (far.reached a inside able) [
  | inl left ↦ let never : has_number [] a ≡ true = ap (λ (xs : List ℕ). has_number xs a) (sym (drop_whole atoms k past)) ∙ left in absurd (cc)
  | inr listed ↦ listed
]

-- ---- atoms side by side, of which those are passed by that wait or are held

-- where its counter isn't zero, an atom isn't reached
unreached : (plan : Outline) (s : Snapshot) (how : Reach) (counters : Counters) (a : ℕ) → AreCounted plan s counters → a < count plan → get_or (counts_in how counters) a 0 ≢ 0 → is_reached plan s how a ≡ false
unreached plan s reach.Run counters a are below other =
    never_runs plan s a (nat_eq (waiting_of plan s a) 0) (none_waiting plan s a (waiting_of plan s a) refl)
    (ap not (never_true (nat_eq (waiting_of plan s a) 0) (λ is. other (get_or_from_slice_get counters.waiting.items a (waiting_of plan s a) 0 (are.waiting.each a below) ∙ eqb-true (waiting_of plan s a) 0 is))))
unreached plan s reach.Revert counters a are below other =
    never_reverts plan s a (nat_eq (holding_of plan s a) 0) (none_holding plan s a (holding_of plan s a) refl)
    (ap not (never_true (nat_eq (holding_of plan s a) 0) (λ is. other (get_or_from_slice_get counters.holding.items a (holding_of plan s a) 0 (are.holding.each a below) ∙ eqb-true (holding_of plan s a) 0 is))))

pub as_many_counts : (plan : Outline) (s : Snapshot) (how : Reach) (counters : Counters) → AreCounted plan s counters → length (counts_in how counters) ≡ count plan
as_many_counts plan s reach.Run counters are = are.waiting.as_many
as_many_counts plan s reach.Revert counters are = are.holding.as_many

pub none_reached : (plan : Outline) (s : Snapshot) (how : Reach) (counters : Counters) (counts : List ℕ) (first at : ℕ) (list : Worklist) → AreCounted plan s counters → counts ≡ counts_in how counters → HasRoom plan list → at ≤ count plan
    → IsZeroless counts first at
    → AreRelisted plan s how first at list list
none_reached plan s how counters counts first at list are same room within none = record {
  room = room;
  hurt = refl;
  moved = λ a. inl (alike_now list a);
  reached = λ a low high able. absurd (clash (is_reached plan s how a) able (unreached plan s how counters a are (omega (arith, high, within)) (subst (λ (xs : List ℕ). get_or xs a 0 ≢ 0) same (none a 0 low high))));
}

-- one more is listed, and those behind it that aren't reached are passed by
pub next_reached : (plan : Outline) (s : Snapshot) (how : Reach) (counters : Counters) (counts : List ℕ) (first at next : ℕ) (old now new : Worklist) → AreCounted plan s counters → counts ≡ counts_in how counters → next ≤ count plan → AreRelisted plan s how first at old now
    → HasRoom plan new → new.hurt ≡ now.hurt → ListedAt plan s new at → ((b : ℕ) → nat_eq at b ≡ false → SameAt now new b) → IsZeroless counts (at + 1) next → AreRelisted plan s how first next old new
next_reached plan s how counters counts first at next old now new are same within before room kept here others none = record {
  room = room;
  hurt = kept ∙ before.hurt;
  moved = λ a. moved_on plan s old now new a (before.moved a) (moved_but plan s now new at a others here);
  reached = λ a low high able. by a low high able (cases_lt a at) (nat_eq at a) refl;
}
  where
    by : (a : ℕ) → first ≤ a → a < next → is_reached plan s how a ≡ true → (a < at) ⊎ (at ≤ a) → (x : Bool) → nat_eq at a ≡ x → ListedAt plan s new a
    by a low high able (inl less) x other = listed_on plan s now new a (before.reached a low less able) (moved_but plan s now new at a others here)
    by a low high able (inr from) true equal = subst (ListedAt plan s new) (eqb-true at a equal) here
    by a low high able (inr from) false other =
        let differ : at ≡ a → ⊥ = λ is. clash (nat_eq at a) (eq-eqb at a is) other in
        absurd (clash (is_reached plan s how a) able (unreached plan s how counters a are (omega (arith, high, within)) (subst (λ (xs : List ℕ). get_or xs a 0 ≢ 0) same (none a 0 (omega (arith, from, differ)) high))))

-- ---- all atoms, one after another

pub record AllListed (plan : Outline) (s : Snapshot) (n : ℕ) (list : Worklist) : Type 0 where
  pub room : HasRoom plan list
  pub each : (a : ℕ) → a < n → ListedAt plan s list a

pub none_listed : (plan : Outline) (s : Snapshot) (list : Worklist) → HasRoom plan list → AllListed plan s 0 list
none_listed plan s list room = record { room = room; each = λ a below. absurd (omega (arith, below)) }

pub one_listed : (plan : Outline) (s : Snapshot) (n : ℕ) (old new : Worklist) → AllListed plan s n old → HasRoom plan new → ListedAt plan s new n → ((b : ℕ) → nat_eq n b ≡ false → SameAt old new b) → AllListed plan s (n + 1) new
one_listed plan s n old new all room here others = record { room = room; each = λ a below. by a below (nat_eq n a) refl }
  where
    by : (a : ℕ) → a < n + 1 → (x : Bool) → nat_eq n a ≡ x → ListedAt plan s new a
    by a below true same = subst (ListedAt plan s new) (eqb-true n a same) here
    by a below false other = alike plan s old new a (others a other) (all.each a (lower a below (λ same. clash (nat_eq n a) (eq-eqb n a (sym same)) other)))
      where
        lower : (a : ℕ) → a < n + 1 → (a ≡ n → ⊥) → a < n
        lower a below apart = elim (cases_lt a n) [ inl less ↦ less | inr from ↦ absurd (apart (omega (arith, below, from))) ]

-- ---- the atoms of a span, one after another

-- so far: each is as it was or listed, and those of the span before n are listed
pub record IsListedBelow (plan : Outline) (s : Snapshot) (first n : ℕ) (old new : Worklist) : Type 0 where
  pub room : HasRoom plan new
  pub hurt : new.hurt ≡ old.hurt
  pub moved : (a : ℕ) → SameAt old new a ⊎ ListedAt plan s new a
  pub listed : (a : ℕ) → first ≤ a → a < n → ListedAt plan s new a

pub none_of_span : (plan : Outline) (s : Snapshot) (first : ℕ) (list : Worklist) → HasRoom plan list → IsListedBelow plan s first first list list
none_of_span plan s first list room = record { room = room; hurt = refl; moved = λ a. inl (alike_now list a); listed = λ a low high. absurd (omega (arith, low, high)) }

pub one_of_span : (plan : Outline) (s : Snapshot) (first n : ℕ) (old now new : Worklist) → IsListedBelow plan s first n old now → HasRoom plan new → new.hurt ≡ now.hurt → ListedAt plan s new n → ((b : ℕ) → nat_eq n b ≡ false → SameAt now new b)
    → IsListedBelow plan s first (n + 1) old new
one_of_span plan s first n old now new far room kept here others = record {
  room = room;
  hurt = kept ∙ far.hurt;
  moved = λ a. moved_on plan s old now new a (far.moved a) (moved_but plan s now new n a others here);
  listed = λ a low high. by a low high (nat_eq n a) refl;
}
  where
    by : (a : ℕ) → first ≤ a → a < n + 1 → (x : Bool) → nat_eq n a ≡ x → ListedAt plan s new a
    by a low high true same = subst (ListedAt plan s new) (eqb-true n a same) here
    by a low high false other =
        let differ : n ≡ a → ⊥ = λ is. clash (nat_eq n a) (eq-eqb n a is) other in
        alike plan s now new a (others a other) (far.listed a low (omega (arith, high, differ)))

-- those of a flow are listed where those of its span are
pub all_of_span : (plan : Outline) (s : Snapshot) (flow : Option ℕ) (span : Span) (n : ℕ) (old new : Worklist) → span.end ≤ n → IsSpanAround plan flow span → IsListedBelow plan s span.first n old new → IsListedWithin plan s flow old new
all_of_span plan s flow span n old new end around far = record {
  room = far.room;
  hurt = far.hurt;
  moved = far.moved;
  listed = λ a held. let inside = around.each a held in far.listed a inside.0 (let high = inside.1 in omega (arith, high, end));
}

-- every atom is listed, and whether one is REVERT_FAILURE is told
pub whole_listed : (plan : Outline) (s : Snapshot) (n : ℕ) (list : Worklist) (calm : Bool) → count plan ≤ n → AllListed plan s n list → calm ≡ is_unhurt plan s
    → IsListed plan s (record { forcing = list.forcing; ready = list.ready; busy = list.busy; hurt = not calm })
whole_listed plan s n list calm most all is = record {
  room = record { forcing = all.room.forcing; ready = all.room.ready; busy = all.room.busy };
  each = λ a below.
      let told = all.each a (omega (arith, most, below)) in
      record { cases = told.cases; never = told.never; again = told.again; ready = told.ready; busy = told.busy };
  unhurt = λ not_hurt. sym is ∙ by calm not_hurt;
}
  where
    by : (b : Bool) → not b ≡ false → b ≡ true
    by true never = refl
    by false never = absurd (cc)

-- ---- who has what in flight

-- none of those that aren't listed is with the hand, or in flight
pub none_with : (plan : Outline) (s : Snapshot) (list : Worklist) (n hand : ℕ) → IsListed plan s list → n ≤ count plan → ((a : ℕ) → a < n → has list.busy a ≡ false) → first_below n (is_with s hand) ≡ None
none_with plan s list n hand listed within before =
    first_none n (is_with s hand) (λ a below. ap (λ (h : Option ℕ). is_number h hand) ((listed.each a (omega (arith, within, below))).busy (before a below)))

pub none_is_with : (plan : Outline) (s : Snapshot) (list : Worklist) (n hand : ℕ) → IsListed plan s list → n ≤ count plan → ((a : ℕ) → a < n → has list.busy a ≡ false) → all_below n (is_not_with s hand) ≡ true
none_is_with plan s list n hand listed within before =
    all_of n (is_not_with s hand) (λ a below. ap (λ (h : Option ℕ). not (is_number h hand)) ((listed.each a (omega (arith, within, below))).busy (before a below)))

pub none_in_flight : (plan : Outline) (s : Snapshot) (list : Worklist) (n : ℕ) → IsListed plan s list → n ≤ count plan → ((a : ℕ) → a < n → has list.busy a ≡ false) → all_below n (is_idle s) ≡ true
none_in_flight plan s list n listed within before =
    all_of n (is_idle s) (λ a below. ap is_none ((listed.each a (omega (arith, within, below))).busy (before a below)))

-- a set with no number has none, past its room too
pub nothing_in : (set : List ℕ) (a : ℕ) → first_below (room set) (has set) ≡ None → has set a ≡ false
nothing_in set a none = elim (cases_lt a (room set)) [
  | inl below ↦ none_at (room set) (has set) a none below
  | inr past ↦ past_none set a (omega (arith, past))
]

-- ---- before a run

-- one number more
pub put_below : (n : ℕ) (old new : List ℕ) → ((a : ℕ) → a < n → has old a ≡ true) → ((k : ℕ) → has new k ≡ (nat_eq n k || has old k)) → (a : ℕ) → a < n + 1 → has new a ≡ true
put_below n old new before put a below = put a ∙ by (nat_eq n a) refl
  where
    by : (x : Bool) → nat_eq n a ≡ x → nat_eq n a || has old a ≡ true
    by true same = true_first (nat_eq n a) _ same
    by false other = true_second (nat_eq n a) _ (before a (let apart : n ≡ a → ⊥ = (λ same. clash (nat_eq n a) (eq-eqb n a same) other) in lower apart))
      where
        lower : (n ≡ a → ⊥) → a < n
        lower apart = elim (cases_lt a n) [ inl less ↦ less | inr from ↦ absurd (apart (omega (arith, below, from))) ]

-- where every atom is in each set, nothing is said of any
pub all_put : (plan : Outline) (s : Snapshot) (n : ℕ) (forcing ready busy : List ℕ) → count plan ≤ n → length forcing ≡ words_for (count plan) → length ready ≡ words_for (count plan) → length busy ≡ words_for (count plan)
    → ((a : ℕ) → a < n → has forcing a ≡ true) → ((a : ℕ) → a < n → has ready a ≡ true) → ((a : ℕ) → a < n → has busy a ≡ true)
    → IsListed plan s (record { forcing = forcing; ready = ready; busy = busy; hurt = true })
all_put plan s n forcing ready busy most room1 room2 room3 all1 all2 all3 = record {
  room = record { forcing = room1; ready = room2; busy = room3 };
  each = λ a below. record {
    cases = λ out. absurd (clash (has forcing a) (all1 a (omega (arith, most, below))) out);
    never = λ out. absurd (clash (has forcing a) (all1 a (omega (arith, most, below))) out);
    again = λ out. absurd (clash (has forcing a) (all1 a (omega (arith, most, below))) out);
    ready = λ out. absurd (clash (has ready a) (all2 a (omega (arith, most, below))) out);
    busy = λ out. absurd (clash (has busy a) (all3 a (omega (arith, most, below))) out);
  };
  unhurt = λ never. absurd (cc);
}
