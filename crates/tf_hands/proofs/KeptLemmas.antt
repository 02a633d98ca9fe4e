-- What may follow leaves a task in flight alone, or is its end by the hand that has it.
use Rattle.std.proofs.Common.{◌≡◌, ℕ, Bool, true, false, not, ◌&&◌, ◌||◌, Option, Some, None, refl, sym, ap, ◌∙◌, subst, ◌⊎◌, inl, inr, eqb-true}
use Rattle.std.specs.Prelude.{nat_eq, is_none, option_map}
use Rattle.tf_states.specs.declared.record.Entry.{Entry}
use Rattle.tf_states.specs.declared.record.Payload.{Payload}
use Rattle.tf_states.specs.declared.record.What.{What}
use Rattle.tf_states.specs.declared.record.What.TheVariants as what
use Rattle.tf_states.specs.declared.state.AtomState.{AtomState}
use Rattle.tf_states.specs.declared.state.AtomState.TheVariants as atom
use Rattle.tf_states.specs.declared.state.FlowState.{FlowState}
use Rattle.tf_numbers.specs.Numbers.{all_below, first_below, is_number}
use Rattle.tf_numbers.proofs.OptionLemmas.{if_some, is_this_number}
use Rattle.tf_numbers.proofs.TruthLemmas.{and_first, and_second, or_either, clash, not_true}
use Rattle.tf_model.specs.Plan.{Outline, count, is_task, is_retry}
use Rattle.tf_model.specs.History.{Snapshot, is_at_work, flow_runs, flow_suspends, flow_is_reverted}
use Rattle.tf_model.specs.Forced.{is_candidate, taken_up, choice, end_of}
use Rattle.tf_model.specs.Steps.{Rule, by_force, by_choice, by_end_of_task, by_turn, by_end, by_suspension, by_reset, is_free, ends_task, ends_as, turns_flow, reset, put_back_or_rest, is_settled_at, is_put_back_at}
use Rattle.tf_model.specs.Laws.{atom_may, is_allowed}
use Rattle.tf_model.proofs.StepLemmas.{step_allowed}
use Rattle.tf_hands.specs.Hands.{is_no_end, is_of_flow, takes_task}
use Rattle.tf_hands.proofs.EntryLemmas.{touches, flow_touches}
use Rattle.tf_hands.proofs.ForcedLemmas.{waits, spares, forced_spares, spares_taken, spares_end, forced_takes_none, forced_no_end, idle_taken}
use Rattle.tf_hands.proofs.TakenLemmas.{Taken, taken_of, working_candidate}

-- ---- what spares tasks is of no task at work

waiting_before : (b : Bool) (x to : AtomState) → waits to ≡ true → atom_may b x to ≡ true → is_at_work x ≡ false
waiting_before true atom.Running atom.Pending is may = absurd (cc)
waiting_before false atom.Running atom.Pending is may = absurd (cc)
waiting_before true atom.Running atom.Ignore is may = absurd (cc)
waiting_before false atom.Running atom.Ignore is may = absurd (cc)
waiting_before true atom.Reverting atom.Pending is may = absurd (cc)
waiting_before false atom.Reverting atom.Pending is may = absurd (cc)
waiting_before true atom.Reverting atom.Ignore is may = absurd (cc)
waiting_before false atom.Reverting atom.Ignore is may = absurd (cc)
waiting_before b atom.Running to is may = absurd (cc)
waiting_before b atom.Reverting to is may = absurd (cc)
waiting_before b x to is may = refl

waits_so : (plan : Outline) (a : ℕ) (state : AtomState) → is_task plan a ≡ true → waits state || not (is_task plan a) ≡ true → waits state ≡ true
waits_so plan a state task is = elim (or_either (waits state) (not (is_task plan a)) is) [
  | inl so ↦ so
  | inr isnt ↦ absurd (clash (is_task plan a) task (not_true (is_task plan a) isnt))
]

spared_here : (plan : Outline) (s : Snapshot) (a : ℕ) (state : AtomState) (held : Payload) → is_task plan a ≡ true → is_at_work (s.state a) ≡ true
    → spares plan (what.Atom a state held) ≡ true → is_allowed plan s (what.Atom a state held) ≡ true → ⊥
spared_here plan s a state held task works spared may =
    clash (is_at_work (s.state a)) works (waiting_before (is_retry plan a) (s.state a) state (waits_so plan a state task spared) may)

pub spared_untouched : (plan : Outline) (s : Snapshot) (w : What) (a : ℕ) → is_task plan a ≡ true → is_at_work (s.state a) ≡ true → spares plan w ≡ true → is_allowed plan s w ≡ true
    → touches w a ≡ false
spared_untouched plan s (what.Atom entered state held) a task works spared may = by (nat_eq entered a) refl
  where
    by : (b : Bool) → nat_eq entered a ≡ b → b ≡ false
    by false is = refl
    by true is =
        let same : entered ≡ a = eqb-true entered a is in
        absurd (spared_here plan s a state held task works
        (subst (λ (k : ℕ). spares plan (what.Atom k state held) ≡ true) same spared)
        (subst (λ (k : ℕ). is_allowed plan s (what.Atom k state held) ≡ true) same may))
spared_untouched plan s (what.Resolve named resolved) a task works spared may = refl
spared_untouched plan s (what.Flow state) a task works spared may = refl
spared_untouched plan s (what.Restart again) a task works spared may = absurd (cc)

-- ---- entries of the flow

turn_is : (from : FlowState) (w : What) → turns_flow from w ≡ true → is_of_flow w ≡ true
turn_is from (what.Flow state) is = refl
turn_is from (what.Atom a state held) is = absurd (cc)
turn_is from (what.Resolve named resolved) is = absurd (cc)
turn_is from (what.Restart again) is = absurd (cc)

end_is_of_flow : (o : Option FlowState) (w : What) → option_map what.Flow o ≡ Some w → is_of_flow w ≡ true
end_is_of_flow None w is = absurd (cc)
end_is_of_flow (Some state) w is = let same : what.Flow state ≡ w = cc in ap is_of_flow (sym same)

pub flow_takes : (plan : Outline) (w : What) → is_of_flow w ≡ true → takes_task plan w ≡ None
flow_takes plan (what.Flow state) is = refl
flow_takes plan (what.Atom a state held) is = absurd (cc)
flow_takes plan (what.Resolve named resolved) is = refl
flow_takes plan (what.Restart again) is = absurd (cc)

flow_ends : (plan : Outline) (w : What) → is_of_flow w ≡ true → is_no_end plan w ≡ true
flow_ends plan (what.Flow state) is = refl
flow_ends plan (what.Atom a state held) is = absurd (cc)
flow_ends plan (what.Resolve named resolved) is = refl
flow_ends plan (what.Restart again) is = refl

-- ---- what a reset records is of the flow, or spares tasks

put_back_or_flow : (plan : Outline) (o : Option ℕ) → (is_of_flow (put_back_or_rest o) ≡ true) ⊎ (spares plan (put_back_or_rest o) ≡ true)
put_back_or_flow plan None = inl refl
put_back_or_flow plan (Some a) = inr refl

reset_so : (plan : Outline) (s : Snapshot) (w : What) → reset plan s ≡ Some w → (is_of_flow w ≡ true) ⊎ (spares plan w ≡ true)
unfolding reset
reset_so plan s w is =
    let parts = if_some (flow_is_reverted s.flow && all_below (count plan) (is_settled_at s)) (put_back_or_rest (first_below (count plan) (is_put_back_at s))) w is in
    subst (λ (v : What). (is_of_flow v ≡ true) ⊎ (spares plan v ≡ true)) parts.1 (put_back_or_flow plan (first_below (count plan) (is_put_back_at s)))

-- ---- a task in flight

touched_taken : (x : AtomState) (n a : ℕ) → touches (taken_up x n) a ≡ nat_eq n a
touched_taken atom.Running n a = refl
touched_taken atom.Reverting n a = refl
touched_taken atom.Pending n a = refl
touched_taken x n a = refl

chosen_untouched : (plan : Outline) (s : Snapshot) (w : What) (a h : ℕ) → is_at_work (s.state a) ≡ true → s.hand a ≡ Some h → choice plan s ≡ Some w → touches w a ≡ false
chosen_untouched plan s w a h works has is =
    let taken = taken_of plan s w is in
    ap (λ (v : What). touches v a) (sym taken.how) ∙ (touched_taken (s.state taken.number) taken.number a ∙ apart taken (nat_eq taken.number a) refl)
  where
    apart : (taken : Taken plan s w) (b : Bool) → nat_eq taken.number a ≡ b → b ≡ false
    apart taken false is = refl
    apart taken true is =
        let candidate : is_candidate plan s a ≡ true = subst (λ (k : ℕ). is_candidate plan s k ≡ true) (eqb-true taken.number a is) taken.candidate in
        absurd (clash (is_none (s.hand a)) (working_candidate plan s a candidate works) (ap is_none has))

-- the entry isn't of a, or is an end by the hand that has a
abbrev pub IsApart : Snapshot → ℕ → What → ℕ → ℕ → Type 0
IsApart s hand w a h = (touches w a ≡ false) ⊎ ((hand ≡ h) × (ends_task s hand w ≡ true))

ends_here : (plan : Outline) (s : Snapshot) (hand : ℕ) (w : What) (a h : ℕ) → s.hand a ≡ Some h → ends_task s hand w ≡ true → IsApart s hand w a h
unfolding ends_task
ends_here plan s hand (what.Atom entered state held) a h has is = by (nat_eq entered a) refl
  where
    by : (b : Bool) → nat_eq entered a ≡ b → IsApart s hand (what.Atom entered state held) a h
    by false apart = inl apart
    by true same =
        let there : s.hand entered ≡ Some hand = is_this_number (s.hand entered) hand (and_first (is_number (s.hand entered) hand) _ (and_second (flow_runs s.flow || flow_suspends s.flow) _ is)) in
        let here : Some hand ≡ Some h = sym there ∙ (ap s.hand (eqb-true entered a same) ∙ has) in
        inr (cc, is)
ends_here plan s hand (what.Flow state) a h has is = inl refl
ends_here plan s hand (what.Resolve named resolved) a h has is = inl refl
ends_here plan s hand (what.Restart again) a h has is = absurd (cc)

pub rule_apart : (plan : Outline) (s : Snapshot) (e : Entry) (a h : ℕ) → is_task plan a ≡ true → is_at_work (s.state a) ≡ true → s.hand a ≡ Some h → Rule plan s e → IsApart s e.hand e.what a h
rule_apart plan s e a h task works has (by_force is) = inl (spared_untouched plan s e.what a task works (forced_spares plan s e.what is) (step_allowed plan s e (by_force is)))
rule_apart plan s e a h task works has (by_choice is free) = inl (chosen_untouched plan s e.what a h works has is)
rule_apart plan s e a h task works has (by_end_of_task is) = ends_here plan s e.hand e.what a h has is
rule_apart plan s e a h task works has (by_turn is) = inl (flow_touches e.what a (turn_is s.flow e.what is))
rule_apart plan s e a h task works has (by_end is still) = inl (flow_touches e.what a (end_is_of_flow (end_of plan s) e.what is))
rule_apart plan s e a h task works has (by_suspension is event) = inl (ap (λ (v : What). touches v a) event)
rule_apart plan s e a h task works has (by_reset is) = elim (reset_so plan s e.what is) [
  | inl turns ↦ inl (flow_touches e.what a turns)
  | inr spared ↦ inl (spared_untouched plan s e.what a task works spared (step_allowed plan s e (by_reset is)))
]

-- ---- what takes a task up

ended_idle : (from to : AtomState) (held : Payload) → ends_as from to held ≡ true → is_at_work to ≡ false
ended_idle atom.Running atom.Success held is = refl
ended_idle atom.Running atom.Failure held is = refl
ended_idle atom.Reverting atom.Reverted held is = refl
ended_idle atom.Reverting atom.RevertFailure held is = refl
ended_idle atom.Running to held is = absurd (cc)
ended_idle atom.Reverting to held is = absurd (cc)
ended_idle from to held is = absurd (cc)

pub ends_take : (plan : Outline) (s : Snapshot) (hand : ℕ) (w : What) → ends_task s hand w ≡ true → takes_task plan w ≡ None
unfolding ends_task
ends_take plan s hand (what.Atom a state held) is =
    idle_taken plan a state held (ended_idle (s.state a) state held (and_second (is_number (s.hand a) hand) _ (and_second (flow_runs s.flow || flow_suspends s.flow) _ is)))
ends_take plan s hand (what.Flow state) is = refl
ends_take plan s hand (what.Resolve named resolved) is = refl
ends_take plan s hand (what.Restart again) is = absurd (cc)

spared_takes : (plan : Outline) (w : What) → (is_of_flow w ≡ true) ⊎ (spares plan w ≡ true) → takes_task plan w ≡ None
spared_takes plan w is = elim is [ inl turns ↦ flow_takes plan w turns | inr spared ↦ spares_taken plan w spared ]

nothing : {A : Type 0} (o : Option ℕ) (a : ℕ) → o ≡ None → o ≡ Some a → A
nothing o a none some = let no : None ≡ Some a = sym none ∙ some in absurd (cc)

-- it is the first candidate that is taken up, by a hand that has nothing in flight
pub rule_takes : (plan : Outline) (s : Snapshot) (e : Entry) (a : ℕ) → Rule plan s e → takes_task plan e.what ≡ Some a → (choice plan s ≡ Some e.what) × (is_free plan s e.hand ≡ true)
rule_takes plan s e a (by_force is) takes = nothing (takes_task plan e.what) a (forced_takes_none plan s e.what is) takes
rule_takes plan s e a (by_choice is free) takes = (is, free)
rule_takes plan s e a (by_end_of_task is) takes = nothing (takes_task plan e.what) a (ends_take plan s e.hand e.what is) takes
rule_takes plan s e a (by_turn is) takes = nothing (takes_task plan e.what) a (flow_takes plan e.what (turn_is s.flow e.what is)) takes
rule_takes plan s e a (by_end is still) takes = nothing (takes_task plan e.what) a (flow_takes plan e.what (end_is_of_flow (end_of plan s) e.what is)) takes
rule_takes plan s e a (by_suspension is event) takes = nothing (takes_task plan e.what) a (ap (takes_task plan) event) takes
rule_takes plan s e a (by_reset is) takes = nothing (takes_task plan e.what) a (spared_takes plan e.what (reset_so plan s e.what is)) takes

-- ---- what ends a task

taken_no_end : (plan : Outline) (x : AtomState) (n : ℕ) → is_no_end plan (taken_up x n) ≡ true
taken_no_end plan atom.Running n = refl
taken_no_end plan atom.Reverting n = refl
taken_no_end plan atom.Pending n = refl
taken_no_end plan x n = refl

chosen_no_end : (plan : Outline) (s : Snapshot) (w : What) → choice plan s ≡ Some w → is_no_end plan w ≡ true
chosen_no_end plan s w is = let taken = taken_of plan s w is in ap (is_no_end plan) (sym taken.how) ∙ taken_no_end plan (s.state taken.number) taken.number

spared_no_end : (plan : Outline) (w : What) → (is_of_flow w ≡ true) ⊎ (spares plan w ≡ true) → is_no_end plan w ≡ true
spared_no_end plan w is = elim is [ inl turns ↦ flow_ends plan w turns | inr spared ↦ spares_end plan w spared ]

-- a task is ended by the hand that has it in flight
pub rule_ends : (plan : Outline) (s : Snapshot) (e : Entry) → Rule plan s e → is_no_end plan e.what ≡ false → ends_task s e.hand e.what ≡ true
rule_ends plan s e (by_force is) ends = absurd (clash (is_no_end plan e.what) (forced_no_end plan s e.what is) ends)
rule_ends plan s e (by_choice is free) ends = absurd (clash (is_no_end plan e.what) (chosen_no_end plan s e.what is) ends)
rule_ends plan s e (by_end_of_task is) ends = is
rule_ends plan s e (by_turn is) ends = absurd (clash (is_no_end plan e.what) (flow_ends plan e.what (turn_is s.flow e.what is)) ends)
rule_ends plan s e (by_end is still) ends = absurd (clash (is_no_end plan e.what) (flow_ends plan e.what (end_is_of_flow (end_of plan s) e.what is)) ends)
rule_ends plan s e (by_suspension is event) ends = absurd (clash (is_no_end plan e.what) (ap (is_no_end plan) event) ends)
rule_ends plan s e (by_reset is) ends = absurd (clash (is_no_end plan e.what) (spared_no_end plan e.what (reset_so plan s e.what is)) ends)
