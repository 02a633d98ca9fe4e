-- That an entry may not follow is found by computing: a test that every step passes.
use Rattle.std.proofs.Common.{◌≡◌, ℕ, List, [], ◌∷◌, Bool, true, false, ◌&&◌, ◌||◌, Option, Some, None, refl, sym, ap, ◌∙◌, eq-eqb, ◌==◌, zero, suc, get_or}
use Rattle.std.specs.Cmp.Lexicographic.{pointwise}
use Rattle.tf_values.specs.Value.{byte_form}
use Rattle.tf_states.specs.declared.record.Entry.{Entry}
use Rattle.tf_states.specs.declared.record.Failure.{Failure}
use Rattle.tf_states.specs.declared.record.Failure.TheVariants as failure
use Rattle.tf_states.specs.declared.record.Kind.{Kind}
use Rattle.tf_states.specs.declared.record.Kind.TheVariants as kind
use Rattle.tf_states.specs.declared.record.Payload.{Payload}
use Rattle.tf_states.specs.declared.record.Payload.TheVariants as payload
use Rattle.tf_states.specs.declared.record.What.{What}
use Rattle.tf_states.specs.declared.record.What.TheVariants as what
use Rattle.tf_states.specs.declared.state.FlowState.TheVariants as flow
use Rattle.tf_states.specs.Transitions.{atom_place, flow_place}
use Rattle.tf_model.specs.Plan.{Outline}
use Rattle.tf_model.specs.History.{Snapshot}
use Rattle.tf_model.specs.Forced.{forced, choice}
use Rattle.tf_model.specs.Steps.{Step, Rule, by_force, by_choice, by_end_of_task, by_turn, by_end, by_suspension, by_reset, is_hand, is_free, is_still, ends_task, turns_flow, end_entry, may_suspend, reset}
use Rattle.tf_numbers.proofs.TruthLemmas.{true_both}

-- numbers that tell failures, payloads and events apart
abbrev failure_place : Failure → ℕ
failure_place (failure.Raised text) = 0
failure_place (failure.WrongKind name) = 1
failure_place failure.Overflow = 2
failure_place failure.Range = 3
failure_place failure.TooLong = 4
failure_place (failure.Lookup name) = 5
failure_place (failure.Exit status) = 6
failure_place failure.Spawn = 7
failure_place failure.NotText = 8
failure_place failure.Lost = 9
failure_place (failure.BadReply bytes) = 10
failure_place failure.Exhausted = 11

abbrev payload_numbers : Payload → List ℕ
payload_numbers payload.Empty = 0 ∷ []
payload_numbers (payload.Value v) = 1 ∷ byte_form v
payload_numbers (payload.Fault fault) = 2 ∷ failure_place fault ∷ []

abbrev kind_place : Kind → ℕ
kind_place kind.Retry = 0
kind_place kind.Revert = 1
kind_place kind.RevertAll = 2

abbrev event_numbers : What → List ℕ
event_numbers (what.Atom a state held) = 0 ∷ a ∷ atom_place state ∷ payload_numbers held
event_numbers (what.Flow state) = 1 ∷ flow_place state ∷ []
event_numbers (what.Resolve g how) = 2 ∷ g ∷ kind_place how ∷ []
event_numbers (what.Restart a) = 3 ∷ a ∷ []

abbrev alike : Option What → What → Bool
alike None event = false
alike (Some other) event = pointwise ◌==◌ (event_numbers other) (event_numbers event)

-- the rules by which the entry seems to be allowed; failures of one kind are taken to be alike
abbrev paths : Outline → Snapshot → Entry → List Bool
paths plan s e =
    alike (forced plan s) e.what
    ∷ (alike (choice plan s) e.what && is_free plan s e.hand)
    ∷ ends_task s e.hand e.what
    ∷ turns_flow s.flow e.what
    ∷ (alike (end_entry plan s) e.what && is_still plan s)
    ∷ (may_suspend plan s && alike (Some (what.Flow flow.Suspended)) e.what)
    ∷ alike (reset plan s) e.what
    ∷ []

abbrev one_is_true : List Bool → Bool
one_is_true [] = false
one_is_true (b ∷ bs) = b || one_is_true bs

-- a test that every step passes
abbrev pub seems_step : Outline → Snapshot → Entry → Bool
seems_step plan s e = is_hand e.hand && one_is_true (paths plan s e)

same_numbers : (xs : List ℕ) → pointwise ◌==◌ xs xs ≡ true
same_numbers [] = refl
same_numbers (x ∷ xs) = rw (eq-eqb x x refl) (same_numbers xs)

is_alike : (found : Option What) (event : What) → found ≡ Some event → alike found event ≡ true
is_alike found event is = ap (λ (o : Option What). alike o event) is ∙ same_numbers (event_numbers event)

-- what a test of two parts, or of several ways, gives
-- one of them is true: that at place n
there : (n : ℕ) (bs : List Bool) → get_or bs n false ≡ true → one_is_true bs ≡ true
there n [] is = is
there zero (b ∷ bs) is = rw is
there (suc n) (true ∷ bs) is = refl
there (suc n) (false ∷ bs) is = there n bs is

passes : (plan : Outline) (s : Snapshot) (e : Entry) → Rule plan s e → one_is_true (paths plan s e) ≡ true
passes plan s e (by_force is) = there 0 (paths plan s e) (is_alike (forced plan s) e.what is)
passes plan s e (by_choice is free) = there 1 (paths plan s e) (true_both (alike (choice plan s) e.what) (is_free plan s e.hand) (is_alike (choice plan s) e.what is) free)
passes plan s e (by_end_of_task is) = there 2 (paths plan s e) is
passes plan s e (by_turn is) = there 3 (paths plan s e) is
passes plan s e (by_end is still) = there 4 (paths plan s e) (true_both (alike (end_entry plan s) e.what) (is_still plan s) (is_alike (end_entry plan s) e.what is) still)
passes plan s e (by_suspension is event) =
    there 5 (paths plan s e)
    (true_both (may_suspend plan s) (alike (Some (what.Flow flow.Suspended)) e.what) is (is_alike (Some (what.Flow flow.Suspended)) e.what (ap (λ (w : What). Some w) (sym event))))
passes plan s e (by_reset is) = there 6 (paths plan s e) (is_alike (reset plan s) e.what is)

-- what doesn't pass the test may not follow
pub refuse : {plan : Outline} {s : Snapshot} {e : Entry} → seems_step plan s e ≡ false → Step plan s e → ⊥
refuse {plan} {s} {e} fails step =
    let passed : seems_step plan s e ≡ true = true_both (is_hand e.hand) (one_is_true (paths plan s e)) step.hand (passes plan s e step.rule) in
    let no : false ≡ true = sym fails ∙ passed in
    cc
