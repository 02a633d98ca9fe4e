-- No order may have an outcome that a remote hand answers by itself: that the worker was lost, or replied badly.
use Rattle.std.proofs.Common.{◌≡◌, ℕ, ℤ, pos, negsuc, List, [], ◌∷◌, ◌++◌, Bool, true, false, Option, Some, None, refl, sym, ap, ◌∙◌}
use Rattle.std.specs.Prelude.{if◌then◌else◌, codes, slice_get}
use Rattle.std.specs.Fmt.{signed_decimal}
use Rattle.std.specs.List.{flat_map}
use Rattle.tf_values.specs.Scalars.{are_scalars}
use Rattle.tf_values.specs.Text.{is_text}
use Rattle.tf_values.specs.declared.elements.Scalar.{Scalar}
use Rattle.tf_values.specs.declared.value.Val.{Val}
use Rattle.tf_values.specs.declared.value.Val.TheVariants as value
use Rattle.tf_states.specs.declared.record.Failure.{Failure}
use Rattle.tf_states.specs.declared.record.Failure.TheVariants as failure
use Rattle.tf_flow.specs.declared.atoms.TaskKind.{TaskKind}
use Rattle.tf_flow.specs.declared.atoms.TaskKind.TheVariants as kind
use Rattle.tf_flow.specs.declared.atoms.Undo.{Undo}
use Rattle.tf_flow.specs.declared.atoms.Undo.TheVariants as undo
use Rattle.tf_flow.specs.Tree.{first_some}
use Rattle.tf_actions.specs.declared.orders.Given.{Given}
use Rattle.tf_actions.specs.declared.orders.Given.TheVariants as given
use Rattle.tf_actions.specs.declared.orders.Order.{Order}
use Rattle.tf_actions.specs.declared.orders.Pair.{Pair}
use Rattle.tf_actions.specs.declared.outcomes.Action.{Action}
use Rattle.tf_actions.specs.declared.outcomes.Action.TheVariants as action
use Rattle.tf_actions.specs.declared.outcomes.Outcome.{Outcome}
use Rattle.tf_actions.specs.declared.outcomes.Outcome.TheVariants as outcome
use Rattle.tf_actions.specs.Built.{joined, text_of, raised, total, not_summed, fits, number_of, wrong_kind_or, measured, item_or_range, item_at, picked_by, picked, spread_pair, listed, is_below, not_below, not_below_by, compared, demanded, built, plain}
use Rattle.tf_actions.specs.Gives.{is_far_failure, Gives, GivesFor, GivesExecuted, GivesReverted, GivesText, GivesNothing, IsProgramFailure}

-- of two outcomes
either : (b : Bool) (x y : Outcome) → is_far_failure x ≡ false → is_far_failure y ≡ false → is_far_failure (if b then x else y) ≡ false
either true x y first second = first
either false x y first second = second

text_near : (bytes : List ℕ) → is_far_failure (text_of bytes) ≡ false
text_near bytes = either (is_text bytes) (outcome.Gave (value.Text bytes)) (outcome.Failed failure.TooLong) refl refl

raised_near : (bytes : List ℕ) → is_far_failure (raised bytes) ≡ false
raised_near bytes = either (is_text bytes) (outcome.Failed (failure.Raised bytes)) (outcome.Failed failure.TooLong) refl refl

wrong_kind_near : (found : Option (List ℕ)) (x : Outcome) → is_far_failure x ≡ false → is_far_failure (wrong_kind_or found x) ≡ false
wrong_kind_near (Some name) x near = refl
wrong_kind_near None x near = near

number_near : (n : ℤ) → is_far_failure (number_of n) ≡ false
number_near n = either (fits n) (outcome.Gave (value.Int n)) (outcome.Failed failure.Overflow) refl refl

measured_near : (name : List ℕ) (v : Val) → is_far_failure (measured name v) ≡ false
measured_near name value.Nothing = refl
measured_near name (value.Truth truth) = refl
measured_near name (value.Int n) = refl
measured_near name (value.Text text) = refl
measured_near name (value.List scalars) = refl

range_near : (found : Option Scalar) → is_far_failure (item_or_range found) ≡ false
range_near (Some item) = refl
range_near None = refl

item_near : (scalars : List Scalar) (place : ℤ) → is_far_failure (item_at scalars place) ≡ false
item_near scalars (pos k) = range_near (slice_get scalars k)
item_near scalars (negsuc k) = refl

picked_by_near : (scalars : List Scalar) (second : Pair) (v : Val) → is_far_failure (picked_by scalars second v) ≡ false
picked_by_near scalars second value.Nothing = refl
picked_by_near scalars second (value.Truth truth) = refl
picked_by_near scalars second (value.Int n) = item_near scalars n
picked_by_near scalars second (value.Text text) = refl
picked_by_near scalars second (value.List others) = refl

picked_near : (first : Pair) (v : Val) (second : Pair) → is_far_failure (picked first v second) ≡ false
picked_near first value.Nothing second = refl
picked_near first (value.Truth truth) second = refl
picked_near first (value.Int n) second = refl
picked_near first (value.Text text) second = refl
picked_near first (value.List scalars) second = picked_by_near scalars second second.value

listed_near : (pairs : List Pair) → is_far_failure (listed pairs) ≡ false
listed_near pairs = either (are_scalars (flat_map spread_pair pairs)) (outcome.Gave (value.List (flat_map spread_pair pairs))) (outcome.Failed failure.TooLong) refl refl

not_below_near : (a b : ℤ) → is_far_failure (not_below a b) ≡ false
not_below_near a b = either (is_below a b) (outcome.Failed (failure.Raised (signed_decimal a ++ codes " below " ++ signed_decimal b))) (outcome.Gave (value.Int a)) refl refl

not_below_by_near : (a : ℤ) (second : Pair) (v : Val) → is_far_failure (not_below_by a second v) ≡ false
not_below_by_near a second value.Nothing = refl
not_below_by_near a second (value.Truth truth) = refl
not_below_by_near a second (value.Int n) = not_below_near a n
not_below_by_near a second (value.Text text) = refl
not_below_by_near a second (value.List scalars) = refl

compared_near : (first : Pair) (v : Val) (second : Pair) → is_far_failure (compared first v second) ≡ false
compared_near first value.Nothing second = refl
compared_near first (value.Truth truth) second = refl
compared_near first (value.Int n) second = not_below_by_near n second second.value
compared_near first (value.Text text) second = refl
compared_near first (value.List scalars) second = refl

demanded_near : (v : Val) → is_far_failure (demanded v) ≡ false
demanded_near value.Nothing = raised_near (plain value.Nothing ++ codes " is not true")
demanded_near (value.Truth true) = refl
demanded_near (value.Truth false) = raised_near (plain (value.Truth false) ++ codes " is not true")
demanded_near (value.Int n) = raised_near (plain (value.Int n) ++ codes " is not true")
demanded_near (value.Text text) = raised_near (plain (value.Text text) ++ codes " is not true")
demanded_near (value.List scalars) = raised_near (plain (value.List scalars) ++ codes " is not true")

-- what a built-in task gives
far_in : Option Outcome → Bool
far_in None = false
far_in (Some x) = is_far_failure x

built_near : (made : TaskKind) (pairs : List Pair) → far_in (built made pairs) ≡ false
unfolding far_in
built_near kind.Echo [] = refl
built_near kind.Echo (first ∷ others) = refl
built_near kind.Concat pairs = text_near (joined pairs)
built_near kind.Sum pairs = wrong_kind_near (first_some not_summed pairs) (number_of (total pairs)) (number_near (total pairs))
built_near kind.Length [] = refl
built_near kind.Length (first ∷ others) = measured_near first.name first.value
built_near kind.Pick [] = refl
built_near kind.Pick (first ∷ []) = refl
built_near kind.Pick (first ∷ second ∷ others) = picked_near first first.value second
built_near kind.List pairs = listed_near pairs
built_near kind.Fail pairs = raised_near (joined pairs)
built_near kind.FailBelow [] = refl
built_near kind.FailBelow (first ∷ []) = refl
built_near kind.FailBelow (first ∷ second ∷ others) = compared_near first first.value second
built_near kind.FailUnless [] = refl
built_near kind.FailUnless (first ∷ others) = demanded_near first.value
built_near kind.Command pairs = refl

built_is_near : (made : TaskKind) (pairs : List Pair) (x : Outcome) → built made pairs ≡ Some x → is_far_failure x ≡ false
unfolding far_in
built_is_near made pairs x is = ap far_in (sym is) ∙ built_near made pairs

-- what a program gives
program_near : (fault : Failure) → IsProgramFailure fault → is_far_failure (outcome.Failed fault) ≡ false
program_near (failure.Raised text) is = absurd is
program_near (failure.WrongKind name) is = absurd is
program_near failure.Overflow is = absurd is
program_near failure.Range is = absurd is
program_near failure.TooLong is = refl
program_near (failure.Lookup name) is = absurd is
program_near (failure.Exit status) is = refl
program_near failure.Spawn is = refl
program_near failure.NotText is = refl
program_near failure.Lost is = absurd is
program_near (failure.BadReply count) is = absurd is
program_near failure.Exhausted is = absurd is

text_is_near : (x : Outcome) → GivesText x → is_far_failure x ≡ false
text_is_near (outcome.Gave v) gives = refl
text_is_near (outcome.Failed fault) gives = program_near fault gives

nothing_is_near : (x : Outcome) → GivesNothing x → is_far_failure x ≡ false
nothing_is_near (outcome.Gave v) gives = refl
nothing_is_near (outcome.Failed fault) gives = program_near fault gives

executed_near : (made : TaskKind) (pairs : List Pair) (x : Outcome) → GivesExecuted made pairs x → is_far_failure x ≡ false
executed_near kind.Command pairs x gives = text_is_near x gives
executed_near kind.Echo pairs x gives = built_is_near kind.Echo pairs x gives
executed_near kind.Concat pairs x gives = built_is_near kind.Concat pairs x gives
executed_near kind.Sum pairs x gives = built_is_near kind.Sum pairs x gives
executed_near kind.Length pairs x gives = built_is_near kind.Length pairs x gives
executed_near kind.Pick pairs x gives = built_is_near kind.Pick pairs x gives
executed_near kind.List pairs x gives = built_is_near kind.List pairs x gives
executed_near kind.Fail pairs x gives = built_is_near kind.Fail pairs x gives
executed_near kind.FailBelow pairs x gives = built_is_near kind.FailBelow pairs x gives
executed_near kind.FailUnless pairs x gives = built_is_near kind.FailUnless pairs x gives

reverted_near : (un : Undo) (x : Outcome) → GivesReverted un x → is_far_failure x ≡ false
reverted_near undo.Pass x gives = ap is_far_failure gives
reverted_near undo.Fail x gives = ap is_far_failure gives
reverted_near (undo.Run words) x gives = nothing_is_near x gives

near_of_parts : (how : Action) (order : Order) (g : Given) (x : Outcome) → GivesFor how order g x → is_far_failure x ≡ false
near_of_parts action.Execute order (given.Found pairs) x gives = executed_near order.kind pairs x gives
near_of_parts action.Execute order (given.Missing symbol) x gives = ap is_far_failure gives
near_of_parts action.Revert order (given.Found pairs) x gives = reverted_near order.undo x gives
near_of_parts action.Revert order (given.Missing symbol) x gives = ap is_far_failure gives

pub near_is_not_far : (order : Order) (x : Outcome) → Gives order x → is_far_failure x ≡ false
near_is_not_far order x gives = near_of_parts order.action order order.given x gives
