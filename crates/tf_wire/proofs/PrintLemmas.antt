-- Messages have no float.
use Rattle.std.proofs.Common.{◌≡◌, ℕ, ℤ, pos, negsuc, List, [], ◌∷◌, Bool, false, ◌||◌, map, refl}
use Rattle.serde_json.specs.Data.{string, number}
use Rattle.serde_json.specs.Find.{of_integer}
use Rattle.serde_json.specs.View.{items_of}
use Rattle.serde_json.specs.Written.{has_float, items_have_float}
use Rattle.tf_values.specs.declared.elements.Scalar.{Scalar}
use Rattle.tf_values.specs.declared.elements.Scalar.TheVariants as scalar
use Rattle.tf_values.specs.declared.value.Val.{Val}
use Rattle.tf_values.specs.declared.value.Val.TheVariants as value
use Rattle.tf_states.specs.declared.record.Failure.{Failure}
use Rattle.tf_states.specs.declared.record.Failure.TheVariants as failure
use Rattle.tf_actions.specs.declared.orders.Pair.{Pair}
use Rattle.tf_wire.specs.Grammar.{scalar_data, value_data, pair_data, failure_data, request_data, response_data}
use Rattle.tf_wire.specs.declared.messages.Request.{Request}
use Rattle.tf_wire.specs.declared.messages.Response.{Response}
use Rattle.tf_wire.specs.declared.messages.Response.TheVariants as response

neither : (a b : Bool) → a ≡ false → b ≡ false → (a || b) ≡ false
neither a b is other = rw (is, other) refl

integer : (n : ℤ) → has_float (number (of_integer n)) ≡ false
integer (pos n) = refl
integer (negsuc n) = refl

a_scalar : (s : Scalar) → has_float (scalar_data s) ≡ false
a_scalar scalar.Nothing = refl
a_scalar (scalar.Truth truth) = refl
a_scalar (scalar.Int n) = integer n
a_scalar (scalar.Text text) = refl

scalars : (all : List Scalar) → items_have_float (items_of (map scalar_data all)) ≡ false
scalars [] = refl
scalars (first ∷ others) = neither (has_float (scalar_data first)) (items_have_float (items_of (map scalar_data others))) (a_scalar first) (scalars others)

a_value : (v : Val) → has_float (value_data v) ≡ false
a_value value.Nothing = refl
a_value (value.Truth truth) = refl
a_value (value.Int n) = integer n
a_value (value.Text text) = refl
a_value (value.List all) = scalars all

a_pair : (pair : Pair) → has_float (pair_data pair) ≡ false
a_pair pair = neither (has_float (value_data pair.value)) false (a_value pair.value) refl

pairs : (all : List Pair) → items_have_float (items_of (map pair_data all)) ≡ false
pairs [] = refl
pairs (first ∷ others) = neither (has_float (pair_data first)) (items_have_float (items_of (map pair_data others))) (a_pair first) (pairs others)

words : (all : List (List ℕ)) → items_have_float (items_of (map string all)) ≡ false
words [] = refl
words (first ∷ others) = words others

a_failure : (fault : Failure) → has_float (failure_data fault) ≡ false
a_failure (failure.Raised text) = refl
a_failure (failure.WrongKind name) = refl
a_failure failure.Overflow = refl
a_failure failure.Range = refl
a_failure failure.TooLong = refl
a_failure (failure.Lookup name) = refl
a_failure (failure.Exit status) = neither (has_float (number (of_integer status))) false (integer status) refl
a_failure failure.Spawn = refl
a_failure failure.NotText = refl
a_failure failure.Lost = refl
a_failure (failure.BadReply count) = refl
a_failure failure.Exhausted = refl

pub a_request : (request : Request) → has_float (request_data request) ≡ false
a_request request =
    neither (items_have_float (items_of (map pair_data request.args))) (items_have_float (items_of (map string request.words)) || false) (pairs request.args)
    (neither (items_have_float (items_of (map string request.words))) false (words request.words) refl)

pub a_response : (answer : Response) → has_float (response_data answer) ≡ false
a_response (response.Running id) = refl
a_response (response.Success id result) = neither (has_float (value_data result)) false (a_value result) refl
a_response (response.Failure id fault) = neither (has_float (failure_data fault)) false (a_failure fault) refl
