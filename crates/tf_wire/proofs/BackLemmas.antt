-- What is printed spells what was printed.
use Rattle.std.proofs.Common.{◌≡◌, ℕ, ◌<◌, ◌≤◌, ◌^◌, ℤ, pos, negsuc, List, [], ◌∷◌, true, Option, Some, Result, Ok, Err, subst, map, refl, arith}
use Rattle.std.specs.Prelude.{FitsSigned, OnOk}
use Rattle.std.specs.Int.{w32, w64}
use Rattle.std.specs.List.{AllByRecursion}
use Rattle.std.proofs.lemmas.Grind.{common_steps}
use Rattle.std.proofs.lemmas.Int.{ints}
use Rattle.serde_json.proofs.OnLiterals.{serde_json_on_literals}
use Rattle.serde_json.specs.Data.{Data, number, unsigned, string, depth, items_depth}
use Rattle.serde_json.specs.Find.{as_i64, of_integer}
use Rattle.serde_json.specs.View.{items_of}
use Rattle.tf_values.specs.declared.elements.Scalar.{Scalar}
use Rattle.tf_values.specs.declared.elements.Scalar.TheVariants as scalar
use Rattle.tf_values.specs.declared.value.Val.{Val}
use Rattle.tf_values.specs.declared.value.Val.TheVariants as value
use Rattle.tf_values.specs.Scalars.{IsElement}
use Rattle.tf_values.specs.Text.{is_name}
use Rattle.tf_values.specs.Value.{IsValue}
use Rattle.tf_states.specs.declared.record.Failure.{Failure}
use Rattle.tf_states.specs.declared.record.Failure.TheVariants as failure
use Rattle.tf_flow.specs.declared.atoms.TaskKind.{TaskKind}
use Rattle.tf_flow.specs.declared.atoms.TaskKind.TheVariants as kind
use Rattle.tf_actions.specs.declared.orders.Pair.{Pair}
use Rattle.tf_actions.specs.declared.outcomes.Action.{Action}
use Rattle.tf_actions.specs.declared.outcomes.Action.TheVariants as action
use Rattle.tf_wire.specs.Grammar.{each_of, text_of, name_of, id_of, status_of, count_of, scalar_of, value_of, pair_of, failure_of, action_of, kind_of, request_of, response_of, scalar_data, value_data, pair_data, failure_data, request_data, response_data, message_of, IsFitRequest, AreRequest, AreResponse, action_word, kind_word}
use Rattle.tf_wire.specs.Limits.{IsWord, IsArgument, IsFailure, HasParts, HasPart, id_in}
use Rattle.serde_json.specs.Written.{compact_text}
use Rattle.tf_wire.specs.declared.messages.Request.{Request}
use Rattle.tf_wire.specs.declared.messages.Response.{Response}
use Rattle.tf_wire.specs.declared.messages.Response.TheVariants as response

-- ---- parts

each_back : {A : Type 0} (form : Data → Option A) (spell : A → Data) (Good : A → Type 0) → ((x : A) → Good x → form (spell x) ≡ Some x) → (all : List A) → AllByRecursion Good all → each_of form (items_of (map spell all)) ≡ Some all
each_back form spell Good back [] good = refl
each_back form spell Good back (x ∷ all) good = rw (back x good.0, each_back form spell Good back all good.1) refl

integer_back : (n : ℤ) → FitsSigned w64 n → as_i64 (of_integer n) ≡ Some n
integer_back (pos n) fits = let below : n < 2 ^ 63 = omega (arith, ints, fits) in grind (arith, common_steps)
integer_back (negsuc n) fits = refl

scalar_back : (s : Scalar) → IsElement s → scalar_of (scalar_data s) ≡ Some s
scalar_back scalar.Nothing good = refl
scalar_back (scalar.Truth truth) good = refl
scalar_back (scalar.Int n) good = rw (integer_back n good) refl
scalar_back (scalar.Text text) good = rw good refl

value_back : (v : Val) → IsValue v → value_of (value_data v) ≡ Some v
value_back value.Nothing good = refl
value_back (value.Truth truth) good = refl
value_back (value.Int n) good = rw (integer_back n good) refl
value_back (value.Text text) good = rw good refl
value_back (value.List scalars) good = rw (each_back scalar_of scalar_data IsElement scalar_back scalars good.1, good.0) refl

word_back : (word : List ℕ) → IsWord word → text_of (string word) ≡ Some word
word_back word good = rw good refl

name_back : (name : List ℕ) → is_name name ≡ true → name_of (string name) ≡ Some name
name_back name good = rw good refl

pair_back : (pair : Pair) → IsArgument pair → pair_of (pair_data pair) ≡ Some pair
pair_back pair good = rw (name_back pair.name good.0, value_back pair.value good.1) refl

id_back : (id : ℕ) → id < 2 ^ 63 → id_of (number (unsigned id)) ≡ Some id
id_back id below = grind (arith, common_steps)

kind_back : (k : TaskKind) → kind_of (string (kind_word k)) ≡ Some k
kind_back kind.Echo = refl
kind_back kind.Concat = refl
kind_back kind.Sum = refl
kind_back kind.Length = refl
kind_back kind.Pick = refl
kind_back kind.List = refl
kind_back kind.Fail = refl
kind_back kind.FailBelow = refl
kind_back kind.FailUnless = refl
kind_back kind.Command = refl

action_back : (how : Action) → action_of (string (action_word how)) ≡ Some how
action_back action.Execute = refl
action_back action.Revert = refl

status_back : (n : ℤ) → FitsSigned w32 n → status_of (number (of_integer n)) ≡ Some n
status_back (pos n) fits = let below : n < 2 ^ 31 = omega (arith, ints, fits) in grind (arith, common_steps)
status_back (negsuc n) fits = let below : n < 2 ^ 31 = omega (arith, ints, fits) in grind (arith, common_steps)

count_back : (n : ℕ) → n < 2 ^ 32 → count_of (number (unsigned n)) ≡ Some n
count_back n below = grind (arith, common_steps)

failure_back : (fault : Failure) → IsFailure fault → failure_of (failure_data fault) ≡ Some fault
failure_back (failure.Raised text) good = rw (word_back text good) refl
failure_back (failure.WrongKind name) good = rw (name_back name good) refl
failure_back failure.Overflow good = refl
failure_back failure.Range good = refl
failure_back failure.TooLong good = refl
failure_back (failure.Lookup name) good = rw (name_back name good) refl
failure_back (failure.Exit status) good = rw (status_back status good) refl
failure_back failure.Spawn good = refl
failure_back failure.NotText good = refl
failure_back failure.Lost good = refl
failure_back (failure.BadReply count) good = rw (count_back count good) refl
failure_back failure.Exhausted good = refl

-- ---- messages

pub request_back : (request : Request) → HasParts request → request.id < 2 ^ 63 → request_of (request_data request) ≡ Some request
unfolding serde_json_on_literals
request_back request good below =
    rw (action_back request.action, each_back pair_of pair_data IsArgument pair_back request.args good.args, id_back request.id below, kind_back request.kind, each_back text_of string IsWord word_back request.words good.words) refl

pub response_back : (answer : Response) → HasPart answer → id_in answer < 2 ^ 63 → response_of (response_data answer) ≡ Some answer
unfolding serde_json_on_literals
response_back (response.Running id) good below = rw (id_back id below) refl
response_back (response.Success id result) good below = rw (id_back id below, value_back result good.1) refl
response_back (response.Failure id fault) good below = rw (id_back id below, failure_back fault good.1) refl

-- ---- depths

scalar_depth : (s : Scalar) → depth (scalar_data s) ≡ 0
scalar_depth scalar.Nothing = refl
scalar_depth (scalar.Truth truth) = refl
scalar_depth (scalar.Int n) = refl
scalar_depth (scalar.Text text) = refl

scalars_depth : (all : List Scalar) → items_depth (items_of (map scalar_data all)) ≡ 0
scalars_depth [] = refl
scalars_depth (first ∷ others) = rw (scalar_depth first, scalars_depth others) refl

value_depth : (v : Val) → depth (value_data v) ≤ 1
value_depth value.Nothing = omega arith
value_depth (value.Truth truth) = omega arith
value_depth (value.Int n) = omega arith
value_depth (value.Text text) = omega arith
value_depth (value.List all) = rw (scalars_depth all) (omega arith)

pairs_depth : (all : List Pair) → items_depth (items_of (map pair_data all)) ≤ 2
pairs_depth [] = omega arith
pairs_depth (first ∷ others) = omega (arith, value_depth first.value, pairs_depth others)

words_depth : (all : List (List ℕ)) → items_depth (items_of (map string all)) ≡ 0
words_depth [] = refl
words_depth (first ∷ others) = rw (words_depth others) refl

pub request_depth : (request : Request) → depth (request_data request) ≤ 127
request_depth request = omega (arith, pairs_depth request.args, words_depth request.words)

failure_depth : (fault : Failure) → depth (failure_data fault) ≤ 1
failure_depth (failure.Raised text) = omega arith
failure_depth (failure.WrongKind name) = omega arith
failure_depth failure.Overflow = omega arith
failure_depth failure.Range = omega arith
failure_depth failure.TooLong = omega arith
failure_depth (failure.Lookup name) = omega arith
failure_depth (failure.Exit status) = omega arith
failure_depth failure.Spawn = omega arith
failure_depth failure.NotText = omega arith
failure_depth failure.Lost = omega arith
failure_depth (failure.BadReply count) = omega arith
failure_depth failure.Exhausted = omega arith

pub response_depth : (answer : Response) → depth (response_data answer) ≤ 127
response_depth (response.Running id) = omega arith
response_depth (response.Success id result) = omega (arith, value_depth result)
response_depth (response.Failure id fault) = omega (arith, failure_depth fault)

-- ---- frames

pub request_again : {A E : Type 0} (r : Result A E) (d : Data) (request : Request) → d ≡ request_data request → HasParts request → OnOk r (depth d ≤ 127 → message_of (compact_text d) ≡ Some d)
    → OnOk r (request.id < 2 ^ 63 → IsFitRequest request → AreRequest (compact_text (request_data request)) request)
request_again (Ok done) d request is good reads = λ below allowed. record {
  message = request_data request;
  read_as = subst (λ (message : Data). depth message ≤ 127 → message_of (compact_text message) ≡ Some message) is reads (request_depth request);
  spelled = request_back request good below;
  allowed = allowed;
}
request_again (Err e) d request is good reads = tt

pub response_again : {A E : Type 0} (r : Result A E) (d : Data) (answer : Response) → d ≡ response_data answer → HasPart answer → OnOk r (depth d ≤ 127 → message_of (compact_text d) ≡ Some d)
    → OnOk r (id_in answer < 2 ^ 63 → AreResponse (compact_text (response_data answer)) answer)
response_again (Ok done) d answer is good reads = λ below. record {
  message = response_data answer;
  read_as = subst (λ (message : Data). depth message ≤ 127 → message_of (compact_text message) ≡ Some message) is reads (response_depth answer);
  spelled = response_back answer good below;
}
response_again (Err e) d answer is good reads = tt
