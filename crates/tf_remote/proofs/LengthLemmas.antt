-- A response is short enough for a frame.
use Rattle.std.proofs.Common.{◌≡◌, ℕ, ◌+◌, ◌*◌, ◌<◌, ◌≤◌, ◌^◌, ℤ, pos, negsuc, List, [], ◌∷◌, ◌++◌, Bool, true, false, cond, nat_le, map, codes, length, arith, length-append}
use Rattle.std.specs.Prelude.{FitsSigned}
use Rattle.std.specs.Fmt.{decimal}
use Rattle.std.specs.Int.{w32, w64}
use Rattle.std.specs.List.{flat_map, AllByRecursion}
use Rattle.std.proofs.lemmas.Fmt.{length-decimal-le, length_signed_le}
use Rattle.std.proofs.lemmas.Grind.{common_steps}
use Rattle.std.proofs.lemmas.Int.{ints}
use Rattle.json.specs.Print.{escape_byte, quoted}
use Rattle.serde_json.specs.Data.{Data, number, unsigned, string, Items, no_items, item, Members, no_members, member}
use Rattle.serde_json.specs.Find.{of_integer}
use Rattle.serde_json.specs.View.{items_of}
use Rattle.serde_json.specs.Written.{comma_if, number_text, compact_text, items_text, members_text}
use Rattle.tf_numbers.proofs.TruthLemmas.{and_second}
use Rattle.tf_values.specs.Scalars.{scalar_bytes, list_bytes, IsElement, are_scalars}
use Rattle.tf_values.specs.declared.elements.Scalar.{Scalar}
use Rattle.tf_values.specs.declared.elements.Scalar.TheVariants as scalar
use Rattle.tf_values.specs.declared.value.Val.{Val}
use Rattle.tf_values.specs.declared.value.Val.TheVariants as value
use Rattle.tf_values.specs.Value.{IsValue}
use Rattle.tf_values.proofs.ByteLemmas.{text_is_short}
use Rattle.tf_values.proofs.NameLemmas.{length-is_name}
use Rattle.tf_states.specs.declared.record.Failure.{Failure}
use Rattle.tf_states.specs.declared.record.Failure.TheVariants as failure
use Rattle.tf_wire.specs.declared.messages.Response.{Response}
use Rattle.tf_wire.specs.declared.messages.Response.TheVariants as response
use Rattle.tf_wire.specs.Stream.{is_length, IsFrame}
use Rattle.tf_wire.specs.Limits.{IsFailure, HasPart}
use Rattle.tf_wire.specs.Grammar.{scalar_data, value_data, alone, with_data, failure_data, response_data}

-- ---- strings

six_at_most : (t u : Bool) (byte letter high low : ℕ) → length (cond t (92 ∷ letter ∷ []) (cond u (92 ∷ 117 ∷ 48 ∷ 48 ∷ high ∷ low ∷ []) (byte ∷ []))) ≤ 6
six_at_most true u byte letter high low = omega arith
six_at_most false true byte letter high low = omega arith
six_at_most false false byte letter high low = omega arith

escaped_byte : (byte : ℕ) → length (escape_byte byte) ≤ 6
unfolding escape_byte
escaped_byte byte = six_at_most _ _ byte _ _ _

escaped : (text : List ℕ) → length (flat_map escape_byte text) ≤ 6 * length text
escaped [] = omega arith
escaped (byte ∷ text) = omega (arith, length-append (escape_byte byte) (flat_map escape_byte text), escaped_byte byte, escaped text)

quoted_length : (text : List ℕ) → length (quoted text) ≤ 6 * length text + 2
quoted_length text = omega (arith, length-append (flat_map escape_byte text) (34 ∷ []), escaped text)

-- ---- numbers

integer_length : (n : ℤ) → FitsSigned w64 n → length (number_text (of_integer n)) ≤ 20
integer_length (pos n) fits = let below : n < 2 ^ 63 = omega (arith, ints, fits) in length-decimal-le 20 n (omega arith) (omega arith) (omega arith)
integer_length (negsuc n) fits = length_signed_le 19 (negsuc n) (omega (arith, fits.sfits)) fits.sfits

-- ---- lists

comma_length : (later : Bool) → length (comma_if later) ≤ 1
comma_length true = omega arith
comma_length false = omega arith

-- an item and those after it
item_length : (later : Bool) (d : Data) (others : Items) → length (items_text later (item d others)) ≤ 1 + length (compact_text d) + length (items_text true others)
item_length later d others = omega (arith, length-append (comma_if later) (compact_text d ++ items_text true others), length-append (compact_text d) (items_text true others), comma_length later)

member_length : (later : Bool) (key : List ℕ) (d : Data) (others : Members)
    → length (members_text later (member key d others)) ≤ 6 * length key + 4 + length (compact_text d) + length (members_text true others)
member_length later key d others =
    omega (
      arith,
      length-append (comma_if later) (quoted key ++ 58 ∷ (compact_text d ++ members_text true others)),
      length-append (quoted key) (58 ∷ (compact_text d ++ members_text true others)),
      length-append (compact_text d) (members_text true others),
      comma_length later,
      quoted_length key,
    )

-- ---- values

scalar_length : (s : Scalar) → IsElement s → 1 + length (compact_text (scalar_data s)) ≤ 6 * length (scalar_bytes s)
scalar_length scalar.Nothing good = omega arith
scalar_length (scalar.Truth true) good = omega arith
scalar_length (scalar.Truth false) good = omega arith
scalar_length (scalar.Int n) good = omega (arith, integer_length n good)
scalar_length (scalar.Text text) good = omega (arith, quoted_length text)

scalars_length : (later : Bool) (all : List Scalar) → AllByRecursion IsElement all → length (items_text later (items_of (map scalar_data all))) ≤ 6 * length (flat_map scalar_bytes all) + 1
scalars_length later [] good = omega arith
scalars_length later (first ∷ others) good =
    omega (arith, item_length later (scalar_data first) (items_of (map scalar_data others)), scalar_length first good.0, scalars_length true others good.1, length-append (scalar_bytes first) (flat_map scalar_bytes others))

list_is_small : (scalars : List Scalar) → are_scalars scalars ≡ true → length (list_bytes scalars) ≤ 131072
list_is_small scalars is = let small = and_second (nat_le (length scalars) 1024) (nat_le (length (list_bytes scalars)) 131072) is in grind (arith, common_steps)

value_length : (v : Val) → IsValue v → length (compact_text (value_data v)) ≤ 800000
value_length value.Nothing good = omega arith
value_length (value.Truth true) good = omega arith
value_length (value.Truth false) good = omega arith
value_length (value.Int n) good = omega (arith, integer_length n good)
value_length (value.Text text) good = omega (arith, quoted_length text, text_is_short text good)
value_length (value.List all) good = omega (arith, scalars_length false all good.1, list_is_small all good.0)

-- ---- messages

id_length : (id : ℕ) → id < 2 ^ 64 → length (decimal id) ≤ 20
id_length id below = length-decimal-le 20 id (omega arith) (omega arith) below

alone_length : (word : List ℕ) → length (compact_text (alone word)) ≤ 6 * length word + 5
alone_length word = omega (arith, item_length false (string word) no_items, quoted_length word)

with_length : (word : List ℕ) (d : Data) → length (compact_text (with_data word d)) ≤ 6 * length word + 6 + length (compact_text d)
with_length word d = omega (arith, item_length false (string word) (item d no_items), item_length true d no_items, quoted_length word)

status_length : (n : ℤ) → FitsSigned w32 n → length (number_text (of_integer n)) ≤ 20
status_length (pos n) fits = let below : n < 2 ^ 31 = omega (arith, ints, fits) in length-decimal-le 20 n (omega arith) (omega arith) (omega arith)
status_length (negsuc n) fits = let small : n < 2 ^ 31 = omega (arith, ints, fits) in length_signed_le 19 (negsuc n) (omega (arith, ints, small)) (omega (arith, ints, small))

failure_length : (fault : Failure) → IsFailure fault → length (compact_text (failure_data fault)) ≤ 800000
failure_length (failure.Raised text) good = omega (arith, with_length (codes "raised") (string text), quoted_length text, text_is_short text good)
failure_length (failure.WrongKind name) good = omega (arith, with_length (codes "type") (string name), quoted_length name, length-is_name name good)
failure_length failure.Overflow good = omega (arith, alone_length (codes "overflow"))
failure_length failure.Range good = omega (arith, alone_length (codes "range"))
failure_length failure.TooLong good = omega (arith, alone_length (codes "too-long"))
failure_length (failure.Lookup name) good = omega (arith, with_length (codes "lookup") (string name), quoted_length name, length-is_name name good)
failure_length (failure.Exit status) good = omega (arith, with_length (codes "exit") (number (of_integer status)), status_length status good)
failure_length failure.Spawn good = omega (arith, alone_length (codes "spawn"))
failure_length failure.NotText good = omega (arith, alone_length (codes "not-text"))
failure_length failure.Lost good = omega (arith, alone_length (codes "lost"))
failure_length (failure.BadReply count) good = let below : count < 2 ^ 64 = omega (arith, good) in omega (arith, with_length (codes "bad-reply") (number (unsigned count)), id_length count below)
failure_length failure.Exhausted good = omega (arith, alone_length (codes "exhausted"))

text_length : (answer : Response) → HasPart answer → length (compact_text (response_data answer)) ≤ 1000000
text_length (response.Running id) good =
    let after = member (codes "state") (string (codes "RUNNING")) no_members in
    omega (arith, member_length false (codes "id") (number (unsigned id)) after, member_length true (codes "state") (string (codes "RUNNING")) no_members, quoted_length (codes "RUNNING"), id_length id good)
text_length (response.Success id result) good =
    let after_result = member (codes "state") (string (codes "SUCCESS")) no_members in
    let after_id = member (codes "result") (value_data result) after_result in
    omega (
      arith,
      member_length false (codes "id") (number (unsigned id)) after_id,
      member_length true (codes "result") (value_data result) after_result,
      member_length true (codes "state") (string (codes "SUCCESS")) no_members,
      quoted_length (codes "SUCCESS"),
      id_length id good.0,
      value_length result good.1,
    )
text_length (response.Failure id fault) good =
    let after_id = member (codes "state") (string (codes "FAILURE")) no_members in
    let after_fault = member (codes "id") (number (unsigned id)) after_id in
    omega (
      arith,
      member_length false (codes "failure") (failure_data fault) after_fault,
      member_length true (codes "id") (number (unsigned id)) after_id,
      member_length true (codes "state") (string (codes "FAILURE")) no_members,
      quoted_length (codes "FAILURE"),
      id_length id good.0,
      failure_length fault good.1,
    )

-- nor is it empty
some_length : (answer : Response) → 0 < length (compact_text (response_data answer))
some_length (response.Running id) = omega arith
some_length (response.Success id result) = omega arith
some_length (response.Failure id fault) = omega arith

length_fits : (n : ℕ) → 0 < n → n ≤ 1000000 → is_length n ≡ true
length_fits n some short = grind (arith, common_steps)

-- a response within the limits of its type stands in a frame
pub response_fits : (answer : Response) → HasPart answer → IsFrame (compact_text (response_data answer))
response_fits answer good = length_fits (length (compact_text (response_data answer))) (some_length answer) (text_length answer good)
