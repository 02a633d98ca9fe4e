-- The line of an entry has no line feed but its last byte.
use Rattle.std.proofs.Common.{◌≡◌, ℕ, ℤ, ◌+◌, ◌/◌, ◌%◌, ◌<◌, ◌^◌, nat_lt, cond, List, [], ◌∷◌, ◌++◌, length, Bool, true, false, not, ◌&&◌, ◌==◌, refl, ◌∙◌, arith}
use Rattle.std.specs.Prelude.{FitsSigned, codes}
use Rattle.std.specs.Fmt.{decimal, signed_decimal}
use Rattle.std.specs.Int.{w64}
use Rattle.std.specs.List.{flat_map, AllByRecursion}
use Rattle.std.proofs.lemmas.Bool.Decides.{nat_tests}
use Rattle.std.proofs.lemmas.List.Folds.{list_all-append}
use Rattle.tf_values.specs.declared.elements.Scalar.{Scalar}
use Rattle.tf_values.specs.declared.elements.Scalar.TheVariants as scalar
use Rattle.tf_values.specs.declared.value.Val.{Val}
use Rattle.tf_values.specs.declared.value.Val.TheVariants as value
use Rattle.tf_values.specs.Scalars.{IsElement}
use Rattle.tf_values.specs.Value.{hexadecimal, quoted_byte, quoted, truth_text, scalar_text, further_text, scalars_text, text_form, IsValue}
use Rattle.tf_values.proofs.QuoteLemmas.{IsControl, IsPlain, digits_form, quoted_cases}
use Rattle.tf_states.specs.declared.record.Entry.{Entry}
use Rattle.tf_states.specs.declared.record.Failure.{Failure}
use Rattle.tf_states.specs.declared.record.Failure.TheVariants as failure
use Rattle.tf_states.specs.declared.record.Payload.{Payload}
use Rattle.tf_states.specs.declared.record.Payload.TheVariants as payload
use Rattle.tf_states.specs.declared.record.What.{What}
use Rattle.tf_states.specs.declared.record.What.TheVariants as what
use Rattle.tf_model.specs.Plan.{Outline, count, is_task, atom_name}
use Rattle.tf_entries.specs.Entries.{IsFailure, IsPayload, IsAmong, HasItsPayload}
use Rattle.tf_report.specs.Lines.{failure_text, payload_text, what_text, part_word, atom_word, flow_word, kind_word, flow_name, line}
use Rattle.tf_audit.specs.Names.{AreNamed}
use Rattle.tf_audit.specs.Verdicts.{IsPlanEntry, is_unfed}
use Rattle.tf_audit.specs.Words.{is_blank, is_unbroken}
use Rattle.tf_audit.proofs.WordLemmas.{name_unbroken, atom_word_unbroken, flow_word_unbroken, kind_word_unbroken}
use Rattle.tf_audit.proofs.NumberLemmas.{number_unbroken, signed_unbroken, status_unbroken}

unbroken_byte : (byte : ℕ) → not (is_blank byte) ≡ true → not (byte == 10) ≡ true
unbroken_byte byte is = grind (arith, nat_tests)

-- what has no space and no line feed has no line feed
pub unbroken_unfed : (bytes : List ℕ) → is_unbroken bytes ≡ true → is_unfed bytes ≡ true
unbroken_unfed [] is = refl
unbroken_unfed (byte ∷ bytes) is =
    let first : not (is_blank byte) ≡ true = grind (arith, nat_tests) in
    let others : is_unbroken bytes ≡ true = grind (arith, nat_tests) in
    let one : not (byte == 10) ≡ true = unbroken_byte byte first in
    let rest : is_unfed bytes ≡ true = unbroken_unfed bytes others in
    grind (arith, nat_tests)

both_true : (b c : Bool) → b ≡ true → c ≡ true → b && c ≡ true
both_true true c p q = q
both_true false c p q = absurd (cc)

pub unfed_both : (a b : List ℕ) → is_unfed a ≡ true → is_unfed b ≡ true → is_unfed (a ++ b) ≡ true
unfed_both a b p q = list_all-append (λ byte. not (byte == 10)) a b ∙ both_true (is_unfed a) (is_unfed b) p q

-- ---- values and failures

plain_byte : (b : ℕ) → IsPlain b → is_unfed (b ∷ []) ≡ true
plain_byte b is = grind (arith, nat_tests)

digit_unfed : (d : ℕ) → not (hexadecimal d == 10) ≡ true
digit_unfed d = by (nat_lt d 10)
  where
    by : (t : Bool) → not (cond t (48 + d) (87 + d) == 10) ≡ true
    by true = grind (arith, nat_tests)
    by false = grind (arith, nat_tests)

hexadecimal_unfed : (b : ℕ) → IsControl b → is_unfed (digits_form b) ≡ true
hexadecimal_unfed b is =
    both_true (not (hexadecimal (b / 16) == 10)) (not (hexadecimal (b % 16) == 10) && true) (digit_unfed (b / 16))
    (both_true (not (hexadecimal (b % 16) == 10)) true (digit_unfed (b % 16)) refl)

quoted_byte_unfed : (b : ℕ) → is_unfed (quoted_byte b) ≡ true
quoted_byte_unfed b = quoted_cases (λ _ form. is_unfed form ≡ true) refl refl refl refl hexadecimal_unfed plain_byte b

quoted_bytes_unfed : (text : List ℕ) → is_unfed (flat_map quoted_byte text) ≡ true
quoted_bytes_unfed [] = refl
quoted_bytes_unfed (b ∷ text) = unfed_both (quoted_byte b) (flat_map quoted_byte text) (quoted_byte_unfed b) (quoted_bytes_unfed text)

quoted_unfed : (text : List ℕ) → is_unfed (quoted text) ≡ true
quoted_unfed text = unfed_both (flat_map quoted_byte text) (34 ∷ []) (quoted_bytes_unfed text) refl

truth_unfed : (b : Bool) → is_unfed (truth_text b) ≡ true
truth_unfed true = refl
truth_unfed false = refl

integer_unfed : (z : ℤ) → FitsSigned w64 z → is_unfed (signed_decimal z) ≡ true
integer_unfed z fits = unbroken_unfed (signed_decimal z) (signed_unbroken z fits)

scalar_unfed : (s : Scalar) → IsElement s → is_unfed (scalar_text s) ≡ true
scalar_unfed scalar.Nothing is = refl
scalar_unfed (scalar.Truth b) is = truth_unfed b
scalar_unfed (scalar.Int z) is = integer_unfed z is
scalar_unfed (scalar.Text t) is = quoted_unfed t

further_unfed : (scalars : List Scalar) → AllByRecursion IsElement scalars → is_unfed (flat_map further_text scalars) ≡ true
further_unfed [] is = refl
further_unfed (first ∷ others) is = unfed_both (further_text first) (flat_map further_text others) (scalar_unfed first is.0) (further_unfed others is.1)

scalars_unfed : (scalars : List Scalar) → AllByRecursion IsElement scalars → is_unfed (scalars_text scalars) ≡ true
scalars_unfed [] is = refl
scalars_unfed (first ∷ others) is = unfed_both (scalar_text first) (flat_map further_text others) (scalar_unfed first is.0) (further_unfed others is.1)

value_unfed : (v : Val) → IsValue v → is_unfed (text_form v) ≡ true
value_unfed value.Nothing is = refl
value_unfed (value.Truth b) is = truth_unfed b
value_unfed (value.Int z) is = integer_unfed z is
value_unfed (value.Text t) is = quoted_unfed t
value_unfed (value.List scalars) is = unfed_both (scalars_text scalars) (93 ∷ []) (scalars_unfed scalars is.1) refl

failure_unfed : (f : Failure) → IsFailure f → is_unfed (failure_text f) ≡ true
failure_unfed (failure.Raised t) is = quoted_unfed t
failure_unfed (failure.WrongKind n) is = unbroken_unfed n (name_unbroken n is)
failure_unfed failure.Overflow is = refl
failure_unfed failure.Range is = refl
failure_unfed failure.TooLong is = refl
failure_unfed (failure.Lookup n) is = unbroken_unfed n (name_unbroken n is)
failure_unfed (failure.Exit z) is = unbroken_unfed (signed_decimal z) (status_unbroken z is)
failure_unfed failure.Spawn is = refl
failure_unfed failure.NotText is = refl
failure_unfed failure.Lost is = refl
failure_unfed (failure.BadReply n) is = unbroken_unfed (decimal n) (number_unbroken n (omega arith))
failure_unfed failure.Exhausted is = refl

pub payload_unfed : (held : Payload) → IsPayload held → is_unfed (payload_text held) ≡ true
payload_unfed payload.Empty is = refl
payload_unfed (payload.Value v) is = value_unfed v is
payload_unfed (payload.Fault f) is = failure_unfed f is

-- ---- lines

part_unfed : (task : Bool) → is_unfed (part_word task) ≡ true
part_unfed true = refl
part_unfed false = refl

-- three parts, the second between two spaces
named_unfed : (head name word : List ℕ) → is_unfed head ≡ true → is_unfed name ≡ true → is_unfed word ≡ true → is_unfed (head ++ name ++ 32 ∷ word) ≡ true
named_unfed head name word p q r = unfed_both (head ++ name) (32 ∷ word) (unfed_both head name p q) r

what_unfed : (plan : Outline) (w : What) → AreNamed plan → IsAmong (count plan) (length plan.flows) w → HasItsPayload w → is_unfed (what_text plan w) ≡ true
what_unfed plan (what.Atom a s held) named among good =
    unfed_both (part_word (is_task plan a) ++ atom_name plan a ++ 32 ∷ atom_word s) (payload_text held)
    (named_unfed (part_word (is_task plan a)) (atom_name plan a) (atom_word s) (part_unfed (is_task plan a)) (unbroken_unfed (atom_name plan a) (name_unbroken (atom_name plan a) (named.atoms a among))) (unbroken_unfed (atom_word s) (atom_word_unbroken s)))
    (payload_unfed held good.2)
what_unfed plan (what.Flow s) named among good =
    named_unfed (codes "flow ") (flow_name plan 0) (flow_word s) refl (unbroken_unfed (flow_name plan 0) (name_unbroken (flow_name plan 0) (named.flows 0 named.root))) (unbroken_unfed (flow_word s) (flow_word_unbroken s))
what_unfed plan (what.Resolve g k) named among good =
    named_unfed (codes "resolve ") (flow_name plan g) (kind_word k) refl (unbroken_unfed (flow_name plan g) (name_unbroken (flow_name plan g) (named.flows g among))) (unbroken_unfed (kind_word k) (kind_word_unbroken k))
what_unfed plan (what.Restart a) named among good = unbroken_unfed (atom_name plan a) (name_unbroken (atom_name plan a) (named.atoms a among))

-- the line without its line feed
abbrev pub said : Outline → ℕ → Entry → List ℕ
said plan number e = decimal number ++ 32 ∷ decimal e.hand ++ 32 ∷ what_text plan e.what

pub line_said : (plan : Outline) (number : ℕ) (e : Entry) → line plan number e ≡ said plan number e ++ 10 ∷ []
unfolding line
line_said plan number e = refl

pub said_unfed : (plan : Outline) (number : ℕ) (e : Entry) → AreNamed plan → number < 2 ^ 64 → IsPlanEntry plan e → is_unfed (said plan number e) ≡ true
said_unfed plan number e named fits is =
    unfed_both (decimal number ++ 32 ∷ decimal e.hand) (32 ∷ what_text plan e.what)
    (unfed_both (decimal number) (32 ∷ decimal e.hand) (unbroken_unfed (decimal number) (number_unbroken number fits)) (unbroken_unfed (decimal e.hand) (number_unbroken e.hand (let small = is.hand in omega arith))))
    (what_unfed plan e.what named is.among is.payload)
