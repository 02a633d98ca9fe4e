-- What is read is the value that has the form, since a form has one reading.
use Rattle.std.proofs.Common.{◌≡◌, ℕ, List, ◌++◌, length, drop, Result, Ok, Err, refl, sym, ap, ◌∙◌}
use Rattle.std.specs.Prelude.{IfOk, MatchResult}
use Rattle.std.specs.Result.{IsErrOf}
use Rattle.std.proofs.lemmas.List.{take-append-drop}
use Rattle.tf_values.specs.declared.faults.MakeFault.{MakeFault}
use Rattle.tf_values.specs.declared.faults.MakeFault.TheVariants as fault
use Rattle.tf_values.specs.declared.value.Val.{Val}
use Rattle.tf_values.specs.Value.{byte_form, IsTextOf, BeginsWith}
use Rattle.tf_values.proofs.ValueLemmas.{value_text_one, value_byte_one}

pub found_text : (text : List ℕ) (r : Result Val MakeFault) → IfOk r (λ value. IsTextOf text value) → (IsErrOf r fault.No → (v : Val) → ¬ (IsTextOf text v))
    → (v : Val) → IsTextOf text v → MatchResult r (λ value. value ≡ v) (λ cause. cause ≡ fault.Memory)
found_text text (Ok value) ok refused v is = value_text_one value v ok.value is.value (sym ok.form ∙ is.form)
found_text text (Err fault.Memory) ok refused v is = refl
found_text text (Err fault.No) ok refused v is = absurd (refused refl v is)

front_form : (bytes : List ℕ) (v : Val) (len : ℕ) → BeginsWith bytes v len → bytes ≡ byte_form v ++ drop len bytes
front_form bytes v len is = sym (take-append-drop len bytes) ∙ ap (λ (form : List ℕ). form ++ drop len bytes) is.form

pub found_front : (bytes : List ℕ) (r : Result (Val × ℕ) MakeFault) → IfOk r (λ read. BeginsWith bytes read.0 read.1) → (IsErrOf r fault.No → (v : Val) (len : ℕ) → ¬ (BeginsWith bytes v len))
    → (v : Val) (len : ℕ) → BeginsWith bytes v len → MatchResult r (λ read. (read.0 ≡ v) × (read.1 ≡ len)) (λ cause. cause ≡ fault.Memory)
found_front bytes (Ok read) ok refused v len is =
    let same = value_byte_one read.0 v (drop read.1 bytes) (drop len bytes) ok.value is.value (sym (front_form bytes read.0 read.1 ok) ∙ front_form bytes v len is) in
    (same.0, ok.len_is ∙ ap (λ (w : Val). length (byte_form w)) same.0 ∙ sym is.len_is)
found_front bytes (Err fault.Memory) ok refused v len is = refl
found_front bytes (Err fault.No) ok refused v len is = absurd (refused refl v len is)
