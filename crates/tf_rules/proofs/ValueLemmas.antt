-- Values are the same where their byte forms are.
use Rattle.std.proofs.Common.{◌≡◌, ◌≢◌, ◌++◌, ℕ, List, [], length, Bool, true, false, refl, sym, ap}
use Rattle.std.specs.Prelude.{IsTrue, ◌↔◌}
use Rattle.std.specs.Cmp.Lexicographic.{bytes_decides}
use Rattle.tf_numbers.proofs.TruthLemmas.{never_true}
use Rattle.tf_values.specs.declared.value.Val.{Val}
use Rattle.tf_values.specs.Value.{byte_form, IsValue}
use Rattle.tf_values.proofs.ValueLemmas.{value_byte_one}
use Rattle.tf_model.specs.Readiness.{same_value}

-- byte forms of two lengths
pub not_as_long : (v w : Val) → length (byte_form v) ≢ length (byte_form w) → false ≡ same_value v w
not_as_long v w differ = sym (never_true (same_value v w) (λ on. differ (ap length ((bytes_decides (byte_form v) (byte_form w)).0 on))))

one_form : (v w : Val) → IsValue v → IsValue w → byte_form v ≡ byte_form w → v ≡ w
one_form v w first second same = (value_byte_one v w [] [] first second (ap (λ (bytes : List ℕ). bytes ++ []) same)).0

pub same_by : (v w : Val) (on : Bool) → IsValue v → IsValue w → (IsTrue on ↔ (v ≡ w)) → on ≡ same_value v w
same_by v w true first second decides = let same : v ≡ w = decides.0 refl in sym ((bytes_decides (byte_form v) (byte_form w)).1 (ap byte_form same))
same_by v w false first second decides =
    sym (never_true (same_value v w) (λ on. let clash : false ≡ true = decides.1 (one_form v w first second ((bytes_decides (byte_form v) (byte_form w)).0 on)) in cc))
