-- Arrays of one item and of two.
use Rattle.std.proofs.Common.{◌≡◌, ◌≢◌, List, [], ◌∷◌, None, length, refl}
use Rattle.serde_json.specs.View.{items_view}
use Rattle.serde_json.specs.declared.value.Value.{Value}
use Rattle.tf_wire.specs.Grammar.{pair_items, failure_items}

pub no_pair : (items : List Value) → length items ≢ 2 → None ≡ pair_items (items_view items)
no_pair [] other = refl
no_pair (a ∷ []) other = refl
no_pair (a ∷ b ∷ []) other = absurd (other refl)
no_pair (a ∷ b ∷ c ∷ items) other = refl

pub no_failure : (items : List Value) → length items ≢ 1 → length items ≢ 2 → None ≡ failure_items (items_view items)
no_failure [] one two = refl
no_failure (a ∷ []) one two = absurd (one refl)
no_failure (a ∷ b ∷ []) one two = absurd (two refl)
no_failure (a ∷ b ∷ c ∷ items) one two = refl
