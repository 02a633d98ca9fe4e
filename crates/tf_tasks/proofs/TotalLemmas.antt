-- Totals, one item on.
use Rattle.std.proofs.Common.{◌≡◌, ℕ, ◌+◌, ◌<◌, ◌+ℤ◌, List, drop, get_or, length, ap, sym, ◌∙◌}
use Rattle.std.proofs.lemmas.List.{at_drop_more}
use Rattle.tf_values.specs.declared.elements.Scalar.{Scalar}
use Rattle.tf_actions.specs.declared.orders.Pair.{Pair}
use Rattle.tf_actions.specs.Built.{scalar_amount, scalars_total, amount, total}

pub scalars_step : (scalars : List Scalar) (i : ℕ) (item : Scalar) → i < length scalars → item ≡ get_or scalars i item → scalars_total (drop i scalars) ≡ scalar_amount item +ℤ scalars_total (drop (i + 1) scalars)
scalars_step scalars i item inside is = at_drop_more scalars_total scalars i item inside ∙ ap (λ x. scalar_amount x +ℤ scalars_total (drop (i + 1) scalars)) (sym is)

pub pairs_step : (pairs : List Pair) (i : ℕ) (item : Pair) → i < length pairs → item ≡ get_or pairs i item → total (drop i pairs) ≡ amount item.value +ℤ total (drop (i + 1) pairs)
pairs_step pairs i item inside is = at_drop_more total pairs i item inside ∙ ap (λ x. amount x.value +ℤ total (drop (i + 1) pairs)) (sym is)
