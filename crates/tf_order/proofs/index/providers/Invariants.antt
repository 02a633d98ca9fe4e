use Rattle.std.proofs.Common.{◌≡◌, ℕ, List}
use Rattle.tf_model.specs.Before.{provides_at}
use Rattle.tf_numbers.specs.Numbers.{which_below}
use Rattle.tf_order.specs.Index.{told}
use Rattle.tf_flow.specs.Listing.{shown_atoms}
use Rattle.tf_order.proofs.index.providers.Given as goal

abbrev pub invariant-loop-number : goal.invariant-loop-number
invariant-loop-number l = (symbol : List ℕ) → told l.index symbol ≡ which_below l.number (provides_at (shown_atoms l.atoms) symbol)
