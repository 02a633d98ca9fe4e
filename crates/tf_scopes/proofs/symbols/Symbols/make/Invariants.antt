use Rattle.std.proofs.Common.{◌≡◌, ℕ, List}
use Rattle.tf_model.specs.Plan.{outline_of}
use Rattle.tf_numbers.specs.Numbers.{which_below}
use Rattle.tf_scopes.specs.Symbols.{told, lists_at}
use Rattle.tf_scopes.proofs.symbols.Symbols.make.Given as goal

abbrev pub invariant-loop-place : goal.invariant-loop-place
invariant-loop-place l = (symbol : List ℕ) → told l.symbols symbol ≡ which_below l.place (lists_at (outline_of l.plan) symbol)
