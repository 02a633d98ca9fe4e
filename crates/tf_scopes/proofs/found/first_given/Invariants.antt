use Rattle.std.proofs.Common.{◌≡◌, drop}
use Rattle.tf_flow.specs.Tree.{first_some}
use Rattle.tf_model.specs.Plan.{outline_of}
use Rattle.tf_model.specs.Scope.{given_by}
use Rattle.tf_model.specs.History.{Snapshot, Shows}
use Rattle.tf_scopes.proofs.found.first_given.Given as goal

abbrev pub invariant-loop-atom : goal.invariant-loop-atom
invariant-loop-atom l = (s : Snapshot) → Shows l.views s → first_some (given_by (outline_of l.plan) s l.symbol) l.atoms ≡ first_some (given_by (outline_of l.plan) s l.symbol) (drop l.atom-index l.atoms)
