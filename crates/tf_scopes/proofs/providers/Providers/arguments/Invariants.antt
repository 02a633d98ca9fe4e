use Rattle.std.proofs.Common.{◌≡◌, drop}
use Rattle.tf_model.specs.Plan.{outline_of, arguments}
use Rattle.tf_model.specs.Scope.{given_for}
use Rattle.tf_model.specs.History.{Snapshot, Shows}
use Rattle.tf_scopes.proofs.GivenLemmas.{with_pairs, given_from}
use Rattle.tf_scopes.proofs.providers.Providers.arguments.Given as goal

abbrev pub invariant-loop-place : goal.invariant-loop-place
invariant-loop-place l = (s : Snapshot) → Shows l.views s
    → given_for (outline_of l.plan) s l.atom l.action ≡ with_pairs l.pairs.items (given_from (outline_of l.plan) s l.atom l.action (drop l.place (arguments (outline_of l.plan) l.atom)))
