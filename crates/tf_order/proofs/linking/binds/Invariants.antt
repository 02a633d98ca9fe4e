use Rattle.std.proofs.Common.{◌≡◌, take, false}
use Rattle.tf_flow.specs.Tree.{is_among}
use Rattle.tf_flow.specs.Rules.{bind_symbols}
use Rattle.tf_order.proofs.linking.binds.Given as goal

abbrev pub invariant-loop-bind : goal.invariant-loop-bind
invariant-loop-bind l = is_among (bind_symbols (take l.bind-index l.injects)) l.symbol ≡ false
