use Rattle.tf_flow.proofs.PathLemmas.{WalkedFlow}
use Rattle.tf_flow.proofs.paths.+paths.Given as goal

abbrev pub invariant-add_flow-loop-place : goal.invariant-add_flow-loop-place
invariant-add_flow-loop-place l = WalkedFlow l.path l.flow l.number l.fn.paths.atoms.items l.fn.paths.flows.items l.place l.paths.atoms.items l.paths.flows.items
