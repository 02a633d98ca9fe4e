use Rattle.std.proofs.Common.{◌+◌, ◌*◌, length}
use Rattle.tf_flow.proofs.paths.+flows.Given as goal

abbrev pub decreases-flow_in : goal.decreases-flow_in
decreases-flow_in l = 2 * length l.path.now

abbrev pub decreases-flow_below : goal.decreases-flow_below
decreases-flow_below l = 2 * length l.path.now + 1
