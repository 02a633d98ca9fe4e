use Rattle.std.proofs.Common.{◌+◌, ◌*◌, length}
use Rattle.tf_flow.proofs.paths.+parts.Given as goal

abbrev pub decreases-part_in : goal.decreases-part_in
decreases-part_in l = 2 * length l.path.now

abbrev pub decreases-part_below : goal.decreases-part_below
decreases-part_below l = 2 * length l.path.now + 1
