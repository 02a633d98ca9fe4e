use Rattle.std.proofs.Common.{◌≤◌, ◌∙◌, min, length, arith}
use Rattle.tf_order.proofs.PathLemmas.{meeting_over}
use Rattle.tf_order.proofs.paths.meeting_of.Goals as goal

pub returns : goal.returns
returns c =
    let over : min (length c.args.a.now) (length c.args.b.now) ≤ c.loop-place.place = omega arith in
    meeting_over c.args.a.now c.args.b.now c.loop-place.place over ∙ c.loop-place.invariant
