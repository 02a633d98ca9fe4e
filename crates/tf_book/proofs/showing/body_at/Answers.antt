use Rattle.std.proofs.Common.{arith}
use Rattle.tf_book.proofs.ShowLemmas.{begins_length, begins_within}
use Rattle.tf_book.proofs.showing.body_at.Goals as goal

pub slice_bounds-result-end : goal.slice_bounds-result-end
slice_bounds-result-end c =
    omega (arith, begins_within c.args.bodies.now c.requires.0 c.args.at c.requires.1, begins_length c.args.bodies.now c.requires.0 c.args.at c.requires.1)
