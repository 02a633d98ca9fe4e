use Rattle.std.proofs.Common.{rules}
use Rattle.tf_tasks.proofs.ShownLemmas.{below_is_text}
use Rattle.tf_tasks.proofs.numbers.compare_numbers.Goals as goal

pub unreachable-requires : goal.unreachable-requires
unreachable-requires c =
    let shown = below_is_text c.args.number c.args.bound c.ranges.number c.ranges.bound in
    search rules
