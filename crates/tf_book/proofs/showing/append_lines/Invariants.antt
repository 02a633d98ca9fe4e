use Rattle.std.proofs.Common.{◌-◌, length}
use Rattle.tf_book.specs.Histories.{past_shown, HasLines}
use Rattle.tf_book.proofs.showing.append_lines.Given as goal

abbrev pub invariant-lines : goal.invariant-lines
invariant-lines l = HasLines l.plan (past_shown l.history.entries.items) l.fn.out.items l.out.items l.at l.number

abbrev pub decreases-lines : goal.decreases-lines
decreases-lines l = length l.history.bodies.items - l.at
