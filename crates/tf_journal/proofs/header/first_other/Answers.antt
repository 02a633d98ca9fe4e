use Rattle.std.proofs.Common.{arith}
use Rattle.tf_journal.proofs.HeaderLemmas.{title_ends, title_done}
use Rattle.tf_journal.proofs.header.first_other.Goals as goal

pub returns-then-at-rest : goal.returns-then-at-rest
returns-then-at-rest c = title_ends c.args.letters.now c.args.rest.now c.loop-at.at (omega arith) (omega arith) c.loop-at.invariant.1

pub returns-then-letters-rest : goal.returns-then-letters-rest
returns-then-letters-rest c = title_done c.args.letters.now c.args.rest.now c.loop-at.at (omega arith) (omega arith) c.loop-at.invariant.1
