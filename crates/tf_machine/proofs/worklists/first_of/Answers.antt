use Rattle.std.proofs.Common.{sym, ◌∙◌, arith}
use Rattle.tf_links.specs.Bits.{has, room}
use Rattle.tf_numbers.proofs.BelowLemmas.{first_before}
use Rattle.tf_machine.proofs.worklists.first_of.Goals as goal

pub returns-then-first-count-clause-before : goal.returns-then-first-count-clause-before
returns-then-first-count-clause-before c = λ a below. first_before (room c.args.set.now) (has c.args.set.now) c.in-Some.first a (sym c.first.ensures ∙ c.in-Some.is) below

pub returns-else-first-count-clause-before : goal.returns-else-first-count-clause-before
returns-else-first-count-clause-before c = λ a below. first_before (room c.args.set.now) (has c.args.set.now) c.in-Some.first a (sym c.first.ensures ∙ c.in-Some.is) (omega (arith, below, c.if-first-count.false))
