use Rattle.std.proofs.Common.{sym, ◌∙◌}
use Rattle.tf_machine.proofs.candidates.is_listed_candidate.Goals as goal

pub returns-else-has : goal.returns-else-has
returns-else-has c = c.if-has.false ∙ sym ((c.requires.listed.each c.args.atom c.requires.atom).ready (sym c.has.ensures ∙ c.if-has.false))
