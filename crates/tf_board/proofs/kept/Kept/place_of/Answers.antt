use Rattle.std.proofs.Common.{◌∙◌}
use Rattle.tf_board.proofs.KeptLemmas.{id_placed}
use Rattle.tf_board.proofs.kept.Kept.place_of.Goals as goal

pub returns-clause-is : goal.returns-clause-is
returns-clause-is c = c.place_in.ensures.is ∙ id_placed c.args.self.now.jobs.items c.deref.result.now c.args.id.now (c.deref.ensures.value ∙ c.requires.side_by_side.ids)
