use Rattle.tf_board.proofs.BoardLemmas.{placed_within}
use Rattle.tf_board.proofs.kept.Kept.place_numbered.Goals as goal

pub returns-clause-is : goal.returns-clause-is
returns-clause-is c = c.place_at.ensures c.args.self.now.jobs.items c.args.id.now c.requires

pub returns-clause-within : goal.returns-clause-within
returns-clause-within c = placed_within c.args.self.now.jobs.items c.args.id.now c.place_at.result (c.place_at.ensures c.args.self.now.jobs.items c.args.id.now c.requires)
