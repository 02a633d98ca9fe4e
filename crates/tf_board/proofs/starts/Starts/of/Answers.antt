use Rattle.std.proofs.Common.{◌∙◌}
use Rattle.tf_board.proofs.StartLemmas.{start_is}
use Rattle.tf_board.proofs.starts.Starts.of.Goals as goal

pub returns : goal.returns
returns c = λ free are. c.unwrap_or.ensures ∙ start_is c.args.self.now free c.args.priority c.rank.result are c.rank.ensures.is
