use Rattle.tf_board.proofs.ReadingLemmas.{read_none, read_all}
use Rattle.tf_board.proofs.recovering.read_commands.Goals as goal

pub read_back-requires-clause-none : goal.read_back-requires-clause-none
read_back-requires-clause-none g c = read_none c.none-kept.result c.none-kept.ensures

pub returns-in-Ok-clause-read : goal.returns-in-Ok-clause-read
returns-in-Ok-clause-read g c = read_all g.K.Desk.state c.args.journal.now c.read_back.new.journal.desk c.read_back.new.into c.requires.title c.in-Ok.ensures.read
