use Rattle.std.proofs.Common.{sym}
use Rattle.tf_commands.proofs.ResetLemmas.{halts_back}
use Rattle.tf_commands.proofs.resetting.stop.Goals as goal

pub returns-clause-goes : goal.returns-clause-goes
returns-clause-goes g c start to =
    halts_back g.K.Desk.state start c.args.book c.in-Some.halt (g.K.Desk.state c.say_cause-status.new.desk) c.say_cause-status.result to (sym c.in-Some.ensures)
    c.state-standing.ensures.open (rw c.close-desk.ensures.desk at c.say_cause-status.ensures.says) (record { held = c.state-standing.ensures.held; told = c.state-standing.ensures.told })
