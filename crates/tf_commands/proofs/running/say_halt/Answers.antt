use Rattle.tf_commands.proofs.RunLemmas.{halts_run}
use Rattle.tf_commands.proofs.running.say_halt.Goals as goal

pub returns-clause-runs : goal.returns-clause-runs
returns-clause-runs g c request start did stop to =
    halts_run g.K.Desk.state g.P.Performer.gives request _ did start c.args.book stop c.args.halt (g.K.Desk.state c.say_cause-status.new.desk) c.say_cause-status.result to c.requires.halted
    c.state-standing.ensures.open (rw c.close-desk.ensures.desk at c.say_cause-status.ensures.says)
