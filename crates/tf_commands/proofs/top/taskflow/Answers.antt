use Rattle.tf_commands.proofs.CauseLemmas.{usage_tells, refused_tells, board_tells, old_tells, log_tells, alone, works_so}
use Rattle.tf_commands.proofs.CompleteLemmas.{completes}
use Rattle.tf_commands.proofs.top.taskflow.Goals as goal

pub returns-clause-no_command : goal.returns-clause-no_command
returns-clause-no_command g c = usage_tells g.K.Desk.state _ _ _ _ _ _ _ c.answer-desk.ensures.behaviour

pub returns-clause-refused : goal.returns-clause-refused
returns-clause-refused g c = refused_tells g.K.Desk.state _ _ _ _ _ _ _ c.answer-desk.ensures.behaviour

pub returns-clause-board_refused : goal.returns-clause-board_refused
returns-clause-board_refused g c = board_tells g.K.Desk.state _ _ _ _ _ _ _ c.answer-desk.ensures.behaviour

pub returns-clause-old_book : goal.returns-clause-old_book
returns-clause-old_book g c = old_tells g.K.Desk.state _ _ _ _ _ _ _ c.answer-desk.ensures.behaviour

pub returns-clause-log_refused : goal.returns-clause-log_refused
returns-clause-log_refused g c = log_tells g.K.Desk.state _ _ _ _ _ _ _ c.answer-desk.ensures.behaviour

pub returns-clause-complete : goal.returns-clause-complete
returns-clause-complete g c command asks ready unasked unlistened none =
    completes g.K.Desk.state _ _ _ _ _ _ _ _ _ c.answer-desk.ensures.behaviour (alone _ _ _ _ (λ both. unlistened (works_so c.args.words.now both.0.0 command both.0.1 both.0.2 asks) both.1) c.answer-desk.ensures.causes) command asks ready none unasked
