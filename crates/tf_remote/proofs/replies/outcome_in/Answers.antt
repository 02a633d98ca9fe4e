use Rattle.tf_remote.proofs.ReplyLemmas.{unread_outcome}
use Rattle.tf_remote.proofs.replies.outcome_in.Goals as goal

pub returns-in-Err : goal.returns-in-Err
returns-in-Err c = unread_outcome c.args.order.now c.args.id c.args.frame.now c.in-Err.stop c.in-Err.ensures
