use Rattle.tf_shared_board.proofs.AskLemmas.{acted_err}
use Rattle.tf_shared_board.proofs.asking.act.Goals as goal

pub returns-in-Err : goal.returns-in-Err
returns-in-Err g c =
    acted_err g.K.Desk.state _ c.args.board.now c.act_on.new.self c.args.action c.args.id.now c.args.owner.now c.in-Err.fault c.in-Err.ensures
