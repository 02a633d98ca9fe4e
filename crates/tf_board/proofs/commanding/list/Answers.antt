use Rattle.std.proofs.Common.{refl}
use Rattle.std.specs.List.{flat_map}
use Rattle.tf_report.specs.Lines.{job_line}
use Rattle.tf_board.specs.Board.{listed}
use Rattle.tf_board.specs.declared.calls.BoardRequest.TheVariants as request
use Rattle.tf_desk.specs.State.{DeskState, told_as}
use Rattle.tf_board.specs.Does.{unopened}
use Rattle.tf_board.proofs.ActLemmas.{said_does, said_causes}
use Rattle.tf_board.proofs.EndLemmas.{unopened_causes, never_failed}
use Rattle.tf_board.proofs.ToldLemmas.{tells_since, does_to_end, causes_to_end}
use Rattle.tf_board.proofs.commanding.list.Goals as goal

pub returns-in-Err-clause-does : goal.returns-in-Err-clause-does
returns-in-Err-clause-does g c =
    let D = g.K.Desk in
    does_to_end (D.state c.args.desk) (D.state c.in-Err.desk) c.end_unopened.ensures.concludes.extends.tells
    (unopened (c.end_unopened.ensures.ends c.args.file.now c.args.desk c.in-Err.desk c.in-Err.ensures.opens))

pub returns-in-Err-clause-causes : goal.returns-in-Err-clause-causes
returns-in-Err-clause-causes g c =
    let D = g.K.Desk in
    causes_to_end (D.state c.args.desk) (D.state c.in-Err.desk) (unopened_causes c.in-Err.ensures.opens c.end_unopened.ensures.concludes c.end_unopened.ensures.failed)

pub returns-clause-does : goal.returns-clause-does
returns-clause-does g c =
    let D = g.K.Desk in
    let entry : DeskState = told_as (D.state c.in-Ok.board.journal.desk) (D.state c.args.desk) in
    does_to_end (D.state c.args.desk) (D.state c.in-Ok.board.journal.desk) (tells_since D.state c.end_with_text.ensures.concludes c.close.ensures refl)
    (said_does D.state c.args.file.now entry request.List c.close.result (D.state c.end_with_text.result.0) c.in-Ok.board (flat_map job_line (listed c.in-Ok.board.past)) c.end_with_text.result.1
    c.in-Ok.ensures.opens c.close.ensures refl
    (λ past pending after r. c.end_with_text.ensures.reached (flat_map job_line (listed c.in-Ok.board.past)) c.jobs_text-text.ensures c.args.file.now past pending after c.args.desk c.in-Ok.board.journal.desk r))

pub returns-clause-causes : goal.returns-clause-causes
returns-clause-causes g c =
    let D = g.K.Desk in
    let entry : DeskState = told_as (D.state c.in-Ok.board.journal.desk) (D.state c.args.desk) in
    causes_to_end (D.state c.args.desk) (D.state c.in-Ok.board.journal.desk)
    (said_causes D.state c.args.file.now entry c.close.result (D.state c.end_with_text.result.0) c.in-Ok.board c.end_with_text.result.1 c.in-Ok.ensures.opens c.close.ensures c.end_with_text.ensures.concludes (never_failed c.end_with_text.ensures.status (λ no. cc)))
