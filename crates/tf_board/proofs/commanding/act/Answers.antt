use Rattle.std.proofs.Common.{ap, Ok, Err, refl}
use Rattle.tf_desk.specs.State.{DeskState, told_as}
use Rattle.tf_board.specs.Does.{applied_text, unopened}
use Rattle.tf_board.specs.Board.{refuses_id}
use Rattle.tf_board.specs.declared.calls.BoardRequest.TheVariants as request
use Rattle.tf_board.specs.declared.calls.JobCall.TheVariants as call
use Rattle.tf_board.proofs.ActLemmas.{reached_back, acted_does, act_failed, act_causes, act_on_disk}
use Rattle.tf_board.proofs.DeskLaws.{KeepsLaws}
use Rattle.tf_board.proofs.EndLemmas.{unopened_causes, never_failed}
use Rattle.tf_board.proofs.ToldLemmas.{tells_since, does_to_end, causes_to_end}
use Rattle.tf_board.proofs.commanding.act.Goals as goal

pub returns-in-Err-clause-does : goal.returns-in-Err-clause-does
returns-in-Err-clause-does g c =
    let D = g.K.Desk in
    does_to_end (D.state c.args.desk) (D.state c.in-Err.desk) c.end_unopened.ensures.concludes.extends.tells
    (unopened (c.end_unopened.ensures.ends c.args.file.now c.args.desk c.in-Err.desk c.in-Err.ensures.opens))

pub returns-in-Err-clause-causes : goal.returns-in-Err-clause-causes
returns-in-Err-clause-causes g c =
    let D = g.K.Desk in
    causes_to_end (D.state c.args.desk) (D.state c.in-Err.desk) (unopened_causes c.in-Err.ensures.opens c.end_unopened.ensures.concludes c.end_unopened.ensures.failed)

pub returns-in-Ok-act-clause-does : goal.returns-in-Ok-act-clause-does
returns-in-Ok-act-clause-does g c =
    let D = g.K.Desk in
    let entry : DeskState = told_as (D.state c.in-Ok.board.journal.desk) (D.state c.args.desk) in
    does_to_end (D.state c.args.desk) (D.state c.in-Ok.board.journal.desk) (tells_since D.state c.end_with_text.ensures.concludes c.close.ensures
    (act_on_disk D.state c.in-Ok.board c.act.new.self (refuses_id c.in-Ok.board.past c.args.action c.args.id.now c.args.owner.now)
    c.args.action c.args.id.now c.args.owner.now (Ok tt) c.in-Ok-act.ensures).tells)
    (acted_does D.state c.args.file.now entry (request.Call (call.Apply c.args.action c.args.id.now c.args.owner.now)) (D.state c.end_with_text.result.0) c.in-Ok.board c.act.new.self (refuses_id c.in-Ok.board.past c.args.action c.args.id.now c.args.owner.now)
    c.args.action c.args.id.now c.args.owner.now c.end_with_text.result.1 c.in-Ok.ensures.opens refl c.in-Ok-act.ensures
    (λ past pending after r. c.end_with_text.ensures.reached (applied_text c.args.action c.args.id.now c.args.owner.now) c.applied_line-text.ensures c.args.file.now past pending after c.args.desk c.in-Ok.board.journal.desk
    (reached_back D.state c.args.file.now entry c.close.ensures r)))

pub returns-in-Ok-act-clause-causes : goal.returns-in-Ok-act-clause-causes
returns-in-Ok-act-clause-causes g c =
    let D = g.K.Desk in
    let entry : DeskState = told_as (D.state c.in-Ok.board.journal.desk) (D.state c.args.desk) in
    causes_to_end (D.state c.args.desk) (D.state c.in-Ok.board.journal.desk)
    (act_causes D.state c.args.file.now entry c.close.result (D.state c.end_with_text.result.0) c.in-Ok.board c.act.new.self (refuses_id c.in-Ok.board.past c.args.action c.args.id.now c.args.owner.now)
    c.args.action c.args.id.now c.args.owner.now (Ok tt) c.end_with_text.result.1 c.in-Ok.ensures.opens c.in-Ok-act.ensures c.close.ensures c.end_with_text.ensures.concludes (λ is. absurd (never_failed c.end_with_text.ensures.status (λ no. cc) is)))

pub returns-in-Err-act-clause-does : goal.returns-in-Err-act-clause-does
returns-in-Err-act-clause-does g c =
    let D = g.K.Desk in
    let entry : DeskState = told_as (D.state c.in-Ok.board.journal.desk) (D.state c.args.desk) in
    let laws : KeepsLaws D.state =
    record { tells_shown = g.met.K.Desk.tells_shown; picked_is_there = g.met.K.Desk.picked_is_there; reads_left = g.met.K.Desk.reads_left; counts_now = g.met.K.Desk.counts_now; only_now = g.met.K.Desk.only_now } in
    does_to_end (D.state c.args.desk) (D.state c.in-Ok.board.journal.desk) (tells_since D.state c.fail.ensures.concludes c.close-in-Err-act.ensures
    (act_on_disk D.state c.in-Ok.board c.act.new.self (refuses_id c.in-Ok.board.past c.args.action c.args.id.now c.args.owner.now)
    c.args.action c.args.id.now c.args.owner.now (Err c.in-Err-act.fault) c.in-Err-act.ensures).tells)
    (act_failed D.state c.args.file.now entry (request.Call (call.Apply c.args.action c.args.id.now c.args.owner.now)) (D.state c.fail.result.0) c.in-Ok.board c.act.new.self (refuses_id c.in-Ok.board.past c.args.action c.args.id.now c.args.owner.now)
    c.args.action c.args.id.now c.args.owner.now c.in-Err-act.fault c.fail.result.1 c.in-Ok.ensures.opens refl c.in-Err-act.ensures
    (λ past pending after r. c.fail.ensures.ends c.args.file.now past pending after c.args.desk c.in-Ok.board.journal.desk (reached_back D.state c.args.file.now entry c.close-in-Err-act.ensures r))
    c.fail.ensures.stopped laws)

pub returns-in-Err-act-clause-causes : goal.returns-in-Err-act-clause-causes
returns-in-Err-act-clause-causes g c =
    let D = g.K.Desk in
    let entry : DeskState = told_as (D.state c.in-Ok.board.journal.desk) (D.state c.args.desk) in
    causes_to_end (D.state c.args.desk) (D.state c.in-Ok.board.journal.desk)
    (act_causes D.state c.args.file.now entry c.close-in-Err-act.result (D.state c.fail.result.0) c.in-Ok.board c.act.new.self (refuses_id c.in-Ok.board.past c.args.action c.args.id.now c.args.owner.now)
    c.args.action c.args.id.now c.args.owner.now (Err c.in-Err-act.fault) c.fail.result.1 c.in-Ok.ensures.opens c.in-Err-act.ensures c.close-in-Err-act.ensures
    c.fail.ensures.concludes (λ is. ap (λ f. Err f) (c.fail.ensures.failed is)))
