use Rattle.std.proofs.Common.{◌≡◌, ℕ, ◌+◌, ◌∷◌, [], Ok, Err, refl, ap, subst}
use Rattle.std.specs.Prelude.{IfOk}
use Rattle.tf_desk.specs.State.{DeskState, told_as}
use Rattle.tf_board.specs.Does.{posted_text, answered, unopened}
use Rattle.tf_board.specs.Board.{id_of, posted}
use Rattle.tf_board.specs.declared.commands.Command.TheVariants as command
use Rattle.tf_board.specs.declared.calls.BoardRequest.TheVariants as request
use Rattle.tf_board.specs.declared.calls.JobCall.TheVariants as call
use Rattle.tf_board.proofs.ActLemmas.{reached_back, recorded_reached, recording_failed, recorded_causes}
use Rattle.tf_board.proofs.DeskLaws.{KeepsLaws}
use Rattle.tf_board.proofs.EndLemmas.{unopened_causes, never_failed}
use Rattle.tf_board.proofs.ToldLemmas.{tells_since, does_to_end, causes_to_end}
use Rattle.tf_board.proofs.commanding.post.Goals as goal

pub returns-in-Err-clause-does : goal.returns-in-Err-clause-does
returns-in-Err-clause-does g c =
    let D = g.K.Desk in
    does_to_end (D.state c.args.desk) (D.state c.in-Err.desk) c.end_unopened.ensures.concludes.extends.tells
    (unopened (c.end_unopened.ensures.ends c.args.file.now c.args.desk c.in-Err.desk c.in-Err.ensures.opens))

pub returns-in-Err-clause-causes : goal.returns-in-Err-clause-causes
returns-in-Err-clause-causes g c =
    let D = g.K.Desk in
    causes_to_end (D.state c.args.desk) (D.state c.in-Err.desk) (unopened_causes c.in-Err.ensures.opens c.end_unopened.ensures.concludes c.end_unopened.ensures.failed)

pub returns-in-Ok-post-clause-does : goal.returns-in-Ok-post-clause-does
returns-in-Ok-post-clause-does g c =
    let D = g.K.Desk in
    let entry : DeskState = told_as (D.state c.in-Ok.board.journal.desk) (D.state c.args.desk) in
    let o = c.in-Ok.ensures.opens in
    let new = command.Post c.args.name c.args.priority c.args.details in
    does_to_end (D.state c.args.desk) (D.state c.in-Ok.board.journal.desk) (tells_since D.state c.end_with_text.ensures.concludes c.close.ensures c.in-Ok-post.ensures.records.goes.on_disk.tells)
    (answered c.in-Ok.board.past o.fresh.legal c.in-Ok-post.ensures.records.recorded.legal o.found
    (c.end_with_text.ensures.reached (posted_text (id_of (posted c.in-Ok.board.past + 1) c.args.name))
    (subst (λ (n : ℕ). IfOk c.posted_line-text.result (λ t. t.items ≡ posted_text (id_of n c.args.name))) c.in-Ok-post.ensures.number c.posted_line-text.ensures)
    c.args.file.now c.in-Ok.board.past [] (new ∷ c.in-Ok.board.past) c.args.desk c.in-Ok.board.journal.desk
    (reached_back D.state c.args.file.now entry c.close.ensures
    (recorded_reached D.state c.args.file.now entry c.in-Ok-post.number o c.in-Ok-post.ensures.records))))

pub returns-in-Ok-post-clause-causes : goal.returns-in-Ok-post-clause-causes
returns-in-Ok-post-clause-causes g c =
    let D = g.K.Desk in
    let entry : DeskState = told_as (D.state c.in-Ok.board.journal.desk) (D.state c.args.desk) in
    causes_to_end (D.state c.args.desk) (D.state c.in-Ok.board.journal.desk)
    (recorded_causes D.state c.args.file.now entry c.close.result (D.state c.end_with_text.result.0) c.in-Ok.board c.post.new.self
    (command.Post c.args.name c.args.priority c.args.details) (Ok c.in-Ok-post.number) c.end_with_text.result.1 c.in-Ok.ensures.opens c.in-Ok-post.ensures.records c.close.ensures
    c.end_with_text.ensures.concludes (λ is. absurd (never_failed c.end_with_text.ensures.status (λ no. cc) is)))

pub returns-in-Err-post-clause-does : goal.returns-in-Err-post-clause-does
returns-in-Err-post-clause-does g c =
    let D = g.K.Desk in
    let entry : DeskState = told_as (D.state c.in-Ok.board.journal.desk) (D.state c.args.desk) in
    let laws : KeepsLaws D.state =
    record { tells_shown = g.met.K.Desk.tells_shown; picked_is_there = g.met.K.Desk.picked_is_there; reads_left = g.met.K.Desk.reads_left; counts_now = g.met.K.Desk.counts_now; only_now = g.met.K.Desk.only_now } in
    does_to_end (D.state c.args.desk) (D.state c.in-Ok.board.journal.desk) (tells_since D.state c.fail.ensures.concludes c.close-in-Err-post.ensures c.in-Err-post.ensures.records.goes.on_disk.tells)
    (recording_failed D.state c.args.file.now entry (request.Call (call.Post c.args.name c.args.priority c.args.details)) (D.state c.fail.result.0)
    c.in-Ok.board c.post.new.self (command.Post c.args.name c.args.priority c.args.details) c.in-Err-post.fault c.fail.result.1
    c.in-Ok.ensures.opens c.in-Err-post.ensures.records refl
    (λ past pending after r. c.fail.ensures.ends c.args.file.now past pending after c.args.desk c.in-Ok.board.journal.desk (reached_back D.state c.args.file.now entry c.close-in-Err-post.ensures r))
    c.fail.ensures.stopped laws)

pub returns-in-Err-post-clause-causes : goal.returns-in-Err-post-clause-causes
returns-in-Err-post-clause-causes g c =
    let D = g.K.Desk in
    let entry : DeskState = told_as (D.state c.in-Ok.board.journal.desk) (D.state c.args.desk) in
    causes_to_end (D.state c.args.desk) (D.state c.in-Ok.board.journal.desk)
    (recorded_causes D.state c.args.file.now entry c.close-in-Err-post.result (D.state c.fail.result.0) c.in-Ok.board c.post.new.self
    (command.Post c.args.name c.args.priority c.args.details) (Err c.in-Err-post.fault) c.fail.result.1 c.in-Ok.ensures.opens c.in-Err-post.ensures.records c.close-in-Err-post.ensures
    c.fail.ensures.concludes (λ is. ap (λ f. Err f) (c.fail.ensures.failed is)))
