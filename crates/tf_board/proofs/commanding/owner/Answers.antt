use Rattle.std.proofs.Common.{refl, sym, ap, ◌∙◌, None, Some}
use Rattle.tf_desk.specs.State.{DeskState, told_as}
use Rattle.tf_board.specs.Does.{tells_owner, kept_text, unopened}
use Rattle.tf_board.specs.declared.board.Owner.{Owner}
use Rattle.tf_board.specs.declared.rules.Refusal.TheVariants as refusal
use Rattle.tf_board.specs.declared.calls.BoardRequest.TheVariants as request
use Rattle.tf_board.proofs.ActLemmas.{reached_back, said_does, refused_does, refused_no_disk, said_causes}
use Rattle.tf_board.proofs.EndLemmas.{unopened_causes, never_failed}
use Rattle.tf_board.proofs.ToldLemmas.{tells_since, does_to_end, causes_to_end}
use Rattle.tf_board.proofs.commanding.owner.Goals as goal

pub returns-in-Err-clause-does : goal.returns-in-Err-clause-does
returns-in-Err-clause-does g c =
    let D = g.K.Desk in
    does_to_end (D.state c.args.desk) (D.state c.in-Err.desk) c.end_unopened.ensures.concludes.extends.tells
    (unopened (c.end_unopened.ensures.ends c.args.file.now c.args.desk c.in-Err.desk c.in-Err.ensures.opens))

pub returns-in-Err-clause-causes : goal.returns-in-Err-clause-causes
returns-in-Err-clause-causes g c =
    let D = g.K.Desk in
    causes_to_end (D.state c.args.desk) (D.state c.in-Err.desk) (unopened_causes c.in-Err.ensures.opens c.end_unopened.ensures.concludes c.end_unopened.ensures.failed)

pub returns-in-NoJob-clause-does : goal.returns-in-NoJob-clause-does
returns-in-NoJob-clause-does g c =
    let D = g.K.Desk in
    let entry : DeskState = told_as (D.state c.in-Ok.board.journal.desk) (D.state c.args.desk) in
    does_to_end (D.state c.args.desk) (D.state c.in-Ok.board.journal.desk) (tells_since D.state c.fail.ensures.concludes c.close.ensures refl)
    (refused_does D.state c.args.file.now entry (request.Owner c.args.id.now) (D.state c.fail.result.0) c.in-Ok.board c.in-Ok.board refusal.NoJob c.args.id.now
    c.fault_of.result c.fail.result.1 c.in-Ok.ensures.opens refl
    (ap (λ (w : Owner). tells_owner w c.args.id.now) (sym c.owner.ensures.is ∙ c.in-NoJob.is))
    c.fault_of.ensures
    (λ past pending after r. c.fail.ensures.ends c.args.file.now past pending after c.args.desk c.in-Ok.board.journal.desk (reached_back D.state c.args.file.now entry c.close.ensures r))
    c.fail.ensures.stopped)

pub returns-in-NoJob-clause-causes : goal.returns-in-NoJob-clause-causes
returns-in-NoJob-clause-causes g c =
    let D = g.K.Desk in
    let entry : DeskState = told_as (D.state c.in-Ok.board.journal.desk) (D.state c.args.desk) in
    causes_to_end (D.state c.args.desk) (D.state c.in-Ok.board.journal.desk)
    (said_causes D.state c.args.file.now entry c.close.result (D.state c.fail.result.0) c.in-Ok.board c.fail.result.1 c.in-Ok.ensures.opens c.close.ensures c.fail.ensures.concludes
    (λ is. refused_no_disk refusal.NoJob c.args.id.now c.fault_of.result c.fault_of.ensures (c.fail.ensures.failed is)))

pub returns-in-Gone-clause-does : goal.returns-in-Gone-clause-does
returns-in-Gone-clause-does g c =
    let D = g.K.Desk in
    let entry : DeskState = told_as (D.state c.in-Ok.board.journal.desk) (D.state c.args.desk) in
    does_to_end (D.state c.args.desk) (D.state c.in-Ok.board.journal.desk) (tells_since D.state c.fail-in-Gone.ensures.concludes c.close-in-Gone.ensures refl)
    (refused_does D.state c.args.file.now entry (request.Owner c.args.id.now) (D.state c.fail-in-Gone.result.0) c.in-Ok.board c.in-Ok.board refusal.Gone c.args.id.now
    c.fault_of-in-Gone.result c.fail-in-Gone.result.1 c.in-Ok.ensures.opens refl
    (ap (λ (w : Owner). tells_owner w c.args.id.now) (sym c.owner.ensures.is ∙ c.in-Gone.is))
    c.fault_of-in-Gone.ensures
    (λ past pending after r. c.fail-in-Gone.ensures.ends c.args.file.now past pending after c.args.desk c.in-Ok.board.journal.desk (reached_back D.state c.args.file.now entry c.close-in-Gone.ensures r))
    c.fail-in-Gone.ensures.stopped)

pub returns-in-Gone-clause-causes : goal.returns-in-Gone-clause-causes
returns-in-Gone-clause-causes g c =
    let D = g.K.Desk in
    let entry : DeskState = told_as (D.state c.in-Ok.board.journal.desk) (D.state c.args.desk) in
    causes_to_end (D.state c.args.desk) (D.state c.in-Ok.board.journal.desk)
    (said_causes D.state c.args.file.now entry c.close-in-Gone.result (D.state c.fail-in-Gone.result.0) c.in-Ok.board c.fail-in-Gone.result.1 c.in-Ok.ensures.opens c.close-in-Gone.ensures c.fail-in-Gone.ensures.concludes
    (λ is. refused_no_disk refusal.Gone c.args.id.now c.fault_of-in-Gone.result c.fault_of-in-Gone.ensures (c.fail-in-Gone.ensures.failed is)))

pub returns-in-Free-clause-does : goal.returns-in-Free-clause-does
returns-in-Free-clause-does g c =
    let D = g.K.Desk in
    let entry : DeskState = told_as (D.state c.in-Ok.board.journal.desk) (D.state c.args.desk) in
    does_to_end (D.state c.args.desk) (D.state c.in-Ok.board.journal.desk) (tells_since D.state c.end_with_text.ensures.concludes c.close-in-Free.ensures refl)
    (said_does D.state c.args.file.now entry (request.Owner c.args.id.now) c.close-in-Free.result (D.state c.end_with_text.result.0) c.in-Ok.board (kept_text None) c.end_with_text.result.1
    c.in-Ok.ensures.opens c.close-in-Free.ensures
    (ap (λ (w : Owner). tells_owner w c.args.id.now) (sym c.owner.ensures.is ∙ c.in-Free.is))
    (λ past pending after r. c.end_with_text.ensures.reached (kept_text None) c.kept_line-text.ensures c.args.file.now past pending after c.args.desk c.in-Ok.board.journal.desk r))

pub returns-in-Free-clause-causes : goal.returns-in-Free-clause-causes
returns-in-Free-clause-causes g c =
    let D = g.K.Desk in
    let entry : DeskState = told_as (D.state c.in-Ok.board.journal.desk) (D.state c.args.desk) in
    causes_to_end (D.state c.args.desk) (D.state c.in-Ok.board.journal.desk)
    (said_causes D.state c.args.file.now entry c.close-in-Free.result (D.state c.end_with_text.result.0) c.in-Ok.board c.end_with_text.result.1 c.in-Ok.ensures.opens c.close-in-Free.ensures c.end_with_text.ensures.concludes
    (never_failed c.end_with_text.ensures.status (λ no. cc)))

pub returns-in-Of-clause-does : goal.returns-in-Of-clause-does
returns-in-Of-clause-does g c =
    let D = g.K.Desk in
    let entry : DeskState = told_as (D.state c.in-Ok.board.journal.desk) (D.state c.args.desk) in
    does_to_end (D.state c.args.desk) (D.state c.in-Ok.board.journal.desk) (tells_since D.state c.end_with_text-in-Of.ensures.concludes c.close-in-Of.ensures refl)
    (said_does D.state c.args.file.now entry (request.Owner c.args.id.now) c.close-in-Of.result (D.state c.end_with_text-in-Of.result.0) c.in-Ok.board (kept_text (Some c.in-Of.owner)) c.end_with_text-in-Of.result.1
    c.in-Ok.ensures.opens c.close-in-Of.ensures
    (ap (λ (w : Owner). tells_owner w c.args.id.now) (sym c.owner.ensures.is ∙ c.in-Of.is))
    (λ past pending after r. c.end_with_text-in-Of.ensures.reached (kept_text (Some c.in-Of.owner)) c.kept_line-text-in-Of.ensures c.args.file.now past pending after c.args.desk c.in-Ok.board.journal.desk r))

pub returns-in-Of-clause-causes : goal.returns-in-Of-clause-causes
returns-in-Of-clause-causes g c =
    let D = g.K.Desk in
    let entry : DeskState = told_as (D.state c.in-Ok.board.journal.desk) (D.state c.args.desk) in
    causes_to_end (D.state c.args.desk) (D.state c.in-Ok.board.journal.desk)
    (said_causes D.state c.args.file.now entry c.close-in-Of.result (D.state c.end_with_text-in-Of.result.0) c.in-Ok.board c.end_with_text-in-Of.result.1 c.in-Ok.ensures.opens c.close-in-Of.ensures c.end_with_text-in-Of.ensures.concludes
    (never_failed c.end_with_text-in-Of.ensures.status (λ no. cc)))
