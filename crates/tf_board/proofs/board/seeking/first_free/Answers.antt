use Rattle.std.proofs.Common.{Some, sym, ap, arith, ◌∙◌, Bool}
use Rattle.std.specs.Prelude.{◌&&◌}
use Rattle.std.proofs.lemmas.Option.{slice_get-get_or}
use Rattle.tf_board.specs.Board.{is_listed}
use Rattle.tf_board.specs.Seeking.{is_takable}
use Rattle.tf_board.specs.declared.jobs.Job.{Job}
use Rattle.tf_board.proofs.SeekingLemmas.{sought_found, sought_on}
use Rattle.tf_board.proofs.StartLemmas.{none_before}
use Rattle.tf_board.proofs.board.seeking.first_free.Goals as goal

pub returns-then-is_free_at : goal.returns-then-is_free_at
returns-then-is_free_at c =
    let jobs = c.args.kept.now.jobs.items in
    let i = c.loop-place.place in
    let job = c.index.result.now in
    let p : Job → Bool = λ job. is_listed c.args.priority job && is_takable jobs c.args.skip.now job in
    let at = slice_get-get_or jobs i job (omega (arith, c.loop-place-test.true, c.len-place-end.ensures)) ∙ ap Some (sym c.index.ensures) in
    sym (sought_found p jobs i job at c.loop-place.invariant (sym (c.is_free_at.ensures job at) ∙ c.if-is_free_at.true))

pub loop-place-preserved : goal.loop-place-preserved
loop-place-preserved c =
    let jobs = c.args.kept.now.jobs.items in
    let p : Job → Bool = λ job. is_listed c.args.priority job && is_takable jobs c.args.skip.now job in
    sought_on p jobs c.loop-place.place (omega (arith, c.loop-place-test.true, c.len-place-end.ensures)) c.loop-place.invariant (λ job at. sym (c.is_free_at.ensures job at) ∙ c.if-is_free_at.false)

pub loop-place-init : goal.loop-place-init
loop-place-init c = none_before c.args.kept.now.jobs.items c.args.skip.now c.args.priority c.args.kept.now.free.items c.args.start c.requires.side_by_side.free c.requires.start
