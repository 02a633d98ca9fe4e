use Rattle.std.proofs.Common.{◌∙◌, take, arith}
use Rattle.std.proofs.lemmas.Result.{err_from_is_err_and}
use Rattle.tf_migration.proofs.DraftLemmas.{draft_on, unborn_on, more_added, not_added}
use Rattle.tf_migration.proofs.writing.add_all.Goals as goal

pub returns-in_err-append-clause-fails : goal.returns-in_err-append-clause-fails
returns-in_err-append-clause-fails g c =
    let p = err_from_is_err_and c.from_residual.result c.from_residual.ensures.1 in
    let D = g.K.Desk in
    rw (p.1, p.2)
    (not_added D.state (D.state c.args.journal.now.desk) c.loop-body.journal c.append.new.self c.args.bodies.now c.loop-body.body-index c.bytes.result.now c.body-item.result
    c.in_err-append.field-0.0 (omega arith) (c.bytes.ensures.is ∙ c.body-item.is) c.loop-body.invariant.0 c.loop-body.invariant.1.on_disk.disk_faults c.in_err-append.ensures.fails)

pub loop-body-preserved : goal.loop-body-preserved
loop-body-preserved g c =
    let D = g.K.Desk in
    let place = c.loop-body.body-index in
    let body = c.bytes.result.now in
    let held = c.args.bodies.now in
    let d = c.loop-body.invariant.0 in
    let e = c.append.ensures in (
      more_added D.state c.append.new.self held place body c.body-item.result (omega arith) (c.bytes.ensures.is ∙ c.body-item.is)
          (draft_on D.state c.loop-body.journal c.append.new.self (take place held) body d c.in_ok-append.ensures.grows c.in_ok-append.ensures.drafts e.goes.on_disk.tells),
      unborn_on D.state (D.state c.args.journal.now.desk) c.loop-body.journal c.append.new.self (take place held) d c.loop-body.invariant.1 e.goes e.unborn,
    )
