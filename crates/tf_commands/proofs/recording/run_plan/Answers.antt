use Rattle.std.proofs.Common.{refl, arith}
use Rattle.tf_desk.specs.State.{told_as}
use Rattle.tf_desk.proofs.StateLemmas.{told_through}
use Rattle.tf_book.specs.Shelf.{desk_of}
use Rattle.tf_commands.specs.Books.{unopened, Unopened}
use Rattle.tf_commands.proofs.AskedLemmas.{runs_more}
use Rattle.tf_commands.proofs.CountLemmas.{untouched_reaches, said_causes, unopened_hired}
use Rattle.tf_commands.proofs.recording.run_plan.Goals as goal
use Rattle.tf_desk.proofs.CountLemmas.{rises_later}

pub returns-in-Ok-clause-runs : goal.returns-in-Ok-clause-runs
returns-in-Ok-clause-runs g c =
    let D = g.K.Desk in
    let e = c.in-Ok.ensures in
    let run = c.run_anew in
    runs_more _ c.args.request.now _ _ c.args.name.now _ _ (told_as (D.state run.result.desk) (D.state c.args.desk)) (D.state run.result.desk) _ run.result.status
    (λ rose. rises_later (D.state c.args.desk).asks _ (D.state run.result.desk).asks e.asks rose)
    (run.ensures.runs c.args.name.now c.args.desk (desk_of c.in-Ok.shelf) (record { opened = e.opened.does; found = e.loads }))

pub returns-in-Err-clause-runs : goal.returns-in-Err-clause-runs
returns-in-Err-clause-runs g c =
    let D = g.K.Desk in
    let r = c.refuse_book in
    unopened refl (told_through (λ before. Unopened c.args.name.now before (D.state r.result.desk) r.result.status) (D.state c.args.desk) r.ensures.said.says.tells
    (r.ensures.unopened c.args.name.now c.args.desk c.in-Err.desk c.in-Err.ensures.unopened.does c.in-Err.ensures.refused))

pub returns-in-Err-clause-causes : goal.returns-in-Err-clause-causes
returns-in-Err-clause-causes g c =
    let e = c.in-Err.ensures in
    let r = c.refuse_book in
    said_causes (untouched_reaches e.unopened e.asks) r.ensures.said (omega arith) (λ is. e.cause (r.ensures.failed is))
    (λ is. absurd (unopened_hired c.args.name.now (told_as (g.K.Desk.state c.in-Err.desk) (g.K.Desk.state c.args.desk)) (g.K.Desk.state r.result.desk) r.result.status
    (r.ensures.unopened c.args.name.now c.args.desk c.in-Err.desk e.unopened.does e.refused) is))
