use Rattle.std.proofs.Common.{ap, refl, List, ◌∙◌, arith}
use Rattle.tf_details.specs.Elements.{Element}
use Rattle.tf_book.specs.Book.{begun_contents}
use Rattle.tf_commands.proofs.TrialLemmas.{tried_run, tried_exhausted, tried_unbegun_on, start_said, unbegun_causes, causes_run, stays_run, stays_unbegun, tells_run}
use Rattle.tf_commands.proofs.trying.try_with.Goals as goal
use Rattle.tf_desk.proofs.CountLemmas.{rises_later}

pub returns-in-Ok-start-clause-tried : goal.returns-in-Ok-start-clause-tried
returns-in-Ok-start-clause-tried g c =
    let D = g.K.Desk in
    let e = c.in-Ok-start.ensures in
    let same = e.volatile c.in-Ok.ensures.volatile ∙ c.in-Ok.ensures.desk in
    tried_run D.state g.P.Performer.gives c.args.request.now _ _ _ c.args.machine.plan c.args.desk c.in-Ok-start.book (D.state c.run_book.result.desk) c.run_book.result.status
    c.requires.said e.begun.plan_is e.begun.past (e.begun.contents ∙ ap (λ (l : List Element). begun_contents l c.args.machine.plan) c.in-Ok.ensures.none)
    same c.run_book.ensures.runs
    (λ rose. rises_later (D.state c.args.desk).asks (D.state c.in-Ok-start.book.journal.desk).asks _ (omega (arith, ap (λ (k : g.row.K.Denot). (D.state k).asks) same)) rose)

pub returns-in-Ok-start-clause-causes : goal.returns-in-Ok-start-clause-causes
returns-in-Ok-start-clause-causes g c =
    causes_run g.K.Desk.state c.args.desk (c.in-Ok-start.ensures.volatile c.in-Ok.ensures.volatile ∙ c.in-Ok.ensures.desk) c.run_book.ensures.runs c.run_book.ensures.apart

pub returns-in-Ok-start-clause-stays : goal.returns-in-Ok-start-clause-stays
returns-in-Ok-start-clause-stays g c =
    stays_run g.K.Desk.state c.args.desk (c.in-Ok-start.ensures.volatile c.in-Ok.ensures.volatile ∙ c.in-Ok.ensures.desk)
    (c.in-Ok-start.ensures.begun.volatile ∙ c.in-Ok.ensures.volatile) c.run_book.ensures.runs

pub returns-in-Err-start-clause-stays : goal.returns-in-Err-start-clause-stays
returns-in-Err-start-clause-stays g c =
    let D = g.K.Desk in
    let e = c.in-Err-start.ensures in
    stays_unbegun D.state c.args.desk c.in-Err-start.desk (D.state c.say_unbegun.result.desk) c.say_unbegun.result.status (e.volatile c.in-Ok.ensures.volatile ∙ c.in-Ok.ensures.desk)
    c.say_unbegun.ensures.says

pub returns-in-Err-start-clause-tried : goal.returns-in-Err-start-clause-tried
returns-in-Err-start-clause-tried g c =
    let e = c.in-Err-start.ensures in
    tried_unbegun_on g.K.Desk.state g.P.Performer.gives c.args.request.now.want _ _ c.in-Ok.shelf c.args.machine.plan c.in-Err-start.fault c.args.desk _ c.in-Err-start.desk (g.K.Desk.state c.say_unbegun.result.desk) c.say_unbegun.result.status
    c.in-Ok.ensures.none (e.volatile c.in-Ok.ensures.volatile ∙ c.in-Ok.ensures.desk) e.fails c.say_unbegun.ensures.says c.requires.idle

pub returns-in-Err-start-clause-causes : goal.returns-in-Err-start-clause-causes
returns-in-Err-start-clause-causes g c =
    let D = g.K.Desk in
    let e = c.in-Err-start.ensures in
    let told = start_said D.state c.in-Ok.shelf c.args.machine.plan c.in-Err-start.fault _ c.in-Err-start.desk (D.state c.say_unbegun.result.desk) c.say_unbegun.result.status e.fails c.say_unbegun.ensures.says in
    unbegun_causes D.state c.args.desk c.in-Err-start.desk (D.state c.say_unbegun.result.desk) c.say_unbegun.result.status (e.volatile c.in-Ok.ensures.volatile ∙ c.in-Ok.ensures.desk) c.say_unbegun.ensures.says
    (rw c.in-Ok.ensures.desk at told)

pub returns-in-Err-clause-tried : goal.returns-in-Err-clause-tried
returns-in-Err-clause-tried g c =
    tried_exhausted g.P.Performer.gives c.args.request.now.want _ _ c.args.machine.plan (g.K.Desk.state c.args.desk).shown (g.K.Desk.state c.in-Err.desk).shown 9
    refl (ap (λ (k : g.row.K.Denot). (g.K.Desk.state k).shown) c.in-Err.ensures.back) c.requires.idle

pub returns-in-Ok-start-clause-tells : goal.returns-in-Ok-start-clause-tells
returns-in-Ok-start-clause-tells g c =
    tells_run g.K.Desk.state c.args.desk (c.in-Ok-start.ensures.volatile c.in-Ok.ensures.volatile ∙ c.in-Ok.ensures.desk) c.run_book.ensures.runs

pub returns-in-Err-start-clause-tells : goal.returns-in-Err-start-clause-tells
returns-in-Err-start-clause-tells g c =
    let e = c.in-Err-start.ensures in
    c.say_unbegun.ensures.says.says.tells ∙ ap (λ (k : g.row.K.Denot). (g.K.Desk.state k).tells) (e.volatile c.in-Ok.ensures.volatile ∙ c.in-Ok.ensures.desk)
