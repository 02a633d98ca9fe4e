use Rattle.std.proofs.Common.{refl}
use Rattle.tf_desk.specs.State.{told_as}
use Rattle.tf_desk.proofs.StateLemmas.{told_through}
use Rattle.tf_ports.specs.Ports.{gives_by}
use Rattle.tf_commands.specs.Asking.{WasAsked}
use Rattle.tf_commands.specs.Books.{unfound_again, Resumes}
use Rattle.tf_commands.proofs.BookLemmas.{resumed_over}
use Rattle.tf_commands.proofs.AskedLemmas.{resumes_more}
use Rattle.tf_commands.proofs.CountLemmas.{open_reaches, causes_from, causes_beside, unfound_hired}
use Rattle.tf_commands.proofs.resuming.resume_book.Goals as goal
use Rattle.tf_desk.proofs.CountLemmas.{rises_later}

pub returns-in-Ok-clause-resumes : goal.returns-in-Ok-clause-resumes
returns-in-Ok-clause-resumes g c =
    let D = g.K.Desk in
    let book = c.in-Ok.book in
    let e = c.in-Ok.ensures in
    resumes_more _ c.args.request.now _ _ c.args.name.now c.args.wanted.now _ _ (told_as (D.state c.go_on.result.desk) (D.state c.args.desk)) (D.state c.go_on.result.desk) c.go_on.result.status
    (λ rose. rises_later (D.state c.args.desk).asks (D.state book.journal.desk).asks (D.state c.go_on.result.desk).asks e.asks rose)
    (told_through (λ before. Resumes (gives_by g.W.Hand.Performer.gives g.W.Far.Performer.gives c.args.request.now.want) c.args.request.now (WasAsked (D.state book.journal.desk) (D.state c.go_on.result.desk)) c.args.name.now c.args.wanted.now (g.W.Crew.told c.args.crew.now) (g.W.Crew.told c.go_on.new.crew) before (D.state c.go_on.result.desk) c.go_on.result.status) (D.state c.args.desk) c.go_on.ensures.tells
    (resumed_over book e.ready.runs e.holds (c.go_on.ensures.goes c.args.name.now c.args.wanted.now c.args.desk book.journal.desk e.opened.does e.holds)))

pub returns-in-Ok-clause-causes : goal.returns-in-Ok-clause-causes
returns-in-Ok-clause-causes g c = causes_from (g.K.Desk.state c.go_on.result.desk) (open_reaches c.in-Ok.ensures.opened c.in-Ok.ensures.asks) c.go_on.ensures.causes

pub returns-in-Err-clause-resumes : goal.returns-in-Err-clause-resumes
returns-in-Err-clause-resumes g c = unfound_again refl c.in-Err.ensures.unfound

pub returns-in-Err-clause-causes : goal.returns-in-Err-clause-causes
returns-in-Err-clause-causes g c =
    causes_beside (g.K.Desk.state c.args.desk) (g.K.Desk.state c.in-Err.over.desk) _ c.in-Err.ensures.causes (unfound_hired c.args.name.now c.args.wanted.now (told_as (g.K.Desk.state c.in-Err.over.desk) (g.K.Desk.state c.args.desk)) (g.K.Desk.state c.in-Err.over.desk) c.in-Err.over.status c.in-Err.ensures.unfound)
