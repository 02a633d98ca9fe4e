use Rattle.std.proofs.Common.{arith, Some, map}
use Rattle.tf_desk.specs.State.{told_as}
use Rattle.tf_desk.proofs.StateLemmas.{told_through}
use Rattle.tf_journal.proofs.OpenLemmas.{open_lowered}
use Rattle.tf_book.specs.Shelf.{desk_of}
use Rattle.tf_commands.specs.Asking.{WasAsked}
use Rattle.tf_commands.specs.Books.{ran, RunsAnew}
use Rattle.tf_commands.proofs.CountLemmas.{goes_reaches, ran_causes, unbegun_causes}
use Rattle.tf_commands.proofs.PromiseLemmas.{begun_promised}
use Rattle.tf_commands.proofs.recording.run_in.Goals as goal
use Rattle.tf_desk.proofs.CountLemmas.{rises_later}

pub returns-in-Ok-clause-runs : goal.returns-in-Ok-clause-runs
returns-in-Ok-clause-runs g c =
    let D = g.K.Desk in
    let here = g.met.K.Desk g.world.𝓛 g.world.𝓜 g.world.𝓡 ((λ s x. x), (λ x. x), (λ x. x), λ x. x) in
    let now = c.run_book.result.desk in
    λ name entry seen so.
    told_through (λ before. RunsAnew g.P.Performer.gives c.args.request.now (WasAsked (D.state (desk_of c.args.shelf)) (D.state now)) (Some (map g.P.Performer.did c.run_book.new.hands.items)) name c.args.shelf.elements c.args.machine.plan before (D.state now) c.run_book.result.status) (told_as (g.K.Desk.state seen) (g.K.Desk.state entry))
    c.run_book.ensures.runs.continues.extends.tells
    (ran (begun_promised D.state g.P.Performer.gives c.args.request.now _ _ _ name c.args.shelf.elements c.args.machine.plan (told_as (D.state c.in-Ok.book.journal.desk) (g.K.Desk.state entry)) c.in-Ok.book (D.state now) c.run_book.result.status
    (c.in-Ok.ensures.begins name entry seen so) c.run_book.ensures.runs
    (record { there = λ told picked. here.picked_is_there now name told picked; reads = λ told bytes is. here.reads_left now name bytes told is })
    c.in-Ok.ensures.ready.1 (λ rose. rises_later (D.state (desk_of c.args.shelf)).asks (D.state c.in-Ok.book.journal.desk).asks (D.state now).asks (omega (arith, c.in-Ok.ensures.goes.does.on_disk.asks)) rose)))

pub returns-in-Ok-clause-causes : goal.returns-in-Ok-clause-causes
returns-in-Ok-clause-causes g c =
    let r = c.run_book.ensures.runs in
    ran_causes (goes_reaches c.in-Ok.ensures.goes) r.continues r.ended (omega arith) c.run_book.ensures.apart

pub returns-in-Err-clause-runs : goal.returns-in-Err-clause-runs
returns-in-Err-clause-runs g c = λ name entry seen so.
    let D = g.K.Desk in
    let mid = D.state c.in-Err.desk in
    told_through (λ before. RunsAnew g.P.Performer.gives c.args.request.now (WasAsked (D.state (desk_of c.args.shelf)) (D.state c.say_unbegun.result.desk)) (Some (map g.P.Performer.did c.args.hands.now.items)) name c.args.shelf.elements c.args.machine.plan before (D.state c.say_unbegun.result.desk) c.say_unbegun.result.status) (told_as (g.K.Desk.state seen) (g.K.Desk.state entry))
    c.say_unbegun.ensures.says.says.tells
    (c.say_unbegun.ensures.anew c.args.request.now (D.state (desk_of c.args.shelf)).asks (map g.P.Performer.did c.args.hands.now.items) name entry c.in-Err.desk (desk_of c.args.shelf) c.args.shelf.elements c.args.machine.plan (open_lowered mid c.in-Err.ensures.goes.falls so.opened)
    (c.in-Err.ensures.unbegun name entry seen so) c.in-Err.ensures.fails c.requires.idle)

pub returns-in-Err-clause-causes : goal.returns-in-Err-clause-causes
returns-in-Err-clause-causes g c =
    unbegun_causes g.K.Desk.state c.args.shelf.elements c.args.machine.plan c.in-Err.fault _ c.in-Err.desk c.say_unbegun.result.desk c.say_unbegun.result.status c.in-Err.ensures.goes c.in-Err.ensures.fails c.say_unbegun.ensures.says
