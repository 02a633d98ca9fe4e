use Rattle.std.proofs.Common.{arith}
use Rattle.tf_desk.specs.State.{told_as}
use Rattle.tf_ports.specs.Ports.{gives_by}
use Rattle.tf_commands.specs.Asking.{WasAsked}
use Rattle.tf_commands.proofs.CountLemmas.{reaches_itself, ran_causes}
use Rattle.tf_commands.proofs.ResumeLemmas.{ended_so, ended_on, ended_goes}
use Rattle.tf_commands.proofs.resuming.go_on.Goals as goal

pub returns-in-Success-clause-goes : goal.returns-in-Success-clause-goes
returns-in-Success-clause-goes g c =
    let D = g.K.Desk in
    let here = g.met.K.Desk g.world.𝓛 g.world.𝓜 g.world.𝓡 ((λ s x. x), (λ x. x), (λ x. x), λ x. x) in
    let now = c.report_ended.result.desk in
    let status = c.report_ended.result.status in
    let at = c.state-state.ensures in
    λ name wanted entry seen opened holds.
    ended_goes D.state (gives_by g.W.Hand.Performer.gives g.W.Far.Performer.gives c.args.request.now.want) c.args.request.now _ name wanted (told_as (g.K.Desk.state seen) (g.K.Desk.state entry)) c.args.book (D.state now) status _ c.state-state.result
    opened holds c.requires.kept at.is (ended_so c.state-state.result c.in-Success.is)
    (ended_on D.state (gives_by g.W.Hand.Performer.gives g.W.Far.Performer.gives c.args.request.now.want) c.args.request.now (WasAsked (D.state c.args.book.journal.desk) (D.state now)) c.args.book (D.state now) status c.state-state.result
    c.requires.sound c.requires.speaks at.is (ended_so c.state-state.result c.in-Success.is) at.history (record { held = at.held; told = at.told }) at.limits at.short (c.report_ended.ensures.runs c.args.book c.requires.spoken))
    (record { there = λ told picked. here.picked_is_there now name told picked; reads = λ told bytes is. here.reads_left now name bytes told is }) c.requires.speaks

pub returns-in-Success-clause-causes : goal.returns-in-Success-clause-causes
returns-in-Success-clause-causes g c =
    let D = g.K.Desk in
    let now = D.state c.report_ended.result.desk in
    let at = c.state-state.ensures in
    let runs = ended_on D.state (gives_by g.W.Hand.Performer.gives g.W.Far.Performer.gives c.args.request.now.want) c.args.request.now (WasAsked (D.state c.args.book.journal.desk) now) c.args.book now c.report_ended.result.status c.state-state.result
    c.requires.sound c.requires.speaks at.is (ended_so c.state-state.result c.in-Success.is) at.history (record { held = at.held; told = at.told }) at.limits at.short (c.report_ended.ensures.runs c.args.book c.requires.spoken) in
    ran_causes reaches_itself runs.continues runs.ended (omega arith) c.report_ended.ensures.apart

pub returns-in-Success-clause-tells : goal.returns-in-Success-clause-tells
returns-in-Success-clause-tells g c =
    let D = g.K.Desk in
    let now = D.state c.report_ended.result.desk in
    let at = c.state-state.ensures in
    (ended_on D.state (gives_by g.W.Hand.Performer.gives g.W.Far.Performer.gives c.args.request.now.want) c.args.request.now (WasAsked (D.state c.args.book.journal.desk) now) c.args.book now c.report_ended.result.status c.state-state.result
    c.requires.sound c.requires.speaks at.is (ended_so c.state-state.result c.in-Success.is) at.history (record { held = at.held; told = at.told }) at.limits at.short (c.report_ended.ensures.runs c.args.book c.requires.spoken)).continues.extends.tells
