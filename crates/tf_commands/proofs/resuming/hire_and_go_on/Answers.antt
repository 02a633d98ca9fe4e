use Rattle.std.proofs.Common.{inr, refl, sym, map, arith}
use Rattle.tf_desk.specs.State.{told_as}
use Rattle.tf_commands.specs.Runs.{nobody, went_on}
use Rattle.tf_commands.proofs.BookLemmas.{untouched_by, unhired_so}
use Rattle.tf_commands.proofs.CountLemmas.{reaches_itself, ran_causes}
use Rattle.tf_commands.proofs.PromiseLemmas.{resumed_promised}
use Rattle.tf_commands.proofs.WantLemmas.{near_count, far_count, hires_back, long_back, promised_near, promised_far}
use Rattle.tf_commands.proofs.resuming.hire_and_go_on.Goals as goal

pub returns-in-Ok-Local-clause-goes : goal.returns-in-Ok-Local-clause-goes
returns-in-Ok-Local-clause-goes g c =
    let D = g.K.Desk in
    let here = g.met.K.Desk g.world.𝓛 g.world.𝓜 g.world.𝓡 ((λ s x. x), (λ x. x), (λ x. x), λ x. x) in
    let now = c.run_book-over.result.desk in
    let e = c.in-Ok-Local in
    λ name wanted entry seen opened holds.
    went_on _ (inr (
      c.requires.going,
      hires_back c.args.request.now.want _ _ _ (map g.W.Hand.Performer.did c.run_book-over.new.hands.items) e.ensures.hired c.dismiss.ensures.back (long_back _ c.run_book-over.new.hands _ _ c.run_book-over.ensures.back (near_count c.args.request.now.want e.field-0 e.hands e.field-0-is e.ensures.all)),
      refl,
    ))
    (promised_near _ c.args.request.now _ _ e.field-0 e.hands e.field-0-is e.ensures.all c.dismiss.ensures.back
    (resumed_promised D.state _ c.args.request.now _ _ name wanted (told_as (g.K.Desk.state seen) (g.K.Desk.state entry)) c.args.book (D.state now) c.run_book-over.result.status
    opened c.requires.kept holds c.run_book-over.ensures.runs
    (record { there = λ told picked. here.picked_is_there now name told picked; reads = λ told bytes is. here.reads_left now name bytes told is }) c.requires.speaks))

pub returns-in-Ok-Remote-clause-goes : goal.returns-in-Ok-Remote-clause-goes
returns-in-Ok-Remote-clause-goes g c =
    let D = g.K.Desk in
    let here = g.met.K.Desk g.world.𝓛 g.world.𝓜 g.world.𝓡 ((λ s x. x), (λ x. x), (λ x. x), λ x. x) in
    let run = c.run_book-over-in-Ok-Remote in
    let now = run.result.desk in
    let e = c.in-Ok-Remote in
    λ name wanted entry seen opened holds.
    went_on _ (inr (
      c.requires.going,
      hires_back c.args.request.now.want _ _ _ (map g.W.Far.Performer.did run.new.hands.items) e.ensures.hired c.dismiss-in-Ok-Remote.ensures.back (long_back _ run.new.hands _ _ run.ensures.back (far_count c.args.request.now.want e.field-0 e.hands e.field-0-is e.ensures.all)),
      refl,
    ))
    (promised_far _ c.args.request.now _ _ e.field-0 e.hands e.field-0-is e.ensures.all c.dismiss-in-Ok-Remote.ensures.back
    (resumed_promised D.state _ c.args.request.now _ _ name wanted (told_as (g.K.Desk.state seen) (g.K.Desk.state entry)) c.args.book (D.state now) run.result.status
    opened c.requires.kept holds run.ensures.runs
    (record { there = λ told picked. here.picked_is_there now name told picked; reads = λ told bytes is. here.reads_left now name bytes told is }) c.requires.speaks))

pub returns-in-Ok-Local-clause-causes : goal.returns-in-Ok-Local-clause-causes
returns-in-Ok-Local-clause-causes g c =
    let runs = c.run_book-over.ensures.runs in
    ran_causes reaches_itself runs.continues runs.ended (omega (arith, c.in-Ok-Local.ensures.no_fall, c.dismiss.ensures.faults)) c.run_book-over.ensures.apart

pub returns-in-Ok-Remote-clause-causes : goal.returns-in-Ok-Remote-clause-causes
returns-in-Ok-Remote-clause-causes g c =
    let run = c.run_book-over-in-Ok-Remote in
    let runs = run.ensures.runs in
    ran_causes reaches_itself runs.continues runs.ended (omega (arith, c.in-Ok-Remote.ensures.no_fall, c.dismiss-in-Ok-Remote.ensures.faults)) run.ensures.apart

pub returns-in-Err-clause-goes : goal.returns-in-Err-clause-goes
returns-in-Err-clause-goes g c = λ name wanted entry seen opened holds.
    nobody c.requires.going
    (unhired_so c.in-Err.ensures.not_hired (c.say_unhired.ensures.refuses name entry seen (untouched_by g.K.Desk.state _ _ (sym c.close.ensures.desk) opened.untouched)))

pub returns-in-Ok-Local-clause-hires : goal.returns-in-Ok-Local-clause-hires
returns-in-Ok-Local-clause-hires g c =
    let e = c.in-Ok-Local in
    inr (hires_back c.args.request.now.want _ _ _ (map g.W.Hand.Performer.did c.run_book-over.new.hands.items) e.ensures.hired c.dismiss.ensures.back (long_back _ c.run_book-over.new.hands _ _ c.run_book-over.ensures.back (near_count c.args.request.now.want e.field-0 e.hands e.field-0-is e.ensures.all)))

pub returns-in-Ok-Remote-clause-hires : goal.returns-in-Ok-Remote-clause-hires
returns-in-Ok-Remote-clause-hires g c =
    let run = c.run_book-over-in-Ok-Remote in
    let e = c.in-Ok-Remote in
    inr (hires_back c.args.request.now.want _ _ _ (map g.W.Far.Performer.did run.new.hands.items) e.ensures.hired c.dismiss-in-Ok-Remote.ensures.back (long_back _ run.new.hands _ _ run.ensures.back (far_count c.args.request.now.want e.field-0 e.hands e.field-0-is e.ensures.all)))
