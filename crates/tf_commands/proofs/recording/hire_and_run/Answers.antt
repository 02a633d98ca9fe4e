use Rattle.std.proofs.Common.{inl, inr, sym, ap, ◌∙◌, map}
use Rattle.tf_desk.specs.State.{told_as}
use Rattle.tf_desk.proofs.StateLemmas.{told_still}
use Rattle.tf_commands.specs.Books.{Unhired}
use Rattle.tf_commands.proofs.BookLemmas.{untouched_by, unhired_so}
use Rattle.tf_commands.proofs.WantLemmas.{near_count, far_count, hires_back, long_back, anew_near, anew_far}
use Rattle.tf_commands.proofs.recording.hire_and_run.Goals as goal

pub returns-in-Ok-Local-clause-runs : goal.returns-in-Ok-Local-clause-runs
returns-in-Ok-Local-clause-runs g c = λ name entry seen so.
    let e = c.in-Ok-Local in
    inr (
      hires_back c.args.request.now.want _ _ _ (map g.W.Hand.Performer.did c.run_in-over.new.hands.items) e.ensures.hired c.dismiss.ensures.back (long_back _ c.run_in-over.new.hands _ _ c.run_in-over.ensures.back (near_count c.args.request.now.want e.field-0 e.hands e.field-0-is e.ensures.all)),
      anew_near _ c.args.request.now _ _ e.field-0 e.hands e.field-0-is e.ensures.all c.dismiss.ensures.back (c.run_in-over.ensures.runs name entry seen so),
    )

pub returns-in-Ok-Remote-clause-runs : goal.returns-in-Ok-Remote-clause-runs
returns-in-Ok-Remote-clause-runs g c = λ name entry seen so.
    let e = c.in-Ok-Remote in
    inr (
      hires_back c.args.request.now.want _ _ _ (map g.W.Far.Performer.did c.run_in-over-in-Ok-Remote.new.hands.items) e.ensures.hired c.dismiss-in-Ok-Remote.ensures.back (long_back _ c.run_in-over-in-Ok-Remote.new.hands _ _ c.run_in-over-in-Ok-Remote.ensures.back (far_count c.args.request.now.want e.field-0 e.hands e.field-0-is e.ensures.all)),
      anew_far _ c.args.request.now _ _ e.field-0 e.hands e.field-0-is e.ensures.all c.dismiss-in-Ok-Remote.ensures.back (c.run_in-over-in-Ok-Remote.ensures.runs name entry seen so),
    )

pub returns-in-Err-clause-runs : goal.returns-in-Err-clause-runs
returns-in-Err-clause-runs g c = λ name entry seen so.
    let D = g.K.Desk in
    inl (told_still (λ before. Unhired name before (D.state c.say_unhired.result.desk) (g.W.Crew.told c.args.crew.now) (g.W.Crew.told c.hire.new.self) c.say_unhired.result.status) (told_as (g.K.Desk.state seen) (g.K.Desk.state entry))
    (c.say_unhired.ensures.said.says.tells ∙ ap (λ k. (D.state k).tells) c.close.ensures ∙ so.opened.untouched.told)
    (unhired_so c.in-Err.ensures.not_hired (c.say_unhired.ensures.refuses name entry seen (untouched_by D.state _ _ (sym c.close.ensures) so.opened.untouched))))

pub returns-in-Ok-Local-clause-hires : goal.returns-in-Ok-Local-clause-hires
returns-in-Ok-Local-clause-hires g c =
    let e = c.in-Ok-Local in
    inr (hires_back c.args.request.now.want _ _ _ (map g.W.Hand.Performer.did c.run_in-over.new.hands.items) e.ensures.hired c.dismiss.ensures.back (long_back _ c.run_in-over.new.hands _ _ c.run_in-over.ensures.back (near_count c.args.request.now.want e.field-0 e.hands e.field-0-is e.ensures.all)))

pub returns-in-Ok-Remote-clause-hires : goal.returns-in-Ok-Remote-clause-hires
returns-in-Ok-Remote-clause-hires g c =
    let e = c.in-Ok-Remote in
    inr (hires_back c.args.request.now.want _ _ _ (map g.W.Far.Performer.did c.run_in-over-in-Ok-Remote.new.hands.items) e.ensures.hired c.dismiss-in-Ok-Remote.ensures.back (long_back _ c.run_in-over-in-Ok-Remote.new.hands _ _ c.run_in-over-in-Ok-Remote.ensures.back (far_count c.args.request.now.want e.field-0 e.hands e.field-0-is e.ensures.all)))
