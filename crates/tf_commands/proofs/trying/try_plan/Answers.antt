use Rattle.std.proofs.Common.{inr, map}
use Rattle.tf_commands.specs.Behaviour as behaviour
use Rattle.tf_commands.proofs.WantLemmas.{near_count, far_count, hires_back, long_back, tried_near, tried_far}
use Rattle.tf_commands.proofs.trying.try_plan.Goals as goal

pub returns-in-Ok-Local-clause-tried : goal.returns-in-Ok-Local-clause-tried
returns-in-Ok-Local-clause-tried g c =
    let e = c.in-Ok-Local in
    behaviour.tried (hires_back c.args.request.now.want _ _ _ (map g.W.Hand.Performer.did c.try_with-over.new.hands.items) e.ensures.hired c.dismiss.ensures.back (long_back _ c.try_with-over.new.hands _ _ c.try_with-over.ensures.back (near_count c.args.request.now.want e.field-0 e.hands e.field-0-is e.ensures.all)))
    (tried_near _ c.args.request.now.want _ _ e.field-0 e.hands e.field-0-is e.ensures.all c.dismiss.ensures.back c.try_with-over.ensures.tried)

pub returns-in-Ok-Remote-clause-tried : goal.returns-in-Ok-Remote-clause-tried
returns-in-Ok-Remote-clause-tried g c =
    let e = c.in-Ok-Remote in
    behaviour.tried (hires_back c.args.request.now.want _ _ _ (map g.W.Far.Performer.did c.try_with-over-in-Ok-Remote.new.hands.items) e.ensures.hired c.dismiss-in-Ok-Remote.ensures.back (long_back _ c.try_with-over-in-Ok-Remote.new.hands _ _ c.try_with-over-in-Ok-Remote.ensures.back (far_count c.args.request.now.want e.field-0 e.hands e.field-0-is e.ensures.all)))
    (tried_far _ c.args.request.now.want _ _ e.field-0 e.hands e.field-0-is e.ensures.all c.dismiss-in-Ok-Remote.ensures.back c.try_with-over-in-Ok-Remote.ensures.tried)

pub returns-in-Ok-Local-clause-hires : goal.returns-in-Ok-Local-clause-hires
returns-in-Ok-Local-clause-hires g c =
    let e = c.in-Ok-Local in
    inr (hires_back c.args.request.now.want _ _ _ (map g.W.Hand.Performer.did c.try_with-over.new.hands.items) e.ensures.hired c.dismiss.ensures.back (long_back _ c.try_with-over.new.hands _ _ c.try_with-over.ensures.back (near_count c.args.request.now.want e.field-0 e.hands e.field-0-is e.ensures.all)))

pub returns-in-Ok-Remote-clause-hires : goal.returns-in-Ok-Remote-clause-hires
returns-in-Ok-Remote-clause-hires g c =
    let e = c.in-Ok-Remote in
    inr (hires_back c.args.request.now.want _ _ _ (map g.W.Far.Performer.did c.try_with-over-in-Ok-Remote.new.hands.items) e.ensures.hired c.dismiss-in-Ok-Remote.ensures.back (long_back _ c.try_with-over-in-Ok-Remote.new.hands _ _ c.try_with-over-in-Ok-Remote.ensures.back (far_count c.args.request.now.want e.field-0 e.hands e.field-0-is e.ensures.all)))
