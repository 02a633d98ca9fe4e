use Rattle.std.proofs.Common.{◌<◌, refl, sym, subst}
use Rattle.tf_engines.specs.Shared.{SharedValue}
use Rattle.tf_engines.proofs.SharedLemmas.{shared_after}
use Rattle.tf_engines.proofs.shared.Shared.finish.Goals as goal

pub invariant_of-self : goal.invariant_of-self
invariant_of-self g c =
    let e = c.end.ensures in
    shared_after g.K.Desk.state g.P.Performer.gives
    record { start = c.self.inside.start.value; now = c.self.inside.book; limit = c.self.inside.limit; number = c.self.inside.hands }
    record { start = c.self.inside.start.value; now = c.end.new.book; limit = c.self.inside.limit; number = c.self.inside.hands }
    c.args.hand (subst (λ (s : SharedValue _). c.args.hand < s.number) (sym c.self.view_is) c.requires.hand) c.self.invariant refl refl refl e.keeps e.plan e.asks e.stands e.failed e.added
