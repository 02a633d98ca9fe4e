use Rattle.std.proofs.Common.{◌==◌, ℕ, List, ap, sym, subst, refl, ◌∙◌}
use Rattle.std.specs.List.{list_any}
use Rattle.tf_shared_board.specs.declared.calls.Made.{Made}
use Rattle.tf_turnstile.specs.Passes.{PassValue}
use Rattle.tf_conductor.specs.Conducting.{ConductingValue}
use Rattle.tf_conductor.specs.Rounds.{calls_by}
use Rattle.tf_conductor.specs.Working.{KnowsNext, StandsWith, seen_calls, start_past}
use Rattle.tf_conductor.specs.declared.turns.Next.{Next}
use Rattle.tf_conductor.proofs.RoundLemmas.{conducted_none}
use Rattle.tf_conductor.proofs.StepLemmas.{same_none, same_on, stands_next, stands_on}
use Rattle.tf_conductor.proofs.conductors.work.Goals as goal

pub jobs-init : goal.jobs-init
jobs-init g c =
    let t = c.args.turnstile.now in
    let gives = g.P.Runner.gives c.args.conductor.now.runner in
    let did = g.P.Runner.did c.args.conductor.now.runner in
    let old = seen_calls c.args.conductor.now.pass in
    let new = seen_calls c.begin_turn-next.new.pass in
    let knows = subst (λ (l : List ℕ). KnowsNext (start_past t) t.start.owners c.args.number c.args.owner.now l old new c.begin_turn-next.result) c.deref.ensures.value c.begin_turn-next.ensures.next in
    record {
      idle = c.begin_turn-next.ensures.idle;
      same = same_none gives;
      stands = stands_next gives did (start_past t) t.start.owners c.args.number c.args.owner.now did c.new-left.result.items old new c.begin_turn-next.result
          (conducted_none gives did (start_past t) c.args.number c.args.owner.now old (ap (λ (p : PassValue (ConductingValue g.row.K.Denot) Made). calls_by c.args.number (seen_calls p)) c.requires.made))
          (λ job there. (let clash = sym (ap (λ (l : List ℕ). list_any (λ n. n == job) l) c.new-left.ensures.items) ∙ there in absurd (cc)))
          knows;
    }

pub jobs-preserved-in-Run : goal.jobs-preserved-in-Run
jobs-preserved-in-Run g c =
    let t = c.args.turnstile.now in
    let i = c.jobs.invariant in
    let gives = g.P.Runner.gives c.args.conductor.now.runner in
    let told = g.P.Runner.did c.args.conductor.now.runner in
    let now = g.P.Runner.gives c.jobs.conductor.runner in
    let before = g.P.Runner.did c.jobs.conductor.runner in
    let had = subst (λ (n : Next). StandsWith gives told (start_past t) t.start.owners c.args.number c.args.owner.now before c.jobs.left.items (seen_calls c.jobs.conductor.pass) n) c.in-Run.is i.stands in
    record {
      idle = c.step-next.ensures.idle;
      same = same_on gives now (g.P.Runner.gives c.step-next.new.conductor.runner) i.same c.step-next.ensures.gives;
      stands = stands_on gives told (start_past t) t.start.owners c.args.number c.args.owner.now now before (g.P.Runner.did c.step-next.new.conductor.runner) c.jobs.left.items c.step-next.new.left.items
          (seen_calls c.jobs.conductor.pass) (seen_calls c.step-next.new.conductor.pass) c.in-Run.claim c.step-next.result i.same had c.step-next.ensures.steps;
    }

pub jobs-preserved-in-Run-2 : goal.jobs-preserved-in-Run-2
jobs-preserved-in-Run-2 g c =
    let t = c.args.turnstile.now in
    let i = c.jobs.invariant in
    let gives = g.P.Runner.gives c.args.conductor.now.runner in
    let told = g.P.Runner.did c.args.conductor.now.runner in
    let now = g.P.Runner.gives c.jobs.conductor.runner in
    let before = g.P.Runner.did c.jobs.conductor.runner in
    let had = subst (λ (n : Next). StandsWith gives told (start_past t) t.start.owners c.args.number c.args.owner.now before c.jobs.left.items (seen_calls c.jobs.conductor.pass) n) c.in-Run.is i.stands in
    record {
      idle = c.step-next.ensures.idle;
      same = same_on gives now (g.P.Runner.gives c.step-next.new.conductor.runner) i.same c.step-next.ensures.gives;
      stands = stands_on gives told (start_past t) t.start.owners c.args.number c.args.owner.now now before (g.P.Runner.did c.step-next.new.conductor.runner) c.jobs.left.items c.step-next.new.left.items
          (seen_calls c.jobs.conductor.pass) (seen_calls c.step-next.new.conductor.pass) c.in-Run.claim c.step-next.result i.same had c.step-next.ensures.steps;
    }

pub jobs-preserved : goal.jobs-preserved
jobs-preserved g c =
    let t = c.args.turnstile.now in
    let i = c.jobs.invariant in
    let gives = g.P.Runner.gives c.args.conductor.now.runner in
    let told = g.P.Runner.did c.args.conductor.now.runner in
    let now = g.P.Runner.gives c.jobs.conductor.runner in
    let before = g.P.Runner.did c.jobs.conductor.runner in
    let had = subst (λ (n : Next). StandsWith gives told (start_past t) t.start.owners c.args.number c.args.owner.now before c.jobs.left.items (seen_calls c.jobs.conductor.pass) n) c.in-Run.is i.stands in
    record {
      idle = c.step-next.ensures.idle;
      same = same_on gives now (g.P.Runner.gives c.step-next.new.conductor.runner) i.same c.step-next.ensures.gives;
      stands = stands_on gives told (start_past t) t.start.owners c.args.number c.args.owner.now now before (g.P.Runner.did c.step-next.new.conductor.runner) c.jobs.left.items c.step-next.new.left.items
          (seen_calls c.jobs.conductor.pass) (seen_calls c.step-next.new.conductor.pass) c.in-Run.claim c.step-next.result i.same had c.step-next.ensures.steps;
    }
