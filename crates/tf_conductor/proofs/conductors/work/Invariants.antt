use Rattle.tf_turnstile.specs.Passes.{IsIdle}
use Rattle.tf_conductor.specs.Rounds.{GiveSame}
use Rattle.tf_conductor.specs.Working.{StandsWith, seen_calls, start_past}
use Rattle.tf_conductor.proofs.conductors.work.Given as goal

abbrev pub invariant-jobs : goal.invariant-jobs
invariant-jobs g l = record {
  idle : IsIdle l.turnstile l.number l.conductor.pass;
  same : GiveSame (g.P.Runner.gives l.fn.conductor.runner) (g.P.Runner.gives l.conductor.runner);
  stands : StandsWith (g.P.Runner.gives l.fn.conductor.runner) (g.P.Runner.did l.fn.conductor.runner) (start_past l.turnstile) l.turnstile.start.owners l.number l.owner (g.P.Runner.did l.conductor.runner)
      l.left.items (seen_calls l.conductor.pass) l.next;
}
