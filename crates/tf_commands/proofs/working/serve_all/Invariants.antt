use Rattle.std.proofs.Common.{◌≤◌}
use Rattle.tf_commands.specs.Books.{OnlySays}
use Rattle.tf_commands.proofs.WorkLemmas.{HasServed}
use Rattle.tf_commands.proofs.working.serve_all.Given as goal

abbrev pub invariant-loop-number : goal.invariant-loop-number
invariant-loop-number g l =
    HasServed g.P.Performer.gives (g.P.Performer.did l.fn.hand) (g.P.Performer.did l.hand) (g.D.Door.told l.fn.door) (g.D.Door.told l.door) (g.K.Desk.state l.fn.desk).shown (g.K.Desk.state l.desk).shown l.number
    × OnlySays (g.K.Desk.state l.fn.desk) (g.K.Desk.state l.desk)
    × (g.D.Door.faults l.fn.door ≤ g.D.Door.faults l.door)
