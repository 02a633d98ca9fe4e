use Rattle.std.proofs.Common.{◌≡◌, refl, arith}
use Rattle.tf_commands.proofs.WorkLemmas.{served_none, serves_more, says_itself, says_on, serves_so_far, serves_whole, stop_later}
use Rattle.tf_commands.proofs.working.serve_all.Goals as goal

pub loop-number-init : goal.loop-number-init
loop-number-init g c = (served_none g.P.Performer.gives (g.P.Performer.did c.args.hand.now) (g.D.Door.told c.args.door.now) (g.K.Desk.state c.args.desk.now).shown, says_itself, omega arith)

pub loop-number-preserved : goal.loop-number-preserved
loop-number-preserved g c =
    let had = c.loop-number.invariant in (
      serves_more g.P.Performer.gives (g.P.Performer.did c.args.hand.now) (g.P.Performer.did c.loop-number.hand) (g.P.Performer.did c.serve_next.new.hand)
          (g.D.Door.told c.args.door.now) (g.D.Door.told c.loop-number.door) (g.D.Door.told c.serve_next.new.door)
          (g.K.Desk.state c.args.desk.now).shown (g.K.Desk.state c.loop-number.desk).shown (g.K.Desk.state c.serve_next.new.desk).shown c.loop-number.number had.0 c.in_default.ensures.next,
      says_on had.1 c.in_default.ensures.says,
      omega (arith, had.2, c.in_default.ensures.door),
    )

pub returns-in-Err-clause-serves : goal.returns-in-Err-clause-serves
returns-in-Err-clause-serves g c =
    serves_so_far g.P.Performer.gives (g.P.Performer.did c.args.hand.now) (g.P.Performer.did c.loop-number.hand) (g.P.Performer.did c.serve_next.new.hand)
    (g.D.Door.told c.args.door.now) (g.D.Door.told c.loop-number.door) (g.D.Door.told c.serve_next.new.door)
    (g.K.Desk.state c.args.desk.now).shown (g.K.Desk.state c.loop-number.desk).shown (g.K.Desk.state c.serve_next.new.desk).shown c.loop-number.number c.args.sessions c.in-Err.status
    c.loop-number.invariant.0 (omega arith) c.in-Err.ensures.stopped

pub returns-in-Err-clause-says : goal.returns-in-Err-clause-says
returns-in-Err-clause-says g c = says_on c.loop-number.invariant.1 c.in-Err.ensures.says

pub returns-in-Err-clause-causes : goal.returns-in-Err-clause-causes
returns-in-Err-clause-causes g c =
    let had = c.loop-number.invariant in
    stop_later had.1 had.2 c.in-Err.ensures.causes

pub returns-in-Err-clause-door : goal.returns-in-Err-clause-door
returns-in-Err-clause-door g c = let had = c.loop-number.invariant.2 in omega (arith, had, c.in-Err.ensures.door)

pub returns-clause-serves : goal.returns-clause-serves
returns-clause-serves g c =
    let at_end : c.loop-number.number ≡ c.args.sessions = omega arith in
    serves_whole g.P.Performer.gives (g.P.Performer.did c.args.hand.now) (g.P.Performer.did c.loop-number.hand) (g.D.Door.told c.args.door.now) (g.D.Door.told c.loop-number.door)
    (g.K.Desk.state c.args.desk.now).shown (g.K.Desk.state c.loop-number.desk).shown c.loop-number.number c.args.sessions 0 c.loop-number.invariant.0 at_end refl
