use Rattle.std.proofs.Common.{[], Err, ap, refl, arith}
use Rattle.tf_desk.proofs.CountLemmas.{rises_later}
use Rattle.tf_desk.specs.State.{told_as}
use Rattle.tf_board.proofs.EndLemmas.{concludes_none}
use Rattle.tf_board_service.specs.Sessions.{exhausted, not_opened, unlistened}
use Rattle.tf_board_service.proofs.CommandLemmas.{said_apart, vain_causes, vain_ends, vain_stops}
use Rattle.tf_board_service.proofs.commanding.listen_and_serve.Goals as goal
use Rattle.tf_report.specs.Closing.{cannot_listen}

pub returns-in-Ok-clause-serves : goal.returns-in-Ok-clause-serves
returns-in-Ok-clause-serves g c = λ name entry seen o. c.accept_and_serve.ensures.serves name c.args.address.now (g.D.Door.told c.args.door.now) entry seen o c.in-Ok.ensures.opened

pub returns-in-Ok-clause-causes : goal.returns-in-Ok-clause-causes
returns-in-Ok-clause-causes g c = λ name entry seen o.
    let a = c.accept_and_serve.ensures.causes name entry seen o in
    record {
      desk = a.desk;
      door = omega (arith, c.listen.ensures.no_fall, a.door);
      unlistened = λ is. rises_later (g.D.Door.faults c.args.door.now) (g.D.Door.faults c.listen.new.self) (g.D.Door.faults c.accept_and_serve.new.door) c.listen.ensures.no_fall (a.unlistened is);
    }

pub returns-in-Err-Failed-clause-serves : goal.returns-in-Err-Failed-clause-serves
returns-in-Err-Failed-clause-serves g c = λ name entry seen o.
    let D = g.K.Desk in
    unlistened c.args.board.past o.fresh.legal o.found (not_opened c.in-Err-Failed.ensures.not_opened)
    (vain_ends D.state name (told_as (D.state seen) (D.state entry)) c.args.board o c.close.result c.close.ensures (D.state c.end_with.result.0) cannot_listen 8 c.end_with.result.1 c.end_with.ensures.closes c.end_with.ensures.says)

pub returns-in-Err-Failed-clause-causes : goal.returns-in-Err-Failed-clause-causes
returns-in-Err-Failed-clause-causes g c = λ name entry seen o.
    let D = g.K.Desk in
    record {
      desk = vain_causes D.state name (told_as (D.state seen) (D.state entry)) c.args.board o c.close.result c.close.ensures (D.state c.end_with.result.0) c.end_with.result.1
          c.end_with.ensures.concludes (said_apart c.end_with.result.1 8 5 c.end_with.ensures.status (λ is. cc) (λ is. cc));
      door = c.listen.ensures.no_fall;
      unlistened = λ is. c.in-Err-Failed.ensures.cause (ap Err c.in-Err-Failed.field-0-is);
    }

pub returns-in-Err-Memory-clause-serves : goal.returns-in-Err-Memory-clause-serves
returns-in-Err-Memory-clause-serves g c = λ name entry seen o.
    let D = g.K.Desk in
    exhausted c.args.board.past o.fresh.legal o.found refl (not_opened c.in-Err-Memory.ensures.not_opened)
    (vain_stops D.state name (told_as (D.state seen) (D.state entry)) c.args.board o c.close-in-Err-Memory.result c.close-in-Err-Memory.ensures [] 9 9 refl)

pub returns-in-Err-Memory-clause-causes : goal.returns-in-Err-Memory-clause-causes
returns-in-Err-Memory-clause-causes g c = λ name entry seen o.
    let D = g.K.Desk in
    record {
      desk = vain_causes D.state name (told_as (D.state seen) (D.state entry)) c.args.board o c.close-in-Err-Memory.result c.close-in-Err-Memory.ensures (D.state c.close-in-Err-Memory.result) 9
          (concludes_none 9 (λ is. cc)) (λ is. cc);
      door = c.listen.ensures.no_fall;
      unlistened = λ is. absurd (cc);
    }
