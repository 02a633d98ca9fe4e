use Rattle.std.proofs.Common.{ℕ, [], refl, ap, subst, ◌∙◌, map, arith}
use Rattle.tf_desk.proofs.CountLemmas.{rises_later}
use Rattle.tf_ports.specs.Ports.{DoorTold, seen_link}
use Rattle.tf_desk.specs.State.{told_as}
use Rattle.tf_board.proofs.EndLemmas.{concludes_none}
use Rattle.tf_board_service.specs.Sessions.{GivesInVain, ServesBoard, exhausted, gave_links, opened_in_vain, unlistened}
use Rattle.tf_board_service.proofs.CommandLemmas.{said_apart, vain_causes, vain_ends, vain_stops}
use Rattle.tf_board_service.proofs.DoorLemmas.{vain_all, vain_some}
use Rattle.tf_board_service.proofs.commanding.accept_and_serve.Goals as goal
use Rattle.tf_report.specs.Closing.{cannot_listen}

pub returns-in-Ok-clause-serves : goal.returns-in-Ok-clause-serves
returns-in-Ok-clause-serves g c = λ name address before entry seen o opened.
    let links = map (seen_link g.D.Made.Link.left g.D.Made.Link.transcript g.D.Made.Link.faults g.D.Made.Link.ends) c.in-Ok.links.items in
    subst (λ (n : ℕ). ServesBoard name address n before (g.D.Door.told c.serve_over.new.door) (told_as (g.K.Desk.state seen) (g.K.Desk.state entry)) (g.K.Desk.state c.serve_over.result.0) c.serve_over.result.1) c.in-Ok.ensures.many
    (c.serve_over.ensures.serves name address before entry seen o (c.in-Ok.ensures.gave ∙ ap (λ (d : DoorTold). gave_links d links) opened))

pub returns-in-Ok-clause-causes : goal.returns-in-Ok-clause-causes
returns-in-Ok-clause-causes g c = λ name entry seen o.
    let a = c.serve_over.ensures.causes name entry seen o in
    record {
      desk = a.desk;
      door = omega (arith, c.accept_all.ensures.door, a.door);
      unlistened = λ is. rises_later (g.D.Door.faults c.args.door.now) (g.D.Door.faults c.accept_all.new.door) (g.D.Door.faults c.serve_over.new.door) c.accept_all.ensures.door (a.unlistened is);
    }

pub returns-in-Err-Failed-clause-serves : goal.returns-in-Err-Failed-clause-serves
returns-in-Err-Failed-clause-serves g c = λ name address before entry seen o opened.
    let D = g.K.Desk in
    unlistened c.args.board.past o.fresh.legal o.found
    (opened_in_vain (subst (λ (d : DoorTold). GivesInVain c.args.count d (g.D.Door.told c.accept_all.new.door) (Unit {0})) opened (vain_all c.args.count (g.D.Door.told c.args.door.now) (g.D.Door.told c.accept_all.new.door) _ c.in-Err-Failed.ensures.vain c.in-Err-Failed.field-0-is)))
    (vain_ends D.state name (told_as (D.state seen) (D.state entry)) c.args.board o c.close.result c.close.ensures (D.state c.end_with.result.0) cannot_listen 8 c.end_with.result.1 c.end_with.ensures.closes c.end_with.ensures.says)

pub returns-in-Err-Failed-clause-causes : goal.returns-in-Err-Failed-clause-causes
returns-in-Err-Failed-clause-causes g c = λ name entry seen o.
    let D = g.K.Desk in
    record {
      desk = vain_causes D.state name (told_as (D.state seen) (D.state entry)) c.args.board o c.close.result c.close.ensures (D.state c.end_with.result.0) c.end_with.result.1
          c.end_with.ensures.concludes (said_apart c.end_with.result.1 8 5 c.end_with.ensures.status (λ is. cc) (λ is. cc));
      door = c.accept_all.ensures.door;
      unlistened = λ is. c.in-Err-Failed.ensures.cause c.in-Err-Failed.field-0-is;
    }

pub returns-in-Err-Memory-clause-serves : goal.returns-in-Err-Memory-clause-serves
returns-in-Err-Memory-clause-serves g c = λ name address before entry seen o opened.
    let D = g.K.Desk in
    exhausted c.args.board.past o.fresh.legal o.found refl
    (opened_in_vain (subst (λ (d : DoorTold). GivesInVain c.args.count d (g.D.Door.told c.accept_all.new.door) ⊥) opened (vain_some c.args.count (g.D.Door.told c.args.door.now) (g.D.Door.told c.accept_all.new.door) _ c.in-Err-Memory.ensures.vain)))
    (vain_stops D.state name (told_as (D.state seen) (D.state entry)) c.args.board o c.close-in-Err-Memory.result c.close-in-Err-Memory.ensures [] 9 9 refl)

pub returns-in-Err-Memory-clause-causes : goal.returns-in-Err-Memory-clause-causes
returns-in-Err-Memory-clause-causes g c = λ name entry seen o.
    let D = g.K.Desk in
    record {
      desk = vain_causes D.state name (told_as (D.state seen) (D.state entry)) c.args.board o c.close-in-Err-Memory.result c.close-in-Err-Memory.ensures (D.state c.close-in-Err-Memory.result) 9
          (concludes_none 9 (λ is. cc)) (λ is. cc);
      door = c.accept_all.ensures.door;
      unlistened = λ is. absurd (cc);
    }
