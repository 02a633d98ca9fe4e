use Rattle.std.proofs.Common.{◌∷◌, [], Err, subst, sym, map, arith}
use Rattle.std.specs.Prelude.{List}
use Rattle.std.proofs.lemmas.List.{map-append}
use Rattle.tf_ports.specs.Ports.{SeenLink, seen_link}
use Rattle.tf_board_service.specs.Sessions.{GivesBack}
use Rattle.tf_board_service.proofs.DoorLemmas.{back_lost, back_more, back_none}
use Rattle.tf_board_service.proofs.commanding.give_back.Goals as goal

pub loop-link-init : goal.loop-link-init
loop-link-init g c = record { back = back_none (g.D.Door.told c.args.door.now); faults = omega arith }

pub loop-link-preserved : goal.loop-link-preserved
loop-link-preserved g c =
    let see = seen_link g.D.Made.Link.left g.D.Made.Link.transcript g.D.Made.Link.faults g.D.Made.Link.ends in
    let i = c.loop-link.invariant in
    record {
      back = subst (λ (l : List SeenLink). GivesBack l (g.D.Door.told c.args.door.now) (g.D.Door.told c.close.new.self) c.loop-link.whole) (sym (map-append see c.loop-link.yielded (c.in-Some.link ∷ [])))
          (back_more (map see c.loop-link.yielded) (see c.in-Some.link) (g.D.Door.told c.args.door.now) (g.D.Door.told c.loop-link.door) (g.D.Door.told c.close.new.self) c.loop-link.whole i.back c.in_default.ensures.returned);
      faults = omega (arith, i.faults, c.close.ensures.no_fall);
    }

pub loop-link-preserved-in-Err : goal.loop-link-preserved-in-Err
loop-link-preserved-in-Err g c =
    let see = seen_link g.D.Made.Link.left g.D.Made.Link.transcript g.D.Made.Link.faults g.D.Made.Link.ends in
    let i = c.loop-link.invariant in
    record {
      back = subst (λ (l : List SeenLink). GivesBack l (g.D.Door.told c.args.door.now) (g.D.Door.told c.close.new.self) (Err c.in-Err.fault)) (sym (map-append see c.loop-link.yielded (c.in-Some.link ∷ [])))
          (back_lost (map see c.loop-link.yielded) (see c.in-Some.link) (g.D.Door.told c.args.door.now) (g.D.Door.told c.loop-link.door) (g.D.Door.told c.close.new.self) c.loop-link.whole c.in-Err.fault i.back c.in-Err.ensures.not_returned);
      faults = omega (arith, i.faults, c.close.ensures.no_fall);
    }
