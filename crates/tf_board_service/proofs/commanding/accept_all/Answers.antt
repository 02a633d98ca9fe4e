use Rattle.std.proofs.Common.{◌∙◌, ◌∷◌, [], map, length, ap, refl, sym, arith}
use Rattle.std.proofs.lemmas.List.{map-append}
use Rattle.tf_ports.specs.Ports.{seen_link}
use Rattle.tf_board_service.specs.Sessions.{gave_links}
use Rattle.tf_board_service.proofs.DoorLemmas.{gave_more, gave_none, vain_none}
use Rattle.tf_board_service.proofs.commanding.accept_all.Goals as goal

pub loop-taken-init : goal.loop-taken-init
loop-taken-init g c =
    let see = seen_link g.D.Made.Link.left g.D.Made.Link.transcript g.D.Made.Link.faults g.D.Made.Link.ends in
    let old = g.D.Door.told c.args.door.now in
    record {
      many = omega (arith, ap length c.in-Ok.ensures.items);
      room = refl;
      gave = gave_none old ∙ ap (gave_links old) (sym (ap (map see) c.in-Ok.ensures.items));
      faults = omega arith;
    }

pub loop-taken-preserved : goal.loop-taken-preserved
loop-taken-preserved g c =
    let see = seen_link g.D.Made.Link.left g.D.Made.Link.transcript g.D.Made.Link.faults g.D.Made.Link.ends in
    let i = c.loop-taken.invariant in
    let old = g.D.Door.told c.args.door.now in
    record {
      many = omega (arith, i.many, c.push_reserved.ensures.len);
      room = c.push_reserved.ensures.capacity ∙ i.room;
      gave = gave_more (map see c.loop-taken.links.items) (see c.in-Ok-accept.link) old (g.D.Door.told c.loop-taken.door) (g.D.Door.told c.accept.new.self) i.gave c.in-Ok-accept.ensures.gave
          ∙ ap (gave_links old) (sym (ap (map see) c.push_reserved.ensures.items ∙ map-append see c.loop-taken.links.items (c.in-Ok-accept.link ∷ [])));
      faults = omega (arith, i.faults, c.accept.ensures.no_fall);
    }

pub returns-in_default-clause-vain : goal.returns-in_default-clause-vain
returns-in_default-clause-vain g c = vain_none c.args.count _ (g.D.Door.told c.args.door.now)
