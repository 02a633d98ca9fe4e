use Rattle.std.proofs.Common.{◌≡◌, ◌+◌, ℕ, List, [], ◌∷◌, Option, refl, sym, subst, inl, inr, arith}
use Rattle.tf_actions.specs.declared.orders.Order.{Order}
use Rattle.tf_ports.specs.Ports.{DoorTold, SeenLink, seen_link}
use Rattle.tf_commands.specs.Messages.{CutsSession, GivesLinks, SaysNext, SaysSession, StopsNext, no_next_link, exhausted_next}
use Rattle.tf_commands.proofs.WorkLemmas.{links_none, link_besides, says_next, stops_next, on_ok, if_err}
use Rattle.tf_commands.proofs.working.serve_next.Goals as goal

pub returns-in-Err-Failed-clause-stopped : goal.returns-in-Err-Failed-clause-stopped
returns-in-Err-Failed-clause-stopped g c = no_next_link c.in-Err-Failed.ensures.gave_none refl c.close.ensures.closes

pub returns-in-Err-Memory-clause-stopped : goal.returns-in-Err-Memory-clause-stopped
returns-in-Err-Memory-clause-stopped g c =
    exhausted_next refl refl [] [] (omega arith) (omega arith) (inl refl)
    (subst (GivesLinks [] [] [] (g.D.Door.told c.args.door.now)) (sym c.in-Err-Memory.ensures.gave_none) (links_none (g.D.Door.told c.args.door.now)))

pub returns-in-Ok-close-clause-next : goal.returns-in-Ok-close-clause-next
returns-in-Ok-close-clause-next g c =
    let first : SeenLink = seen_link g.D.Made.Link.left g.D.Made.Link.transcript g.D.Made.Link.faults g.D.Made.Link.ends c.in-Ok.link in
    let last : SeenLink = seen_link g.D.Made.Link.left g.D.Made.Link.transcript g.D.Made.Link.faults g.D.Made.Link.ends c.serve-end.new.link in
    let did : Option (List Order) = g.P.Performer.did c.args.hand.now in
    let after_did : Option (List Order) = g.P.Performer.did c.serve-end.new.hand in
    let old : DoorTold = g.D.Door.told c.args.door.now in
    let mid : DoorTold = g.D.Door.told c.accept.new.self in
    let new : DoorTold = g.D.Door.told c.close-2.new.self in
    let before : Option (List ℕ) = (g.K.Desk.state c.args.desk.now).shown in
    let now : Option (List ℕ) = (g.K.Desk.state c.say_end.new.desk).shown in
    on_ok c.say_end.result (SaysSession before now (c.args.number + 1) c.serve-end.result) (SaysNext g.P.Performer.gives did after_did old new before now (c.args.number + 1))
    (λ says. says_next g.P.Performer.gives did after_did first last c.serve-end.result old mid new before now (c.args.number + 1) c.in-Ok.ensures.gave c.serve-end.ensures c.in-Ok-close.ensures.returned says)
    c.say_end.ensures.next

pub returns-in-Ok-close-clause-stopped : goal.returns-in-Ok-close-clause-stopped
returns-in-Ok-close-clause-stopped g c =
    let first : SeenLink = seen_link g.D.Made.Link.left g.D.Made.Link.transcript g.D.Made.Link.faults g.D.Made.Link.ends c.in-Ok.link in
    let last : SeenLink = seen_link g.D.Made.Link.left g.D.Made.Link.transcript g.D.Made.Link.faults g.D.Made.Link.ends c.serve-end.new.link in
    let did : Option (List Order) = g.P.Performer.did c.args.hand.now in
    let after_did : Option (List Order) = g.P.Performer.did c.serve-end.new.hand in
    let old : DoorTold = g.D.Door.told c.args.door.now in
    let mid : DoorTold = g.D.Door.told c.accept.new.self in
    let new : DoorTold = g.D.Door.told c.close-2.new.self in
    let before : Option (List ℕ) = (g.K.Desk.state c.args.desk.now).shown in
    let now : Option (List ℕ) = (g.K.Desk.state c.say_end.new.desk).shown in
    if_err c.say_end.result (CutsSession before now (c.args.number + 1) c.serve-end.result) (StopsNext g.P.Performer.gives did after_did old new before now (c.args.number + 1))
    (λ status cuts. stops_next g.P.Performer.gives did after_did first last c.serve-end.result old mid new before now (c.args.number + 1) status c.in-Ok.ensures.gave c.serve-end.ensures c.in-Ok-close.ensures.returned cuts)
    c.say_end.ensures.stopped

pub returns-in-Err-clause-stopped : goal.returns-in-Err-clause-stopped
returns-in-Err-clause-stopped g c =
    let first : SeenLink = seen_link g.D.Made.Link.left g.D.Made.Link.transcript g.D.Made.Link.faults g.D.Made.Link.ends c.in-Ok.link in
    let old : DoorTold = g.D.Door.told c.args.door.now in
    let mid : DoorTold = g.D.Door.told c.accept.new.self in
    let new : DoorTold = g.D.Door.told c.close-2.new.self in
    let last : SeenLink = seen_link g.D.Made.Link.left g.D.Made.Link.transcript g.D.Made.Link.faults g.D.Made.Link.ends c.serve-end.new.link in
    exhausted_next refl refl (first ∷ []) [] (omega arith) (omega arith) (inr (first, last, c.serve-end.result, refl, c.serve-end.ensures))
    (subst (GivesLinks [] (first ∷ []) [] old) (sym (let stays : new ≡ mid = c.in-Err.ensures.not_returned in stays)) (link_besides first old mid c.in-Ok.ensures.gave))
