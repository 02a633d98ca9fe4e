use Rattle.std.proofs.Common.{◌≡◌, ◌≢◌, ◌⊎◌, ◌∙◌, ℕ, List, [], ap, subst, inl, inr, refl, map, vec_len, arith}
use Rattle.std.proofs.lemmas.List.{length-map}
use Rattle.tf_desk.specs.State.{told_as}
use Rattle.tf_board.proofs.DeskLaws.{KeepsLaws}
use Rattle.tf_board.proofs.EndLemmas.{concludes_none}
use Rattle.std.specs.Prelude.{IfOk}
use Rattle.tf_numbers.specs.Numbers.{Rises}
use Rattle.tf_report.specs.declared.statuses.TheConstants.{OUT_OF_MEMORY, UNSAID}
use Rattle.tf_ports.specs.Ports.{seen_link}
use Rattle.tf_board_service.specs.Sessions.{GivesBack, SaysOrStops, service_text, was_stopped}
use Rattle.tf_board_service.proofs.CommandLemmas.{causes_over, serves_over, vain_causes, vain_over}
use Rattle.tf_board_service.proofs.commanding.serve_over.Goals as goal
use Rattle.tf_shared_board.specs.Shared.{halt_status}

pub returns-in-Ok-whole-clause-serves : goal.returns-in-Ok-whole-clause-serves
returns-in-Ok-whole-clause-serves g c = λ name address before entry seen o gave.
    let D = g.K.Desk in
    let see = seen_link g.D.Made.Link.left g.D.Made.Link.transcript g.D.Made.Link.faults g.D.Made.Link.ends in
    let met = g.met.K.Desk g.world.𝓛 g.world.𝓜 g.world.𝓡 ((λ s x. x), (λ x. x), (λ x. x), λ x. x) in
    let laws : KeepsLaws D.state =
    record { tells_shown = met.tells_shown; picked_is_there = met.picked_is_there; reads_left = met.reads_left; counts_now = met.counts_now; only_now = met.only_now } in
    let e = c.in-Ok.ensures in
    let message = service_text c.in-Ok.field-0.sessions c.in-Ok.field-0.shared.halt in
    let text : service_text c.items.result.now c.halted-halt.result ≡ message =
    ap (λ l. service_text l c.halted-halt.result) c.items.ensures ∙ ap (service_text c.in-Ok.field-0.sessions) c.halted-halt.ensures in
    let wanted : c.halt_status.result ≡ halt_status c.in-Ok.field-0.shared.halt = c.halt_status.ensures ∙ ap halt_status c.halted-halt.ensures in
    let said = subst (λ (w : ℕ). SaysOrStops D.state message w c.close-desk.result c.say_text.result.0 c.say_text.result.1) wanted
    (c.say_text.ensures.says message (subst (λ (m : List ℕ). IfOk c.closing-text.result (λ t. t.items ≡ m)) text c.closing-text.ensures)) in
    serves_over D.state see c.args.board c.make-shared.result c.in-Ok.field-0.shared c.make-shared.ensures e.board c.close.ensures.shared
    c.args.links.items c.serve_board.new.links.items c.in-Ok.field-0.sessions e.legal (λ k d below. omega (arith, e.numbers k d below, c.args.links.ok.0)) (omega (arith, e.count.0, c.args.links.ok.0, c.serve_board.new.links.ok.0))
    (omega (arith, e.count.1, c.args.links.ok.0)) (λ i d s below. e.each i d s (omega (arith, below, c.args.links.ok.0)))
    name address (vec_len c.args.links) (told_as (D.state seen) (D.state entry)) o laws before (g.D.Door.told c.args.door.now) (g.D.Door.told c.give_back-whole.new.door) _ c.close-desk.result c.say_text.result.0 c.say_text.result.1
    (omega (arith, c.args.links.ok.0)) gave c.in-Ok-whole.ensures.back (inl c.in-Ok-whole.ensures.back.all) e.halted
    (c.close-desk.ensures ∙ ap (λ b. b.journal.desk) c.close.ensures.board)
    said

pub returns-in-Ok-clause-serves : goal.returns-in-Ok-clause-serves
returns-in-Ok-clause-serves g c = λ name address before entry seen o gave.
    let D = g.K.Desk in
    let see = seen_link g.D.Made.Link.left g.D.Made.Link.transcript g.D.Made.Link.faults g.D.Made.Link.ends in
    let met = g.met.K.Desk g.world.𝓛 g.world.𝓜 g.world.𝓡 ((λ s x. x), (λ x. x), (λ x. x), λ x. x) in
    let laws : KeepsLaws D.state =
    record { tells_shown = met.tells_shown; picked_is_there = met.picked_is_there; reads_left = met.reads_left; counts_now = met.counts_now; only_now = met.only_now } in
    let e = c.in-Ok.ensures in
    serves_over D.state see c.args.board c.make-shared.result c.in-Ok.field-0.shared c.make-shared.ensures e.board c.close.ensures.shared
    c.args.links.items c.serve_board.new.links.items c.in-Ok.field-0.sessions e.legal (λ k d below. omega (arith, e.numbers k d below, c.args.links.ok.0)) (omega (arith, e.count.0, c.args.links.ok.0, c.serve_board.new.links.ok.0))
    (omega (arith, e.count.1, c.args.links.ok.0)) (λ i d s below. e.each i d s (omega (arith, below, c.args.links.ok.0)))
    name address (vec_len c.args.links) (told_as (D.state seen) (D.state entry)) o laws before (g.D.Door.told c.args.door.now) (g.D.Door.told c.give_back-whole.new.door) c.give_back-whole.result c.close-desk.result c.close-desk.result 9
    (omega (arith, c.args.links.ok.0)) gave c.give_back-whole.ensures.back (inr refl) e.halted
    (c.close-desk.ensures ∙ ap (λ b. b.journal.desk) c.close.ensures.board) (was_stopped refl refl)

pub returns-in-Ok-whole-clause-causes : goal.returns-in-Ok-whole-clause-causes
returns-in-Ok-whole-clause-causes g c = λ name entry seen o.
    let D = g.K.Desk in
    let see = seen_link g.D.Made.Link.left g.D.Made.Link.transcript g.D.Made.Link.faults g.D.Made.Link.ends in
    let met = g.met.K.Desk g.world.𝓛 g.world.𝓜 g.world.𝓡 ((λ s x. x), (λ x. x), (λ x. x), λ x. x) in
    let laws : KeepsLaws D.state =
    record { tells_shown = met.tells_shown; picked_is_there = met.picked_is_there; reads_left = met.reads_left; counts_now = met.counts_now; only_now = met.only_now } in
    let e = c.in-Ok.ensures in
    let message = service_text c.in-Ok.field-0.sessions c.in-Ok.field-0.shared.halt in
    let text : service_text c.items.result.now c.halted-halt.result ≡ message =
    ap (λ l. service_text l c.halted-halt.result) c.items.ensures ∙ ap (service_text c.in-Ok.field-0.sessions) c.halted-halt.ensures in
    let wanted : c.halt_status.result ≡ halt_status c.in-Ok.field-0.shared.halt = c.halt_status.ensures ∙ ap halt_status c.halted-halt.ensures in
    let said = subst (λ (w : ℕ). SaysOrStops D.state message w c.close-desk.result c.say_text.result.0 c.say_text.result.1) wanted
    (c.say_text.ensures.says message (subst (λ (m : List ℕ). IfOk c.closing-text.result (λ t. t.items ≡ m)) text c.closing-text.ensures)) in
    causes_over D.state see c.args.board c.make-shared.result c.in-Ok.field-0.shared c.make-shared.ensures e.board c.close.ensures.shared
    name (told_as (D.state seen) (D.state entry)) o laws c.close-desk.result c.say_text.result.0 (service_text c.in-Ok.field-0.sessions c.in-Ok.field-0.shared.halt) c.say_text.result.1 (g.D.Door.faults c.args.door.now) (g.D.Door.faults c.give_back-whole.new.door)
    (c.close-desk.ensures ∙ ap (λ b. b.journal.desk) c.close.ensures.board)
    said
    (subst (λ (w : ℕ). c.say_text.result.1 ≡ UNSAID → w ≢ UNSAID → Rises (D.state c.close-desk.result).out_faults (D.state c.say_text.result.0).out_faults) wanted c.say_text.ensures.unsaid)
    (subst (λ (w : ℕ). c.say_text.result.1 ≢ UNSAID → (c.say_text.result.1 ≡ w) ⊎ (c.say_text.result.1 ≡ OUT_OF_MEMORY)) wanted c.say_text.ensures.status) c.in-Ok-whole.ensures.door

pub returns-in-Ok-clause-causes : goal.returns-in-Ok-clause-causes
returns-in-Ok-clause-causes g c = λ name entry seen o.
    let D = g.K.Desk in
    let see = seen_link g.D.Made.Link.left g.D.Made.Link.transcript g.D.Made.Link.faults g.D.Made.Link.ends in
    let met = g.met.K.Desk g.world.𝓛 g.world.𝓜 g.world.𝓡 ((λ s x. x), (λ x. x), (λ x. x), λ x. x) in
    let laws : KeepsLaws D.state =
    record { tells_shown = met.tells_shown; picked_is_there = met.picked_is_there; reads_left = met.reads_left; counts_now = met.counts_now; only_now = met.only_now } in
    let e = c.in-Ok.ensures in
    causes_over D.state see c.args.board c.make-shared.result c.in-Ok.field-0.shared c.make-shared.ensures e.board c.close.ensures.shared
    name (told_as (D.state seen) (D.state entry)) o laws c.close-desk.result c.close-desk.result [] 9 (g.D.Door.faults c.args.door.now) (g.D.Door.faults c.give_back-whole.new.door)
    (c.close-desk.ensures ∙ ap (λ b. b.journal.desk) c.close.ensures.board)
    (was_stopped refl refl) (λ is. absurd (cc)) (λ apart. inr refl) c.give_back-whole.ensures.door

pub returns-clause-serves : goal.returns-clause-serves
returns-clause-serves g c = λ name address before entry seen o gave.
    let D = g.K.Desk in
    let see = seen_link g.D.Made.Link.left g.D.Made.Link.transcript g.D.Made.Link.faults g.D.Made.Link.ends in
    let m = c.in-Err.ensures.memory in
    vain_over D.state name (told_as (D.state seen) (D.state entry)) c.args.board o c.close-in-Err-2.result
    (c.close-in-Err-2.ensures ∙ ap (λ b. b.journal.desk) (c.close-in-Err.ensures.board ∙ ap (λ s. s.board) (m.0 ∙ c.make-shared.ensures)))
    address (vec_len c.args.links) before (g.D.Door.told c.args.door.now) (g.D.Door.told c.give_back-whole-in-Err.new.door) (map see c.args.links.items) c.give_back-whole-in-Err.result
    (omega (arith, length-map c.args.links.items see, c.args.links.ok.0)) gave
    (subst (λ (links : List _). GivesBack (map see links) (g.D.Door.told c.args.door.now) (g.D.Door.told c.give_back-whole-in-Err.new.door) c.give_back-whole-in-Err.result) m.1 c.give_back-whole-in-Err.ensures.back)

pub returns-clause-causes : goal.returns-clause-causes
returns-clause-causes g c = λ name entry seen o.
    let D = g.K.Desk in
    let m = c.in-Err.ensures.memory in
    let back = c.close-in-Err-2.ensures ∙ ap (λ b. b.journal.desk) (c.close-in-Err.ensures.board ∙ ap (λ s. s.board) (m.0 ∙ c.make-shared.ensures)) in
    record {
      desk = vain_causes D.state name (told_as (D.state seen) (D.state entry)) c.args.board o c.close-in-Err-2.result back (D.state c.close-in-Err-2.result) 9 (concludes_none 9 (λ is. cc)) (λ is. cc);
      door = c.give_back-whole-in-Err.ensures.door;
      unlistened = λ is. absurd (cc);
    }
