use Rattle.std.proofs.Common.{◌≡◌, ◌∙◌, ℕ, List, [], ◌∷◌, ◌++◌, Option, Some, None, sym, ap, subst}
use Rattle.tf_board.specs.Does.{IsRecorded, LeavesRecorded, asked_for, command_of, id_named, refuses_call}
use Rattle.tf_board.specs.declared.faults.BoardFault.{BoardFault}
use Rattle.tf_desk.specs.State.{GoesOn}
use Rattle.tf_shared_board.specs.declared.calls.BoardHalt.{BoardHalt}
use Rattle.tf_shared_board.specs.declared.calls.BoardHalt.TheVariants as halt
use Rattle.tf_shared_board.specs.declared.calls.Made.{Made}
use Rattle.tf_shared_board.specs.Shared.{FailsToAsk, IsShared}
use Rattle.tf_shared_board.proofs.ShareLemmas.{kept_halted, kept_made, kept_ruled, kept_stopped}
use Rattle.tf_shared_board.proofs.shared.SharedBoard.call.Goals as goal

pub invariant_of-self-in-Ok-ask : goal.invariant_of-self-in-Ok-ask
invariant_of-self-in-Ok-ask g c =
    let state = g.K.Desk.state in
    let inside = c.self.inside in
    let m : Made = record { number = c.args.number; job = c.in-Ok-ask.job; call = c.args.call } in
    let asks = c.in-Ok-ask.ensures in
    let none : inside.halt ≡ None = c.in_default.is in
    let items : inside.made.items ++ m ∷ [] ≡ c.push_reserved.new.self.items =
    sym (c.push_reserved.ensures.items ∙ ap (λ (l : List Made). l ++ m ∷ []) c.in-Ok.ensures.items) in
    let was = subst (λ (h : Option BoardHalt). IsShared state record { start = inside.start.value; board = inside.board; made = inside.made.items; halt = h }) none c.self.invariant in
    let recorded = subst (λ (job : ℕ). IsRecorded state (command_of c.args.call job) inside.board c.ask.new.board) (sym asks.recorded.0) asks.recorded.2 in
    let goes = subst (λ (job : ℕ). GoesOn (LeavesRecorded inside.board.past (command_of c.args.call job) (state inside.board.journal.desk)) (state inside.board.journal.desk) (state c.ask.new.board.journal.desk))
    (sym asks.recorded.0) asks.goes in
    subst (λ (h : Option BoardHalt). IsShared state record { start = inside.start.value; board = c.ask.new.board; made = c.push_reserved.new.self.items; halt = h }) (sym none)
    (subst (λ (l : List Made). IsShared state record { start = inside.start.value; board = c.ask.new.board; made = l; halt = None }) items
    (kept_made state inside.start.value inside.board c.ask.new.board inside.made.items m was asks.recorded.0 recorded goes))

pub invariant_of-self : goal.invariant_of-self
invariant_of-self g c =
    let state = g.K.Desk.state in
    let inside = c.self.inside in
    let was = subst (λ (h : Option BoardHalt). IsShared state record { start = inside.start.value; board = inside.board; made = inside.made.items; halt = h }) c.in_default.is c.self.invariant in
    subst (λ (l : List Made). IsShared state record { start = inside.start.value; board = inside.board; made = l; halt = Some halt.Memory }) (sym c.reserve.ensures.items)
    (kept_stopped state inside.start.value inside.board inside.made.items was)

pub invariant_of-self-in-Ok-sort : goal.invariant_of-self-in-Ok-sort
invariant_of-self-in-Ok-sort g c =
    let state = g.K.Desk.state in
    let inside = c.self.inside in
    subst (λ (l : List Made). IsShared state record { start = inside.start.value; board = c.ask.new.board; made = l; halt = inside.halt }) (sym c.in-Ok.ensures.items)
    (kept_ruled state inside.start.value inside.board c.ask.new.board inside.made.items inside.halt (refuses_call inside.board.past c.args.call) (id_named c.args.call) (asked_for inside.board.past c.args.call)
    c.in-Err.fault c.self.invariant c.in-Ok-sort.ensures.1 c.in-Err.ensures.fails)

pub invariant_of-self-in-Err-sort : goal.invariant_of-self-in-Err-sort
invariant_of-self-in-Err-sort g c =
    let state = g.K.Desk.state in
    let inside = c.self.inside in
    let was = subst (λ (h : Option BoardHalt). IsShared state record { start = inside.start.value; board = inside.board; made = inside.made.items; halt = h }) c.in_default.is c.self.invariant in
    let refused = refuses_call inside.board.past c.args.call in
    let added = asked_for inside.board.past c.args.call in
    let fails = subst (λ (f : BoardFault). FailsToAsk state refused (id_named c.args.call) added inside.board c.ask.new.board f) c.in-Err-sort.ensures c.in-Err.ensures.fails in
    subst (λ (l : List Made). IsShared state record { start = inside.start.value; board = c.ask.new.board; made = l; halt = Some c.in-Err-sort.halt }) (sym c.in-Ok.ensures.items)
    (kept_halted state inside.start.value inside.board c.ask.new.board inside.made.items c.in-Err-sort.halt refused (id_named c.args.call) added was fails c.in-Err.ensures.goes)
