use Rattle.std.proofs.Common.{◌≡◌, ◌∙◌, None, ap, refl, sym, subst}
use Rattle.std.specs.Prelude.{IfOk, is_some}
use Rattle.tf_board.specs.Board.{BoardValue, listed, owner_of}
use Rattle.tf_board_service.specs.Sessions.{Answers, call_made, first_lines, owner_reply}
use Rattle.tf_board_service.specs.declared.replies.BoardReply.TheVariants as reply
use Rattle.tf_board.specs.declared.calls.BoardRequest.{BoardRequest}
use Rattle.tf_board.specs.declared.calls.BoardRequest.TheVariants as request
use Rattle.tf_board_service.proofs.AnswerLemmas.{answers_called, answers_told, none_of, stops_halted}
use Rattle.tf_board_service.proofs.answering.answer.Goals as goal

pub returns-then-is_some : goal.returns-then-is_some
returns-then-is_some g c =
    stops_halted g.K.Desk.state (call_made c.args.number c.args.shared.now.board.past c.args.request) c.args.shared.now
    (ap is_some (sym c.halted.ensures) ∙ sym c.is_some.ensures ∙ c.if-is_some.true)

pub returns-in-Call : goal.returns-in-Call
returns-in-Call g c =
    let none : c.args.shared.now.halt ≡ None = none_of c.args.shared.now.halt (ap is_some (sym c.halted.ensures) ∙ sym c.is_some.ensures ∙ c.if-is_some.false) in
    let same : request.Call c.in-Call.call ≡ c.args.request = cc (c.in-Call.is) in
    subst (λ (q : BoardRequest). Answers g.K.Desk.state c.args.number q c.args.shared.now c.or_halt.new.shared c.or_halt.result) same
    (answers_called g.K.Desk.state c.args.number c.in-Call.call c.args.shared.now c.call_reply-reply.new.shared c.or_halt.new.shared c.call_reply-reply.result c.or_halt.result none c.call_reply-reply.ensures c.or_halt.ensures)

pub returns-in-Owner : goal.returns-in-Owner
returns-in-Owner g c =
    let none : c.args.shared.now.halt ≡ None = none_of c.args.shared.now.halt (ap is_some (sym c.halted.ensures) ∙ sym c.is_some.ensures ∙ c.if-is_some.false) in
    let same : request.Owner c.in-Owner.id ≡ c.args.request = cc (c.in-Owner.is) in
    let told = subst (λ (b : BoardValue g.row.K.Denot). IfOk c.owner_reply_of-reply.result (λ x. x ≡ owner_reply (owner_of b.past c.in-Owner.id) c.in-Owner.id)) c.board.ensures c.owner_reply_of-reply.ensures in
    subst (λ (q : BoardRequest). Answers g.K.Desk.state c.args.number q c.args.shared.now c.or_halt-in-Owner.new.shared c.or_halt-in-Owner.result) same
    (answers_told g.K.Desk.state c.args.number (request.Owner c.in-Owner.id) c.args.shared.now c.or_halt-in-Owner.new.shared c.owner_reply_of-reply.result c.or_halt-in-Owner.result refl none told c.or_halt-in-Owner.ensures)

pub returns-in-List : goal.returns-in-List
returns-in-List g c =
    let none : c.args.shared.now.halt ≡ None = none_of c.args.shared.now.halt (ap is_some (sym c.halted.ensures) ∙ sym c.is_some.ensures ∙ c.if-is_some.false) in
    let same : request.List ≡ c.args.request = cc (c.in-List.is) in
    let told = subst (λ (b : BoardValue g.row.K.Denot). IfOk c.list_reply-reply.result (λ x. x ≡ reply.Lines (first_lines (listed b.past)))) c.board-in-List.ensures c.list_reply-reply.ensures in
    subst (λ (q : BoardRequest). Answers g.K.Desk.state c.args.number q c.args.shared.now c.or_halt-in-List.new.shared c.or_halt-in-List.result) same
    (answers_told g.K.Desk.state c.args.number request.List c.args.shared.now c.or_halt-in-List.new.shared c.list_reply-reply.result c.or_halt-in-List.result refl none told c.or_halt-in-List.ensures)
