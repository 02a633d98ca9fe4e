use Rattle.std.proofs.Common.{◌≡◌, ◌≤◌, ◌∙◌, arith, ap}
use Rattle.tf_board_service.specs.Sessions.{first_lines}
use Rattle.tf_board_service.specs.declared.replies.BoardReply.TheVariants as reply
use Rattle.tf_board_service.proofs.AnswerLemmas.{first_are}
use Rattle.tf_board_service.proofs.answering.list_reply.Goals as goal

pub returns : goal.returns
returns g c =
    let list = c.in_ok-list.list in
    let n = c.line_count-count in
    let same : c.loop-at.at ≡ n.result = omega (arith, c.loop-at-test.false, c.loop-at.auto.at-end) in
    let few : c.loop-at.at ≤ 1000 = omega (arith, same, n.ensures.few.0) in
    ap reply.Lines (c.make.ensures ∙ c.loop-at.invariant ∙ first_are list.items c.loop-at.at few (λ lt. omega (arith, n.ensures.ends (omega (arith, lt, same)), same, c.len.ensures, list.ok.0)) ∙ ap first_lines c.in_ok-list.ensures)
