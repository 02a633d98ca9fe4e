use Rattle.std.proofs.Common.{◌≢◌, ◌≤◌, get_or, ◌∙◌, arith}
use Rattle.tf_journal.proofs.HeaderLemmas.{header_zero, header_open, header_shut}
use Rattle.tf_journal.proofs.header.looks_unborn.Goals as goal
use Rattle.tf_journal.proofs.header.looks_unborn.Goals.{else-size-le18-via-then-size-le18+else-head-eq0, else-size-le18-via-else-size-le18}

pub returns-then-head-eq0 : goal.returns-then-head-eq0
returns-then-head-eq0 c = λ bytes are size. header_zero c.args.title c.args.head.now bytes are c.requires (omega (arith, size)) (omega arith)

pub returns-then-head : goal.returns-then-head
returns-then-head c = λ bytes are size. header_open c.args.title c.args.head.now bytes are c.requires (omega arith)

pub returns : goal.returns
returns c =
    let head = c.args.head.now in
    let zero_gate : c.args.size ≤ 18 → get_or head 0 0 ≢ 0 = λ short is.
    elim c.else-size-le18.branch [
      | else-size-le18-via-then-size-le18+else-head-eq0 w ↦ absurd (omega (arith, is))
      | else-size-le18-via-else-size-le18 w ↦ absurd (omega (arith, short))
    ] in
    λ bytes are size.
    c.is_titled.ensures bytes are size ∙ header_shut c.args.title head bytes are c.requires (λ short. zero_gate (omega (arith, short, size))) (λ gate. absurd (omega (arith, gate)))
