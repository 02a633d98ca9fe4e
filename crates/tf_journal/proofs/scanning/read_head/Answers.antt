use Rattle.std.proofs.Common.{◌≡◌, ◌⊎◌, inl, inr, ◌<◌, ◌+◌, get_or, arith}
use Rattle.tf_journal.specs.Format.{OPEN, body_limit, SIZE_LIMIT}
use Rattle.tf_journal.proofs.FoundLemmas.{shows_bad, shows_body}
use Rattle.tf_journal.proofs.scanning.read_head.Goals as goal
use Rattle.tf_journal.proofs.scanning.read_head.Goals.{then-length-eq0-via-then-length-eq0, then-length-eq0-via-else-length-eq0+then-length-limit, then-length-eq0-via-else-length-eq0+else-length-limit+then-place-length-gt-SIZE_LIMIT}

pub returns-then-length-eq0-clause-shows : goal.returns-then-length-eq0-clause-shows
returns-then-length-eq0-clause-shows c =
    let head = c.args.head.now in
    let n = c.length_of-length.result in
    let gate : get_or head 0 0 ≡ OPEN = omega arith in
    let cause : (n ≡ 0) ⊎ ((body_limit c.args.title < n) ⊎ (SIZE_LIMIT < c.args.place + 6 + n)) =
    elim c.then-length-eq0.branch [
      | then-length-eq0-via-then-length-eq0 w ↦ inl (omega arith)
      | then-length-eq0-via-else-length-eq0+then-length-limit w ↦ inr (inl (omega (arith, c.body_limit-limit.ensures)))
      | then-length-eq0-via-else-length-eq0+else-length-limit+then-place-length-gt-SIZE_LIMIT w ↦ inr (inr (omega arith))
    ] in
    λ bytes are size. shows_bad c.args.title head bytes c.args.place are (omega arith) n c.length_of-length.ensures gate cause

pub returns-clause-shows : goal.returns-clause-shows
returns-clause-shows c =
    let head = c.args.head.now in
    let n = c.length_of-length.result in
    let gate : get_or head 0 0 ≡ OPEN = omega arith in
    λ bytes are size. shows_body c.args.title head bytes c.args.place are (omega arith) n c.length_of-length.ensures gate
    (omega (arith, c.type_inv.head 1)) (omega (arith, c.type_inv.head 2)) (omega (arith, c.type_inv.head 3)) (omega (arith, c.type_inv.head 4))
    (omega arith) (omega (arith, c.body_limit-limit.ensures)) (omega arith) (omega (arith, size))
