use Rattle.std.proofs.Common.{sym, ◌∙◌, ap, List, ◌++◌, ℕ}
use Rattle.std.specs.Int.{w16, to_be_bytes}
use Rattle.tf_values.proofs.ByteLemmas.{no_list}
use Rattle.tf_values.proofs.decoding.list_at.Goals as goal

pub returns-clause-refused : goal.returns-clause-refused
returns-clause-refused c =
    let counted = c.in-Some.ensures in
    let read = c.in_ok-items.ensures.ok in
    λ is. no_list c.in_ok-items.items.items c.in_ok-items.rest.now c.in-Some.count c.args.bytes.now read.0 read.1 counted.0 (sym c.in-Err.ensures.variant)
    (counted.1 ∙ ap (λ (rest : List ℕ). to_be_bytes w16 c.in-Some.count ++ rest) read.2)
