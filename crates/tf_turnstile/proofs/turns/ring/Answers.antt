use Rattle.std.proofs.Common.{◌∙◌, ap, arith, bit_or, ◌+◌, ◌%◌, ◌^◌}
use mathlib.Core.Option.{none}
use Rattle.atomic_table.specs.Table.{step}
use Rattle.tf_turnstile.proofs.StepLemmas.{bell_allowed}
use Rattle.tf_turnstile.proofs.turns.ring.Goals as goal
use Rattle.tf_turnstile.proofs.turns.ring.Goals.{then-stopped, else-stopped}

pub fetch_or-requires : goal.fetch_or-requires
fetch_or-requires g c = let k = g.B.Kept in let t = c.requires.table in let sized = t.0.0 in
    (t.1, omega (arith, sized), bell_allowed k.origin k.first k.entries c.args.shared.now.key _ _ _ (step c.args.shared.now.table_id.slots 2 1 0 none) (λ n. bit_or n 1))

pub fetch_add-requires : goal.fetch_add-requires
fetch_add-requires g c = let k = g.B.Kept in let t = c.requires.table in let sized = t.0.0 in
    (elim c.if-stopped.branch [ then-stopped w ↦ ap (λ x. x.table_id) w.seat-is ∙ w.fetch_or.ensures.0 ∙ t.1 | else-stopped w ↦ ap (λ x. x.table_id) w.seat-is ∙ t.1 ], omega (arith, sized), bell_allowed k.origin k.first k.entries c.args.shared.now.key _ _ _ (step c.args.shared.now.table_id.slots 2 2 0 none) (λ n. (n + 2) % 2 ^ 64))
