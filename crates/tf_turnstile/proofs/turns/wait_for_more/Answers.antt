use Rattle.std.proofs.Common.{◌∙◌, arith}
use mathlib.Core.Option.{none}
use Rattle.atomic_table.specs.Table.{step}
use Rattle.tf_turnstile.proofs.StepLemmas.{glance_allowed}
use Rattle.tf_turnstile.proofs.turns.wait_for_more.Goals as goal

pub load-requires : goal.load-requires
load-requires g c = let k = g.B.Kept in let t = c.requires.table in let sized = t.0.0 in let i = c.loop.invariant in
    (i.0.0 ∙ t.1, omega (arith, sized), glance_allowed k.origin k.first k.entries c.args.shared.now.key _ _ _ (step c.args.shared.now.table_id.slots 1 0 0 none))
