use Rattle.std.proofs.Common.{arith}
use mathlib.Core.Option.{none}
use Rattle.atomic_table.specs.Table.{step}
use Rattle.tf_turnstile.proofs.StepLemmas.{take_allowed}
use Rattle.tf_turnstile.proofs.TurnLemmas.{taken_or_not}
use Rattle.tf_turnstile.proofs.turns.try_take_out.Goals as goal

pub swap-requires : goal.swap-requires
swap-requires g c = let k = g.B.Kept in let t = c.requires.table in let sized = t.0.0 in let f = c.requires.free in
    (t.1, omega (arith, sized), take_allowed k.origin k.first k.entries c.args.shared.now.key _ c.args.turn c.requires.out _ _ (step c.args.shared.now.table_id.slots 0 c.args.turn 0 none) f.start f.live f.nothing f.no_slot)

pub returns-clause-taken : goal.returns-clause-taken
returns-clause-taken g c = taken_or_not c.args.seat.now.me c.swap.new.seat.me c.swap.result (step c.args.shared.now.table_id.slots 0 c.args.turn 0 none) c.swap.ensures.2
