use Rattle.std.proofs.Common.{◌≡◌, ◌+◌, ◌-◌, refl, arith}
use Rattle.std.proofs.lemmas.Grind.{common_steps}
use Rattle.tf_order.specs.Tables.{atoms_found}
use Rattle.tf_order.proofs.IntervalLemmas.{along_to}
use Rattle.tf_order.proofs.intervals.end_along.Goals as goal

pub returns-then-goes_along-clause-along : goal.returns-then-goes_along-clause-along
returns-then-goes_along-clause-along c =
    let many : c.len-last.result ≡ atoms_found c.args.outline.now = grind (arith, common_steps, c.len-last.ensures) in
    let some = c.requires.atom in
    along_to c.args.outline.now c.args.b c.args.turns c.args.most (c.len-last.result - 1) (c.len-last.result - 1 + 1) c.requires.ascending (omega (arith, many, some)) (c.if-goes_along.ensures refl) refl
