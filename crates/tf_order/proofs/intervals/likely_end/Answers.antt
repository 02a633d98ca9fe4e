use Rattle.std.proofs.Common.{◌+◌, ◌-◌, ◌<◌, refl, arith}
use Rattle.std.proofs.lemmas.Grind.{common_steps}
use Rattle.tf_order.specs.Tables.{atoms_found}
use Rattle.tf_order.proofs.IntervalLemmas.{along_to}
use Rattle.tf_order.proofs.intervals.likely_end.Goals as goal

pub returns-clause-along : goal.returns-clause-along
returns-clause-along c =
    let within : c.saturating_add-likely.result < atoms_found c.args.outline.now = grind (arith, common_steps, c.len.ensures, c.if-likely-len.false) in
    along_to c.args.outline.now c.args.b c.args.turns c.args.most c.saturating_add-likely.result (c.saturating_add-likely.result + 1) c.requires.ascending within (c.if-not-goes_along.ensures refl) refl
