use Rattle.std.proofs.Common.{◌≡◌, ◌<◌, false, sym, arith}
use Rattle.tf_model.specs.Plan.{outline_of, count}
use Rattle.tf_model.specs.Forced.{is_unhurt_at}
use Rattle.tf_machine.specs.Tables.{shown_by}
use Rattle.tf_numbers.proofs.BelowLemmas.{not_each}
use Rattle.tf_machine.proofs.forcing.are_unhurt.Goals as goal

pub returns-then-is_revert_failure : goal.returns-then-is_revert_failure
returns-then-is_revert_failure c =
    let within : c.loop-atom.atom < count (outline_of c.args.compiled.now) = omega arith in
    let hurt : is_unhurt_at (shown_by c.args.tables.now) c.loop-atom.atom ≡ false = search (Rattle.std.proofs.Common.rules) in
    sym (not_each (count (outline_of c.args.compiled.now)) (is_unhurt_at (shown_by c.args.tables.now)) c.loop-atom.atom within hurt)
