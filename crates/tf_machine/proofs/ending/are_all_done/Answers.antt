use Rattle.std.proofs.Common.{◌≡◌, ◌<◌, false, sym, arith, rules}
use Rattle.tf_model.specs.Plan.{outline_of, count}
use Rattle.tf_model.specs.Forced.{is_done_at}
use Rattle.tf_machine.specs.Tables.{shown_by}
use Rattle.tf_numbers.proofs.BelowLemmas.{not_each}
use Rattle.tf_machine.proofs.ending.are_all_done.Goals as goal

pub returns-then-not-is_done : goal.returns-then-not-is_done
returns-then-not-is_done c =
    let within : c.loop-atom.atom < count (outline_of c.args.compiled.now) = omega arith in
    let waits : is_done_at (shown_by c.args.tables.now) c.loop-atom.atom ≡ false = search rules in
    sym (not_each (count (outline_of c.args.compiled.now)) (is_done_at (shown_by c.args.tables.now)) c.loop-atom.atom within waits)
