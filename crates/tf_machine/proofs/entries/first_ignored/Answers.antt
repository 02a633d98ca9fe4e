use Rattle.std.proofs.Common.{◌≡◌, ◌<◌, true, sym, arith, rules}
use Rattle.tf_model.specs.Plan.{outline_of, count}
use Rattle.tf_model.specs.Forced.{is_to_ignore}
use Rattle.tf_machine.specs.Tables.{shown_by}
use Rattle.tf_numbers.proofs.BelowLemmas.{first_found}
use Rattle.tf_machine.proofs.entries.first_ignored.Goals as goal

pub returns-then-is_to_ignore : goal.returns-then-is_to_ignore
returns-then-is_to_ignore c =
    let within : c.loop-atom.atom < count (outline_of c.args.compiled.now) = omega arith in
    let passes : is_to_ignore (outline_of c.args.compiled.now) (shown_by c.args.tables.now) c.args.refused c.args.depth c.loop-atom.atom ≡ true = search rules in
    sym (first_found (count (outline_of c.args.compiled.now)) (is_to_ignore (outline_of c.args.compiled.now) (shown_by c.args.tables.now) c.args.refused c.args.depth) c.loop-atom.atom c.loop-atom.invariant passes within)
