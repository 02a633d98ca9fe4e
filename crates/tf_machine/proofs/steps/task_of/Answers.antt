use Rattle.std.proofs.Common.{◌≡◌, ◌<◌, true, sym, arith, rules}
use Rattle.tf_model.specs.Plan.{outline_of, count}
use Rattle.tf_hands.specs.Hands.{is_with}
use Rattle.tf_machine.specs.Tables.{shown_by}
use Rattle.tf_numbers.proofs.BelowLemmas.{first_found}
use Rattle.tf_machine.proofs.ListedLemmas.{none_with}
use Rattle.tf_machine.proofs.steps.task_of.Goals as goal

pub returns-then-is_with : goal.returns-then-is_with
returns-then-is_with c =
    let within : c.loop-atom.atom < count (outline_of c.args.compiled.now) = omega arith in
    let passes : is_with (shown_by c.args.tables.now) c.args.hand c.loop-atom.atom ≡ true = search rules in
    sym (first_found (count (outline_of c.args.compiled.now)) (is_with (shown_by c.args.tables.now) c.args.hand) c.loop-atom.atom c.loop-atom.invariant passes within)

pub loop-atom-init : goal.loop-atom-init
loop-atom-init c =
    none_with (outline_of c.args.compiled.now) (shown_by c.args.tables.now) c.args.list.now c.first_of-start.result c.args.hand c.requires.listed (omega (arith, c.first_of-start.ensures.within, c.atoms.ensures.count)) c.first_of-start.ensures.before
