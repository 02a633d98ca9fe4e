use Rattle.std.proofs.Common.{◌≡◌, ◌<◌, false, sym, arith, rules}
use Rattle.tf_model.specs.Plan.{outline_of, count}
use Rattle.tf_model.specs.Steps.{is_free, is_not_with}
use Rattle.tf_machine.specs.Tables.{shown_by}
use Rattle.tf_numbers.proofs.BelowLemmas.{not_each}
use Rattle.tf_machine.proofs.ListedLemmas.{none_is_with}
use Rattle.tf_machine.proofs.steps.is_free.Goals as goal

pub returns-then-is_with : goal.returns-then-is_with
unfolding is_free
returns-then-is_with c =
    let within : c.loop-atom.atom < count (outline_of c.args.compiled.now) = omega arith in
    let fails : is_not_with (shown_by c.args.tables.now) c.args.hand c.loop-atom.atom ≡ false = search rules in
    sym (not_each (count (outline_of c.args.compiled.now)) (is_not_with (shown_by c.args.tables.now) c.args.hand) c.loop-atom.atom within fails)

pub loop-atom-init : goal.loop-atom-init
loop-atom-init c =
    none_is_with (outline_of c.args.compiled.now) (shown_by c.args.tables.now) c.args.list.now c.first_of-start.result c.args.hand c.requires.listed (omega (arith, c.first_of-start.ensures.within, c.atoms.ensures.count)) c.first_of-start.ensures.before
