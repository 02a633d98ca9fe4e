use Rattle.std.proofs.Common.{◌≡◌, ◌<◌, false, sym, arith, rules}
use Rattle.tf_model.specs.Plan.{count}
use Rattle.tf_model.specs.Steps.{is_settled_at}
use Rattle.tf_machine.specs.Machine.{outline, shown}
use Rattle.tf_numbers.proofs.BelowLemmas.{not_each}
use Rattle.tf_book.proofs.putting_back.are_settled.Goals as goal

pub returns-then-not-is_settled : goal.returns-then-not-is_settled
returns-then-not-is_settled c =
    let within : c.loop-atom.atom < count (outline c.args.machine.now) = omega arith in
    let fails : is_settled_at (shown c.args.machine.now) c.loop-atom.atom ≡ false = search rules in
    sym (not_each (count (outline c.args.machine.now)) (is_settled_at (shown c.args.machine.now)) c.loop-atom.atom within fails)
