use Rattle.std.proofs.Common.{◌≡◌, ◌<◌, true, sym, arith, rules}
use Rattle.tf_model.specs.Plan.{count}
use Rattle.tf_model.specs.Steps.{is_put_back_at}
use Rattle.tf_machine.specs.Machine.{outline, shown}
use Rattle.tf_numbers.proofs.BelowLemmas.{first_found}
use Rattle.tf_book.proofs.putting_back.first_put_back.Goals as goal

pub returns-then-is_put_back : goal.returns-then-is_put_back
returns-then-is_put_back c =
    let within : c.loop-atom.atom < count (outline c.args.machine.now) = omega arith in
    let passes : is_put_back_at (shown c.args.machine.now) c.loop-atom.atom ≡ true = search rules in
    sym (first_found (count (outline c.args.machine.now)) (is_put_back_at (shown c.args.machine.now)) c.loop-atom.atom c.loop-atom.invariant passes within)
