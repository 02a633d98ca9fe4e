use Rattle.std.proofs.Common.{rules, ◌≡◌, ◌==◌, take, true, false, sym, ◌∙◌}
use Rattle.std.specs.List.{sum_by}
use Rattle.std.specs.Cmp.Lexicographic.{pointwise, bytes_decides}
use Rattle.tf_desk.specs.MemoryDesk.{written_count}
use Rattle.tf_desk.proofs.OtherLemmas.{other_missing, other_there}
use Rattle.tf_desk.proofs.crashing.other_of.Goals as goal

pub returns-then-not-was_picked-clause-bytes : goal.returns-then-not-was_picked-clause-bytes
returns-then-not-was_picked-clause-bytes c = λ shown.
    other_missing c.args.log.now (take (sum_by written_count c.args.log.now) c.args.tape.now) shown c.args.name.now c.args.other.now (sym c.was_picked.ensures ∙ c.if-not-was_picked.true)

pub returns-clause-bytes : goal.returns-clause-bytes
returns-clause-bytes c = λ shown.
    let unlike : pointwise ◌==◌ c.args.other.now c.args.name.now ≡ false = search rules in
    other_there c.args.log.now (take (sum_by written_count c.args.log.now) c.args.tape.now) shown c.args.name.now c.args.other.now c.in_ok-traced.traced.bytes.items
    (λ same. (let told : pointwise ◌==◌ c.args.other.now c.args.name.now ≡ true = (bytes_decides c.args.other.now c.args.name.now).1 same in cc))
    (sym c.was_picked.ensures ∙ c.if-not-was_picked.false)
    (c.in_ok-traced.ensures shown).bytes
