use Rattle.std.proofs.Common.{◌≡◌, ◌<◌, ◌∙◌, true, false, inl, sym, arith, rules}
use Rattle.tf_model.specs.Plan.{outline_of, count}
use Rattle.tf_model.specs.Forced.{is_to_put_back}
use Rattle.tf_machine.specs.Tables.{shown_by}
use Rattle.tf_numbers.proofs.BelowLemmas.{first_is}
use Rattle.tf_machine.proofs.SpanLemmas.{none_to_put, put_outside, one_more_so}
use Rattle.tf_machine.proofs.entries.first_to_put_back.Goals as goal

pub loop-atom-init : goal.loop-atom-init
loop-atom-init c = λ a below. put_outside (outline_of c.args.compiled.now) (shown_by c.args.tables.now) c.args.retry a c.span_around-span.result c.span_around-span.ensures (inl below)

pub loop-atom-preserved : goal.loop-atom-preserved
loop-atom-preserved c =
    one_more_so (is_to_put_back (outline_of c.args.compiled.now) (shown_by c.args.tables.now) c.args.retry) false c.loop-atom.atom c.loop-atom.invariant
    (sym c.is_to_put_back.ensures ∙ c.if-is_to_put_back.false)

pub returns-then-is_to_put_back : goal.returns-then-is_to_put_back
returns-then-is_to_put_back c =
    let within : c.loop-atom.atom < count (outline_of c.args.compiled.now) = let end = c.span_around-span.ensures.within in omega (arith, end, c.loop-atom-test.true) in
    let passes : is_to_put_back (outline_of c.args.compiled.now) (shown_by c.args.tables.now) c.args.retry c.loop-atom.atom ≡ true = search rules in
    sym (first_is (count (outline_of c.args.compiled.now)) (is_to_put_back (outline_of c.args.compiled.now) (shown_by c.args.tables.now) c.args.retry) c.loop-atom.atom within passes c.loop-atom.invariant)

pub returns : goal.returns
returns c = sym (none_to_put (outline_of c.args.compiled.now) (shown_by c.args.tables.now) c.args.retry c.loop-atom.atom c.span_around-span.result c.span_around-span.ensures (omega (arith, c.loop-atom.auto.atom-end, c.loop-atom-test.false)) c.loop-atom.invariant)
