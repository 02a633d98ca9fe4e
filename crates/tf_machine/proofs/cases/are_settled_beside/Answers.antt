use Rattle.std.proofs.Common.{◌<◌, ◌∙◌, true, inl, sym, arith}
use Rattle.tf_model.specs.Plan.{outline_of, count}
use Rattle.tf_model.specs.Forced.{is_settled_beside}
use Rattle.tf_machine.specs.Tables.{shown_by}
use Rattle.tf_numbers.proofs.BelowLemmas.{not_each}
use Rattle.tf_machine.proofs.SpanLemmas.{all_beside, settled_outside, one_more_so}
use Rattle.tf_machine.proofs.cases.are_settled_beside.Goals as goal

pub loop-atom-init : goal.loop-atom-init
loop-atom-init c = λ a below. settled_outside (outline_of c.args.compiled.now) (shown_by c.args.tables.now) c.args.retry a c.span_around-span.result c.span_around-span.ensures (inl below)

pub loop-atom-preserved : goal.loop-atom-preserved
loop-atom-preserved c =
    one_more_so (is_settled_beside (outline_of c.args.compiled.now) (shown_by c.args.tables.now) c.args.retry) true c.loop-atom.atom c.loop-atom.invariant
    (sym c.is_settled_beside.ensures ∙ c.if-not-is_settled_beside.false)

pub returns-then-not-is_settled_beside : goal.returns-then-not-is_settled_beside
returns-then-not-is_settled_beside c =
    let within : c.loop-atom.atom < count (outline_of c.args.compiled.now) = let end = c.span_around-span.ensures.within in omega (arith, end, c.loop-atom-test.true) in
    sym (not_each (count (outline_of c.args.compiled.now)) (is_settled_beside (outline_of c.args.compiled.now) (shown_by c.args.tables.now) c.args.retry) c.loop-atom.atom within
    (sym c.is_settled_beside.ensures ∙ c.if-not-is_settled_beside.true))

pub returns : goal.returns
returns c = sym (all_beside (outline_of c.args.compiled.now) (shown_by c.args.tables.now) c.args.retry c.loop-atom.atom c.span_around-span.result c.span_around-span.ensures (omega (arith, c.loop-atom.auto.atom-end, c.loop-atom-test.false)) c.loop-atom.invariant)
