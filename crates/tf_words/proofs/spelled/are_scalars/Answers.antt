use Rattle.std.proofs.Common.{◌∙◌, sym, arith}
use Rattle.tf_words.proofs.SpelledLemmas.{own_byte, comma_byte, comma_unfit, bracket_byte, bracket_unfit}
use Rattle.tf_words.proofs.spelled.are_scalars.Goals as goal
use Rattle.tf_words.proofs.spelled.are_scalars.Goals.{in-Own, in-Comma+else-not-is_scalar}

pub returns-then-not-is_scalar : goal.returns-then-not-is_scalar
returns-then-not-is_scalar c =
    comma_unfit c.args.bytes.now c.loop-end.begin c.loop-end.end c.loop-end.place (omega arith) (sym c.in-Comma.ensures) (sym c.is_scalar.ensures ∙ c.if-not-is_scalar.true) c.loop-end.invariant.same

pub returns-then-is_scalar : goal.returns-then-is_scalar
returns-then-is_scalar c =
    bracket_byte c.args.bytes.now c.loop-end.begin c.loop-end.end c.loop-end.place (omega arith) (sym c.in-Bracket.ensures) (sym c.is_scalar-in-Bracket.ensures ∙ c.if-is_scalar.true) c.loop-end.invariant.same

pub returns-else-is_scalar : goal.returns-else-is_scalar
returns-else-is_scalar c =
    c.if-is_scalar.false ∙ bracket_unfit c.args.bytes.now c.loop-end.begin c.loop-end.end c.loop-end.place (omega arith) (sym c.in-Bracket.ensures) (sym c.is_scalar-in-Bracket.ensures ∙ c.if-is_scalar.false) c.loop-end.invariant.same

pub loop-end-preserved : goal.loop-end-preserved
loop-end-preserved c =
    elim c.match-mark_of.branch [
      | in-Own w ↦ record {
        before = rw w.begin-is (omega arith);
        same = rw (w.begin-is, w.place-is, w.quoting_after-place.ensures)
            (own_byte c.args.bytes.now c.loop-end.begin c.loop-end.end c.loop-end.place c.loop-end.invariant.before (omega arith) (sym w.in-Own.ensures) c.loop-end.invariant.same);
      }
      | in-Comma+else-not-is_scalar w ↦ record {
        before = rw w.begin-is (omega arith);
        same = rw (w.begin-is, w.place-is)
            (comma_byte c.args.bytes.now c.loop-end.begin c.loop-end.end c.loop-end.place (omega arith) (sym w.in-Comma.ensures) (sym w.is_scalar.ensures ∙ w.if-not-is_scalar.false) c.loop-end.invariant.same);
      }
    ]
