use Rattle.std.proofs.Common.{sym, ◌∙◌, arith}
use Rattle.tf_model.specs.Plan.{outline_of}
use Rattle.tf_machine.specs.Tables.{shown_by}
use Rattle.tf_machine.proofs.BestLemmas.{top_best}
use Rattle.tf_machine.proofs.candidates.best.Goals as goal

pub returns-then-is_outranked_by_none : goal.returns-then-is_outranked_by_none
returns-then-is_outranked_by_none c =
    top_best (outline_of c.args.compiled.now) (shown_by c.args.tables.now) c.loop-atom.atom c.loop-atom.best c.loop-atom.invariant (sym c.outranks.ensures ∙ c.if-outranks.true)
    (sym c.is_listed_candidate.ensures ∙ c.if-is_listed_candidate.true) (omega (arith, c.loop-atom-test.true, c.loop-atom.auto.atom-end, c.atoms-atom-end.ensures.count))
    (c.is_outranked_by_none.ensures c.if-is_outranked_by_none.true)
