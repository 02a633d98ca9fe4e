use Rattle.std.proofs.Common.{ap, ◌∙◌}
use Rattle.std.specs.Prelude.{not}
use Rattle.tf_board.proofs.StartLemmas.{firsts_new, firsts_kept}
use Rattle.tf_board.proofs.starts.note.Goals as goal

pub returns-then-is_none : goal.returns-then-is_none
returns-then-is_none c = λ before are long. firsts_new before c.args.priority c.args.found.now c.rank-first.result c.args.place are c.rank-first.ensures.is long (c.is_none.ensures ∙ ap not c.if-is_none.true)

pub returns-else-is_none : goal.returns-else-is_none
returns-else-is_none c = λ before are long. firsts_kept before c.args.priority c.args.found.now c.rank-first.result are c.rank-first.ensures.is (c.is_none.ensures ∙ ap not c.if-is_none.false)
