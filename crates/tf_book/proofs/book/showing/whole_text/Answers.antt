use Rattle.std.proofs.Common.{sym, subst}
use Rattle.tf_flow.specs.Plan.{PlanValue}
use Rattle.tf_details.specs.Elements.{AreEntriesOf}
use Rattle.tf_book.specs.Histories.{past_shown}
use Rattle.tf_book.proofs.book.showing.whole_text.Goals as goal

pub append_lines-requires-clause-entries : goal.append_lines-requires-clause-entries
append_lines-requires-clause-entries c =
    subst (λ (p : PlanValue). AreEntriesOf p (past_shown c.args.history.entries.items)) (sym c.plan.ensures.is) c.requires.entries
