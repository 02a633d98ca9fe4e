use Rattle.std.proofs.Common.{◌≡◌, ◌∙◌, ap, sym, subst, None}
use Rattle.tf_flow.specs.Tree.{first_some, tree_of}
use Rattle.tf_order.specs.Arranged.{ShowsFlows}
use Rattle.tf_order.specs.Refusals.{IsRefusedBy}
use Rattle.tf_order.specs.Tables.{told_at, plan_seen}
use Rattle.tf_order.proofs.CompilationLemmas.{refusal_told, shows_plan, standing_fits, graph_is}
use Rattle.tf_order.proofs.IntervalLemmas.{paths_ascend}
use Rattle.tf_order.proofs.compilation.compile.Goals as goal

pub returns-in-Some-clause-refused : goal.returns-in-Some-clause-refused
returns-in-Some-clause-refused c = subst (λ refusal. IsRefusedBy refusal c.in-Some.fault)
    (ap (first_some (told_at c.in_ok-found.found.faults.items)) c.deref-2.ensures.value
    ∙ refusal_told c.args.plan.now c.in_ok-outline.outline c.in_ok-found.found.table.items c.in_ok-found.found.faults.items c.in_ok-outline.ensures.atoms c.in_ok-outline.ensures.levels c.in_ok-outline.ensures.inner_first c.in_ok-found.ensures)
    c.in-Some.ensures

pub tables-requires-clause-shows : goal.tables-requires-clause-shows
tables-requires-clause-shows c = subst (λ table. ShowsFlows table (plan_seen c.in_ok-outline.outline).flows) (sym c.deref-3.ensures.value)
    (shows_plan c.in_ok-outline.outline c.in_ok-found.found.table.items c.in_ok-found.found.faults.items c.in_ok-found.ensures)

pub tables-requires-clause-ascending : goal.tables-requires-clause-ascending
tables-requires-clause-ascending c = paths_ascend (tree_of c.args.plan.now.root) c.in_ok-outline.outline c.in_ok-outline.ensures.atoms

pub tables-requires-clause-standing : goal.tables-requires-clause-standing
tables-requires-clause-standing c = standing_fits (tree_of c.args.plan.now.root) c.in_ok-outline.outline c.in_ok-outline.ensures.atoms c.in_ok-outline.ensures.levels c.in_ok-outline.ensures.few_atoms

pub returns-clause-graph : goal.returns-clause-graph
returns-clause-graph c =
    let none : first_some (told_at c.in_ok-found.found.faults.items) c.deref-2.result.now ≡ None = c.in_default.ensures in
    graph_is c.args.plan.now c.in_ok-outline.outline c.in_ok-graph.graph c.in_ok-outline.ensures.atoms c.in_ok-outline.ensures.levels c.in_ok-graph.ensures
    (sym (ap (first_some (told_at c.in_ok-found.found.faults.items)) c.deref-2.ensures.value
    ∙ refusal_told c.args.plan.now c.in_ok-outline.outline c.in_ok-found.found.table.items c.in_ok-found.found.faults.items c.in_ok-outline.ensures.atoms c.in_ok-outline.ensures.levels c.in_ok-outline.ensures.inner_first c.in_ok-found.ensures)
    ∙ none)
