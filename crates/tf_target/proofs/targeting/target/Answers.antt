use Rattle.std.proofs.Common.{◌≡◌, ◌∙◌, true, Some, ap, sym, subst, arith}
use Rattle.tf_flow.specs.Outline.{atom_count}
use Rattle.tf_flow.specs.Rules.{first_refusal, is_graph}
use Rattle.tf_flow.specs.Tree.{tree_of}
use Rattle.tf_flow.specs.Plan.{plan_tree, as_written}
use Rattle.tf_flow.specs.declared.nested.Flow.{Flow}
use Rattle.tf_target.specs.Target.{item_named, target_refusal, target_tree, IsTargetAnswer}
use Rattle.tf_target.proofs.LawLemmas.{target_compiles, target_order, target_complete}
use Rattle.tf_target.proofs.KeptLimitLemmas.{empty_if}
use Rattle.tf_target.proofs.TargetLemmas.{place_within, named_by, is_item_named, root_kept, target_is, refusal_kept, not_refused, refused_so, none_before}
use Rattle.tf_target.proofs.targeting.target.Goals as goal

pub kept_marks-requires : goal.kept_marks-requires
kept_marks-requires c =
    place_within c.args.plan.now.root.items.items.items c.args.name.now c.in-Some.item
    (named_by c.args.plan.now c.root-2.result.now c.items.result.now c.args.name.now c.place_of.result c.in-Some.item c.root-2.ensures.value c.items.ensures c.place_of.ensures c.in-Some.is)

pub returns-in-Ok-clause-target : goal.returns-in-Ok-clause-target
returns-in-Ok-clause-target c =
    let named : item_named (plan_tree c.args.plan.now) c.args.name.now ≡ Some c.in-Some.item =
    is_item_named c.args.plan.now c.args.name.now c.in-Some.item (named_by c.args.plan.now c.root-2.result.now c.items.result.now c.args.name.now c.place_of.result c.in-Some.item c.root-2.ensures.value c.items.ensures c.place_of.ensures c.in-Some.is) in
    let written : as_written (tree_of c.in_ok-root.root) ≡ as_written (target_tree (plan_tree c.args.plan.now) c.in-Some.item) =
    root_kept c.args.plan.now c.root-3.result.now c.in_ok-root.root c.in_ok-marks.marks.items c.deref.result.now c.in-Some.item c.root-3.ensures.value c.deref.ensures.value c.in_ok-marks.ensures c.in_ok-root.ensures in
    target_is c.args.plan.now c.in-Ok.kept c.args.name.now c.in-Some.item c.in_ok-root.root c.in_ok-store.store c.defer.result named c.in-Ok.ensures.given written (c.in_ok-store.ensures ∙ c.store.ensures.value) c.defer.ensures

pub returns-in-Ok-clause-order : goal.returns-in-Ok-clause-order
returns-in-Ok-clause-order c =
    let named : item_named (plan_tree c.args.plan.now) c.args.name.now ≡ Some c.in-Some.item =
    is_item_named c.args.plan.now c.args.name.now c.in-Some.item (named_by c.args.plan.now c.root-2.result.now c.items.result.now c.args.name.now c.place_of.result c.in-Some.item c.root-2.ensures.value c.items.ensures c.place_of.ensures c.in-Some.is) in
    let written : as_written (tree_of c.in_ok-root.root) ≡ as_written (target_tree (plan_tree c.args.plan.now) c.in-Some.item) =
    root_kept c.args.plan.now c.root-3.result.now c.in_ok-root.root c.in_ok-marks.marks.items c.deref.result.now c.in-Some.item c.root-3.ensures.value c.deref.ensures.value c.in_ok-marks.ensures c.in_ok-root.ensures in
    let yes : c.is_graph.result ≡ true = grind (arith, c.if-not-is_graph.false) in
    let graph : is_graph c.args.plan.now.root.kind ≡ true = ap (λ (f : Flow). is_graph f.kind) (sym c.root.ensures.value) ∙ (sym c.is_graph.ensures ∙ yes) in
    target_order c.args.plan.now c.in-Ok.kept c.args.name.now graph c.root.ensures.accepted c.requires.compiles
    (target_is c.args.plan.now c.in-Ok.kept c.args.name.now c.in-Some.item c.in_ok-root.root c.in_ok-store.store c.defer.result named c.in-Ok.ensures.given written (c.in_ok-store.ensures ∙ c.store.ensures.value) c.defer.ensures)

pub returns-in-Ok-clause-compiled : goal.returns-in-Ok-clause-compiled
returns-in-Ok-clause-compiled c =
    let named : item_named (plan_tree c.args.plan.now) c.args.name.now ≡ Some c.in-Some.item =
    is_item_named c.args.plan.now c.args.name.now c.in-Some.item (named_by c.args.plan.now c.root-2.result.now c.items.result.now c.args.name.now c.place_of.result c.in-Some.item c.root-2.ensures.value c.items.ensures c.place_of.ensures c.in-Some.is) in
    let written : as_written (tree_of c.in_ok-root.root) ≡ as_written (target_tree (plan_tree c.args.plan.now) c.in-Some.item) =
    root_kept c.args.plan.now c.root-3.result.now c.in_ok-root.root c.in_ok-marks.marks.items c.deref.result.now c.in-Some.item c.root-3.ensures.value c.deref.ensures.value c.in_ok-marks.ensures c.in_ok-root.ensures in
    let yes : c.is_graph.result ≡ true = grind (arith, c.if-not-is_graph.false) in
    let graph : is_graph c.args.plan.now.root.kind ≡ true = ap (λ (f : Flow). is_graph f.kind) (sym c.root.ensures.value) ∙ (sym c.is_graph.ensures ∙ yes) in
    target_compiles c.args.plan.now c.in-Ok.kept c.args.name.now graph c.root.ensures.accepted c.requires.compiles
    (target_is c.args.plan.now c.in-Ok.kept c.args.name.now c.in-Some.item c.in_ok-root.root c.in_ok-store.store c.defer.result named c.in-Ok.ensures.given written (c.in_ok-store.ensures ∙ c.store.ensures.value) c.defer.ensures)

pub returns-in-Ok-clause-provided : goal.returns-in-Ok-clause-provided
returns-in-Ok-clause-provided c =
    let named : item_named (plan_tree c.args.plan.now) c.args.name.now ≡ Some c.in-Some.item =
    is_item_named c.args.plan.now c.args.name.now c.in-Some.item (named_by c.args.plan.now c.root-2.result.now c.items.result.now c.args.name.now c.place_of.result c.in-Some.item c.root-2.ensures.value c.items.ensures c.place_of.ensures c.in-Some.is) in
    let written : as_written (tree_of c.in_ok-root.root) ≡ as_written (target_tree (plan_tree c.args.plan.now) c.in-Some.item) =
    root_kept c.args.plan.now c.root-3.result.now c.in_ok-root.root c.in_ok-marks.marks.items c.deref.result.now c.in-Some.item c.root-3.ensures.value c.deref.ensures.value c.in_ok-marks.ensures c.in_ok-root.ensures in
    let yes : c.is_graph.result ≡ true = grind (arith, c.if-not-is_graph.false) in
    let graph : is_graph c.args.plan.now.root.kind ≡ true = ap (λ (f : Flow). is_graph f.kind) (sym c.root.ensures.value) ∙ (sym c.is_graph.ensures ∙ yes) in
    target_complete c.args.plan.now c.in-Ok.kept c.args.name.now graph c.root.ensures.accepted c.requires.compiles
    (target_is c.args.plan.now c.in-Ok.kept c.args.name.now c.in-Some.item c.in_ok-root.root c.in_ok-store.store c.defer.result named c.in-Ok.ensures.given written (c.in_ok-store.ensures ∙ c.store.ensures.value) c.defer.ensures) c.requires.complete

pub returns-in-Ok-clause-accepted : goal.returns-in-Ok-clause-accepted
returns-in-Ok-clause-accepted c =
    let named : item_named (plan_tree c.args.plan.now) c.args.name.now ≡ Some c.in-Some.item =
    is_item_named c.args.plan.now c.args.name.now c.in-Some.item (named_by c.args.plan.now c.root-2.result.now c.items.result.now c.args.name.now c.place_of.result c.in-Some.item c.root-2.ensures.value c.items.ensures c.place_of.ensures c.in-Some.is) in
    let written : as_written (tree_of c.in_ok-root.root) ≡ as_written (target_tree (plan_tree c.args.plan.now) c.in-Some.item) =
    root_kept c.args.plan.now c.root-3.result.now c.in_ok-root.root c.in_ok-marks.marks.items c.deref.result.now c.in-Some.item c.root-3.ensures.value c.deref.ensures.value c.in_ok-marks.ensures c.in_ok-root.ensures in
    let yes : c.is_graph.result ≡ true = grind (arith, c.if-not-is_graph.false) in
    let graph : is_graph c.args.plan.now.root.kind ≡ true = ap (λ (f : Flow). is_graph f.kind) (sym c.root.ensures.value) ∙ (sym c.is_graph.ensures ∙ yes) in
    let told : first_refusal c.in_ok-root.root c.in_ok-store.store ≡ empty_if (atom_count (target_tree (plan_tree c.args.plan.now) c.in-Some.item)) =
    refusal_kept c.args.plan.now c.in_ok-root.root c.in_ok-store.store c.in-Some.item graph c.root.ensures.accepted (c.in_ok-store.ensures ∙ c.store.ensures.value) written in
    not_refused c.args.plan.now c.args.name.now c.in-Some.item (first_refusal c.in_ok-root.root c.in_ok-store.store) graph named told c.in-Ok.ensures.accepted

pub returns-in-Ok-clause-apart : goal.returns-in-Ok-clause-apart
returns-in-Ok-clause-apart c = none_before c.args.plan.now c.args.name.now c.requires.compiles

pub returns-clause-refused : goal.returns-clause-refused
returns-clause-refused c =
    let named : item_named (plan_tree c.args.plan.now) c.args.name.now ≡ Some c.in-Some.item =
    is_item_named c.args.plan.now c.args.name.now c.in-Some.item (named_by c.args.plan.now c.root-2.result.now c.items.result.now c.args.name.now c.place_of.result c.in-Some.item c.root-2.ensures.value c.items.ensures c.place_of.ensures c.in-Some.is) in
    let written : as_written (tree_of c.in_ok-root.root) ≡ as_written (target_tree (plan_tree c.args.plan.now) c.in-Some.item) =
    root_kept c.args.plan.now c.root-3.result.now c.in_ok-root.root c.in_ok-marks.marks.items c.deref.result.now c.in-Some.item c.root-3.ensures.value c.deref.ensures.value c.in_ok-marks.ensures c.in_ok-root.ensures in
    let yes : c.is_graph.result ≡ true = grind (arith, c.if-not-is_graph.false) in
    let graph : is_graph c.args.plan.now.root.kind ≡ true = ap (λ (f : Flow). is_graph f.kind) (sym c.root.ensures.value) ∙ (sym c.is_graph.ensures ∙ yes) in
    let told : first_refusal c.in_ok-root.root c.in_ok-store.store ≡ empty_if (atom_count (target_tree (plan_tree c.args.plan.now) c.in-Some.item)) =
    refusal_kept c.args.plan.now c.in_ok-root.root c.in_ok-store.store c.in-Some.item graph c.root.ensures.accepted (c.in_ok-store.ensures ∙ c.store.ensures.value) written in
    subst (IsTargetAnswer (target_refusal (plan_tree c.args.plan.now) c.args.name.now)) (sym c.fault_of.ensures)
    (refused_so c.args.plan.now c.args.name.now c.in-Some.item (first_refusal c.in_ok-root.root c.in_ok-store.store) c.in-Err.fault graph named told c.in-Err.ensures.refused)
