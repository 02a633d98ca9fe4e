-- A form is that of one entry, and of plans that are the same to a run.
use Rattle.std.proofs.Common.{◌≡◌, ℕ, ◌^◌, List, Bool, Option, Some, None, sym, ap, ◌∙◌}
use Rattle.tf_flow.specs.Outline.{Atom, FlowPlace, atoms_of, flows_of}
use Rattle.tf_flow.specs.Plan.{PlanValue, WrittenTree, written_task, written_flow, WrittenTrees, nothing_written, written, WrittenHead, WrittenPlan, as_written}
use Rattle.tf_flow.specs.Tree.{tree_of, first_some}
use Rattle.tf_flow.specs.declared.atoms.Bind.{Bind}
use Rattle.tf_flow.specs.declared.atoms.Provides.{Provides}
use Rattle.tf_flow.specs.declared.atoms.Provides.TheVariants as provides
use Rattle.tf_flow.specs.declared.atoms.Retry.{Retry}
use Rattle.tf_flow.specs.declared.atoms.Task.{Task}
use Rattle.tf_flow.specs.declared.atoms.Undo.{Undo}
use Rattle.tf_flow.specs.declared.atoms.Undo.TheVariants as undo
use Rattle.tf_flow.proofs.WrittenLemmas.{flow_written}
use Rattle.tf_states.specs.declared.record.Entry.{Entry}
use Rattle.tf_states.specs.declared.record.What.{What}
use Rattle.tf_states.specs.declared.record.What.TheVariants as what
use Rattle.tf_entries.specs.Plans.{ProvidesWithin, UndoWithin, TaskWithin, InTwoBytes, AnyCount, ControlWithin, HeadWithin, TreeWithin, TreesWithin, IsPlan, KeepsLimits, plan_bytes}
use Rattle.tf_entries.specs.Entries.{HasItsPayload, IsAmong, IsEntry, entry_bytes}
use Rattle.tf_entries.proofs.DecodingLemmas.{plan_one}
use Rattle.tf_entries.proofs.EntryLemmas.{entry_one}
use Rattle.tf_model.specs.Plan.{Outline, outline_of, outline_with, compile_refusal, tree_refusal, refusal_at}
use Rattle.tf_model.specs.Scope.{missing_symbol}
use Rattle.tf_target.proofs.OutlineLemmas.{atoms_alike, flows_alike, innermost_alike}
use Rattle.tf_details.specs.Elements.{IsForm, IsAcceptedPlan, CanRun, detail_name}
use Rattle.tf_details.specs.Whole.{plan_written}

-- ---- lists that two bytes can count are lists

loose_provides : (p : Provides) → ProvidesWithin InTwoBytes p → ProvidesWithin AnyCount p
loose_provides provides.Nothing good = tt
loose_provides (provides.Whole name) good = good
loose_provides (provides.Parts names) good = (tt, good.1)

loose_undo : (u : Undo) → UndoWithin InTwoBytes u → UndoWithin AnyCount u
loose_undo undo.Pass good = tt
loose_undo undo.Fail good = tt
loose_undo (undo.Run words) good = (tt, good.1)

loose_task : (t : Task) → TaskWithin InTwoBytes t → TaskWithin AnyCount t
loose_task t good = record {
  name = good.name;
  words = (tt, good.words.1);
  args = (tt, good.args.1);
  inject = (tt, good.inject.1);
  provides = loose_provides t.provides good.provides;
  priority = good.priority;
  undo = loose_undo t.undo good.undo;
}

loose_control : (r : Option Retry) → ControlWithin InTwoBytes r → ControlWithin AnyCount r
loose_control None good = tt
loose_control (Some r) good = record {
  name = good.name;
  kind = good.kind;
  args = (tt, good.args.1);
  inject = (tt, good.inject.1);
  provides = loose_provides r.provides good.provides;
}

loose_head : (head : WrittenHead) → HeadWithin InTwoBytes head → HeadWithin AnyCount head
loose_head head good = record { name = good.name; control = loose_control head.retry good.control; links = (tt, good.links.1) }

mutual
  loose_tree : (t : WrittenTree) → TreeWithin InTwoBytes t → TreeWithin AnyCount t
  loose_tree (written_task t) good = loose_task t good
  loose_tree (written_flow head items) good = (loose_head head good.0, tt, loose_trees items good.2)

  loose_trees : (ts : WrittenTrees) → TreesWithin InTwoBytes ts → TreesWithin AnyCount ts
  loose_trees nothing_written good = tt
  loose_trees (written first others) good = (loose_tree first good.0, loose_trees others good.1)

pub keeps_limits : (plan : PlanValue) → IsPlan plan → KeepsLimits plan
keeps_limits plan good = record { root = loose_tree (as_written (tree_of plan.root)) good.root; store = (tt, good.store.1) }

-- ---- one form

-- plans of one form are written alike, and the same to a run
pub same_written : (p q : PlanValue) → IsAcceptedPlan p → IsPlan p → IsAcceptedPlan q → IsPlan q → plan_bytes p ≡ plan_bytes q
    → plan_written p ≡ plan_written q
same_written p q accepted_p limits_p accepted_q limits_q same =
    let one = plan_one p q accepted_p accepted_q (keeps_limits p limits_p) (keeps_limits q limits_q) same in
    ap (λ (t : WrittenTree). record { root = t; store = p.store; defer = p.defer }) one.0
    ∙ ap (λ (s : List Bind). record { root = as_written (tree_of q.root); store = s; defer = p.defer }) one.1
    ∙ ap (λ (d : Bool). record { root = as_written (tree_of q.root); store = q.store; defer = d }) one.2

-- numbers of two bytes are below their limit
among_all : (w : What) → HasItsPayload w → IsAmong (2 ^ 16) (2 ^ 16) w
among_all (what.Atom number state held) good = good.0
among_all (what.Flow state) good = tt
among_all (what.Resolve number kind) good = good
among_all (what.Restart number) good = good

is_entry : (e : Entry) → IsForm e → IsEntry (2 ^ 16) (2 ^ 16) e
is_entry e form = record { hand = form.0; among = among_all e.what form.1; payload = form.1 }

-- an entry's form is that of one entry
pub form_one : (a b : Entry) → IsForm a → IsForm b → entry_bytes a ≡ entry_bytes b → a ≡ b
form_one a b good_a good_b same = entry_one (2 ^ 16) (2 ^ 16) a b (is_entry a good_a) (is_entry b good_b) same

-- ---- plans that are written alike are the same to a run

pub same_outline : (p q : PlanValue) → plan_written p ≡ plan_written q → outline_of p ≡ outline_of q
same_outline p q same =
    let root : as_written (tree_of p.root) ≡ as_written (tree_of q.root) = ap (λ (w : WrittenPlan). w.root) same in
    let store : p.store ≡ q.store = ap (λ (w : WrittenPlan). w.store) same in
    let defer : p.defer ≡ q.defer = ap (λ (w : WrittenPlan). w.defer) same in
    ap (λ (atoms : List Atom). outline_with atoms (flows_of 0 0 (tree_of p.root)) p.store p.defer) (atoms_alike 0 (tree_of p.root) (tree_of q.root) root)
    ∙ (ap (λ (places : List FlowPlace). outline_with (atoms_of 0 (tree_of q.root)) places p.store p.defer) (flows_alike 0 0 (tree_of p.root) (tree_of q.root) root)
    ∙ (ap (λ (values : List Bind). outline_with (atoms_of 0 (tree_of q.root)) (flows_of 0 0 (tree_of q.root)) values p.defer) store
    ∙ ap (λ (b : Bool). outline_with (atoms_of 0 (tree_of q.root)) (flows_of 0 0 (tree_of q.root)) q.store b) defer))

same_refusal : (p q : PlanValue) → plan_written p ≡ plan_written q → compile_refusal p ≡ compile_refusal q
same_refusal p q same =
    let root : as_written (tree_of p.root) ≡ as_written (tree_of q.root) = ap (λ (w : WrittenPlan). w.root) same in
    ap (λ (order : List ℕ). first_some (refusal_at (outline_of p)) order) (innermost_alike 0 (tree_of p.root) (tree_of q.root) root)
    ∙ ap (λ (outline : Outline). tree_refusal (tree_of q.root) outline) (same_outline p q same)

-- one can run where the other can
pub same_run : (p q : PlanValue) → plan_written p ≡ plan_written q → CanRun q → CanRun p
same_run p q same runs = (same_refusal p q same ∙ runs.0, ap missing_symbol (same_outline p q same) ∙ runs.1)

-- the name of what is written
abbrev pub name_written : WrittenTree → List ℕ
name_written (written_task t) = t.name
name_written (written_flow head items) = head.name

pub name_told : (plan : PlanValue) → name_written (as_written (tree_of plan.root)) ≡ detail_name plan
name_told plan = ap name_written (flow_written plan.root)

pub same_name : (p q : PlanValue) → plan_written p ≡ plan_written q → detail_name p ≡ detail_name q
same_name p q same = sym (name_told p) ∙ (ap (λ (w : WrittenPlan). name_written w.root) same ∙ name_told q)
