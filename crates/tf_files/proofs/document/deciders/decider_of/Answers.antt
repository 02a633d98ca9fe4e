use Rattle.std.proofs.Common.{◌≡◌, IfOk, None, Ok, Option, Result, codes, subst, sym}
use Rattle.toml.specs.View.{view, table_view}
use Rattle.tf_flow.specs.Outline.{Decision, decision_of}
use Rattle.tf_files.specs.FlowFile.{decider_form}
use Rattle.tf_files.specs.declared.document.faults.FileFault.{FileFault}
use Rattle.tf_files.specs.document.Places.{place_of}
use Rattle.tf_files.proofs.ReadingLemmas.{optional_refuses, optional_there}
use Rattle.tf_files.proofs.document.deciders.decider_of.Goals as goal

pub returns-in-Some-clause-ok : goal.returns-in-Some-clause-ok
returns-in-Some-clause-ok c =
    subst (λ (read : Result (Option Decision) FileFault). IfOk c.decider_form.result (λ decider. read ≡ Ok (decision_of decider)))
    (sym (optional_there c.args.path.now (codes "decider") (table_view c.args.table.now) None (decider_form c.args.path.now (table_view c.args.table.now)) (place_of c.in-Some.field) (view c.in-Some.field.value.now)
    (rw c.in-Some.is at c.optional.ensures.place) (rw c.in-Some.is at c.optional.ensures.found)))
    c.decider_form.ensures.ok

pub returns-in-Some-clause-refused : goal.returns-in-Some-clause-refused
returns-in-Some-clause-refused c =
    optional_refuses c.decider_form.result c.args.path.now (codes "decider") (table_view c.args.table.now) None (decider_form c.args.path.now (table_view c.args.table.now)) (place_of c.in-Some.field) (view c.in-Some.field.value.now)
    (rw c.in-Some.is at c.optional.ensures.place) (rw c.in-Some.is at c.optional.ensures.found) c.decider_form.ensures.refused
