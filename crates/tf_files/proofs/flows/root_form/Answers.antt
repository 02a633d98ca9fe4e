use Rattle.std.proofs.lemmas.Result.{err_from_is_err_and}
use Rattle.tf_flow.specs.Tree.{tree_of}
use Rattle.tf_flow.specs.Plan.{as_written}
use Rattle.toml.specs.View.{table_view}
use Rattle.tf_files.proofs.RootLemmas.{root_read, root_stops}
use Rattle.tf_files.proofs.flows.root_form.Goals as goal

pub returns-in_err-flow-clause-refused : goal.returns-in_err-flow-clause-refused
returns-in_err-flow-clause-refused c =
    let p = err_from_is_err_and c.from_residual-in_err-flow.result c.from_residual-in_err-flow.ensures.1 in
    rw (p.1, p.2) (root_stops c.root-path.result (table_view c.args.document.now) c.in_ok-name.name c.in_ok-kind.kind c.in_ok-store.store.items c.in_err-flow.field-0.0
    (record { root = c.root-path.ensures; known = c.in_ok-known_only.ensures.ok; named = c.in_ok-name.ensures.ok; kinded = c.in_ok-kind.ensures.ok; stored = c.in_ok-store.ensures.ok })
    c.in_err-flow.ensures.refused)

pub returns-clause-ok : goal.returns-clause-ok
returns-clause-ok c =
    root_read c.root-path.result (table_view c.args.document.now) c.in_ok-name.name c.in_ok-kind.kind c.in_ok-store.store.items (as_written (tree_of c.in_ok-flow.flow))
    (record { root = c.root-path.ensures; known = c.in_ok-known_only.ensures.ok; named = c.in_ok-name.ensures.ok; kinded = c.in_ok-kind.ensures.ok; stored = c.in_ok-store.ensures.ok })
    c.in_ok-flow.ensures.ok
