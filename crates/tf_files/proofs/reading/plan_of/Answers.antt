use Rattle.std.proofs.lemmas.Result.{err_from_is_err_and}
use Rattle.tf_files.proofs.ReadingLemmas.{chain_stops}
use Rattle.tf_files.specs.document.Reading.{chain}
use Rattle.tf_files.specs.FlowFile.{root_form, planned, no_memory}
use Rattle.tf_files.proofs.RefusalLemmas.{reads_first}
use Rattle.toml.specs.View.{table_view}
use Rattle.tf_files.proofs.reading.plan_of.Goals as goal

pub returns-in_err-made-clause-refused : goal.returns-in_err-made-clause-refused
returns-in_err-made-clause-refused c =
    let p = err_from_is_err_and c.from_residual.result c.from_residual.ensures.1 in
    rw (p.1, p.2) (reads_first (chain (root_form (table_view c.args.document.now)) (planned c.args.sets.now c.args.defer)) c.in_err-made.field-0.0
    (chain_stops (root_form (table_view c.args.document.now)) (planned c.args.sets.now c.args.defer) c.in_err-made.field-0.0 c.in_err-made.ensures.refused))

pub returns-in_err-store-clause-refused : goal.returns-in_err-store-clause-refused
returns-in_err-store-clause-refused c =
    let p = err_from_is_err_and c.from_residual-in_err-store.result c.from_residual-in_err-store.ensures.1 in
    rw (p.1, p.2) no_memory
