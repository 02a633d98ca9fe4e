use Rattle.tf_machine.specs.Tables.{shown_by}
use Rattle.tf_machine.proofs.EntryLemmas.{resolved_told}
use Rattle.tf_machine.proofs.entries.resolution_entry.Goals as goal

pub returns : goal.returns
returns c =
    resolved_told c.args.compiled.now c.plan.result.now (shown_by c.args.tables.now) c.args.atom c.ask_around.new.answers c.resolve-resolution.result
    c.plan.ensures.value c.in_ok-ask_around.ensures c.resolve-resolution.ensures
