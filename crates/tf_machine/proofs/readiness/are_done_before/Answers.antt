use Rattle.tf_model.specs.Plan.{outline_of}
use Rattle.tf_machine.specs.Tables.{shown_by}
use Rattle.tf_machine.proofs.CountLemmas.{none_waiting}
use Rattle.tf_machine.proofs.readiness.are_done_before.Goals as goal

pub returns : goal.returns
returns c =
    none_waiting (outline_of c.args.compiled.now) (shown_by c.args.tables.now) c.args.atom c.waiting.result
    (c.waiting.ensures (outline_of c.args.compiled.now) (shown_by c.args.tables.now) c.requires.counted c.requires.atom)
