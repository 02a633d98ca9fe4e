use Rattle.tf_model.specs.Plan.{outline_of}
use Rattle.tf_machine.specs.Tables.{shown_by}
use Rattle.tf_machine.proofs.CountLemmas.{none_holding}
use Rattle.tf_machine.proofs.readiness.are_settled_after.Goals as goal

pub returns : goal.returns
returns c =
    none_holding (outline_of c.args.compiled.now) (shown_by c.args.tables.now) c.args.atom c.holding.result
    (c.holding.ensures (outline_of c.args.compiled.now) (shown_by c.args.tables.now) c.requires.counted c.requires.atom)
