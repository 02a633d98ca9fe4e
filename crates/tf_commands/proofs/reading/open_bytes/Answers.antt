use Rattle.tf_commands.proofs.BehaviourLemmas.{refused_bytes}
use Rattle.tf_commands.proofs.reading.open_bytes.Goals as goal

pub returns-in-Err-clause-closed : goal.returns-in-Err-clause-closed
returns-in-Err-clause-closed g c =
    refused_bytes c.args.source c.args.bytes.now _ c.in-Err.reason _ _ c.refuse.result c.refuse.ensures.said.says.files c.in-Err.ensures.refused c.refuse.ensures.memory c.refuse.ensures.closes
