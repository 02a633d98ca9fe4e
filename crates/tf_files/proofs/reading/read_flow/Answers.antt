use Rattle.tf_files.specs.FlowFile.{flow_of}
use Rattle.tf_files.proofs.RefusalLemmas.{reads_first}
use Rattle.tf_files.proofs.reading.read_flow.Goals as goal

pub returns-clause-refused : goal.returns-clause-refused
returns-clause-refused c = reads_first (flow_of c.args.bytes.now c.args.sets c.args.defer) c.in-Err.fault (c.in-Err.ensures.refused c.args.sets c.args.defer)
