use Rattle.tf_audit.proofs.NameLemmas.{index_more}
use Rattle.tf_audit.proofs.names.flow_index.Goals as goal

pub loop-flow-preserved : goal.loop-flow-preserved
loop-flow-preserved c = index_more c.args.plan.now c.loop-flow.flow c.flow_name.result.now c.loop-flow.flows.keys c.insert.new.self.keys c.root.ensures.accepted c.flow_name.ensures c.loop-flow.invariant c.in_ok-insert.ensures.keys
