use Rattle.tf_audit.proofs.ProgressLemmas.{legal_so_far}
use Rattle.tf_audit.proofs.progress.Progress.legal.Goals as goal

pub returns : goal.returns
returns c = λ plan texts come. legal_so_far plan texts c.args.self.now c.flow_state.result come c.flow_state.ensures.is
