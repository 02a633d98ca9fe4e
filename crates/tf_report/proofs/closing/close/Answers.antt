use Rattle.tf_report.specs.Closing.{said, cut}
use Rattle.tf_report.proofs.closing.close.Goals as goal

pub returns-in-Ok-clause-closes : goal.returns-in-Ok-clause-closes
returns-in-Ok-clause-closes g c = said c.in-Ok.ensures.said

pub returns-in-Err-clause-closes : goal.returns-in-Err-clause-closes
returns-in-Err-clause-closes g c = cut c.in-Err.ensures.says.prefix
