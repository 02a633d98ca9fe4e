use Rattle.std.proofs.Common.{rules}
use Rattle.tf_book.proofs.PayloadLemmas.{step_has_payload}
use Rattle.tf_book.proofs.LogLemmas.{logged_same}
use Rattle.tf_book.proofs.writing.write.Goals as goal

pub prepare-requires-clause-payload : goal.prepare-requires-clause-payload
prepare-requires-clause-payload g c = step_has_payload _ _ _ c.requires.allowed

pub returns-in-Ok-clause-logged : goal.returns-in-Ok-clause-logged
returns-in-Ok-clause-logged g c = logged_same g.K.Desk.state c.args.quiet (search rules) (search rules) c.in-Ok.is c.log.ensures.logged

pub returns-in-Err-Out-clause-logged : goal.returns-in-Err-Out-clause-logged
returns-in-Err-Out-clause-logged g c = logged_same g.K.Desk.state c.args.quiet (search rules) (search rules) (search rules) c.log.ensures.logged

pub returns-in-Err-Disk-clause-logged : goal.returns-in-Err-Disk-clause-logged
returns-in-Err-Disk-clause-logged g c = logged_same g.K.Desk.state c.args.quiet (search rules) (search rules) (search rules) c.log.ensures.logged

pub returns-in-Err-Full-clause-logged : goal.returns-in-Err-Full-clause-logged
returns-in-Err-Full-clause-logged g c = logged_same g.K.Desk.state c.args.quiet (search rules) (search rules) (search rules) c.log.ensures.logged
