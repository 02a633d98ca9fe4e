use Rattle.std.proofs.Common.{sym, subst}
use Rattle.tf_desk.proofs.StateLemmas.{trusts_goes, trusts_then_goes, trusts_files, bytes_stay}
use Rattle.tf_journal.proofs.birth.begin.Goals as goal

pub returns-in_err-size-clause-goes : goal.returns-in_err-size-clause-goes
returns-in_err-size-clause-goes g c = trusts_goes c.read_start.ensures.rests
