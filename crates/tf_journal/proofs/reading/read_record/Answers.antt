use Rattle.tf_desk.proofs.StateLemmas.{trusts_rests_on}
use Rattle.tf_journal.proofs.reading.read_record.Goals as goal

pub returns-in_ok-read_body-in-Ok-Body-clause-rests : goal.returns-in_ok-read_body-in-Ok-Body-clause-rests
returns-in_ok-read_body-in-Ok-Body-clause-rests g c = trusts_rests_on c.look_through.ensures.rests c.read_body.ensures.rests

pub returns-in_err-read_body-in-Ok-Body-clause-rests : goal.returns-in_err-read_body-in-Ok-Body-clause-rests
returns-in_err-read_body-in-Ok-Body-clause-rests g c = trusts_rests_on c.look_through.ensures.rests c.read_body.ensures.rests
