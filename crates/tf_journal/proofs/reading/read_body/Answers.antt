use Rattle.tf_desk.proofs.StateLemmas.{trusts_rests_on}
use Rattle.tf_journal.proofs.reading.read_body.Goals as goal

pub returns-in-Ok-false-clause-rests : goal.returns-in-Ok-false-clause-rests
returns-in-Ok-false-clause-rests g c = trusts_rests_on c.reach.ensures.rests c.read_straight.ensures.rests
