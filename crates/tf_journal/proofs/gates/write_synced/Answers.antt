use Rattle.tf_desk.proofs.StateLemmas.{goes_within, goes_then_rests}
use Rattle.tf_journal.proofs.CrashLemmas.{now_torn}
use Rattle.tf_journal.proofs.gates.write_synced.Goals as goal

pub returns-in_err-write_at-clause-goes : goal.returns-in_err-write_at-clause-goes
returns-in_err-write_at-clause-goes g c =
    let goes = c.write_at.ensures.goes in
    goes_within goes (λ told. now_torn (goes.files told).picked goes.on_disk.shown (c.requires.durable told) (c.write_at.ensures.tears told))

pub returns-clause-goes : goal.returns-clause-goes
returns-clause-goes g c =
    let goes = c.write_at.ensures.goes in
    goes_then_rests (goes_within goes (λ told. now_torn (goes.files told).picked goes.on_disk.shown (c.requires.durable told) (c.write_at.ensures.tears told))) c.sync.ensures.rests
