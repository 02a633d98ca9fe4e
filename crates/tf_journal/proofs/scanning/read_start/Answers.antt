use Rattle.std.proofs.Common.{inr, subst}
use Rattle.std.specs.Prelude.{IsTrue}
use Rattle.tf_desk.proofs.StateLemmas.{trusts_files, trusts_rests_on, durable_on}
use Rattle.tf_journal.proofs.CrashLemmas.{synced_before}
use Rattle.tf_journal.proofs.scanning.read_start.Goals as goal

pub returns-clause-durable : goal.returns-clause-durable
returns-clause-durable g c =
    λ told.
    let sized = c.read.ensures.rests.falls told in
    let synced = c.size.ensures.rests.falls sized in
    let before = subst IsTrue c.sync.ensures.rests.on_disk.tells synced in
    durable_on (trusts_files c.read.ensures.rests told)
    (durable_on (trusts_files c.size.ensures.rests sized) (c.in_ok-sync.ensures.synced before).durable)

pub returns-clause-at_sync : goal.returns-clause-at_sync
returns-clause-at_sync g c = λ told.
    synced_before c.in_ok-sync.ensures.synced c.sync.ensures.rests (λ still image text. g.met.K.Desk.only_now c.sync.new.self image text still)
    (trusts_rests_on c.size.ensures.rests c.read.ensures.rests) told

pub returns-clause-synced : goal.returns-clause-synced
returns-clause-synced g c = λ told.
    inr (synced_before c.in_ok-sync.ensures.synced c.sync.ensures.rests (λ still image text. g.met.K.Desk.only_now c.sync.new.self image text still)
    (trusts_rests_on c.size.ensures.rests c.read.ensures.rests) told)

pub returns-in_err-count-clause-synced : goal.returns-in_err-count-clause-synced
returns-in_err-count-clause-synced g c = λ told.
    inr (synced_before c.in_ok-sync.ensures.synced c.sync.ensures.rests (λ still image text. g.met.K.Desk.only_now c.sync.new.self image text still)
    (trusts_rests_on c.size.ensures.rests c.read.ensures.rests) told)
