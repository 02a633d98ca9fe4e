use Rattle.std.proofs.Common.{◌≡◌, ℕ, Result, Err}
use Rattle.tf_journal.specs.declared.faults.JournalFault.{JournalFault}
use Rattle.tf_journal.proofs.journal.Journal.load.Goals as goal

same_fault : (a b : JournalFault) → ◌≡◌ {A = Result ℕ JournalFault} (Err a) (Err b) → a ≡ b
same_fault a b is = cc

pub returns-in-Err-clause-at_sync : goal.returns-in-Err-clause-at_sync
returns-in-Err-clause-at_sync g c = λ told other. c.in-Err.ensures.at_sync told (λ is. other (same_fault _ _ is))
