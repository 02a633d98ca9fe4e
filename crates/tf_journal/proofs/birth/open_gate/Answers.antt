use Rattle.std.proofs.Common.{[]}
use Rattle.tf_desk.specs.State.{bytes_now}
use Rattle.tf_desk.proofs.StateLemmas.{goes_within}
use Rattle.tf_journal.proofs.BirthLemmas.{titled_lies, torn_open}
use Rattle.tf_journal.proofs.birth.open_gate.Goals as goal

pub returns-clause-goes : goal.returns-clause-goes
returns-clause-goes g c =
    let bytes = bytes_now (g.K.Desk.state c.args.desk.now) in
    let title = c.args.title in
    goes_within c.write_synced.ensures.goes
    (λ told image text torn.
    let titled = c.requires.titled told in
    (torn_open title [] 18 bytes image (titled_lies title titled.0 bytes titled.1) titled.1.titled torn.0, torn.1))
