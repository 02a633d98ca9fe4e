use Rattle.std.proofs.Common.{[], ℕ, List, refl, subst}
use Rattle.tf_desk.specs.State.{told_as}
use Rattle.tf_desk.proofs.CountLemmas.{rises_later}
use Rattle.tf_report.specs.Closing.{book_full}
use Rattle.tf_migration.specs.Migrates.{unbegun_no_memory, exists, filled, IsFullFor}
use Rattle.tf_migration.specs.Writing.{FailsToMake}
use Rattle.tf_migration.specs.declared.writing.NewFault.{NewFault}
use Rattle.tf_migration.proofs.SayLemmas.{concludes_none, causes_so}
use Rattle.tf_migration.proofs.EndLemmas.{unbegun_so, begun_so, read_then, failed_disk, failed_so}
use Rattle.tf_migration.proofs.commanding.refuse_new.Goals as goal

pub returns-in-Disk-clause-migrates : goal.returns-in-Disk-clause-migrates
returns-in-Disk-clause-migrates g c = λ old new kept entry mid seen r fails.
    let D = g.K.Desk in
    let f = subst (λ (f : NewFault). FailsToMake new kept f (told_as (g.K.Desk.state seen) (g.K.Desk.state mid)) (D.state c.args.desk)) c.in-Disk.is fails in
    failed_so r f.1 c.say.ensures.status c.say.ensures.concludes

pub returns-in-Disk-clause-causes : goal.returns-in-Disk-clause-causes
returns-in-Disk-clause-causes g c = λ old new kept entry mid seen r fails.
    let D = g.K.Desk in
    let f = subst (λ (f : NewFault). FailsToMake new kept f (told_as (g.K.Desk.state seen) (g.K.Desk.state mid)) (D.state c.args.desk)) c.in-Disk.is fails in
    causes_so (read_then r (failed_disk f.1)) c.say.ensures.concludes
    (λ is. rises_later (g.K.Desk.state entry).disk_faults (g.K.Desk.state mid).disk_faults (D.state c.args.desk).disk_faults r.on_disk.disk_faults f.0)

pub returns-in-Exists-clause-migrates : goal.returns-in-Exists-clause-migrates
returns-in-Exists-clause-migrates g c = λ old new kept entry mid seen r fails.
    let D = g.K.Desk in
    let f = subst (λ (f : NewFault). FailsToMake new kept f (told_as (g.K.Desk.state seen) (g.K.Desk.state mid)) (D.state c.args.desk)) c.in-Exists.is fails in
    unbegun_so r f.0 (exists f.1) c.say-in-Exists.ensures.concludes

pub returns-in-Exists-clause-causes : goal.returns-in-Exists-clause-causes
returns-in-Exists-clause-causes g c = λ old new kept entry mid seen r fails.
    let D = g.K.Desk in
    let f = subst (λ (f : NewFault). FailsToMake new kept f (told_as (g.K.Desk.state seen) (g.K.Desk.state mid)) (D.state c.args.desk)) c.in-Exists.is fails in
    causes_so (read_then r f.0.on_disk) c.say-in-Exists.ensures.concludes (λ is. cc)

pub returns-in-Full-clause-migrates : goal.returns-in-Full-clause-migrates
returns-in-Full-clause-migrates g c = λ old new kept entry mid seen r fails.
    let D = g.K.Desk in
    let size = c.in-Full.size in
    let need = c.in-Full.need in
    let f = subst (λ (f : NewFault). FailsToMake new kept f (told_as (g.K.Desk.state seen) (g.K.Desk.state mid)) (D.state c.args.desk)) c.in-Full.is fails in
    begun_so r f.0 (filled size need (subst (λ (held : List (List ℕ)). IsFullFor held size need) r.flow.kept_are f.1)) (λ out. refl)
    (c.say_text.ensures (book_full size need) c.book_full_text-text.ensures)

pub returns-in-Full-clause-causes : goal.returns-in-Full-clause-causes
returns-in-Full-clause-causes g c = λ old new kept entry mid seen r fails.
    let D = g.K.Desk in
    let f = subst (λ (f : NewFault). FailsToMake new kept f (told_as (g.K.Desk.state seen) (g.K.Desk.state mid)) (D.state c.args.desk)) c.in-Full.is fails in
    causes_so (read_then r f.0.on_disk) (c.say_text.ensures (book_full c.in-Full.size c.in-Full.need) c.book_full_text-text.ensures) (λ is. cc)

pub returns-in-Memory-clause-migrates : goal.returns-in-Memory-clause-migrates
returns-in-Memory-clause-migrates g c = λ old new kept entry mid seen r fails.
    let D = g.K.Desk in
    let k = subst (λ (f : NewFault). FailsToMake new kept f (told_as (g.K.Desk.state seen) (g.K.Desk.state mid)) (D.state c.args.desk)) c.in-Memory.is fails in
    unbegun_so r k unbegun_no_memory (concludes_none [] 9 (D.state c.args.desk))

pub returns-in-Full-clause-tells : goal.returns-in-Full-clause-tells
returns-in-Full-clause-tells g c = (c.say_text.ensures (book_full c.in-Full.size c.in-Full.need) c.book_full_text-text.ensures).says.tells
