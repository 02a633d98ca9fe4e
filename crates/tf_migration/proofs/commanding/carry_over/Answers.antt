use Rattle.std.proofs.Common.{◌≡◌, ◌∙◌, [], ℕ, List, length, ap, subst, arith}
use Rattle.tf_desk.specs.State.{told_as}
use Rattle.tf_desk.proofs.StateLemmas.{told_still, told_through}
use Rattle.tf_migration.specs.Migrates.{Migrates, HasCauses, migrated_text, unbegun_no_memory, migrated, Concludes}
use Rattle.tf_migration.proofs.SayLemmas.{concludes_none, causes_so}
use Rattle.tf_migration.proofs.EndLemmas.{unbegun_so, begun_so, kept_now, read_then, never_out}
use Rattle.tf_migration.proofs.ReadLemmas.{read_lowered}
use Rattle.tf_migration.proofs.FlowLemmas.{bodies_long}
use Rattle.tf_migration.proofs.commanding.carry_over.Goals as goal

pub returns-in_default-clause-migrates : goal.returns-in_default-clause-migrates
returns-in_default-clause-migrates g c = λ old entry seen r.
    let D = g.K.Desk in
    told_still (λ before. Migrates old c.args.new.now before (D.state c.args.desk) 9) (told_as (g.K.Desk.state seen) (g.K.Desk.state entry)) r.on_disk.tells
    (unbegun_so r (kept_now c.args.new.now (D.state c.args.desk)) unbegun_no_memory (concludes_none [] 9 (D.state c.args.desk)))

pub returns-in-Ok-make_book-clause-migrates : goal.returns-in-Ok-make_book-clause-migrates
returns-in-Ok-make_book-clause-migrates g c = λ old entry seen r.
    let D = g.K.Desk in
    let m = c.in-Ok-make_book.ensures in
    let read = read_lowered (D.state c.in-Ok-make_book.desk) m.falls r in
    let entries : c.saturating_sub-entries.result ≡ length read.flow.past =
    omega (arith, c.saturating_sub-entries.ensures, ap length read.flow.kept_are, bodies_long read.flow.plan read.flow.past) in
    let said : c.deref.result.now ≡ migrated_text (length read.flow.past) = c.deref.ensures.value ∙ c.in-Ok.ensures ∙ ap migrated_text entries in
    told_through (λ before. Migrates old c.args.new.now before (D.state c.say.result.0) c.say.result.1) (D.state entry) c.say.ensures.concludes.says.tells
    (begun_so read m.makes migrated (λ out. absurd (never_out c.say.ensures.status out (λ no. cc)))
    (subst (λ (message : List ℕ). Concludes message 0 (D.state c.in-Ok-make_book.desk) (D.state c.say.result.0) c.say.result.1) said c.say.ensures.concludes))

pub returns-in-Ok-make_book-clause-causes : goal.returns-in-Ok-make_book-clause-causes
returns-in-Ok-make_book-clause-causes g c = λ old entry seen r.
    let D = g.K.Desk in
    told_through (λ before. HasCauses before (D.state c.say.result.0) c.say.result.1) (told_as (g.K.Desk.state seen) (g.K.Desk.state entry)) c.say.ensures.concludes.says.tells
    (causes_so (read_then (read_lowered (D.state c.in-Ok-make_book.desk) c.in-Ok-make_book.ensures.falls r) c.in-Ok-make_book.ensures.makes.on_disk) c.say.ensures.concludes (λ is. cc))

pub returns-clause-migrates : goal.returns-clause-migrates
returns-clause-migrates g c = λ old entry seen r.
    let D = g.K.Desk in
    let end = D.state c.in-Err.desk in
    told_through (λ before. Migrates old c.args.new.now before (D.state c.refuse_new.result.0) c.refuse_new.result.1) (told_as (g.K.Desk.state seen) (g.K.Desk.state entry)) c.refuse_new.ensures.tells
    (c.refuse_new.ensures.migrates old c.args.new.now c.args.bodies.now entry c.args.desk c.in-Err.desk (read_lowered end c.in-Err.ensures.falls r) c.in-Err.ensures.makes)

pub returns-clause-causes : goal.returns-clause-causes
returns-clause-causes g c = λ old entry seen r.
    let D = g.K.Desk in
    let end = D.state c.in-Err.desk in
    told_through (λ before. HasCauses before (D.state c.refuse_new.result.0) c.refuse_new.result.1) (told_as (g.K.Desk.state seen) (g.K.Desk.state entry)) c.refuse_new.ensures.tells
    (c.refuse_new.ensures.causes old c.args.new.now c.args.bodies.now entry c.args.desk c.in-Err.desk (read_lowered end c.in-Err.ensures.falls r) c.in-Err.ensures.makes)
