use Rattle.std.proofs.Common.{ℕ, List, sym, subst}
use Rattle.tf_desk.specs.State.{told_as}
use Rattle.tf_desk.proofs.StateLemmas.{told_through}
use Rattle.tf_migration.specs.Migrates.{Migrates}
use Rattle.tf_migration.specs.Reading.{IsRead}
use Rattle.tf_migration.proofs.CompleteLemmas.{complete_so}
use Rattle.tf_migration.proofs.commanding.migrate_command.Goals as goal

pub returns-in-Ok-clause-migrates : goal.returns-in-Ok-clause-migrates
returns-in-Ok-clause-migrates g c =
    let D = g.K.Desk in
    let mid = D.state c.in-Ok.desk in
    let before = told_as mid (D.state c.args.desk) in
    c.carry_over.ensures.migrates c.args.old.now c.args.desk c.in-Ok.desk
    (subst (λ (kept : List (List ℕ)). IsRead c.args.old.now kept before mid) (sym c.deref.ensures.value) c.in-Ok.ensures.read.does)

pub returns-in-Ok-clause-complete : goal.returns-in-Ok-clause-complete
returns-in-Ok-clause-complete g c = λ told book still_unborn no_disk no_out.
    let D = g.K.Desk in
    let mid = D.state c.in-Ok.desk in
    let before = told_as mid (D.state c.args.desk) in
    let read = subst (λ (kept : List (List ℕ)). IsRead c.args.old.now kept before mid) (sym c.deref.ensures.value) c.in-Ok.ensures.read.does in
    let causes = c.carry_over.ensures.causes c.args.old.now c.args.desk c.in-Ok.desk read in
    complete_so c.args.old.now c.args.new.now (told_as (D.state c.carry_over.result.0) (D.state c.args.desk)) (D.state c.carry_over.result.0) c.carry_over.result.1 told book still_unborn
    (λ is. no_disk (causes.failed is)) (λ is. no_out (causes.unsaid is)) (c.carry_over.ensures.migrates c.args.old.now c.args.desk c.in-Ok.desk read)

pub returns-in-Err-clause-migrates : goal.returns-in-Err-clause-migrates
returns-in-Err-clause-migrates g c =
    let D = g.K.Desk in
    told_through (λ before. Migrates c.args.old.now c.args.new.now before (D.state c.refuse_old.result.0) c.refuse_old.result.1) (D.state c.args.desk) c.refuse_old.ensures.tells
    (c.refuse_old.ensures.migrates c.args.old.now c.args.new.now c.args.desk c.in-Err.desk c.in-Err.ensures.unread.does)

pub returns-in-Err-clause-complete : goal.returns-in-Err-clause-complete
returns-in-Err-clause-complete g c = λ told book still_unborn no_disk no_out.
    let D = g.K.Desk in
    let before = told_as (D.state c.in-Err.desk) (D.state c.args.desk) in
    let causes = c.refuse_old.ensures.causes c.args.old.now c.args.desk c.in-Err.desk c.in-Err.ensures.unread.does in
    complete_so c.args.old.now c.args.new.now (told_as (D.state c.refuse_old.result.0) (D.state c.args.desk)) (D.state c.refuse_old.result.0) c.refuse_old.result.1 told book still_unborn
    (λ is. no_disk (causes.failed is)) (λ is. no_out (causes.unsaid is))
    (told_through (λ early. Migrates c.args.old.now c.args.new.now early (D.state c.refuse_old.result.0) c.refuse_old.result.1) (D.state c.args.desk) c.refuse_old.ensures.tells
    (c.refuse_old.ensures.migrates c.args.old.now c.args.new.now c.args.desk c.in-Err.desk c.in-Err.ensures.unread.does))
