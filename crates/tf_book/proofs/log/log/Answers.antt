use Rattle.std.proofs.Common.{inl, sym, subst}
use Rattle.tf_journal.specs.Adding.{FailsToAppend}
use Rattle.tf_journal.specs.declared.faults.AppendFault.{AppendFault}
use Rattle.tf_journal.specs.Format.{IsBody}
use Rattle.tf_journal.specs.declared.title.Title.{Title}
use Rattle.tf_book.proofs.LogLemmas.{said_logged, failed_logged}
use Rattle.tf_book.proofs.log.log.Goals as goal

pub append-requires-clause-ready : goal.append-requires-clause-ready
append-requires-clause-ready g c = inl c.requires.ready

pub append-requires-clause-body : goal.append-requires-clause-body
append-requires-clause-body g c = subst (λ (t : Title). IsBody t c.args.body.now) (sym c.requires.title) c.requires.body

pub returns-in-Ok : goal.returns-in-Ok
returns-in-Ok g c =
    let a = c.append.ensures in
    let s = c.say_line.ensures in
    record { logged = said_logged g.K.Desk.state c.say_line.result c.in-Ok.ensures.grows c.in-Ok.ensures.adds a.at_most a.goes a.volatile s.same s.text s.says s.fails }

pub returns-in-Err-Disk : goal.returns-in-Err-Disk
returns-in-Err-Disk g c =
    let a = c.append.ensures in
    let halts = subst (λ (f : AppendFault). FailsToAppend g.K.Desk.state c.args.body.now c.args.journal.now c.append.new.self f) c.in-Err-Disk.field-0-is c.in-Err-Disk.ensures.fails in
    record { logged = failed_logged g.K.Desk.state halts a.at_most a.goes a.volatile }
