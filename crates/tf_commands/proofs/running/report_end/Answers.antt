use Rattle.std.proofs.Common.{ap, sym, length, Bool, if◌then◌else◌, [], Err}
use Rattle.tf_book.specs.Book.{BookValue, outline, moment}
use Rattle.tf_report.specs.Lines.{report}
use Rattle.tf_commands.specs.Messages.{summary}
use Rattle.tf_report.specs.declared.statuses.TheConstants.{UNSAID, OUT_OF_MEMORY}
use Rattle.tf_commands.proofs.ReportLemmas.{closing_said, closing_cut, closing_left, status_said, status_cut, status_left, fault_out, fault_memory}
use Rattle.tf_commands.proofs.RunLemmas.{closes_run}
use Rattle.tf_commands.proofs.running.report_end.Goals as goal

pub returns-in-Ok-clause-runs : goal.returns-in-Ok-clause-runs
returns-in-Ok-clause-runs g c request start did loud to =
    rw (sym c.close.ensures.desk) at
    (closes_run g.K.Desk.state g.P.Performer.gives request _ did start c.args.book c.report.new.self c.args.last (report (outline c.args.book) (moment c.args.book)) c.status_for.result (λ plan past. ap (λ (b : Bool). if b then summary plan (length past) else []) loud) to c.requires.sound
    (ap (λ (b : BookValue g.row.K.Denot). b.past) c.report.ensures.same) (ap (λ (b : BookValue g.row.K.Denot). b.plan) c.report.ensures.same) (ap (λ (b : BookValue g.row.K.Denot). b.contents) c.report.ensures.same)
    (c.report.ensures.closes start to.kept c.requires.sound)
    (closing_said (report (outline c.args.book) (moment c.args.book)) c.report.new.self.halt c.in-Ok.ensures.sound)
    (status_said c.args.last c.report.new.self.halt c.status_for.result c.in-Ok.ensures.sound c.status_for.ensures.status))

pub returns-in-Err-Out-clause-runs : goal.returns-in-Err-Out-clause-runs
returns-in-Err-Out-clause-runs g c request start did loud to =
    let out = fault_out c.args.book.halt c.report.new.self.halt c.in-Err-Out.field-0 c.requires.sound c.in-Err-Out.field-0-is c.in-Err-Out.ensures.fault in
    rw (sym c.close-in-Err-Out.ensures.desk) at
    (closes_run g.K.Desk.state g.P.Performer.gives request _ did start c.args.book c.report.new.self c.args.last (report (outline c.args.book) (moment c.args.book)) UNSAID (λ plan past. ap (λ (b : Bool). if b then summary plan (length past) else []) loud) to c.requires.sound
    (ap (λ (b : BookValue g.row.K.Denot). b.past) c.report.ensures.same) (ap (λ (b : BookValue g.row.K.Denot). b.plan) c.report.ensures.same) (ap (λ (b : BookValue g.row.K.Denot). b.contents) c.report.ensures.same)
    (c.report.ensures.closes start to.kept c.requires.sound)
    (closing_cut (report (outline c.args.book) (moment c.args.book)) c.report.new.self.halt out)
    (status_cut c.args.last c.report.new.self.halt out))

pub returns-in-Err-Memory-clause-runs : goal.returns-in-Err-Memory-clause-runs
returns-in-Err-Memory-clause-runs g c request start did loud to =
    let out = fault_memory c.args.book.halt c.report.new.self.halt c.in-Err-Memory.field-0 c.requires.sound c.in-Err-Memory.field-0-is c.in-Err-Memory.ensures.fault in
    rw (sym c.close-in-Err-Memory.ensures.desk) at
    (closes_run g.K.Desk.state g.P.Performer.gives request _ did start c.args.book c.report.new.self c.args.last [] OUT_OF_MEMORY (λ plan past. ap (λ (b : Bool). if b then summary plan (length past) else []) loud) to c.requires.sound
    (ap (λ (b : BookValue g.row.K.Denot). b.past) c.report.ensures.same) (ap (λ (b : BookValue g.row.K.Denot). b.plan) c.report.ensures.same) (ap (λ (b : BookValue g.row.K.Denot). b.contents) c.report.ensures.same)
    (c.in-Err-Memory.ensures.unsaid (ap Err c.in-Err-Memory.field-0-is) start to.kept c.requires.sound)
    (closing_left (report (outline c.args.book) (moment c.args.book)) c.report.new.self.halt out)
    (status_left c.args.last c.report.new.self.halt out))
