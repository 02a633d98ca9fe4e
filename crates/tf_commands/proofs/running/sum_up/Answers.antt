use Rattle.std.proofs.Common.{◌≡◌, sym, ap, ◌∙◌, ◌++◌, length, Bool, if◌then◌else◌, [], None, Some}
use Rattle.tf_book.specs.Book.{outline, moment}
use Rattle.tf_book.specs.declared.faults.Halt.TheVariants as halt
use Rattle.tf_report.specs.Lines.{report}
use Rattle.tf_commands.specs.Messages.{summary}
use Rattle.tf_commands.proofs.ReportLemmas.{closed_sound}
use Rattle.tf_commands.proofs.RunLemmas.{sums_run, stops_run}
use Rattle.tf_commands.proofs.running.sum_up.Goals as goal

pub returns-in-Ok-clause-runs : goal.returns-in-Ok-clause-runs
returns-in-Ok-clause-runs g c request start did quiet to =
    let book = c.args.book in
    let here = c.close-desk.ensures.desk in
    let wanted = c.status_for.ensures.status in
    let e = c.close-status.ensures in
    let unhalted = c.state-standing.ensures.open (λ is. (let clash : None ≡ Some halt.Disk = sym c.requires.sound ∙ is in cc)) in
    sums_run g.K.Desk.state g.P.Performer.gives request _ did start book c.args.last c.deref.result.now (g.K.Desk.state c.close-status.new.desk) c.close-status.result to c.requires.sound unhalted
    (c.deref.ensures.value ∙ c.in-Ok.ensures
    ∙ ap (λ (b : Bool). (if b then summary (outline book) (length book.past) else []) ++ report (outline book) (moment book)) (sym quiet))
    (rw wanted at (rw here at e.closes)) (rw here at e.says)
    (λ is. rw here at (e.unsaid is c.status_for.ensures.end.1)) (closed_sound c.args.last c.status_for.result c.close-status.result wanted e.status)

pub returns-in-Err-clause-runs : goal.returns-in-Err-clause-runs
returns-in-Err-clause-runs g c request start did quiet to =
    let unhalted = c.state-standing.ensures.open (λ is. (let clash : None ≡ Some halt.Disk = sym c.requires.sound ∙ is in cc)) in
    rw (sym c.close-desk.ensures.desk) at (stops_run g.K.Desk.state g.P.Performer.gives request _ did start c.args.book c.args.last to c.requires.sound unhalted)
