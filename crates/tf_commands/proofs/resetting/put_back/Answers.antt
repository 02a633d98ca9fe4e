use Rattle.std.proofs.Common.{◌≡◌, ◌∙◌, sym, ap, arith, None, Some, Err}
use Rattle.tf_desk.specs.State.{told_as}
use Rattle.tf_flow.specs.declared.nested.Flow.{Flow}
use Rattle.tf_flow.specs.Plan.{PlanValue}
use Rattle.tf_details.specs.Elements.{detail_name}
use Rattle.tf_book.specs.Book.{BookValue, outline, moment}
use Rattle.tf_book.specs.Turns.{may_reset}
use Rattle.tf_book.specs.declared.faults.Halt.TheVariants as halt
use Rattle.tf_book.proofs.InvariantLemmas.{keeps_none}
use Rattle.tf_book.proofs.TriedLemmas.{unhalted_tried}
use Rattle.tf_report.specs.declared.statuses.TheConstants.{SUCCEEDED}
use Rattle.tf_commands.proofs.CountLemmas.{reaches_itself, ran_causes}
use Rattle.tf_commands.proofs.BookLemmas.{untouched_by}
use Rattle.tf_commands.proofs.ResetLemmas.{is_so, halts_so, reset_failed, all_goes_back, resets_over, forbidden_back}
use Rattle.tf_commands.proofs.resetting.put_back.Goals as goal

pub stop-requires : goal.stop-requires
stop-requires g c = record {
  halted = halts_so c.args.book.halt c.reset.new.self.halt c.in-Err-Book._fault c.requires.sound (c.in-Err-Book.ensures.fault c.in-Err-Book._fault (ap Err c.in-Err-Book.field-0-is));
}

pub returns-in-Ok-clause-causes : goal.returns-in-Ok-clause-causes
returns-in-Ok-clause-causes g c =
    let kept = c.reset.ensures.proceeds.keeps c.args.book (keeps_none g.K.Desk.state c.args.book c.requires.sound) in
    rw (sym c.close.ensures.desk) at
    (ran_causes {status = SUCCEEDED} {crew = 0} {crew_now = 0} reaches_itself kept.continues (record { unsaid = λ is. absurd (cc); failed = λ is. absurd (cc) }) (omega arith) (λ is. absurd (cc), λ is. absurd (cc)))

pub returns-in-Ok-clause-goes : goal.returns-in-Ok-clause-goes
returns-in-Ok-clause-goes g c = λ name wanted entry seen opened holds.
    let D = g.K.Desk in
    let book = c.reset.new.self in
    let kept = c.reset.ensures.proceeds.keeps c.args.book (keeps_none D.state c.args.book c.requires.sound) in
    let may = is_so (may_reset (outline c.args.book) (moment c.args.book)) (λ never. (let refused = c.reset.ensures.forbidden c.requires.sound never in cc)) in
    let opened_so = c.state-pending.ensures.open (λ is. (let clash : None ≡ Some halt.Disk = sym c.in-Ok.ensures.sound ∙ is in cc)) in
    rw (sym c.close.ensures.desk) at
    (resets_over D.state name wanted (told_as (g.K.Desk.state seen) (g.K.Desk.state entry)) c.args.book (D.state book.journal.desk) _ opened holds c.requires.kept c.requires.speaks may
    (all_goes_back D.state c.args.book book
    (record { kept = kept; put = c.in-Ok.ensures.put_back.on; speaks = c.requires.speaks; failed = unhalted_tried _ _ _ c.in-Ok.ensures.sound }) c.in-Ok.ensures.sound opened_so c.in-Ok.ensures.put_back.pending (record { held = c.state-pending.ensures.held; told = c.state-pending.ensures.told }))
    (record {
      there = λ told picked. g.met.K.Desk.picked_is_there book.journal.desk name told picked;
      reads = λ told bytes is. g.met.K.Desk.reads_left book.journal.desk name bytes told is;
    }))

pub returns-in-Err-Forbidden-clause-goes : goal.returns-in-Err-Forbidden-clause-goes
returns-in-Err-Forbidden-clause-goes g c = λ name wanted entry seen opened holds.
    let D = g.K.Desk in
    let refused = c.in-Err-Forbidden.ensures.refused c.in-Err-Forbidden.state (ap Err c.in-Err-Forbidden.field-0-is) in
    let named : c.root.result.now.name ≡ detail_name c.args.book.plan =
    ap (λ (f : Flow). f.name) c.root.ensures.value ∙ ap (λ (p : PlanValue). detail_name p) (c.plan.ensures.is ∙ c.machine.ensures.plan) ∙ ap (λ (b : BookValue g.row.K.Denot). detail_name b.plan) refused.1 in
    forbidden_back D.state name wanted (told_as (g.K.Desk.state seen) (g.K.Desk.state entry)) c.args.book _ c.in-Err-Forbidden.state (D.state c.forbid.result.desk) c.forbid.result.status named refused.0 holds refused.3
    (c.forbid.ensures.refuses name entry seen
    (untouched_by D.state _ _ (ap (λ (b : BookValue g.row.K.Denot). b.journal.desk) (sym refused.1) ∙ sym c.close-in-Err-Forbidden.ensures.desk) opened.untouched))

pub returns-in-Err-Book-clause-goes : goal.returns-in-Err-Book-clause-goes
returns-in-Err-Book-clause-goes g c = λ name wanted entry seen opened holds.
    let D = g.K.Desk in
    let now = c.stop.result.desk in
    let kept = c.reset.ensures.proceeds.keeps c.args.book (keeps_none D.state c.args.book c.requires.sound) in
    let may = is_so (may_reset (outline c.args.book) (moment c.args.book)) (λ never. (let refused = c.reset.ensures.forbidden c.requires.sound never in cc)) in
    resets_over D.state name wanted (told_as (g.K.Desk.state seen) (g.K.Desk.state entry)) c.args.book (D.state now) c.stop.result.status opened holds c.requires.kept c.requires.speaks may
    (c.stop.ensures.goes c.args.book (record {
      kept = kept;
      put = c.in-Err-Book.ensures.cut;
      speaks = c.requires.speaks;
      failed = reset_failed c.args.book c.reset.new.self c.reset.ensures.proceeds.plan (c.in-Err-Book.ensures.tried c.requires.sound);
    }))
    (record {
      there = λ told picked. g.met.K.Desk.picked_is_there now name told picked;
      reads = λ told bytes is. g.met.K.Desk.reads_left now name bytes told is;
    })

pub returns-in-Err-Book-clause-causes : goal.returns-in-Err-Book-clause-causes
returns-in-Err-Book-clause-causes g c =
    let kept = c.reset.ensures.proceeds.keeps c.args.book (keeps_none g.K.Desk.state c.args.book c.requires.sound) in
    let back = c.stop.ensures.goes c.args.book (record {
      kept = kept;
      put = c.in-Err-Book.ensures.cut;
      speaks = c.requires.speaks;
      failed = reset_failed c.args.book c.reset.new.self c.reset.ensures.proceeds.plan (c.in-Err-Book.ensures.tried c.requires.sound);
    }) in
    ran_causes reaches_itself back.continues back.ended (omega arith) c.stop.ensures.apart

pub returns-in-Ok-clause-tells : goal.returns-in-Ok-clause-tells
returns-in-Ok-clause-tells g c =
    let kept = c.reset.ensures.proceeds.keeps c.args.book (keeps_none g.K.Desk.state c.args.book c.requires.sound) in
    rw (sym c.close.ensures.desk) at kept.continues.extends.tells

pub returns-in-Err-Book-clause-tells : goal.returns-in-Err-Book-clause-tells
returns-in-Err-Book-clause-tells g c =
    let kept = c.reset.ensures.proceeds.keeps c.args.book (keeps_none g.K.Desk.state c.args.book c.requires.sound) in
    (c.stop.ensures.goes c.args.book (record {
      kept = kept;
      put = c.in-Err-Book.ensures.cut;
      speaks = c.requires.speaks;
      failed = reset_failed c.args.book c.reset.new.self c.reset.ensures.proceeds.plan (c.in-Err-Book.ensures.tried c.requires.sound);
    })).continues.extends.tells
