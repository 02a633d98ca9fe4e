use Rattle.std.proofs.Common.{List, ℕ, ◌++◌, length, ap, ◌∙◌, sym, subst, arith}
use Rattle.tf_states.specs.declared.record.Entry.{Entry}
use Rattle.tf_entries.specs.Entries.{entry_bytes}
use Rattle.tf_journal.specs.Format.{length_bytes}
use Rattle.tf_model.specs.Steps.{Step}
use Rattle.tf_details.proofs.ContentsLemmas.{history_short}
use Rattle.tf_book.proofs.HistoryLemmas.{past_long, framed_short, past_turned}
use Rattle.tf_book.proofs.HoldingLemmas.{marks_short}
use Rattle.tf_book.proofs.InvariantLemmas.{book_proceeds, not_disk}
use Rattle.tf_book.proofs.SoundLemmas.{sound_after}
use Rattle.tf_book.specs.Book.{BookValue, outline, moment}
use Rattle.tf_book.specs.Histories.{framed_bodies}
use Rattle.tf_book.specs.Holding.{contents_of}
use Rattle.tf_book.specs.Recording.{halt_after}
use Rattle.tf_book.proofs.book.Book.record.Goals as goal

pub write-requires-clause-room : goal.write-requires-clause-room
write-requires-clause-room g c =
    let i = c.self.invariant.3 in
    let h = c.self.inside.history in
    let held = c.self.inside.holding in
    let elements = (contents_of held).elements in
    let size = i.size (i.sound (not_disk _ (ap (λ (b : BookValue _). b.halt) c.self.view_is ∙ c.requires.sound))) in
    record {
      few = omega (arith, past_long h.entries.items, history_short held.number elements, ap (λ (l : List Entry). length l) i.told, size, i.limit);
      fewer = omega (arith, past_long h.entries.items, history_short held.number elements, ap (λ (l : List Entry). length l) i.told, size);
      fits = omega (arith, ap (λ (l : List ℕ). length l) i.kept_is, framed_short held.number elements, ap (λ (l : List Entry). length (framed_bodies l)) i.told, size);
      marks = omega (arith, marks_short held, size);
      all_room = c.self.invariant.0;
      draft_room = c.self.invariant.1;
      holding_room = c.self.invariant.2;
    }

pub invariant_of-self : goal.invariant_of-self
invariant_of-self g c =
    let w = c.write.ensures in
    let i = c.self.invariant.3 in (
      w.room,
      w.draft_room,
      w.holding_room,
      sound_after g.K.Desk.state _ _ _ i (ap (λ (b : BookValue _). b.halt) c.self.view_is ∙ c.requires.sound) _ _ c.write.new.journal _ _ c.args.entry _ _ _ c.write.result w.logged
          (subst (λ (b : BookValue _). Step (outline b) (moment b) c.args.entry) (sym c.self.view_is) c.requires.allowed) w.form
          (λ on. (
            w.plan,
            (w.recorded on).stands _ i.stands,
            (w.recorded on).bodies ∙ ap (λ (l : List ℕ). l ++ (length_bytes (length (entry_bytes c.args.entry)) ++ entry_bytes c.args.entry)) i.kept_is,
          ))
          (λ off. ((w.unrecorded off).same, (w.unrecorded off).bodies))
          (past_turned _ _ _ _ (λ on. (w.recorded on).entries) (λ off. (w.unrecorded off).entries)) w.held
          (ap (λ (b : BookValue _). b.halt) c.self.view_is ∙ c.requires.sound ∙ sym (ap halt_after c.in-Ok.is)),
    )

pub invariant_of-self-in-Err : goal.invariant_of-self-in-Err
invariant_of-self-in-Err g c =
    let w = c.write.ensures in
    let i = c.self.invariant.3 in (
      w.room,
      w.draft_room,
      w.holding_room,
      sound_after g.K.Desk.state _ _ _ i (ap (λ (b : BookValue _). b.halt) c.self.view_is ∙ c.requires.sound) _ _ c.write.new.journal _ _ c.args.entry _ _ _ c.write.result w.logged
          (subst (λ (b : BookValue _). Step (outline b) (moment b) c.args.entry) (sym c.self.view_is) c.requires.allowed) w.form
          (λ on. (
            w.plan,
            (w.recorded on).stands _ i.stands,
            (w.recorded on).bodies ∙ ap (λ (l : List ℕ). l ++ (length_bytes (length (entry_bytes c.args.entry)) ++ entry_bytes c.args.entry)) i.kept_is,
          ))
          (λ off. ((w.unrecorded off).same, (w.unrecorded off).bodies))
          (past_turned _ _ _ _ (λ on. (w.recorded on).entries) (λ off. (w.unrecorded off).entries)) w.held
          (sym (ap halt_after c.in-Err.is)),
    )

pub returns-in-Ok-clause-proceeds : goal.returns-in-Ok-clause-proceeds
returns-in-Ok-clause-proceeds g c =
    let w = c.write.ensures in
    book_proceeds _ _ _ _ _ _ _ _ _ _ _ _ _ _ c.self.view_is (sym (past_long c.self.inside.history.entries.items)) c.requires.sound c.requires.allowed w.form c.self.invariant.3
    w.logged w.plan (past_turned _ _ _ _ (λ on. (w.recorded on).entries) (λ off. (w.unrecorded off).entries)) w.held
    (ap (λ (b : BookValue _). b.halt) c.self.view_is ∙ c.requires.sound ∙ sym (ap halt_after c.in-Ok.is)) w.failed

pub returns-in-Err-clause-proceeds : goal.returns-in-Err-clause-proceeds
returns-in-Err-clause-proceeds g c =
    let w = c.write.ensures in
    book_proceeds _ _ _ _ _ _ _ _ _ _ _ _ _ _ c.self.view_is (sym (past_long c.self.inside.history.entries.items)) c.requires.sound c.requires.allowed w.form c.self.invariant.3
    w.logged w.plan (past_turned _ _ _ _ (λ on. (w.recorded on).entries) (λ off. (w.unrecorded off).entries)) w.held (sym (ap halt_after c.in-Err.is)) w.failed
