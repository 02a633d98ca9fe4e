-- How what closes a run is said.
use Rattle.std.proofs.Common.{◌≡◌, inl, inr, ⊎_elim, ℕ, ◌≤◌, false, List, [], ◌++◌, Option, Some, None, refl, sym, ◌∙◌, ap, subst}
use Rattle.std.specs.Prelude.{IsTrue, Result, Ok, Err}
use Rattle.tf_numbers.specs.Numbers.{Rises}
use Rattle.tf_desk.specs.Crash.{shown_with, ShowsPrefix}
use Rattle.tf_desk.specs.State.{DeskState, SaysPrefix, FilesStay, Says, Continues, Passes, passes_none, passes_on, passes_within}
use Rattle.tf_desk.proofs.CountLemmas.{rises_later}
use Rattle.tf_desk.proofs.StateLemmas.{files_none, bytes_stay, left_stays, extends_told, continues_none, continues_on, says_continues}
use Rattle.tf_flow.specs.Plan.{PlanValue}
use Rattle.tf_states.specs.declared.record.AtomView.{AtomView}
use Rattle.tf_states.specs.declared.record.Entry.{Entry}
use Rattle.tf_journal.specs.Format.{SIZE_LIMIT, bodies, recovered, Held, IsAtRest, IsOpen}
use Rattle.tf_journal.specs.declared.title.Title.{Title}
use Rattle.tf_journal.specs.declared.title.Title.TheVariants.{Book2 as book_title}
use Rattle.tf_journal.proofs.AppendLemmas.{rest_leaves}
use Rattle.tf_machine.specs.Machine.{MachineValue, shown as machine_shows, outline as machine_outline, StandsFor}
use Rattle.tf_model.specs.History.{snapshot, Snapshot, Shows}
use Rattle.tf_model.specs.Plan.{Outline, outline_of}
use Rattle.tf_details.specs.Elements.{Contents}
use Rattle.tf_book.specs.Book.{BookValue, outline, bodies_with}
use Rattle.tf_book.specs.SessionInvariant.{said, LeavesEntries, IsSpoken, HasCause, SessionInvariant, IsSaid, StaysOffDisk}
use Rattle.tf_book.specs.Closed.{IsClosing, LeavesClosing, LeavesClosed, Closed}
use Rattle.tf_book.specs.Recording.{halt_after}
use Rattle.tf_book.specs.Sound.{IsSoundBook}
use Rattle.tf_book.proofs.LogLemmas.{OutAlone, said_at_rest, off_none, off_on, off_says}
use Rattle.tf_book.proofs.InvariantLemmas.{not_disk}
use Rattle.tf_book.proofs.SpokenLemmas.{none_pending}
use Rattle.tf_book.specs.declared.faults.Halt.{Halt}
use Rattle.tf_book.specs.declared.faults.Halt.TheVariants as halt

-- a machine's views show what it shows
pub views_show : (m : MachineValue) (views : List AtomView) → views ≡ m.views → Shows views (machine_shows m)
views_show m views same = subst (λ (v : List AtomView). Shows v (machine_shows m)) (sym same) (record { state = λ a. refl; payload = λ a. refl })

-- what a machine shows is what the rules read of the history that it stands for
pub closing_same : (closing : Outline → Snapshot → List ℕ) (m : MachineValue) (plan : PlanValue) (past : List Entry) → m.plan ≡ plan → StandsFor m past
    → closing (machine_outline m) (machine_shows m) ≡ closing (outline_of plan) (snapshot (outline_of plan) past)
closing_same closing m plan past same stands =
    ap (closing (machine_outline m)) stands.shows ∙ ap (λ (p : PlanValue). closing (outline_of p) (snapshot (outline_of p) past)) same

-- a line that fails by the output alone, as what closes a run
line_closes : (before after : Option (List ℕ)) (closing : List ℕ) (old new : DeskState) (r : Result (Unit {0}) Halt) → IsSaid before closing after r → OutAlone r old new
    → IsClosing before closing (halt_after r) after
line_closes before after closing old new (Ok u) said alone = said
line_closes before after closing old new (Err halt.Out) said alone = said
line_closes before after closing old new (Err halt.Disk) said alone = absurd (cc)
line_closes before after closing old new (Err halt.Memory) said alone = absurd (cc)
line_closes before after closing old new (Err (halt.Full size need)) said alone = absurd (cc)

line_caused : (old new : DeskState) (r : Result (Unit {0}) Halt) → OutAlone r old new → halt_after r ≡ Some halt.Out → Rises old.out_faults new.out_faults
line_caused old new (Ok u) alone is = absurd (cc)
line_caused old new (Err why) alone is = alone.1

-- how a closing was said through a journal, which changes nothing else of it
pub record SaidClosing {K : Type 0} (state : K → DeskState) (contents : Contents) (old now : Held K) (closing : List ℕ) (halted : Option Halt) : Type 0 where
  pub text : IsClosing (state old.desk).shown closing halted (state now.desk).shown
  pub cause : halted ≡ Some halt.Out → Rises (state old.desk).out_faults (state now.desk).out_faults
  pub journal : now ≡ record old { desk = now.desk }
  pub continues : Continues (state old.desk) (state now.desk)
  pub files : IsTrue (state old.desk).tells → FilesStay (state old.desk) (state now.desk)
  pub off_disk : StaysOffDisk (state old.desk) (state now.desk)
  pub crash : IsOpen state old → Passes (LeavesClosing contents (state old.desk).shown closing) (state old.desk) (state now.desk)

module _ {K : Type 0} (state : K → DeskState) where
  -- what a crash leaves while a closing is said through a journal at rest
  leaves_closing : (j : Held K) (contents : Contents) (closing : List ℕ) {now : DeskState} → j.title ≡ book_title
      → IsAtRest state j (bodies_with contents []) → Passes (SaysPrefix (state j.desk) closing) (state j.desk) now
      → Passes (LeavesClosing contents (state j.desk).shown closing) (state j.desk) now
  leaves_closing j contents closing titled rest passes = passes_within passes (λ image text says. (
    ap (λ (t : Title). recovered t image) (sym titled) ∙ rest_leaves state j (bodies_with contents []) rest image says.0,
    says.1,
  ))

  -- want of memory: nothing was said
  pub says_nothing : (contents : Contents) (j : Held K) (closing : List ℕ) → SaidClosing state contents j j closing (Some halt.Memory)
  says_nothing contents j closing = record {
    text = refl;
    cause = λ is. absurd (cc);
    journal = refl;
    continues = continues_none;
    files = λ told. files_none;
    off_disk = off_none;
    crash = λ opened. passes_none;
  }

  -- a closing after what was kept
  pub closes_on : (start old : BookValue K) (j : Held K) (halted : Option Halt) (closing : List ℕ) → old.halt ≡ None → old.journal.halted ≡ false
      → SaidClosing state old.contents old.journal j closing halted → SessionInvariant state start old
      → Closed state start (record old { journal = j; halt = halted }) closing
  closes_on start old j halted closing sound unhalted s k = record {
    entries = k.entries;
    recorded = k.recorded;
    held = k.held;
    plan = k.plan;
    quiet = k.quiet;
    volatile = ap (λ (h : Held K). h.volatile) s.journal ∙ k.volatile;
    continues = continues_on k.continues s.continues;
    off_disk = λ volatile. off_on (k.off_disk volatile) told_then s.off_disk;
    text = subst (λ (b : Option (List ℕ)). IsClosing b closing halted (state j.desk).shown) shown_then s.text;
    crash = λ told kept. crash_then told kept;
    left_now = λ told kept before image is_left.
        (let d = k.crash told kept in
        ⊎_elim (λ whole. whole) (λ more. more ∙ ap (λ (p : List Entry). bodies (bodies_with start.contents (p ++ k.entries))) (none_pending _ _ old.halt old.failed d.pending sound d.few))
        (d.left before image (left_stays (s.files (told_then told)) image is_left)));
    exact = λ told kept just. bytes_stay (s.files (told_then told)) ∙ k.exact told kept unhalted just;
    cause = cause_then halted s.text s.cause;
  }
    where
      shown_then : (state old.journal.desk).shown ≡ shown_with (state start.journal.desk).shown (said start.quiet (outline start) start.past k.entries)
      shown_then = subst (λ (h : Option Halt). IsSpoken start.quiet (outline_of start.plan) start.past (state start.journal.desk).shown k.entries h (state old.journal.desk).shown) sound k.text

      told_then : IsTrue (state start.journal.desk).tells → IsTrue (state old.journal.desk).tells
      told_then told = extends_told k.continues.extends told

      cause_then : (h : Option Halt) → IsClosing (state old.journal.desk).shown closing h (state j.desk).shown
          → (h ≡ Some halt.Out → Rises (state old.journal.desk).out_faults (state j.desk).out_faults)
          → HasCause old.contents start.plan old.past (state start.journal.desk) (state j.desk) old.failed h
      cause_then None text cause = tt
      cause_then (Some halt.Out) text cause =
          rises_later (state start.journal.desk).out_faults (state old.journal.desk).out_faults (state j.desk).out_faults k.continues.extends.out_faults (cause refl)
      cause_then (Some halt.Memory) text cause = tt
      cause_then (Some halt.Disk) text cause = absurd text
      cause_then (Some (halt.Full size need)) text cause = absurd text

      crash_then : IsTrue (state start.journal.desk).tells → start.journal.volatile ≡ false
          → Passes (LeavesClosed start.contents start.plan start.quiet start.past k.entries (state start.journal.desk).shown closing) (state start.journal.desk) (state j.desk)
      crash_then told kept =
          let d = k.crash told kept in
          passes_on d.passes (s.crash (record { told = told_then told; sound = unhalted; kept = k.volatile ∙ kept }))
          (λ image text was. inl (subst (λ (p : List Entry). LeavesEntries start.contents start.plan start.quiet start.past (p ++ k.entries) (state start.journal.desk).shown image text) (none_pending _ _ old.halt old.failed d.pending sound d.few) was))
          (λ image text was. inr (
            was.0 ∙ ap (λ (c : Contents). bodies (bodies_with c [])) k.held,
            subst (λ (b : Option (List ℕ)). ShowsPrefix b closing (Some text)) shown_then was.1,
          ))

  -- a book stays sound where its files stay
  pub sound_on : (machine : MachineValue) (kept : List ℕ) (b : BookValue K) (j : Held K) (halted : Option Halt) → IsSoundBook state machine kept b → b.halt ≡ None
      → j ≡ record b.journal { desk = j.desk } → (state j.desk).tells ≡ (state b.journal.desk).tells
      → (IsTrue (state b.journal.desk).tells → FilesStay (state b.journal.desk) (state j.desk))
      → IsSoundBook state machine kept (record b { journal = j; halt = halted })
  sound_on machine kept b j halted is sound same told files = record {
    stands = is.stands;
    plan = is.plan;
    kept_is = is.kept_is;
    held = is.held;
    told = is.told;
    title = ap (λ (h : Held K). h.title) same ∙ is.title;
    sound = λ apart. ap (λ (h : Held K). h.halted) same ∙ is.sound (not_disk b.halt sound);
    ready = λ opened. let before : IsTrue (state b.journal.desk).tells = subst IsTrue told opened.told in
        said_at_rest state same (files before)
        (is.ready (record { told = before; sound = is.sound (not_disk b.halt sound); kept = sym (ap (λ (h : Held K). h.volatile) same) ∙ opened.kept }));
    size = λ unhalted. ap (λ (h : Held K). h.size) same ∙ is.size (is.sound (not_disk b.halt sound));
    limit = subst (λ (n : ℕ). n ≤ SIZE_LIMIT) (sym (ap (λ (h : Held K). h.size) same)) is.limit;
  }

  -- the same of a book that is open, whose journal said a line
  pub book_closes : (start old b : BookValue K) (machine : MachineValue) (kept : List ℕ) (j : Held K) (h : Option Halt) (closing : List ℕ) (r : Result (Unit {0}) Halt)
      → b ≡ old → old.halt ≡ None → IsSoundBook state machine kept b → h ≡ halt_after r
      → j ≡ record b.journal { desk = j.desk } → IsSaid (state b.journal.desk).shown closing (state j.desk).shown r → Says closing (state b.journal.desk) (state j.desk)
      → OutAlone r (state b.journal.desk) (state j.desk)
      → SessionInvariant state start old
      → Closed state start (record b { journal = j; halt = h }) closing
  book_closes start old b machine kept j h closing r is_old unhalted is halts same text says alone k =
      let sound : b.halt ≡ None = ap (λ (x : BookValue K). x.halt) is_old ∙ unhalted in
      closes_on start b j h closing sound (is.sound (not_disk b.halt sound))
      (subst (λ (x : Option Halt). SaidClosing state b.contents b.journal j closing x) (sym halts) (record {
        text = line_closes (state b.journal.desk).shown (state j.desk).shown closing (state b.journal.desk) (state j.desk) r text alone;
        cause = line_caused (state b.journal.desk) (state j.desk) r alone;
        journal = same;
        continues = says_continues says;
        files = says.files;
        off_disk = off_says says;
        crash = λ opened. leaves_closing b.journal b.contents closing is.title (is.ready opened) (says.crash opened.told);
      }))
      (subst (λ (x : BookValue K). SessionInvariant state start x) (sym is_old) k)
