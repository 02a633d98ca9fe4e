-- What is promised where a book was halted, or nothing more is said: what is shown, what a crash leaves, and the causes.
use Rattle.std.proofs.Common.{◌≡◌, ◌≢◌, ◌⊎◌, ℕ, List, [], ◌++◌, Bool, false, Option, Some, None, refl, sym, ap, ◌∙◌, subst, inl, inr, ⊎_elim, arith}
use Rattle.std.specs.Prelude.{IsTrue}
use Rattle.tf_desk.proofs.StateLemmas.{bytes_stay, left_stays, files_none, extends_told, passes_then}
use Rattle.tf_numbers.specs.Numbers.{Rises}
use Rattle.tf_desk.specs.Crash.{shown_with, ShowsPrefix}
use Rattle.tf_desk.specs.State.{DeskState, Passes, Says, SaysPrefix, nothing_left, passes_none, passes_on, passes_within}
use Rattle.tf_flow.specs.Plan.{PlanValue}
use Rattle.tf_states.specs.declared.record.Entry.{Entry}
use Rattle.tf_model.specs.Plan.{outline_of}
use Rattle.tf_journal.specs.Format.{Recovered, LeavesEither}
use Rattle.tf_journal.specs.declared.title.Title.TheVariants.{Book2 as book_title}
use Rattle.tf_details.specs.Elements.{IsLegalBook, Contents, with_entries}
use Rattle.tf_book.specs.Book.{BookValue, outline, bodies_with}
use Rattle.tf_book.specs.SessionInvariant.{SessionInvariant, said, IsSpoken, IsCut, HasCause, LeavesEntries, MayFollow, nothing_more, IsPending, IsExact, IsFullFor}
use Rattle.tf_book.specs.Turns.{IsTried}
use Rattle.tf_book.proofs.TriedLemmas.{one_of, follows_so, full_so}
use Rattle.tf_book.specs.declared.faults.Halt.{Halt}
use Rattle.tf_book.specs.declared.faults.Halt.TheVariants as halt
use Rattle.tf_book.proofs.SpokenLemmas.{shown_none}
use Rattle.tf_report.specs.Closing.{disk_fault_text, book_full, ClosesWith, said as was_said, cut}
use Rattle.tf_report.specs.declared.statuses.TheConstants.{UNSAID, UNREAD, UNHIRED, DISK_FAILED, FULL}
use Rattle.tf_commands.specs.Books.{ShowsLines, closed, line_cut, stopped, book_in, HoldsWith, IsPendingSo, MayLeave}
use Rattle.tf_commands.specs.Runs.{SaysHalt, HasMessage, HasSaidHalt, IsHeld, book_desk, LastsFrom, HasEnded}
use Rattle.tf_commands.proofs.HeldLemmas.{legal_before, legal_on, held_with, told_with}

-- nothing was said
pub says_nothing : {now : DeskState} → Says [] now now
says_nothing {now} = record {
  tells = refl;
  prefix = record { count = 0; prefix = sym (shown_none now.shown) };
  disk_faults = refl;
  out_faults = omega arith;
  asks = refl;
  turns = refl;
  marks = λ told. refl;
  files = λ told. files_none;
  crash = λ told. passes_none;
}

-- what is shown once a halt was said, where a message for it is among what may be said last
pub halt_said : (held : Contents) (plan : PlanValue) (quiet : Bool) (before entries : List Entry) (start mid now : DeskState) (last : List ℕ → ℕ → Type 0) (is_so : Entry → Type 0) (entry : Option Entry) (why : Halt) (closing : List ℕ) (status : ℕ)
    → ((e : Entry) → is_so e → last disk_fault_text DISK_FAILED) → ((size need : ℕ) → IsFullFor is_so held plan (entries ++ before) size need → last (book_full size need) FULL)
    → IsTried is_so (Some why) entry
    → IsSpoken quiet (outline_of plan) before start.shown entries (Some why) mid.shown → HasCause held plan (entries ++ before) start mid entry (Some why)
    → SaysHalt mid.shown now.shown why closing status → ShowsLines plan quiet before entries start.shown now.shown last closing status
halt_said held plan quiet before entries start mid now last is_so entry halt.Disk closing status failed full tried spoken cause says =
    subst (λ (c : List ℕ). ShowsLines plan quiet before entries start.shown now.shown last c status) (sym says.0)
    (closed disk_fault_text DISK_FAILED status (let one = one_of is_so entry tried in failed one.0 one.1) (subst (λ (t : Option (List ℕ)). ClosesWith t disk_fault_text DISK_FAILED now.shown status) spoken says.1))
halt_said held plan quiet before entries start mid now last is_so entry halt.Out closing status failed full tried spoken cause says =
    subst (λ (c : List ℕ). ShowsLines plan quiet before entries start.shown now.shown last c status) (sym says.0)
    (subst (λ (n : ℕ). ShowsLines plan quiet before entries start.shown now.shown last [] n) (sym says.1)
    (line_cut (subst (λ (t : Option (List ℕ)). IsCut quiet (outline_of plan) before start.shown entries t) (sym says.2) spoken)))
halt_said held plan quiet before entries start mid now last is_so entry (halt.Full size need) closing status failed full tried spoken cause (inl out) =
    subst (λ (c : List ℕ). ShowsLines plan quiet before entries start.shown now.shown last c status) (sym out.0)
    (subst (λ (n : ℕ). ShowsLines plan quiet before entries start.shown now.shown last [] n) (sym out.1) (stopped (out.2 ∙ spoken)))
halt_said held plan quiet before entries start mid now last is_so entry (halt.Full size need) closing status failed full tried spoken cause (inr says) =
    subst (λ (c : List ℕ). ShowsLines plan quiet before entries start.shown now.shown last c status) (sym says.0)
    (closed (book_full size need) FULL status (full size need (full_so is_so entry tried cause)) (subst (λ (t : Option (List ℕ)). ClosesWith t (book_full size need) FULL now.shown status) spoken says.1))
halt_said held plan quiet before entries start mid now last is_so entry halt.Memory closing status failed full tried spoken cause says =
    subst (λ (c : List ℕ). ShowsLines plan quiet before entries start.shown now.shown last c status) (sym says.0)
    (subst (λ (n : ℕ). ShowsLines plan quiet before entries start.shown now.shown last [] n) (sym says.1) (stopped (says.2 ∙ spoken)))

-- ---- what a crash leaves

-- a prefix of the lines of some of the entries, the oldest
pub left_runs : (first : Recovered) (contents : Contents) (plan : PlanValue) (quiet : Bool) (before entries pending : List Entry) (shown : Option (List ℕ)) (closing image text : List ℕ)
    → IsLegalBook (with_entries contents (pending ++ entries)).elements → LeavesEntries contents plan quiet before (pending ++ entries) shown image text
    → MayLeave first contents plan quiet before entries pending shown closing image text
left_runs first contents plan quiet before entries pending shown closing image text legal l = record {
  lost = l.lost;
  kept = l.kept;
  oldest = l.splits;
  finds = inl (record {
    is = l.recovers;
    legal = legal_before contents l.lost l.kept (subst (λ (e : List Entry). IsLegalBook (with_entries contents e).elements) l.splits legal);
  });
  spoken = inl l.spoken;
}

-- all lines, and a prefix of the closing
pub closing_runs : (first : Recovered) (contents : Contents) (plan : PlanValue) (quiet : Bool) (before entries pending more : List Entry) (shown : Option (List ℕ)) (closing image text : List ℕ)
    → ((pending ≡ more) ⊎ (more ≡ [])) → HoldsWith contents (more ++ entries) (book_in image)
    → ShowsPrefix (shown_with shown (said quiet (outline_of plan) before entries)) closing (Some text)
    → MayLeave first contents plan quiet before entries pending shown closing image text
closing_runs first contents plan quiet before entries pending more shown closing image text (inl same) found prefix = record {
  lost = [];
  kept = more ++ entries;
  oldest = ap (λ (p : List Entry). p ++ entries) same;
  finds = inl found;
  spoken = inr (more, refl, prefix);
}
closing_runs first contents plan quiet before entries pending more shown closing image text (inr none) found prefix = record {
  lost = pending;
  kept = entries;
  oldest = refl;
  finds = inl (subst (λ (p : List Entry). HoldsWith contents (p ++ entries) (book_in image)) none found);
  spoken = inr ([], refl, prefix);
}

-- nothing is pending
pub none_so : (may : List Entry → Entry → Type 0) (plan : PlanValue) (past pending : List Entry) (old now : DeskState) → pending ≡ [] → IsPendingSo may plan past pending old now
none_so may plan past pending old now none = record { few = subst (MayFollow (may past) plan past) (sym none) nothing_more; caused = inl none }

-- the pending entry of a halt
pub pending_so : (may : List Entry → Entry → Type 0) (halted : Option Halt) (entry : Option Entry) (pending : List Entry) (held : Contents) (plan : PlanValue) (past recorded : List Entry) (old now : DeskState)
    → IsTried (may past) halted entry → IsPending plan past halted entry pending → HasCause held plan recorded old now entry halted → IsPendingSo may plan past pending old now
pending_so may None entry pending held plan past recorded old now tried few cause = none_so may plan past pending old now few
pending_so may (Some halt.Disk) entry pending held plan past recorded old now tried few cause = record { few = follows_so (may past) entry tried few; caused = inr cause }
pending_so may (Some halt.Out) entry pending held plan past recorded old now tried few cause = none_so may plan past pending old now few
pending_so may (Some halt.Memory) entry pending held plan past recorded old now tried few cause = none_so may plan past pending old now few
pending_so may (Some (halt.Full size need)) entry pending held plan past recorded old now tried few cause = none_so may plan past pending old now few

-- ---- how a halt was said

-- what closes a command tells neither a file that can't be read nor a hand that can't be hired
pub apart_closes : (before now : Option (List ℕ)) (message : List ℕ) (wanted status : ℕ) → ClosesWith before message wanted now status → (wanted ≢ UNREAD) × (wanted ≢ UNHIRED)
    → (status ≢ UNREAD) × (status ≢ UNHIRED)
apart_closes before now message wanted status (was_said text) apart = apart
apart_closes before now message wanted status (cut prefix) apart = (λ is. absurd (cc), λ is. absurd (cc))

-- by a message
pub halt_spoken : (why : Halt) {old now : DeskState} (message : List ℕ) (status : ℕ) → HasMessage why → SaysHalt old.shown now.shown why message status → Says message old now
    → (status ≡ UNSAID → Rises old.out_faults now.out_faults) → (status ≡ DISK_FAILED → why ≡ halt.Disk) → (status ≢ UNREAD) × (status ≢ UNHIRED) → HasSaidHalt why old now status
halt_spoken why message status has ends says unsaid failed apart = record {
  closing = message;
  ends = ends;
  says = says;
  how = inl has;
  unsaid = λ is. inr (unsaid is);
  failed = failed;
  apart = apart;
}

-- by nothing
pub halt_unspoken : (why : Halt) (old : DeskState) (status : ℕ) → SaysHalt old.shown old.shown why [] status
    → (status ≡ UNSAID → why ≡ halt.Out) → (status ≢ DISK_FAILED) → (status ≢ UNREAD) × (status ≢ UNHIRED) → HasSaidHalt why old old status
halt_unspoken why old status ends unsaid failed apart = record {
  closing = [];
  ends = ends;
  says = says_nothing;
  how = inr (λ told. passes_none);
  unsaid = λ is. inl (unsaid is);
  failed = λ is. absurd (failed is);
  apart = apart;
}

module _ {K : Type 0} (state : K → DeskState) where
  -- what a crash may leave and leaves of a file, where nothing more is said than a closing, which comes after all lines
  pub said_lasts : (may : List Entry → Entry → Type 0) (start book : BookValue K) (closing : List ℕ) (now : DeskState) → Says closing (book_desk state book) now
      → (¬ (Rises (book_desk state start).disk_faults now.disk_faults) → book.journal.halted ≡ false)
      → (k : SessionInvariant state start book) → IsHeld start.plan book → IsTried (may book.past) book.halt book.failed
      → ((book_desk state book).shown ≡ shown_with (book_desk state start).shown (said start.quiet (outline start) start.past k.entries))
      ⊎ (IsTrue (book_desk state book).tells → Passes nothing_left (book_desk state book) now)
      → LastsFrom state may start now k.entries closing
  said_lasts may start book closing now says unhurt k held tried how telling kept at_rest first =
      let d = k.crash telling kept in
      let telling_book : IsTrue (book_desk state book).tells = extends_told k.continues.extends telling in
      let leaves = d.left at_rest in
      let pending = pending_so may book.halt book.failed d.pending book.contents start.plan (k.entries ++ start.past) book.past (book_desk state start) (book_desk state book)
      (subst (λ (p : List Entry). IsTried (may p) book.halt book.failed) k.recorded tried) d.few k.cause in
      let legal : IsLegalBook (with_entries start.contents (d.pending ++ k.entries)).elements =
      legal_on start.contents k.entries start.past (held_with start.plan start book k.entries k.held held) (told_with start.plan start book k.entries k.held k.recorded held) pending.few in
      let before : (image text : List ℕ) → LeavesEntries start.contents start.plan start.quiet start.past (d.pending ++ k.entries) (book_desk state start).shown image text
      → MayLeave first start.contents start.plan start.quiet start.past k.entries d.pending (book_desk state start).shown closing image text =
      (λ image text l. left_runs first start.contents start.plan start.quiet start.past k.entries d.pending (book_desk state start).shown closing image text legal l) in
      record {
        pending = d.pending;
        few = record { few = pending.few; caused = ⊎_elim (λ none. inl none) (λ rose. inr (omega (arith, rose, says.disk_faults))) pending.caused };
        legal = legal;
        passes = ⊎_elim
            (λ loud. passes_on d.passes (says.crash telling_book) before (loud_leaves k.entries d.pending legal loud leaves))
            (λ still. passes_then (passes_within d.passes before) (still telling_book))
            how;
        leaves = λ image now_left. leaves image (left_stays (says.files telling_book) image now_left);
        exact = λ unrisen known.
            bytes_stay (says.files telling_book)
            ∙ subst (λ (c : Contents). IsExact (book_desk state book) c) k.held (k.exact telling kept (unhurt unrisen) known);
      }
    where
      loud_leaves : (entries pending : List Entry) → IsLegalBook (with_entries start.contents (pending ++ entries)).elements
          → (book_desk state book).shown ≡ shown_with (book_desk state start).shown (said start.quiet (outline start) start.past entries)
          → LeavesEither book_title (book_desk state book) (bodies_with start.contents entries) (bodies_with start.contents (pending ++ entries))
          → (image text : List ℕ) → SaysPrefix (book_desk state book) closing image text
          → MayLeave first start.contents start.plan start.quiet start.past entries pending (book_desk state start).shown closing image text
      loud_leaves entries pending legal loud leaves image text inside =
          ⊎_elim
          (λ found. closing_runs first start.contents start.plan start.quiet start.past entries pending [] (book_desk state start).shown closing image text (inr refl)
          (record { is = found; legal = legal_before start.contents pending entries legal }) (prefix inside.1))
          (λ found. closing_runs first start.contents start.plan start.quiet start.past entries pending pending (book_desk state start).shown closing image text (inl refl)
          (record { is = found; legal = legal }) (prefix inside.1))
          (leaves image inside.0)
        where
          prefix : ShowsPrefix (book_desk state book).shown closing (Some text) → ShowsPrefix (shown_with (book_desk state start).shown (said start.quiet (outline start) start.past entries)) closing (Some text)
          prefix f = subst (λ (t : Option (List ℕ)). ShowsPrefix t closing (Some text)) loud f

  -- why the book was halted
  halt_cause : (start book : BookValue K) (why : Halt) → book.halt ≡ Some why → SessionInvariant state start book → HasCause book.contents start.plan book.past (book_desk state start) (book_desk state book) book.failed (Some why)
  halt_cause start book why halted k = subst (λ (h : Option Halt). HasCause book.contents start.plan book.past (book_desk state start) (book_desk state book) book.failed h) halted k.cause

  -- the text at the halt
  halt_text : (start book : BookValue K) (why : Halt) → book.halt ≡ Some why → (k : SessionInvariant state start book)
      → IsSpoken start.quiet (outline start) start.past (book_desk state start).shown k.entries (Some why) (book_desk state book).shown
  halt_text start book why halted k =
      subst (λ (h : Option Halt). IsSpoken start.quiet (outline start) start.past (book_desk state start).shown k.entries h (book_desk state book).shown) halted k.text

  -- the same where a book was halted and that was said, or nothing
  pub halt_lasts : (may : List Entry → Entry → Type 0) (start book : BookValue K) (why : Halt) (now : DeskState) (status : ℕ) → book.halt ≡ Some why → (book.halt ≢ Some halt.Disk → book.journal.halted ≡ false)
      → (s : HasSaidHalt why (book_desk state book) now status) → (k : SessionInvariant state start book) → IsHeld start.plan book
      → IsTried (may book.past) book.halt book.failed → LastsFrom state may start now k.entries s.closing
  halt_lasts may start book why now status halted unhalted s k held tried =
      said_lasts may start book s.closing now s.says
      (λ unrisen. unhalted (λ is. unrisen (rises_disk (let same : why ≡ halt.Disk = some_same (sym halted ∙ is) in same) (halt_cause start book why halted k))))
      k held tried (⊎_elim (λ has. inl (whole_text why has k.entries (halt_text start book why halted k))) (λ still. inr still) s.how)
    where
      some_same : Some why ≡ Some halt.Disk → why ≡ halt.Disk
      some_same is = cc

      -- the text at the halt, where there is a message for it
      whole_text : (w : Halt) → HasMessage w → (entries : List Entry) → IsSpoken start.quiet (outline start) start.past (book_desk state start).shown entries (Some w) (book_desk state book).shown
          → (book_desk state book).shown ≡ shown_with (book_desk state start).shown (said start.quiet (outline start) start.past entries)
      whole_text halt.Disk has entries spoken = spoken
      whole_text halt.Out has entries spoken = absurd has
      whole_text (halt.Full size need) has entries spoken = spoken
      whole_text halt.Memory has entries spoken = absurd has

      rises_disk : why ≡ halt.Disk → HasCause book.contents start.plan book.past (book_desk state start) (book_desk state book) book.failed (Some why) → Rises (book_desk state start).disk_faults now.disk_faults
      rises_disk is cause =
          let rose : Rises (book_desk state start).disk_faults (book_desk state book).disk_faults =
          subst (λ (w : Halt). HasCause book.contents start.plan book.past (book_desk state start) (book_desk state book) book.failed (Some w)) is cause in
          omega (arith, rose, s.says.disk_faults)

  -- a halt that was said with the status of a failed output tells of such a fault, and one with that of a failed disk of a fault of the disk
  pub halt_ended : (start book : BookValue K) (why : Halt) (now : DeskState) (status : ℕ) → book.halt ≡ Some why → HasSaidHalt why (book_desk state book) now status
      → SessionInvariant state start book → HasEnded (book_desk state start) now status
  halt_ended start book why now status halted s k = record {
    unsaid = λ is. output_rose why (s.unsaid is) (halt_cause start book why halted k);
    failed = λ is. disk_rose why (s.failed is) (halt_cause start book why halted k);
  }
    where
      output_rose : (w : Halt) → (w ≡ halt.Out) ⊎ Rises (book_desk state book).out_faults now.out_faults → HasCause book.contents start.plan book.past (book_desk state start) (book_desk state book) book.failed (Some w)
          → Rises (book_desk state start).out_faults now.out_faults
      output_rose w (inr rose) cause = omega (arith, rose, k.continues.extends.out_faults)
      output_rose halt.Out (inl is) cause = omega (arith, cause, s.says.out_faults)
      output_rose halt.Disk (inl is) cause = absurd (cc)
      output_rose halt.Memory (inl is) cause = absurd (cc)
      output_rose (halt.Full size need) (inl is) cause = absurd (cc)

      disk_rose : (w : Halt) → w ≡ halt.Disk → HasCause book.contents start.plan book.past (book_desk state start) (book_desk state book) book.failed (Some w) → Rises (book_desk state start).disk_faults now.disk_faults
      disk_rose halt.Disk is cause = omega (arith, cause, s.says.disk_faults)
      disk_rose halt.Out is cause = absurd (cc)
      disk_rose halt.Memory is cause = absurd (cc)
      disk_rose (halt.Full size need) is cause = absurd (cc)

  -- the text once a halt was said
  pub halt_shows : (start book : BookValue K) (why : Halt) (now : DeskState) (status : ℕ) (last : List ℕ → ℕ → Type 0) (may : List Entry → Entry → Type 0) → book.halt ≡ Some why
      → (s : HasSaidHalt why (book_desk state book) now status) → (k : SessionInvariant state start book)
      → ((e : Entry) → may (k.entries ++ start.past) e → last disk_fault_text DISK_FAILED)
      → ((size need : ℕ) → IsFullFor (may (k.entries ++ start.past)) (with_entries start.contents k.entries) start.plan (k.entries ++ start.past) size need → last (book_full size need) FULL)
      → IsTried (may book.past) book.halt book.failed
      → ShowsLines start.plan start.quiet start.past k.entries (book_desk state start).shown now.shown last s.closing status
  halt_shows start book why now status last may halted s k failed full tried =
      halt_said (with_entries start.contents k.entries) start.plan start.quiet start.past k.entries (book_desk state start) (book_desk state book) now last (may (k.entries ++ start.past)) book.failed why s.closing status failed full
      (subst (λ (p : List Entry). IsTried (may p) (Some why) book.failed) k.recorded (subst (λ (h : Option Halt). IsTried (may book.past) h book.failed) halted tried))
      (halt_text start book why halted k)
      (subst (λ (p : List Entry). HasCause (with_entries start.contents k.entries) start.plan p (book_desk state start) (book_desk state book) book.failed (Some why)) k.recorded
      (subst (λ (c : Contents). HasCause c start.plan book.past (book_desk state start) (book_desk state book) book.failed (Some why)) k.held (halt_cause start book why halted k)))
      s.ends

  -- the text of a book that wasn't halted
  pub sound_text : (start book : BookValue K) → book.halt ≡ None → (k : SessionInvariant state start book)
      → (book_desk state book).shown ≡ shown_with (book_desk state start).shown (said start.quiet (outline start) start.past k.entries)
  sound_text start book sound k =
      subst (λ (h : Option Halt). IsSpoken start.quiet (outline start) start.past (book_desk state start).shown k.entries h (book_desk state book).shown) sound k.text
