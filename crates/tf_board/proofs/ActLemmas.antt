-- How a command on a board goes that is recorded, refused or answered.
use Rattle.std.proofs.Common.{◌≡◌, ◌≢◌, ◌⊎◌, ℕ, List, [], ◌∷◌, ◌++◌, true, false, Option, Some, None, Result, Ok, Err, refl, sym, ap, ◌∙◌, subst, inl, inr, ⊎_elim}
use Rattle.std.specs.Prelude.{IsTrue, IfErr}
use Rattle.tf_desk.specs.ActLaws.{bytes_of-picked}
use Rattle.tf_numbers.specs.Numbers.{Rises}
use Rattle.tf_desk.specs.State.{DeskState, anything, OnDisk}
use Rattle.tf_desk.proofs.CountLemmas.{rises_later}
use Rattle.tf_desk.proofs.StateLemmas.{on_disk_none, on_disk_told, on_disk_on, on_disk_within}
use Rattle.tf_journal.specs.Start.{IsSet, file_of}
use Rattle.tf_journal.proofs.PathLemmas.{set_on, path_on, as_read}
use Rattle.tf_board.specs.declared.calls.BoardRequest.{BoardRequest}
use Rattle.tf_board.specs.Does.{Answer, answers, answer_of, acts, fault_text, fault_status, refusal_text, applied_text, FailsToRecord, Records, Acts, fault_of, applied, Reached, Ends, Does, Concludes, HasCauses, answered, unrecorded, disk_failed, filled}
use Rattle.tf_report.specs.Closing.{disk_fault_text, book_full}
use Rattle.tf_report.specs.declared.statuses.TheConstants.{SUCCEEDED, DISK_FAILED, OUT_OF_MEMORY, FULL, BOARD_REFUSED}
use Rattle.tf_board.specs.Board.{BoardValue, AreOfBoard, board_in, Holds, IsOpened}
use Rattle.tf_board.specs.declared.commands.Command.{Command}
use Rattle.tf_board.specs.declared.commands.JobAction.{JobAction}
use Rattle.tf_board.specs.declared.faults.BoardFault.{BoardFault}
use Rattle.tf_board.specs.declared.faults.BoardFault.TheVariants as fault
use Rattle.tf_board.specs.declared.rules.Refusal.{Refusal}
use Rattle.tf_board.specs.declared.rules.Refusal.TheVariants as refusal
use Rattle.tf_board.proofs.DeskLaws.{KeepsLaws}
use Rattle.tf_board.proofs.EndLemmas.{opened_reached, causes_so}

-- ---- faults

-- the texts for some faults
disk_text : fault_text fault.Disk ≡ disk_fault_text
unfolding fault_text
disk_text = refl

full_text : (size need : ℕ) → fault_text (fault.Full size need) ≡ book_full size need
unfolding fault_text
full_text size need = refl

memory_text : fault_text fault.Memory ≡ []
unfolding fault_text
memory_text = refl

refused_status : (why : Refusal) (id : List ℕ) → fault_status (fault_of why id) ≡ BOARD_REFUSED
refused_status refusal.NoJob id = refl
refused_status refusal.Gone id = refl
refused_status (refusal.Claimed owner) id = refl
refused_status (refusal.NotOwner owner) id = refl

refusal_sound : (why : Refusal) (id : List ℕ) → fault_of why id ≢ fault.Halted
refusal_sound refusal.NoJob id = λ is. cc
refusal_sound refusal.Gone id = λ is. cc
refusal_sound (refusal.Claimed owner) id = λ is. cc
refusal_sound (refusal.NotOwner owner) id = λ is. cc

refusal_no_disk : (why : Refusal) (id : List ℕ) → fault_of why id ≢ fault.Disk
refusal_no_disk refusal.NoJob id = λ is. cc
refusal_no_disk refusal.Gone id = λ is. cc
refusal_no_disk (refusal.Claimed owner) id = λ is. cc
refusal_no_disk (refusal.NotOwner owner) id = λ is. cc

-- what is answered for a refusal is no fault of the disk
pub refused_no_disk : (why : Refusal) (id : List ℕ) (got : BoardFault) → (got ≡ fault_of why id) ⊎ (got ≡ fault.Memory) → got ≢ fault.Disk
refused_no_disk why id got (inl named_so) = λ is. refusal_no_disk why id (sym named_so ∙ is)
refused_no_disk why id got (inr memory) = λ is. let no = sym memory ∙ is in cc

err_same : {A : Type 0} (r : Result A BoardFault) (x y : BoardFault) → r ≡ Err x → r ≡ Err y → x ≡ y
err_same r x y is_x is_y = let same = sym is_x ∙ is_y in cc

err_not_ok : {A : Type 0} (r : Result A BoardFault) (a : A) (x : BoardFault) → r ≡ Ok a → r ≡ Err x → ⊥
err_not_ok r a x is_ok is_err = let same = sym is_ok ∙ is_err in cc

-- ---- a command was to be recorded

module _ {K : Type 0} (state : K → DeskState) (name : List ℕ) (entry : DeskState) where
  -- it was recorded
  pub recorded_reached : {A : Type 0} {old new : BoardValue K} {added : Command} (a : A) → IsOpened state name entry old
      → Records {A = A} state old new added (Ok a) → Reached name old.past [] (added ∷ old.past) entry (state new.journal.desk)
  recorded_reached {old = old} {new} {added} a o r =
      let was : DeskState = state old.journal.desk in
      let now : DeskState = state new.journal.desk in
      let told_was : IsTrue entry.tells → IsTrue was.tells = λ told. on_disk_told o.on_disk told in
      let set_now : IsTrue entry.tells → IsSet name entry now = λ told. set_on (o.set told) (r.goes.files (told_was told)).picked (r.goes.on_disk.marks (told_was told)) in
      record {
        on_disk = on_disk_on o.on_disk r.goes.on_disk (λ told image text left. tt) (λ told image text left. tt);
        file = λ told. inl (subst (λ (f : List ℕ). Holds (added ∷ old.past) (board_in f)) (bytes_of-picked now.content name (set_now told).picked) (r.recorded.file (told_was told)));
        path = λ told. path_on (o.path told) (o.set told) (r.goes.files (told_was told)) (r.goes.on_disk.marks (told_was told)) (r.goes.on_disk.crash (told_was told))
            (λ image text before. inl before)
            (λ image text left. let same : entry.shown ≡ Some text = sym o.on_disk.shown ∙ left.1 in
            ⊎_elim (λ before. inl (inl before, same)) (λ since. inr (inl since, same)) left.0)
            (λ image left. inl (r.recorded.lasts (told_was told) image left));
      }

  -- the disk failed: it may be in the file
  pub failed_reached : {A : Type 0} {old new : BoardValue K} {added : Command} {result : Result A BoardFault} → IsOpened state name entry old
      → Records {A = A} state old new added result → KeepsLaws state
      → Reached name old.past (added ∷ []) old.past entry (state new.journal.desk)
  failed_reached {old = old} {new} {added} o r laws =
      let was : DeskState = state old.journal.desk in
      let now : DeskState = state new.journal.desk in
      let told_was : IsTrue entry.tells → IsTrue was.tells = λ told. on_disk_told o.on_disk told in
      let told_now : IsTrue entry.tells → IsTrue now.tells = λ told. on_disk_told r.goes.on_disk (told_was told) in
      let set_now : IsTrue entry.tells → IsSet name entry now = λ told. set_on (o.set told) (r.goes.files (told_was told)).picked (r.goes.on_disk.marks (told_was told)) in
      record {
        on_disk = on_disk_on o.on_disk r.goes.on_disk (λ told image text left. tt) (λ told image text left. tt);
        file = λ told. r.leaves (told_was told) o.fresh.sound (file_of now name)
            (as_read now (set_now told).picked (λ picked. laws.picked_is_there new.journal.desk name (told_now told) picked) (λ bytes has. laws.reads_left new.journal.desk name bytes (told_now told) has)).0;
        path = λ told. path_on (o.path told) (o.set told) (r.goes.files (told_was told)) (r.goes.on_disk.marks (told_was told)) (r.goes.on_disk.crash (told_was told))
            (λ image text before. inl before)
            (λ image text left. inr (left.0, sym o.on_disk.shown ∙ left.1))
            (λ image left. r.leaves (told_was told) o.fresh.sound image left);
      }

  -- it wasn't recorded: nothing changed
  pub refused_reached : {old new : BoardValue K} → IsOpened state name entry old → new ≡ old
      → Reached name old.past [] old.past entry (state new.journal.desk)
  refused_reached {old} {new} o same =
      subst (λ (b : BoardValue K). Reached name old.past [] old.past entry (state b.journal.desk)) (sym same) (opened_reached state name entry old o)

  -- the same of the desk that a board gives back
  pub reached_back : {past pending after : List Command} {mid back : K} → back ≡ mid
      → Reached name past pending after entry (state mid) → Reached name past pending after entry (state back)
  reached_back {past} {pending} {after} same r = subst (λ (k : K). Reached name past pending after entry (state k)) (sym same) r

  -- what is said of a fault, from wherever it was reached
  abbrev pub SaysFault : DeskState → DeskState → BoardFault → ℕ → Type 0
  SaysFault mid now why status = (past pending after : List Command) → Reached name past pending after entry mid
      → Ends name past pending after entry now (fault_text why) (fault_status why) status

  -- a call that was to record did nothing
  pub recording_failed : {A : Type 0} (asked : BoardRequest) (now : DeskState) (old new : BoardValue K) (added : Command) (why : BoardFault) (status : ℕ)
      → IsOpened state name entry old → Records {A = A} state old new added (Err why) → (answer_of asked old.past).added ≡ added ∷ []
      → SaysFault (state new.journal.desk) now why status → (why ≡ fault.Memory → status ≡ OUT_OF_MEMORY) → KeepsLaws state
      → Does asked name entry now status
  recording_failed asked now old new added fault.Disk status o r adds ends stopped laws =
      disk_failed old.past o.fresh.legal (subst (λ (l : List Command). AreOfBoard (l ++ old.past)) (sym adds) r.fails.legal) o.found
      (subst (λ (l : List Command). Ends name old.past l old.past entry now disk_fault_text DISK_FAILED status) (sym adds)
      (subst (λ (m : List ℕ). Ends name old.past (added ∷ []) old.past entry now m DISK_FAILED status) disk_text
      (ends old.past (added ∷ []) old.past (failed_reached o r laws))))
  recording_failed asked now old new added (fault.Full size need) status o r adds ends stopped laws =
      filled old.past size need o.fresh.legal o.found
      (record { new = added; is_added = adds; size_is = r.fails.size_is ∙ o.fresh.sized; need_is = r.fails.need_is; over = r.fails.over })
      (subst (λ (m : List ℕ). Ends name old.past [] old.past entry now m FULL status) (full_text size need)
      (ends old.past [] old.past (refused_reached o r.fails.now)))
  recording_failed asked now old new added fault.Memory status o r adds ends stopped laws =
      unrecorded old.past o.fresh.legal o.found (stopped refl)
      (subst (λ (m : List ℕ). Ends name old.past [] old.past entry now m OUT_OF_MEMORY status) memory_text
      (ends old.past [] old.past (refused_reached o r.fails)))
  recording_failed asked now old new added fault.Halted status o r adds ends stopped laws = let no = sym o.fresh.sound ∙ r.fails.0 in absurd (cc)
  recording_failed asked now old new added (fault.NoJob id) status o r adds ends stopped laws = absurd r.fails
  recording_failed asked now old new added (fault.Gone id) status o r adds ends stopped laws = absurd r.fails
  recording_failed asked now old new added (fault.Claimed owner) status o r adds ends stopped laws = absurd r.fails
  recording_failed asked now old new added (fault.NotOwner owner) status o r adds ends stopped laws = absurd r.fails

  -- a call that is refused, or for whose refusal memory ran out
  pub refused_does : (asked : BoardRequest) (now : DeskState) (old new : BoardValue K) (why : Refusal) (id : List ℕ) (got : BoardFault) (status : ℕ)
      → IsOpened state name entry old → new ≡ old
      → answer_of asked old.past ≡ answers (refusal_text why id) BOARD_REFUSED
      → (got ≡ fault_of why id) ⊎ (got ≡ fault.Memory)
      → SaysFault (state new.journal.desk) now got status → (got ≡ fault.Memory → status ≡ OUT_OF_MEMORY)
      → Does asked name entry now status
  refused_does asked now old new why id got status o same is (inl right) ends stopped =
      answered old.past o.fresh.legal (subst (λ (a : Answer). AreOfBoard (a.added ++ old.past)) (sym is) o.fresh.legal) o.found
      (subst (λ (a : Answer). Ends name old.past [] (a.added ++ old.past) entry now a.text a.status status) (sym is)
      (subst (λ (n : ℕ). Ends name old.past [] old.past entry now (refusal_text why id) n status) (refused_status why id)
      (subst (λ (f : BoardFault). Ends name old.past [] old.past entry now (fault_text f) (fault_status f) status) right
      (ends old.past [] old.past (refused_reached o same)))))
  refused_does asked now old new why id got status o same is (inr memory) ends stopped =
      unrecorded old.past o.fresh.legal o.found (stopped memory)
      (subst (λ (m : List ℕ). Ends name old.past [] old.past entry now m OUT_OF_MEMORY status) memory_text
      (subst (λ (f : BoardFault). Ends name old.past [] old.past entry now (fault_text f) (fault_status f) status) memory
      (ends old.past [] old.past (refused_reached o same))))

  -- what an owner does with a job: it is recorded and said
  pub acted_does : (asked : BoardRequest) (now : DeskState) (old new : BoardValue K) (refused : Option Refusal) (action : JobAction) (id owner : List ℕ) (status : ℕ)
      → IsOpened state name entry old
      → answer_of asked old.past ≡ acts refused old.past action id owner
      → Acts state refused old new action id owner (Ok tt)
      → ((past pending after : List Command) → Reached name past pending after entry (state new.journal.desk)
      → Ends name past pending after entry now (applied_text action id owner) SUCCEEDED status)
      → Does asked name entry now status
  acted_does asked now old new (Some why) action id owner status o is a ends =
      absurd (⊎_elim (λ no. err_not_ok (Ok tt) tt (fault_of why id) refl no) (λ no. err_not_ok (Ok tt) tt fault.Memory refl no) a.answer)
  acted_does asked now old new None action id owner status o is r ends =
      answered old.past o.fresh.legal (subst (λ (a : Answer). AreOfBoard (a.added ++ old.past)) (sym is) r.recorded.legal) o.found
      (subst (λ (a : Answer). Ends name old.past [] (a.added ++ old.past) entry now a.text a.status status) (sym is)
      (ends old.past [] (applied old.past action id owner ∷ old.past) (recorded_reached tt o r)))

  -- or it couldn't be done
  pub act_failed : (asked : BoardRequest) (now : DeskState) (old new : BoardValue K) (refused : Option Refusal) (action : JobAction) (id owner : List ℕ) (got : BoardFault) (status : ℕ)
      → IsOpened state name entry old
      → answer_of asked old.past ≡ acts refused old.past action id owner
      → Acts state refused old new action id owner (Err got)
      → SaysFault (state new.journal.desk) now got status → (got ≡ fault.Memory → status ≡ OUT_OF_MEMORY) → KeepsLaws state
      → Does asked name entry now status
  act_failed asked now old new (Some why) action id owner got status o is a ends stopped laws =
      refused_does asked now old new why id got status o a.now is (⊎_elim (λ s. inl (err_same (Err got) got (fault_of why id) refl s)) (λ s. inr (err_same (Err got) got fault.Memory refl s)) a.answer) ends stopped
  act_failed asked now old new None action id owner got status o is r ends stopped laws =
      recording_failed asked now old new (applied old.past action id owner) got status o r (ap (λ (a : Answer). a.added) is) ends stopped laws

  -- a command that is only answered
  pub said_does : (asked : BoardRequest) (mid : K) (now : DeskState) (board : BoardValue K) (text : List ℕ) (status : ℕ)
      → IsOpened state name entry board → mid ≡ board.journal.desk
      → answer_of asked board.past ≡ answers text SUCCEEDED
      → ((past pending after : List Command) → Reached name past pending after entry (state mid) → Ends name past pending after entry now text SUCCEEDED status)
      → Does asked name entry now status
  said_does asked mid now board text status o back is ends =
      answered board.past o.fresh.legal (subst (λ (a : Answer). AreOfBoard (a.added ++ board.past)) (sym is) o.fresh.legal) o.found
      (subst (λ (a : Answer). Ends name board.past [] (a.added ++ board.past) entry now a.text a.status status) (sym is)
      (ends board.past [] board.past (subst (λ (k : K). Reached name board.past [] board.past entry (state k)) (sym back) (opened_reached state name entry board o))))

-- ---- why it failed

module _ {K : Type 0} (state : K → DeskState) where
  -- only the disk's fault is answered for the disk's failing, and then its count rose
  recording_rises : (old new : BoardValue K) (added : Command) (got : BoardFault) → FailsToRecord state added old new got → got ≡ fault.Disk
      → Rises (state old.journal.desk).disk_faults (state new.journal.desk).disk_faults
  recording_rises old new added got fails is = (subst (λ (f : BoardFault). FailsToRecord state added old new f) is fails).rose

  -- it isn't halted that was just opened
  recording_sound : (old new : BoardValue K) (added : Command) (got : BoardFault) → old.journal.halted ≡ false → FailsToRecord state added old new got → got ≢ fault.Halted
  recording_sound old new added got sound fails = λ is.
      let no : old.journal.halted ≡ true = (subst (λ (f : BoardFault). FailsToRecord state added old new f) is fails).0 in
      let bad_ = sym sound ∙ no in cc

  pub act_sound : (old new : BoardValue K) (refused : Option Refusal) (action : JobAction) (id owner : List ℕ) (got : BoardFault)
      → old.journal.halted ≡ false → Acts state refused old new action id owner (Err got) → got ≢ fault.Halted
  act_sound old new (Some why) action id owner got sound a = λ is. ⊎_elim (λ s. refusal_sound why id (sym (err_same (Err got) got (fault_of why id) refl s) ∙ is)) (λ s. let no = sym (err_same (Err got) got fault.Memory refl s) ∙ is in cc) a.answer
  act_sound old new None action id owner got sound r = recording_sound old new (applied old.past action id owner) got sound r.fails

  act_rises : (old new : BoardValue K) (refused : Option Refusal) (action : JobAction) (id owner : List ℕ) (got : BoardFault)
      → Acts state refused old new action id owner (Err got) → got ≡ fault.Disk → Rises (state old.journal.desk).disk_faults (state new.journal.desk).disk_faults
  act_rises old new (Some why) action id owner got a is = absurd (⊎_elim (λ s. refusal_no_disk why id (sym (err_same (Err got) got (fault_of why id) refl s) ∙ is)) (λ s. let no = sym (err_same (Err got) got fault.Memory refl s) ∙ is in cc) a.answer)
  act_rises old new None action id owner got r is = recording_rises old new (applied old.past action id owner) got r.fails is

  -- it is on the disk alone what an owner does
  pub act_on_disk : (old new : BoardValue K) (refused : Option Refusal) (action : JobAction) (id owner : List ℕ) (result : Result (Unit {0}) BoardFault)
      → Acts state refused old new action id owner result → OnDisk anything (state old.journal.desk) (state new.journal.desk)
  act_on_disk old new (Some why) action id owner result a =
      subst (λ (b : BoardValue K). OnDisk anything (state old.journal.desk) (state b.journal.desk)) (sym a.now) on_disk_none
  act_on_disk old new None action id owner result r = on_disk_within r.goes.on_disk (λ told image text left. tt)

  -- when the status of a call comes that was to record
  pub recorded_causes : {A : Type 0} (name : List ℕ) (entry : DeskState) (back : K) (now : DeskState) (old new : BoardValue K) (added : Command) (result : Result A BoardFault) (status : ℕ)
      → IsOpened state name entry old → Records {A = A} state old new added result → back ≡ new.journal.desk → Concludes (state back) now status
      → (status ≡ DISK_FAILED → result ≡ Err fault.Disk) → HasCauses entry now status
  recorded_causes {A = A} name entry back now old new added result status o r same c failed =
      causes_so
      (on_disk_on o.on_disk r.goes.on_disk (λ told image text left. tt) (λ told image text left. tt))
      (subst (λ (k : K). Concludes (state k) now status) same c)
      (λ is. rises_later entry.disk_faults (state old.journal.desk).disk_faults (state new.journal.desk).disk_faults o.on_disk.disk_faults
      (recording_rises old new added fault.Disk (subst (λ (x : Result A BoardFault). IfErr x (λ why. FailsToRecord state added old new why)) (failed is) r.fails) refl))

  -- and of what an owner does
  pub act_causes : (name : List ℕ) (entry : DeskState) (back : K) (now : DeskState) (old new : BoardValue K) (refused : Option Refusal) (action : JobAction) (id owner : List ℕ)
      (result : Result (Unit {0}) BoardFault) (status : ℕ)
      → IsOpened state name entry old → Acts state refused old new action id owner result → back ≡ new.journal.desk → Concludes (state back) now status
      → (status ≡ DISK_FAILED → result ≡ Err fault.Disk) → HasCauses entry now status
  act_causes name entry back now old new refused action id owner result status o a same c failed =
      causes_so
      (on_disk_on o.on_disk (act_on_disk old new refused action id owner result a) (λ told image text left. tt) (λ told image text left. tt))
      (subst (λ (k : K). Concludes (state k) now status) same c)
      (λ is. rises_later entry.disk_faults (state old.journal.desk).disk_faults (state new.journal.desk).disk_faults o.on_disk.disk_faults
      (act_rises old new refused action id owner fault.Disk (subst (λ (x : Result (Unit {0}) BoardFault). Acts state refused old new action id owner x) (failed is) a) refl))

  -- and of a command that is only answered
  pub said_causes : (name : List ℕ) (entry : DeskState) (back : K) (now : DeskState) (board : BoardValue K) (status : ℕ)
      → IsOpened state name entry board → back ≡ board.journal.desk → Concludes (state back) now status → status ≢ DISK_FAILED → HasCauses entry now status
  said_causes name entry back now board status o same c never =
      causes_so o.on_disk (subst (λ (k : K). Concludes (state k) now status) same c) (λ is. absurd (never is))
