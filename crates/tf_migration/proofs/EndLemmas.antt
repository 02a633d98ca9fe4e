-- How a migration ends: what becomes of the files, from what was read and what was written.
use Rattle.std.proofs.Common.{◌≡◌, ◌≢◌, ◌⊎◌, ◌==◌, ◌||◌, ◌&&◌, ℕ, Bool, true, false, eqb-true, List, [], ◌∷◌, ◌++◌, length, Option, Some, refl, sym, ap, ◌∙◌, subst, inl, inr, ⊎_elim, append_assoc, append-nil, arith}
use Rattle.std.proofs.lemmas.Bool.{eqb-false}
use Rattle.std.specs.Prelude.{IsTrue, unwrap_or, nat_eq, nat_le, if◌then◌else◌}
use Rattle.tf_desk.specs.Crash.{Mark, at_pick, ShowsPrefix}
use Rattle.tf_desk.specs.State.{DeskState, MayLeave, anything, OnDisk, Passes, Says, passes_none, passes_on, passes_within, passes_since}
use Rattle.tf_desk.proofs.StateLemmas.{on_disk_told, on_disk_none, on_disk_on, left_stays}
use Rattle.tf_journal.specs.Format.{OPEN, title_of, Recovered, unborn, bodies, not_a_book, records_from, title_fault, titled, has_title, is_unborn}
use Rattle.tf_journal.specs.declared.title.Title.TheVariants.{Book as old_title, Book2 as new_title}
use Rattle.tf_journal.proofs.UnbornLemmas.{unborn_found}
use Rattle.tf_journal.specs.Start.{file_of, IsStart, Path, IsSame, Untouched}
use Rattle.tf_journal.proofs.OpenLemmas.{untouched_now}
use Rattle.tf_journal.proofs.PathLemmas.{path_said, start_before}
use Rattle.tf_report.specs.Closing.{disk_fault_text}
use Rattle.tf_report.specs.declared.statuses.TheConstants.{DISK_FAILED, UNSAID, OUT_OF_MEMORY}
use Rattle.tf_migration.specs.Migrates.{Migrates, unread, unbegun, begun, IsUnreadFor, IsUnbegunFor, unbegun_no_memory, unbegun_failed, exists, IsBegunFor, write_failed, StaysAlone, OthersStay, IsOneOf, LeavesOneOf, StaysUnbegun, Lasts, Concludes, old_bodies, old_in, old_at, new_in, new_at, Left, not_yet, either, Finds, IsFirstSync}
use Rattle.tf_migration.specs.Reading.{IsUnread, IsRead}
use Rattle.tf_migration.specs.Writing.{IsLeftByPick, IsMade, IsKept}
use Rattle.tf_migration.specs.declared.reading.OldFault.{OldFault}
use Rattle.tf_migration.proofs.SayLemmas.{nothing_prefix, closes_since, file_stays}

-- ---- names

-- two names are the same or aren't
same_names : (a b : List ℕ) → (a ≡ b) ⊎ (a ≢ b)
same_names [] [] = inl refl
same_names [] (y ∷ b) = inr (λ is. cc)
same_names (x ∷ a) [] = inr (λ is. cc)
same_names (x ∷ a) (y ∷ b) = by (nat_eq x y) refl (same_names a b)
  where
    by : (test : Bool) → nat_eq x y ≡ test → (a ≡ b) ⊎ (a ≢ b) → ((x ∷ a) ≡ (y ∷ b)) ⊎ ((x ∷ a) ≢ (y ∷ b))
    by true is (inl rest) = inl (ap (λ (n : ℕ). n ∷ a) (eqb-true x y is) ∙ ap (λ (l : List ℕ). y ∷ l) rest)
    by true is (inr apart) = inr (λ same. apart (let rest : a ≡ b = cc in rest))
    by false is rest = inr (λ same. eqb-false x y is (let first : x ≡ y = cc in first))

-- ---- a book of one flow isn't unborn as one of several

no_bytes : (rest : List ℕ) → length rest ≡ 0 → rest ≡ []
no_bytes [] is = refl
no_bytes (byte ∷ rest) is = absurd (omega (arith, is))

first_of : (first second third : Bool) → (first || (second && false) || (third && false)) ≡ true → first ≡ true
first_of true second third is = refl
first_of false true true is = is
first_of false true false is = is
first_of false false true is = is
first_of false false false is = is

never_bodies : (test opened : Bool) (found : Recovered) (gate : ℕ) (held : List (List ℕ)) → opened ≡ false
    → (if test then unborn else (if opened then found else not_a_book 0 (Some gate))) ≡ bodies held → ⊥
never_bodies true opened found gate held shut is = cc
never_bodies false true found gate held shut is = cc
never_bodies false false found gate held shut is = cc

-- the name of one is that of no file that is unborn
pub old_born : (bytes : List ℕ) (held : List (List ℕ)) → old_in bytes ≡ bodies held → new_in bytes ≡ unborn → ⊥
old_born [] held is still = cc
old_born (gate ∷ rest) held is still = by (gate == OPEN) refl
  where
    open_gate : gate ≡ OPEN → ⊥
    open_gate same =
        let test : is_unborn new_title (OPEN ∷ rest) ≡ true =
        subst (λ (g : ℕ). is_unborn new_title (g ∷ rest) ≡ true) same (unborn_found new_title (gate ∷ rest) still) in
        let none : rest ≡ [] = no_bytes rest (eqb-true (length rest) 0 (first_of (nat_eq (length rest) 0) (nat_le (length rest) 17) (has_title new_title rest) test)) in
        let found : old_in (OPEN ∷ []) ≡ bodies held = subst (λ (r : List ℕ). old_in (OPEN ∷ r) ≡ bodies held) none (subst (λ (g : ℕ). old_in (g ∷ rest) ≡ bodies held) same is) in
        cc

    by : (opened : Bool) → (gate == OPEN) ≡ opened → ⊥
    by true same = open_gate (eqb-true gate OPEN same)
    by false same =
        never_bodies (is_unborn old_title (gate ∷ rest)) (gate == OPEN)
        (titled (title_fault (title_of old_title) rest 1) (records_from old_title (length (gate ∷ rest)) (gate ∷ rest) 17)) gate held same is

-- ---- the files

-- the file of each name is as it was, where one was only read
file_kept : {name : List ℕ} {entry now : DeskState} → Untouched name entry now → IsTrue entry.tells → (other : List ℕ) → file_of now other ≡ file_of entry other
file_kept {name} {entry} {now} u told other =
    ⊎_elim (λ same. subst (λ (n : List ℕ). file_of now n ≡ file_of entry n) (sym same) (u.file told))
    (λ apart. ap (λ (o : Option (List ℕ)). unwrap_or o []) ((u.path told).others other apart))
    (same_names other name)

-- ---- a flow wasn't read

-- the file of that name is as it was, and a message is said
alone_so : {name : List ℕ} {entry mid now : DeskState} {message : List ℕ} → Untouched name entry mid → IsTrue entry.tells → Says message mid now → StaysAlone name entry now message
alone_so {name} {entry} {mid} {now} {message} u told says =
    let told_mid : IsTrue mid.tells = subst IsTrue (sym u.told) told in
    let path : Path name entry now (λ image text. (image ≡ file_of entry name) × ShowsPrefix entry.shown message (Some text)) (IsSame name entry) =
    path_said (u.path told) told_mid says (λ image text was. (was.0, nothing_prefix entry.shown message text was.1))
    (λ image text same prefix. (same, subst (λ (s : Option (List ℕ)). ShowsPrefix s message (Some text)) u.quiet prefix)) in
    record { file = file_stays name mid now (says.files told_mid).files ∙ u.file told; others = path.others; crash = path.crash }

pub unread_so : {old : List ℕ} {why : OldFault} {entry mid now : DeskState} {message : List ℕ} {wanted status : ℕ} (new : List ℕ) → IsUnread old why entry mid
    → IsUnreadFor (IsTrue entry.tells) (old_at entry old) message wanted → Concludes message wanted mid now status → Migrates old new entry now status
unread_so {message = message} {wanted = wanted} new u is c = unread message wanted is (closes_since u.untouched.quiet c.closes) (λ told. alone_so u.untouched told c.says)

-- ---- a flow was read, and the new book's file was picked

-- marks behind those of the reading: the first sync since is that of a start
start_of : {name : List ℕ} {before : List Mark} {entry mid now : DeskState} {moment : ℕ} → mid.content.marks ≡ entry.content.marks ++ before → IsFirstSync name before entry now moment
    → IsStart name mid now moment
start_of {name} {before} {entry} {mid} {now} marks f =
    let pick : Mark = at_pick name f.picked in
    record {
      more = pick ∷ f.more;
      added = f.added ∙ sym (append_assoc entry.content.marks before (pick ∷ f.more)) ∙ ap (λ (m : List Mark). m ++ pick ∷ f.more) (sym marks);
      first = inr f.first;
    }

sync_of : {name : List ℕ} {before : List Mark} {entry mid now : DeskState} {moment : ℕ} → mid.content.marks ≡ entry.content.marks ++ before → IsFirstSync name [] mid now moment
    → IsFirstSync name before entry now moment
sync_of {name} {before} {entry} {mid} {now} marks f =
    let pick : Mark = at_pick name f.picked in
    record {
      picked = f.picked;
      more = f.more;
      added = f.added ∙ ap (λ (m : List Mark). m ++ pick ∷ f.more) marks ∙ append_assoc entry.content.marks before (pick ∷ f.more);
      first = f.first;
    }

-- marks that stay tell the same first sync
sync_stays : {name : List ℕ} {before : List Mark} {entry now next : DeskState} {moment : ℕ} → next.content.marks ≡ now.content.marks → IsFirstSync name before entry now moment
    → IsFirstSync name before entry next moment
sync_stays same f = record { picked = f.picked; more = f.more; added = same ∙ f.added; first = f.first }

-- of all files it is told what became of them since the call's start
others_so : {old new : List ℕ} {entry mid now : DeskState} → Untouched old entry mid → IsTrue entry.tells
    → file_of now old ≡ file_of mid old → ((other : List ℕ) → other ≢ new → now.content.files other ≡ mid.content.files other) → OthersStay old new entry now
others_so u told same others = record {
  old_file = same ∙ u.file told;
  others = λ other not_old not_new. others other not_new ∙ (u.path told).others other not_old;
}

-- a crash since the call's start: while the old book was read, while the new one's file was picked and made, or while a message is said
module _ {old new : List ℕ} {kept : List (List ℕ)} {entry mid late now : DeskState} {message : List ℕ} (holds : List ℕ → Type 0) (r : IsRead old kept entry mid)
    (told : IsTrue entry.tells) (on_disk : OnDisk anything mid late) (says : Says message late now)
    (passes : Passes (λ image text. (IsLeftByPick new mid image ⊎ holds image) × (mid.shown ≡ Some text)) mid late)
    (left : (image : List ℕ) → MayLeave late image → IsLeftByPick new mid image ⊎ holds image) where
  told_mid : IsTrue mid.tells
  told_mid = on_disk_told r.on_disk told

  told_late : IsTrue late.tells
  told_late = on_disk_told on_disk told_mid

  -- the start is that of the reading
  read_start : {moment : ℕ} → IsStart old entry now moment → IsStart old entry mid moment
  read_start start =
      let more = on_disk.marks told_mid in
      start_before (r.set told) (more.0, says.marks told_late ∙ more.1) start

  one_of : {moment : ℕ} (image : List ℕ) → IsStart old entry mid moment → IsLeftByPick new mid image ⊎ holds image → IsOneOf old new entry holds image
  one_of {moment} image start was =
      ⊎_elim
      (λ by_pick. ⊎_elim (λ picked. inl ((r.untouched.path told).still moment start image picked))
      (λ others. ⊎_elim (λ before. ⊎_elim (λ first. inr (inl first)) (λ none. inr (inr (inl none))) (r.left told new image before)) (λ none. inr (inr (inl none))) others) by_pick)
      (λ held. inr (inr (inr held)))
      was

  meanwhile_so : LeavesOneOf old new entry now holds message
  meanwhile_so moment start image text leaves =
      let before : IsStart old entry mid moment = read_start start in
      let path = r.untouched.path told in
      let whole : Passes (λ i t. (IsLeftByPick new mid i ⊎ holds i) × ShowsPrefix mid.shown message (Some t)) mid now =
      passes_on passes (says.crash told_late) (λ i t went. (went.0, nothing_prefix mid.shown message t went.1))
      (λ i t went. (left i went.0, subst (λ (s : Option (List ℕ)). ShowsPrefix s message (Some t)) on_disk.shown went.1)) in
      passes_since {property = λ i t. IsOneOf old new entry holds i × ShowsPrefix entry.shown message (Some t)} whole (path.within moment before)
      (λ i t read. (inl (path.crash moment before i t read).0, nothing_prefix entry.shown message t (path.crash moment before i t read).1))
      (λ i t went. (one_of i before went.0, subst (λ (s : Option (List ℕ)). ShowsPrefix s message (Some t)) r.untouched.quiet went.1))
      image text leaves

-- it stays, and a message is said
unbegun_stays : {old new : List ℕ} {kept : List (List ℕ)} {entry mid late now : DeskState} {message : List ℕ} → IsRead old kept entry mid → IsKept new mid late → IsTrue entry.tells
    → Says message late now → StaysUnbegun old new entry now message
unbegun_stays {old} {new} {kept} {entry} {mid} {late} {now} {message} r k told says =
    let told_mid : IsTrue mid.tells = on_disk_told r.on_disk told in
    let alone : StaysAlone new mid now message = alone_so k.untouched told_mid says in
    let marks = r.on_disk.marks told in
    record {
      stay = others_so r.untouched told (file_stays old late now (says.files (on_disk_told k.on_disk told_mid)).files ∙ file_kept k.untouched told_mid old) alone.others;
      file = alone.file ∙ file_kept r.untouched told new;
      read = marks.0;
      crash = λ moment first image text leaves.
          let was = alone.crash moment (start_of marks.1 first) image text leaves in
          (was.0 ∙ file_kept r.untouched told new, subst (λ (s : Option (List ℕ)). ShowsPrefix s message (Some text)) r.untouched.quiet was.1);
      meanwhile = meanwhile_so (λ image. ⊥) r told k.on_disk says (passes_within (k.passes told_mid) (λ image text went. (inl went.0, went.1))) (λ image went. inl (k.left told_mid image went));
    }

-- why it wasn't begun is as well said of it as it was at entry
unbegun_since : {old : List ℕ} {kept : List (List ℕ)} {entry mid : DeskState} {message : List ℕ} {wanted : ℕ} (new : List ℕ) → IsRead old kept entry mid
    → IsUnbegunFor (IsTrue mid.tells) (new_at mid new) message wanted → IsUnbegunFor (IsTrue entry.tells) (new_at entry new) message wanted
unbegun_since new r unbegun_no_memory = unbegun_no_memory
unbegun_since new r unbegun_failed = unbegun_failed
unbegun_since new r (exists born) = exists (λ told is. born (on_disk_told r.on_disk told) (ap new_in (file_kept r.untouched told new) ∙ is))

pub unbegun_so : {old new : List ℕ} {kept : List (List ℕ)} {entry mid late now : DeskState} {message : List ℕ} {wanted status : ℕ} → IsRead old kept entry mid → IsKept new mid late
    → IsUnbegunFor (IsTrue mid.tells) (new_at mid new) message wanted → Concludes message wanted late now status → Migrates old new entry now status
unbegun_so {old} {new} {entry = entry} {message = message} {wanted = wanted} r k is c =
    unbegun r.flow.plan r.flow.past message wanted r.flow.holds (unbegun_since new r is) (closes_since (k.untouched.quiet ∙ r.untouched.quiet) c.closes) (λ told. unbegun_stays r k told c.says)

-- ---- and the new book was begun

-- its name isn't that of the old book
names_apart : {old new : List ℕ} {kept : List (List ℕ)} {entry mid : DeskState} → IsRead old kept entry mid → IsTrue entry.tells → new_at mid new ≡ unborn → old ≢ new
names_apart {old} {new} {kept} {entry} r told still same =
    let same_file : new_at entry old ≡ unborn = ap (λ (n : List ℕ). new_at entry n) same ∙ (ap new_in (sym (file_kept r.untouched told new)) ∙ still) in
    old_born (file_of entry old) (old_bodies r.flow.plan r.flow.past) (r.flow.holds told).is same_file

lasts_so : {old new : List ℕ} {kept : List (List ℕ)} {left : Left} {entry mid late now : DeskState} {message : List ℕ} → IsRead old kept entry mid → IsMade new kept left mid late
    → IsTrue entry.tells → Says message late now → Lasts old new kept left entry now message
lasts_so {old} {new} {kept} {left} {entry} {mid} {late} {now} {message} r m told says =
    let told_mid : IsTrue mid.tells = on_disk_told r.on_disk told in
    let told_late : IsTrue late.tells = on_disk_told m.on_disk told_mid in
    let stay = says.files told_late in
    let marks = r.on_disk.marks told in
    let set = m.set told_mid in
    let first = m.synced told_mid in
    let path : Path new mid now
    (λ image text. ((new_in image ≡ unborn) × (entry.shown ≡ Some text)) ⊎ (Finds left kept (new_in image) × ShowsPrefix entry.shown message (Some text)))
    (λ image. Finds left kept (new_in image)) =
    path_said (m.path told_mid) told_late says
    (λ image text went.
    let shown : entry.shown ≡ Some text = sym r.untouched.quiet ∙ went.1 in
    ⊎_elim (λ still. inl (still, shown)) (λ there. inr (there, nothing_prefix entry.shown message text shown)) went.0)
    (λ image text there prefix. inr (there, subst (λ (s : Option (List ℕ)). ShowsPrefix s message (Some text)) (m.on_disk.shown ∙ r.untouched.quiet) prefix)) in
    record {
      stay = others_so r.untouched told
          (ap (λ (o : Option (List ℕ)). unwrap_or o []) (path.others old (names_apart r told (m.was_unborn told_mid)))) path.others;
      file = subst (λ (f : List ℕ). Finds left kept (new_in f)) (sym (file_stays new late now stay.files)) (m.file told_mid);
      picked = stay.picked ∙ set.picked;
      later = λ image leaves. (m.path told_mid).still first.0 (start_of (sym (append-nil mid.content.marks)) first.1) image (left_stays stay image leaves);
      read = marks.0;
      synced = (first.0, sync_stays (says.marks told_late) (sync_of marks.1 first.1));
      crash = λ moment sync image text leaves. path.crash moment (start_of marks.1 sync) image text leaves;
      meanwhile = meanwhile_so (λ image. (new_in image ≡ unborn) ⊎ Finds left kept (new_in image)) r told m.on_disk says (m.passes told_mid)
          (λ image went. inr (inr ((m.path told_mid).still first.0 (start_of (sym (append-nil mid.content.marks)) first.1) image went)));
    }

pub begun_so : {old new : List ℕ} {kept : List (List ℕ)} {left : Left} {entry mid late now : DeskState} {message : List ℕ} {wanted status : ℕ} (r : IsRead old kept entry mid)
    → IsMade new kept left mid late → IsBegunFor r.flow.plan r.flow.past left message wanted → (status ≡ OUT_OF_MEMORY → left ≡ not_yet) → Concludes message wanted late now status
    → Migrates old new entry now status
begun_so {old} {new} {kept} {left} {entry} {mid} {late} {now} {message} {wanted} r m is out c =
    begun r.flow.plan r.flow.past left message wanted r.flow.holds (λ told. ap new_in (sym (file_kept r.untouched told new)) ∙ m.was_unborn (on_disk_told r.on_disk told)) is out
    (closes_since (m.on_disk.shown ∙ r.untouched.quiet) c.closes)
    (λ told. subst (λ (held : List (List ℕ)). Lasts old new held left entry now message) r.flow.kept_are (lasts_so r m told c.says))

-- ---- what was called

-- the new book's file wasn't picked
pub kept_now : (name : List ℕ) (now : DeskState) → IsKept name now now
kept_now name now = record { on_disk = on_disk_none; untouched = untouched_now; passes = λ told. passes_none; left = λ told image left. inl left }

-- all that was called was on the disk
pub read_then : {old : List ℕ} {kept : List (List ℕ)} {entry mid late : DeskState} → IsRead old kept entry mid → OnDisk anything mid late → OnDisk anything entry late
read_then r late = on_disk_on r.on_disk late (λ told image text left. tt) (λ told image text left. tt)

-- a message was said, so that memory didn't run out for it
pub never_out : {status wanted : ℕ} → (status ≡ wanted) ⊎ (status ≡ UNSAID) → status ≡ OUT_OF_MEMORY → wanted ≢ OUT_OF_MEMORY → ⊥
never_out (inl same) out apart = apart (sym same ∙ out)
never_out (inr unsaid) out apart = let no = sym unsaid ∙ out in cc

-- the disk failed, before the new book was begun or after that
pub failed_disk : {new : List ℕ} {kept : List (List ℕ)} {mid late : DeskState} → IsKept new mid late ⊎ IsMade new kept either mid late → OnDisk anything mid late
failed_disk (inl k) = k.on_disk
failed_disk (inr m) = m.on_disk

pub failed_so : {old new : List ℕ} {kept : List (List ℕ)} {entry mid late now : DeskState} {status : ℕ} → IsRead old kept entry mid → IsKept new mid late ⊎ IsMade new kept either mid late
    → (status ≡ DISK_FAILED) ⊎ (status ≡ UNSAID) → Concludes disk_fault_text DISK_FAILED late now status → Migrates old new entry now status
failed_so r (inl k) is c = unbegun_so r k unbegun_failed c
failed_so r (inr m) is c = begun_so r m write_failed (λ out. absurd (never_out is out (λ no. cc))) c
