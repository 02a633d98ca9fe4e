-- How bodies are added to a draft.
use Rattle.std.proofs.Common.{◌≡◌, ◌≤◌, ◌<◌, ◌+◌, ◌∷◌, ◌++◌, [], ℕ, List, length, take, drop, get_or, Option, Err, true, false, refl, sym, ap, ◌∙◌, subst, inl, ⊎_elim, arith, length-append, append_assoc}
use Rattle.std.proofs.lemmas.List.{take_more, take-append-drop}
use Rattle.std.specs.Prelude.{IsTrue}
use Rattle.std.specs.List.{flat_map}
use Rattle.tf_desk.specs.Crash.{Pairs}
use Rattle.tf_desk.specs.State.{DeskState, Trusts, GoesOn, Passes, anything}
use Rattle.tf_desk.proofs.CountLemmas.{rises_later}
use Rattle.tf_desk.proofs.StateLemmas.{on_disk_told, goes_on, trusts_of, trusts_goes_on}
use Rattle.tf_journal.specs.Adding.{Grows, AddsToDraft, StaysDraft, FailsToAppend}
use Rattle.tf_journal.specs.Format.{OPEN, title_of, record_of, prefix_of, journal_bytes, recovered, Held, IsOpen, IsDraft, AsDraft, LeavesUnborn, StaysUnborn}
use Rattle.tf_journal.specs.declared.faults.AppendFault.{AppendFault}
use Rattle.tf_journal.specs.declared.faults.AppendFault.TheVariants as append
use Rattle.tf_journal.specs.declared.title.Title.{Title}
use Rattle.tf_journal.specs.declared.title.Title.TheVariants.{Book2 as new_title}
use Rattle.tf_journal.proofs.ReachLemmas.{flat_map-push, length-record_of}
use Rattle.tf_journal.proofs.PathLemmas.{left_then}
use Rattle.tf_migration.specs.Writing.{LeavesOnce, IsLeftSo, IsDraftOf, FailsToAdd, left_added, unmade_by, left_by}
use Rattle.tf_migration.specs.Migrates.{Left}
use Rattle.tf_migration.proofs.DeskLaws.{KeepsLaws}

-- the size of a journal with a body more
size_on : (added : List (List ℕ)) (body : List ℕ) → length (journal_bytes new_title (added ++ body ∷ [])) ≡ length (journal_bytes new_title added) + 5 + length body
size_on added body =
    omega (
      arith,
      ap length (flat_map-push added body),
      length-append (flat_map record_of added) (record_of body),
      length-record_of body,
      length-append (OPEN ∷ title_of new_title) (flat_map record_of added),
      length-append (OPEN ∷ title_of new_title) (flat_map record_of (added ++ body ∷ [])),
      length-append (prefix_of new_title added) (0 ∷ []),
      length-append (prefix_of new_title (added ++ body ∷ [])) (0 ∷ []),
    )

-- a draft that the desk tells may be written
pub draft_open : {K : Type 0} (state : K → DeskState) (journal : Held K) (added : List (List ℕ)) → IsDraftOf state added journal → IsTrue (state journal.desk).tells
    → IsOpen state journal
draft_open state journal added d told = record { told = told; sound = d.sound; kept = d.in_file }

pub draft_ready : {K : Type 0} (state : K → DeskState) (journal : Held K) (added : List (List ℕ)) → IsDraftOf state added journal → IsDraft state journal
draft_ready state journal added d = λ opened. (added, d.drafted opened.told)

-- a body more
pub draft_on : {K : Type 0} (state : K → DeskState) (old new : Held K) (added : List (List ℕ)) (body : List ℕ) → IsDraftOf state added old → Grows body old new
    → AsDraft state old (AddsToDraft state body old new) → (state new.desk).tells ≡ (state old.desk).tells → IsDraftOf state (added ++ body ∷ []) new
draft_on {K} state old new added body d grows adds tells = record {
  title = ap (λ (j : Held K). j.title) grows.same ∙ d.title;
  size = ap (λ (j : Held K). j.size) grows.same ∙ (ap (λ (n : ℕ). n + 5 + length body) d.size ∙ sym (size_on added body));
  limit = omega (arith, ap (λ (j : Held K). j.size) grows.same, grows.fits);
  sound = ap (λ (j : Held K). j.halted) grows.same ∙ d.sound;
  in_file = ap (λ (j : Held K). j.volatile) grows.same ∙ d.in_file;
  drafted = λ told. let was : IsTrue (state old.desk).tells = subst IsTrue tells told in
      (adds (draft_open state old added d was) added (d.drafted was)).draft;
}

-- ---- how calls on a draft join

-- a call that writes, of which it is told what a crash leaves inside
goes_so : {during : Pairs} {old new : DeskState} → GoesOn anything old new → (IsTrue old.tells → Passes during old new) → GoesOn during old new
goes_so call crash = record {
  on_disk = record {
    tells = call.on_disk.tells;
    shown = call.on_disk.shown;
    disk_faults = call.on_disk.disk_faults;
    out_faults = call.on_disk.out_faults;
    asks = call.on_disk.asks;
    turns = call.on_disk.turns;
    marks = call.on_disk.marks;
    crash = crash;
  };
  files = call.files;
}

-- an unborn file, as a journal of that title and of one that is the same
unborn_same : (title : Title) (before shown : Option (List ℕ)) (image text : List ℕ) → title ≡ new_title → shown ≡ before → LeavesUnborn title shown image text
    → LeavesUnborn new_title before image text
unborn_same title before shown image text titled same left =
    (ap (λ (t : Title). recovered t image) (sym titled) ∙ left.0, sym same ∙ left.1)

-- an append to a draft, after such calls
pub unborn_on : {K : Type 0} (state : K → DeskState) (start : DeskState) (old new : Held K) (added : List (List ℕ)) → IsDraftOf state added old
    → GoesOn (LeavesUnborn new_title start.shown) start (state old.desk) → GoesOn anything (state old.desk) (state new.desk)
    → AsDraft state old (λ held. StaysDraft state old new) → GoesOn (LeavesUnborn new_title start.shown) start (state new.desk)
unborn_on state start old new added d before call stays =
    goes_on before (goes_so call (λ told. (stays (draft_open state old added d told) added (d.drafted told)).crash)) (λ told image text left. left)
    (λ told image text left. unborn_same old.title start.shown (state old.desk).shown image text d.title before.on_disk.shown left)

-- its file is unborn after it
pub unborn_now : {K : Type 0} (state : K → DeskState) (start : DeskState) (old new : Held K) (added : List (List ℕ)) → IsDraftOf state added old
    → GoesOn (LeavesUnborn new_title start.shown) start (state old.desk) → AsDraft state old (λ held. StaysDraft state old new) → IsTrue start.tells
    → StaysUnborn new_title (state new.desk)
unborn_now state start old new added d before stays told =
    let told_old : IsTrue (state old.desk).tells = on_disk_told before.on_disk told in
    subst (λ (t : Title). StaysUnborn t (state new.desk)) d.title (stays (draft_open state old added d told_old) added (d.drafted told_old)).leaves

-- ---- why a body wasn't added

-- bodies up to a place, and the one there
up_to : (held : List (List ℕ)) (place : ℕ) (body item : List ℕ) → place < length held → body ≡ get_or held place item → take (place + 1) held ≡ take place held ++ body ∷ []
up_to held place body item within is = take_more held place item within ∙ ap (λ (b : List ℕ). take place held ++ b ∷ []) (sym is)

pub more_added : {K : Type 0} (state : K → DeskState) (journal : Held K) (held : List (List ℕ)) (place : ℕ) (body item : List ℕ) → place < length held → body ≡ get_or held place item
    → IsDraftOf state (take place held ++ body ∷ []) journal → IsDraftOf state (take (place + 1) held) journal
more_added state journal held place body item within is d = subst (λ (added : List (List ℕ)). IsDraftOf state added journal) (sym (up_to held place body item within is)) d

split_at : (held : List (List ℕ)) (place : ℕ) (body item : List ℕ) → place < length held → body ≡ get_or held place item → held ≡ take place held ++ body ∷ drop (place + 1) held
split_at held place body item within is =
    sym (take-append-drop (place + 1) held) ∙ ap (λ (l : List (List ℕ)). l ++ drop (place + 1) held) (up_to held place body item within is)
    ∙ append_assoc (take place held) (body ∷ []) (drop (place + 1) held)

pub not_added : {K : Type 0} (state : K → DeskState) (start : DeskState) (old new : Held K) (held : List (List ℕ)) (place : ℕ) (body item : List ℕ) (fault : AppendFault)
    → place < length held → body ≡ get_or held place item → IsDraftOf state (take place held) old → start.disk_faults ≤ (state old.desk).disk_faults
    → FailsToAppend state body old new fault → FailsToAdd held fault start (state new.desk)
not_added state start old new held place body item append.Disk within is d later halts =
    rises_later start.disk_faults (state old.desk).disk_faults (state new.desk).disk_faults later halts.rose
not_added state start old new held place body item (append.Full size need) within is d later full = record {
  before = take place held;
  body = body;
  after = drop (place + 1) held;
  splits = split_at held place body item within is;
  size_is = full.has ∙ d.size;
  need_is = full.needs;
  fits = omega (arith, full.has, d.limit);
  over = omega (arith, full.has, full.needs, full.over);
}
not_added state start old new held place body item append.Halted within is d later halted = let no : false ≡ true = sym d.sound ∙ halted.0 in absurd (cc)

-- ---- a book was written, or wasn't

-- a draft was begun, and its bodies were to be added and published
pub write_goes : {K : Type 0} (state : K → DeskState) (held : List (List ℕ)) (is left : Left) (start mid now back : K) → is ≡ left → back ≡ now
    → Trusts (GoesOn (LeavesUnborn new_title (state start).shown)) (state start) (state mid) → GoesOn (LeavesOnce left held (state mid).shown) (state mid) (state now)
    → Trusts (GoesOn (LeavesOnce is held (state start).shown)) (state start) (state back)
write_goes {K} state held is left start mid now back so same before call =
    subst (λ (l : Left). Trusts (GoesOn (LeavesOnce l held (state start).shown)) (state start) (state back)) (sym so)
    (subst (λ (k : K). Trusts (GoesOn (LeavesOnce left held (state start).shown)) (state start) (state k)) (sym same)
    (trusts_goes_on before (trusts_of call.on_disk.tells call) (λ told image text went. (inl went.0, went.1)) (λ told image text went. (went.0, sym before.does.on_disk.shown ∙ went.1))))

pub write_left : {K : Type 0} (state : K → DeskState) (held : List (List ℕ)) (is left : Left) (now back : K) → is ≡ left → back ≡ now → IsLeftSo left held (state now)
    → IsLeftSo is held (state back)
write_left {K} state held is left now back so same leaves =
    subst (λ (l : Left). IsLeftSo l held (state back)) (sym so) (subst (λ (k : K). IsLeftSo left held (state k)) (sym same) leaves)

-- as much is there, whatever the fault is called
pub same_left : (fault : AppendFault) → left_by (unmade_by fault) ≡ left_added {A = Unit {0}} (Err fault)
same_left append.Disk = refl
same_left (append.Full size need) = refl
same_left append.Halted = refl

-- a draft that wasn't begun left the file unborn
pub undrafted_left : {K : Type 0} (state : K → DeskState) (start now : K) → KeepsLaws state → StaysUnborn new_title (state start) → IsTrue (state now).tells
    → Trusts (GoesOn (LeavesUnborn new_title (state start).shown)) (state start) (state now) → StaysUnborn new_title (state now)
undrafted_left state start now laws stays told_now goes image left =
    let told : IsTrue (state start).tells = goes.falls told_now in
    ⊎_elim (λ earlier. stays image earlier) (λ inside. inside.1.0)
    (left_then (goes.does.on_disk.crash told_now) (laws.tells_shown now told_now) (λ moment i text le is. laws.counts_now now moment i text told_now le is)
    (λ i text was. laws.only_now start i text told was) image left)
