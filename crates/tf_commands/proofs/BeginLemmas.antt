-- How a run begins as a new detail of a book.
use Rattle.std.proofs.Common.{◌≡◌, ◌≢◌, ◌⊎◌, ℕ, ◌≤◌, List, [], ◌∷◌, length, false, Option, Some, None, refl, sym, ap, ◌∙◌, subst, inl, inr, ⊎_elim, arith}
use Rattle.std.specs.Prelude.{IsTrue, is_some}
use Rattle.tf_desk.proofs.StateLemmas.{passes_as, told_still, goes_continues}
use Rattle.tf_numbers.specs.Numbers.{Rises}
use Rattle.tf_desk.specs.Crash.{Pairs}
use Rattle.tf_desk.specs.State.{DeskState, LeftNow, MayLeave as MayLeaveNow, bytes_now, told_as, Trusts, GoesOn, Passes}
use Rattle.tf_flow.specs.Plan.{PlanValue}
use Rattle.tf_journal.proofs.OpenLemmas.{open_lowered}
use Rattle.tf_journal.proofs.PathLemmas.{set_start, path_widens, left_then}
use Rattle.tf_journal.specs.Format.{Recovered, unborn, bodies, IsOpen, LeavesBodies}
use Rattle.tf_journal.specs.Start.{file_of, Open}
use Rattle.tf_journal.specs.declared.title.Title.TheVariants.{Book2 as book_title}
use Rattle.tf_details.specs.Elements.{Element, detail, bodies_of, book_size, IsHistoryOf, IsLegalBook, Contents}
use Rattle.tf_book.specs.Book.{BookValue, bodies_with, begun_contents, HasPlaceFor, detail_body}
use Rattle.tf_book.specs.SessionInvariant.{IsExact}
use Rattle.tf_book.specs.Shelf.{ShelfValue, desk_at, desk_of, is_volatile, IsPlaced, IsTold, IsFoundAs}
use Rattle.tf_book.specs.Starting.{FindsAdded, LeavesBegun, EndsThere, FailsToStart}
use Rattle.tf_book.proofs.ShelfLemmas.{no_elements}
use Rattle.tf_book.specs.declared.faults.BookFault.{BookFault}
use Rattle.tf_book.specs.declared.faults.BookFault.TheVariants as book_fault
use Rattle.tf_book.specs.declared.faults.Halt.{Halt}
use Rattle.tf_book.specs.declared.faults.Halt.TheVariants as halt
use Rattle.tf_book.specs.declared.shelf.Place.{Place}
use Rattle.tf_book.specs.declared.shelf.Place.TheVariants as place
use Rattle.tf_commands.specs.Begun.{IsShelf, IsShelfOf, MayBegin, IsQuiet, FailsToBegin, Begins, Unbegun}
use Rattle.tf_commands.specs.Books.{book_in, book_at, HoldsNoFlow, FindsSince}
use Rattle.tf_commands.specs.Runs.{book_desk}
use Rattle.tf_commands.proofs.BookLemmas.{opened_bytes}
use Rattle.tf_commands.proofs.PathLemmas.{set_continues, path_continues}

-- what wasn't halted wasn't halted by the disk
pub not_halted : (why : Option Halt) → why ≡ None → why ≢ Some halt.Disk
not_halted None is = λ disk. cc
not_halted (Some other) is = absurd (cc)

-- a new detail is legal behind the elements
pub legal_begun : {elements : List Element} {plan : PlanValue} → IsLegalBook elements → HasPlaceFor elements plan → IsHistoryOf plan [] → IsLegalBook (detail plan ∷ elements)
legal_begun legal has history = (record { accepted = history.accepted; limits = history.limits; runs = history.runs; few = has.few; unnamed = has.unnamed }, legal)

-- ---- what recovery finds while it begins

module _ {K : Type 0} (state : K → DeskState) where
  added_finds : (at : Place K) (elements : List Element) (plan : PlanValue) (first found : Recovered) → IsPlaced state at elements → IsFoundAs at elements first → IsLegalBook (detail plan ∷ elements)
      → FindsAdded at elements (detail_body plan) found → FindsSince first (begun_contents elements plan) [] found
  added_finds (place.Kept journal) elements plan first found placed was legal (inl is) = inr (refl, inl (is ∙ sym was))
  added_finds (place.Kept journal) elements plan first found placed was legal (inr (inl is)) = inr (refl, inl (is ∙ sym was))
  added_finds (place.Unborn desk) elements plan first found placed was legal (inl is) = inr (refl, inl (is ∙ sym was))
  added_finds (place.Unborn desk) elements plan first found placed was legal (inr (inl is)) = inr (refl, inr (was, is ∙ ap (λ (e : List Element). bodies (bodies_of e)) placed.0))
  added_finds at elements plan first found placed was legal (inr (inr is)) = inl (record { is = is; legal = legal })

  -- a crash inside the beginning
  begun_may : (shelf : ShelfValue K) (plan : PlanValue) (first : Recovered) (shown : Option (List ℕ)) (image text : List ℕ) → IsShelf state shelf → IsFoundAs shelf.place shelf.elements first
      → HasPlaceFor shelf.elements plan → IsHistoryOf plan [] → LeavesBegun shelf plan shown image text → MayBegin first shelf.elements plan shown image text
  begun_may shelf plan first shown image text s was has history l =
      (added_finds shelf.place shelf.elements plan first (book_in image) s.placed was (legal_begun s.legal has history) l.0, l.1)

  -- where the desk tells its content, a shelf's place does
  told_at : (at : Place K) (elements : List Element) → is_volatile at ≡ false → IsPlaced state at elements → IsTrue (state (desk_at at)).tells → IsTold state at
  told_at (place.Kept journal) elements kept placed told = record { told = told; sound = placed.sound; kept = kept }
  told_at (place.Unborn desk) elements kept placed told = told

  pub shelf_told : (shelf : ShelfValue K) → IsShelf state shelf → IsTrue (state (desk_of shelf)).tells → IsTold state shelf.place
  shelf_told shelf s told = told_at shelf.place shelf.elements s.kept s.placed told

  -- a file of at most 18 bytes that held no flow has nothing behind its last gate
  ends_at : (at : Place K) (elements : List Element) (first : Recovered) → is_volatile at ≡ false → IsPlaced state at elements → IsFoundAs at elements first → HoldsNoFlow first
      → IsTrue (state (desk_at at)).tells → length (bytes_now (state (desk_at at))) ≤ 18 → EndsThere state at
  ends_at (place.Unborn desk) elements first kept placed was none told short = (told, short)
  ends_at (place.Kept journal) elements first kept placed was (inl none) told short = let both : unborn ≡ bodies (bodies_of elements) = sym none ∙ was in absurd (cc)
  ends_at (place.Kept journal) elements first kept placed was (inr none) told short =
      let both : bodies [] ≡ bodies (bodies_of elements) = sym none ∙ was in
      let opened : IsOpen state journal = record { told = told; sound = placed.sound; kept = kept } in
      let empty : elements ≡ [] = no_elements elements (let same : [] ≡ bodies_of elements = cc in same) in
      let size : journal.size ≡ 18 = placed.size ∙ ap book_size empty in
      (opened, omega (arith, size, short, (placed.ready opened).lies.whole))

-- ---- a call more

-- nothing was said on the way
quiet_on : {name : List ℕ} {entry mid now : DeskState} {during : Pairs} → IsQuiet name entry mid → GoesOn during mid now → IsQuiet name entry now
quiet_on {name} {entry} {mid} q call = record {
  told = call.on_disk.tells ∙ q.told;
  shown = call.on_disk.shown ∙ q.shown;
  disk = omega (arith, q.disk, call.on_disk.disk_faults);
  out = call.on_disk.out_faults ∙ q.out;
  set = λ told. set_continues (q.set told) (goes_continues call) (subst IsTrue (sym q.told) told);
}

-- what the desk's laws say of what a crash now leaves: it is one since each moment before, the shown text is told, and since this moment there is no other
pub record FollowsLaws (mid now : DeskState) : Type 0 where
  pub shows : IsTrue now.tells → IsTrue (is_some now.shown)
  pub reaches : IsTrue now.tells → (start : ℕ) (image text : List ℕ) → start ≤ now.content.clock → LeftNow now image text → now.crashes start image text
  pub only : IsTrue mid.tells → (image text : List ℕ) → mid.crashes mid.content.clock image text → LeftNow mid image text

-- what is left after a call was left before it, or in it
left_by : {mid now : DeskState} {wide during : Pairs} → GoesOn wide mid now → (IsTrue mid.tells → Passes during mid now) → FollowsLaws mid now → IsTrue now.tells
    → (image : List ℕ) → MayLeaveNow now image → MayLeaveNow mid image ⊎ ((text : List ℕ) × during image text)
left_by call passes laws told image leaves =
    let told_mid = subst IsTrue call.on_disk.tells told in
    left_then (passes told_mid) (laws.shows told) (laws.reaches told) (laws.only told_mid) image leaves

-- ---- a shelf's file

module _ {K : Type 0} (state : K → DeskState) where
  -- a file that was opened
  pub shelf_quiet : {name : List ℕ} {entry mid : DeskState} → Open name entry mid → IsQuiet name entry mid
  shelf_quiet opened = record { told = opened.untouched.told; shown = opened.untouched.quiet; disk = opened.untouched.disk; out = opened.untouched.out; set = opened.set }

  -- it stays as it was found
  found_still : (name : List ℕ) (entry : DeskState) (elements : List Element) (plan : PlanValue) (image : List ℕ) → image ≡ file_of entry name
      → FindsSince (book_at entry name) (begun_contents elements plan) [] (book_in image)
  found_still name entry elements plan image same = inr (refl, inl (ap book_in same))

  -- it couldn't begin, and the desk is as it was
  pub stays_unbegun : {name : List ℕ} {entry : DeskState} {shelf : ShelfValue K} (plan : PlanValue) (now : K) → IsShelfOf state name entry shelf → now ≡ desk_of shelf
      → Unbegun name (told_as (state now) entry) shelf.elements plan (state now)
  stays_unbegun {name} {entry} {shelf} plan now so same =
      subst (λ (k : K). Unbegun name (told_as (state k) entry) shelf.elements plan (state k)) (sym same)
      (told_still (λ before. Unbegun name before shelf.elements plan (state (desk_of shelf))) entry so.opened.untouched.told (record {
        quiet = shelf_quiet so.opened;
        same = λ unrisen told. so.opened.untouched.file told;
        path = λ told. path_widens (so.opened.untouched.path told)
            (λ image text as_before. (found_still name entry shelf.elements plan image as_before.0, as_before.1))
            (λ image is. found_still name entry shelf.elements plan image is);
      }))

  -- it met a fault of the disk
  pub failed_unbegun : {name : List ℕ} {entry : DeskState} {shelf : ShelfValue K} {wide : Pairs} (plan : PlanValue) (now : DeskState) → IsShelf state shelf → IsShelfOf state name entry shelf → HasPlaceFor shelf.elements plan
      → Trusts (GoesOn wide) (state (desk_of shelf)) now
      → (IsTold state shelf.place → IsTrue now.tells → Passes (LeavesBegun shelf plan (state (desk_of shelf)).shown) (state (desk_of shelf)) now) → FollowsLaws (state (desk_of shelf)) now
      → IsHistoryOf plan [] → Rises (state (desk_of shelf)).disk_faults now.disk_faults → Unbegun name (told_as now entry) shelf.elements plan now
  failed_unbegun {name} {entry} {shelf} plan now s so has call passes laws history rose =
      let opened : Open name (told_as now entry) (told_as now (state (desk_of shelf))) = open_lowered now call.falls so.opened in
      let q = shelf_quiet opened in
      let mid = state (desk_of shelf) in
      record {
        quiet = quiet_on q call.does;
        same = λ unrisen told. absurd (unrisen (omega (arith, q.disk, rose)));
        path = λ told.
            let told_mid : IsTrue mid.tells = call.falls told in
            let found = so.found (subst IsTrue so.opened.untouched.told told_mid) in
            let inside : (image text : List ℕ) → LeavesBegun shelf plan mid.shown image text → MayBegin (book_at entry name) shelf.elements plan mid.shown image text =
            (λ image text l. begun_may state shelf plan (book_at entry name) mid.shown image text s found has history l) in
            let start = set_start (q.set told) in
            let within : Passes (LeavesBegun shelf plan mid.shown) (told_as now mid) now = passes_as now (passes (shelf_told state shelf s told_mid) told) in
            path_continues (opened.untouched.path told) (q.set told) (goes_continues call.does) told within
            (λ image text as_before. (found_still name entry shelf.elements plan image as_before.0, as_before.1))
            (λ image text l. subst (λ (o : Option (List ℕ)). MayBegin (book_at entry name) shelf.elements plan o image text) q.shown (inside image text l))
            (λ image leaves.
            ⊎_elim
            (λ before. found_still name entry shelf.elements plan image ((opened.untouched.path told).still start.0 start.1 image before))
            (λ left. (inside image left.0 left.1).0)
            (left_by call.does (λ told_here. within) (record { shows = laws.shows; reaches = laws.reaches; only = λ told_here. laws.only (call.falls told_here) }) told image leaves));
      }

  -- the book of the plan began
  pub begins_on : {name : List ℕ} {entry : DeskState} {shelf : ShelfValue K} {wide : Pairs} (plan : PlanValue) (book : BookValue K) → IsShelf state shelf → IsShelfOf state name entry shelf → HasPlaceFor shelf.elements plan
      → book.plan ≡ plan → book.past ≡ [] → book.contents ≡ begun_contents shelf.elements plan → book.halt ≡ None → book.journal.volatile ≡ false
      → Trusts (GoesOn wide) (state (desk_of shelf)) (book_desk state book)
      → (IsTold state shelf.place → IsTrue (book_desk state book).tells → Passes (LeavesBegun shelf plan (state (desk_of shelf)).shown) (state (desk_of shelf)) (book_desk state book))
      → (IsTrue (book_desk state book).tells → LeavesBodies book_title (book_desk state book) (bodies_with book.contents []))
      → (EndsThere state shelf.place → IsTrue (book_desk state book).tells → IsExact (book_desk state book) book.contents)
      → IsHistoryOf book.plan book.past
      → Begins state name (told_as (book_desk state book) entry) shelf.elements plan book
  begins_on {name} {entry} {shelf} plan book s so has plan_is past_is contents_is sound kept call passes rest exact history =
      let now = book_desk state book in
      let mid = state (desk_of shelf) in
      let opened : Open name (told_as now entry) (told_as now mid) = open_lowered now call.falls so.opened in
      let q = shelf_quiet opened in
      let good : IsHistoryOf plan [] = subst (λ (p : PlanValue). IsHistoryOf p []) plan_is (subst (IsHistoryOf book.plan) past_is history) in
      record {
        plan_is = plan_is;
        past_is = past_is;
        contents_is = contents_is;
        sound = sound;
        kept = kept;
        quiet = quiet_on q call.does;
        path = λ told.
            let told_mid : IsTrue mid.tells = call.falls told in
            let found = so.found (subst IsTrue so.opened.untouched.told told_mid) in
            path_continues (opened.untouched.path told) (q.set told) (goes_continues call.does) told (passes_as now (passes (shelf_told state shelf s told_mid) told))
            (λ image text as_before. (found_still name entry shelf.elements plan image as_before.0, as_before.1))
            (λ image text l. subst (λ (o : Option (List ℕ)). MayBegin (book_at entry name) shelf.elements plan o image text) q.shown
            (begun_may state shelf plan (book_at entry name) mid.shown image text s found has good l))
            (λ image is. record {
              is = rest told image is ∙ ap (λ (c : Contents). bodies (bodies_with c [])) contents_is;
              legal = legal_begun s.legal has good;
            });
        exact = λ told none short.
            let told_mid : IsTrue mid.tells = call.falls told in
            let found = so.found (subst IsTrue so.opened.untouched.told told_mid) in
            let long : length (bytes_now mid) ≤ 18 = omega (arith, ap length (opened_bytes opened told), short) in
            subst (IsExact (book_desk state book)) contents_is (exact (ends_at state shelf.place shelf.elements (book_at entry name) s.kept s.placed found none told_mid long) told);
      }

  -- why it couldn't begin, and what became of the file
  pub start_fails : (shelf : ShelfValue K) (plan : PlanValue) (why : BookFault) (old new : K) → FailsToStart state shelf plan why old new → FailsToBegin state shelf.elements plan why old new
  start_fails shelf plan book_fault.Disk old new fails = fails.1
  start_fails shelf plan book_fault.Memory old new fails = tt
  start_fails shelf plan book_fault.Out old new fails = absurd fails
  start_fails shelf plan (book_fault.Full size need) old new fails = fails
  start_fails shelf plan (book_fault.Halted cause) old new fails = absurd fails

  -- so the disk had a fault, or nothing was done
  pub start_failed : (shelf : ShelfValue K) (plan : PlanValue) (why : BookFault) (old new : K) → FailsToStart state shelf plan why old new
      → (IsHistoryOf plan [] × Rises (state old).disk_faults (state new).disk_faults) ⊎ (new ≡ old)
  start_failed shelf plan book_fault.Disk old new fails = inl fails
  start_failed shelf plan book_fault.Memory old new fails = inr fails
  start_failed shelf plan book_fault.Out old new fails = absurd fails
  start_failed shelf plan (book_fault.Full size need) old new fails = inr fails.1
  start_failed shelf plan (book_fault.Halted cause) old new fails = absurd fails
