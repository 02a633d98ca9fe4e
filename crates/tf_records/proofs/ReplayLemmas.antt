-- How the reading of a journal goes on, body by body, and how it ends.
use Rattle.std.proofs.Common.{◌≡◌, ◌≢◌, ◌<◌, ℕ, ◌+◌, true, List, [], ◌∷◌, ◌++◌, length, Option, refl, sym, ◌∙◌, ap, subst, arith, append-nil, append_assoc, length-append}
use Rattle.std.specs.Prelude.{IsTrue, slice_get}
use Rattle.std.specs.List.{flat_map}
use Rattle.tf_numbers.specs.Numbers.{Rises}
use Rattle.tf_desk.specs.State.{DeskState, Trusts, Rests}
use Rattle.tf_desk.proofs.CountLemmas.{rises_later}
use Rattle.tf_journal.specs.Format.{SIZE_LIMIT, OPEN, Recovered, bodies, record_of, title_of, prefix_of, Held, IsAtRest}
use Rattle.tf_journal.specs.Reading.{IsNext, IsNoRefusal, HasBodies, OnlyReads}
use Rattle.tf_journal.specs.declared.faults.LoadFault.{LoadFault}
use Rattle.tf_journal.specs.declared.faults.LoadFault.TheVariants as load_fault
use Rattle.tf_journal.specs.declared.title.Title.{Title}
use Rattle.tf_journal.proofs.HeaderLemmas.{sixteen}
use Rattle.tf_journal.proofs.PlaceLemmas.{first_place}
use Rattle.tf_journal.proofs.ReachLemmas.{flat_map-push, length-record_of}
use Rattle.tf_journal.proofs.ReadingLemmas.{bodies_stay}
use Rattle.tf_values.specs.declared.faults.MakeFault.{MakeFault}
use Rattle.tf_values.specs.declared.faults.MakeFault.TheVariants as make_fault
use Rattle.tf_records.specs.Refusing.{HasRefusedBody, RefusesBodies, RefusesMalformed, bad_body}
use Rattle.tf_records.specs.Replaying.{HasReadTo, HasReadAll, FailsToReadBack}

-- ---- faults

-- a fault that says nothing of the file refuses nothing
pub refuses_nothing : (title : Title) (refuses : List (List ℕ) → List ℕ → Type 0) (fault : LoadFault) (held : List (List ℕ)) → IsNoRefusal fault → RefusesBodies title refuses fault held
refuses_nothing title refuses load_fault.Disk held is = tt
refuses_nothing title refuses load_fault.Memory held is = tt
refuses_nothing title refuses (load_fault.NotABook offset byte) held is = absurd is
refuses_nothing title refuses load_fault.Old held is = absurd is

-- why a body is refused
pub refuses_so : (title : Title) (refuses : List (List ℕ) → List ℕ → Type 0) (fault : MakeFault) (answer : LoadFault) (held : List (List ℕ)) (offset : ℕ) (byte : Option ℕ)
    → (fault ≡ make_fault.No → answer ≡ load_fault.NotABook offset byte) → (fault ≡ make_fault.Memory → answer ≡ load_fault.Memory)
    → (fault ≡ make_fault.No → HasRefusedBody title refuses held offset byte) → RefusesBodies title refuses answer held
refuses_so title refuses make_fault.No answer held offset byte bad memory refused = subst (λ (f : LoadFault). RefusesBodies title refuses f held) (sym (bad refl)) (refused refl)
refuses_so title refuses make_fault.Memory answer held offset byte bad memory refused = subst (λ (f : LoadFault). RefusesBodies title refuses f held) (sym (memory refl)) tt

-- a file whose bodies are refused is malformed
pub refuses_malformed : (title : Title) (refuses : List (List ℕ) → List ℕ → Type 0) (fault : LoadFault) (held : List (List ℕ)) (file : Recovered) → file ≡ bodies held
    → RefusesBodies title refuses fault held → RefusesMalformed title refuses fault file
refuses_malformed title refuses load_fault.Disk held file is refused = tt
refuses_malformed title refuses load_fault.Memory held file is refused = tt
refuses_malformed title refuses (load_fault.NotABook offset byte) held file is refused = bad_body held is refused
refuses_malformed title refuses load_fault.Old held file is refused = absurd refused

-- ---- places

-- the place behind one body more
pub place_on : (title : Title) (before : List (List ℕ)) (body : List ℕ) → length (prefix_of title (before ++ body ∷ [])) ≡ length (prefix_of title before) + (5 + length body)
place_on title before body =
    omega (arith, ap length (flat_map-push before body), length-append (OPEN ∷ title_of title) (flat_map record_of (before ++ body ∷ [])), length-append (OPEN ∷ title_of title) (flat_map record_of before), length-append (flat_map record_of before) (record_of body), length-record_of body)

module _ {K R : Type 0} (state : K → DeskState) (replayed : R → List (List ℕ) → Type 0) where
  abbrev Reads : Held K → Held K → Type 0
  Reads old new = OnlyReads state old new

  abbrev Read : Held K → K → R → ℕ → Type 0
  Read j desk made place = HasReadTo state replayed j desk made place

  -- what a look at that place, after which the desk is this one, says of the bodies behind those before it
  abbrev FindsSo : Held K → K → ℕ → (List (List ℕ) → Type 0) → Type 0
  FindsSo j desk place Says =
      (before rest : List (List ℕ)) → IsTrue (state desk).tells → HasBodies state j (before ++ rest) → place ≡ length (prefix_of j.title before) → Says rest

  -- what is told after a look was told before it
  abbrev Told : Held K → K → Type 0
  Told j desk = IsTrue (state desk).tells → IsTrue (state j.desk).tells

  -- no body was read yet
  pub read_none : (j : Held K) (desk : K) (made : R) → replayed made [] → Read j desk made 17
  read_none j desk made none = record {
    before = [];
    is_replayed = none;
    place_is = sym (first_place j.title (sixteen j.title));
    begins = λ told held lies. (held, refl);
  }

  -- what was found at the next gate comes behind the bodies so far
  pub found_behind : (a b : Held K) (desk : K) (made : R) (place : ℕ) (Says : List (List ℕ) → Type 0) (read : Read a b.desk made place) → Reads a b → FindsSo b desk place Says
      → Told b desk → IsTrue (state desk).tells → (held : List (List ℕ)) → HasBodies state a held → (rest : List (List ℕ)) × (held ≡ read.before ++ rest) × Says rest
  found_behind a b desk made place Says read reads found falls told held lies =
      let told_before = falls told in
      let first = read.begins told_before held lies in
      let title : b.title ≡ a.title = ap (λ (h : Held K). h.title) reads.journal in (
        first.0,
        first.1,
        found read.before first.0 told
            (subst (λ (h : List (List ℕ)). HasBodies state b h) first.1 (bodies_stay state a b reads told_before held lies))
            (read.place_is ∙ ap (λ (t : Title). length (prefix_of t read.before)) (sym title)),
      )

  -- one body more was replayed
  pub read_on : (a b : Held K) (desk : K) (old new : R) (place next : ℕ) (body : List ℕ) (read : Read a b.desk old place) → Reads a b → FindsSo b desk place (λ rest. IsNext true rest body)
      → Told b desk → ((before : List (List ℕ)) → replayed old before → replayed new (before ++ body ∷ [])) → next ≡ place + (5 + length body) → Read a desk new next
  read_on a b desk old new place next body read reads found falls one moved = record {
    before = read.before ++ body ∷ [];
    is_replayed = one read.before read.is_replayed;
    place_is = omega (arith, moved, read.place_is, place_on a.title read.before body);
    begins = λ told held lies.
        let n = found_behind a b desk old place (λ rest. IsNext true rest body) read reads found falls told held lies in
        (n.2.0, n.1 ∙ ap (λ (r : List (List ℕ)). read.before ++ r) n.2.1 ∙ sym (append_assoc read.before (body ∷ []) n.2.0));
  }

  -- a body was refused
  pub read_refused : (refuses : List (List ℕ) → List ℕ → Type 0) (a b : Held K) (desk : K) (made : R) (place offset : ℕ) (body : List ℕ) (byte : Option ℕ) (read : Read a b.desk made place) → Reads a b
      → FindsSo b desk place (λ rest. IsNext true rest body) → Told b desk → ((before : List (List ℕ)) → replayed made before → refuses before body) → offset ≡ place + 5 → byte ≡ slice_get body 0
      → IsTrue (state desk).tells → (held : List (List ℕ)) → HasBodies state a held → HasRefusedBody a.title refuses held offset byte
  read_refused refuses a b desk made place offset body byte read reads found falls cannot at its told held lies =
      let n = found_behind a b desk made place (λ rest. IsNext true rest body) read reads found falls told held lies in
      record {
        before = read.before;
        body = body;
        after = n.2.0;
        splits = n.1 ∙ ap (λ (r : List (List ℕ)). read.before ++ r) n.2.1;
        cannot = cannot read.before read.is_replayed;
        offset_is = omega (arith, at, read.place_is);
        byte_is = its;
      }

  -- nothing is left
  pub read_out : (a b : Held K) (desk : K) (made : R) (place : ℕ) (read : Read a b.desk made place) → Reads a b → FindsSo b desk place (λ rest. rest ≡ []) → Told b desk → place + 1 ≡ a.size
      → place < SIZE_LIMIT → HasReadAll state replayed a desk made
  read_out a b desk made place read reads found falls ends below = record {
    bodies = read.before;
    is_replayed = read.is_replayed;
    size = omega (arith, ends, read.place_is);
    limit = omega (arith, ends, below);
    whole = λ told held lies.
        let n = found_behind a b desk made place (λ rest. rest ≡ []) read reads found falls told held lies in
        n.1 ∙ ap (λ (r : List (List ℕ)). read.before ++ r) n.2 ∙ append-nil read.before;
  }

  -- a file that is told ends where its size says
  pub read_ends : (a b : Held K) (desk : K) (made : R) (place : ℕ) (read : Read a b.desk made place) → Reads a b → FindsSo b desk place (λ rest. rest ≡ []) → Told b desk → place + 1 ≢ a.size
      → IsTrue (state desk).tells → (held : List (List ℕ)) → HasBodies state a held → ⊥
  read_ends a b desk made place read reads found falls apart told held lies =
      let n = found_behind a b desk made place (λ rest. rest ≡ []) read reads found falls told held lies in
      let whole : held ≡ read.before = n.1 ∙ ap (λ (r : List (List ℕ)). read.before ++ r) n.2 ∙ append-nil read.before in
      let same : length (prefix_of a.title held) ≡ length (prefix_of a.title read.before) = ap (λ (h : List (List ℕ)). length (prefix_of a.title h)) whole in
      apart (omega (arith, lies.place, same, read.place_is))

-- ---- a journal that wasn't read back

-- what the fault says of the file that was opened as this journal is so, and a fault of the disk has its cause
pub unread : {K : Type 0} (state : K → DeskState) (refuses : List (List ℕ) → List ℕ → Type 0) (title : Title) (file : Recovered) (desk : K) (journal : Held K) (fault : LoadFault) (back : K)
    → journal.title ≡ title → Trusts Rests (state desk) (state journal.desk) → (IsTrue (state journal.desk).tells → (held : List (List ℕ)) × (file ≡ bodies held) × IsAtRest state journal held)
    → FailsToReadBack state refuses fault journal back → (IsTrue (state back).tells → IsTrue (state journal.desk).tells)
    → (IsTrue (state back).tells → RefusesMalformed title refuses fault file) × (fault ≡ load_fault.Disk → Rises (state desk).disk_faults (state back).disk_faults)
unread state refuses title file desk journal fault back titled rests lies fails falls = (
  λ told.
      let held = lies (falls told) in
      refuses_malformed title refuses fault held.0 file held.1
      (subst (λ (t : Title). RefusesBodies t refuses fault held.0) titled (fails.refused told held.0 held.2.lies)),
  λ is. rises_later (state desk).disk_faults (state journal.desk).disk_faults (state back).disk_faults rests.does.on_disk.disk_faults (fails.cause is),
)
