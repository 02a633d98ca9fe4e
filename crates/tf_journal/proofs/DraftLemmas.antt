-- What an append to a draft leaves, and what its publication leaves.
use Rattle.std.proofs.Common.{◌≡◌, ◌⊎◌, inl, inr, ⊎_elim, ℕ, zero, suc, ◌+◌, ◌-◌, ◌≤◌, List, [], ◌∷◌, ◌++◌, length, get_or, take, drop, Option, refl, sym, ◌∙◌, ap, subst, arith, length-append, length-take, length-drop}
use Rattle.std.specs.List.{flat_map}
use Rattle.std.proofs.lemmas.List.{take-take, take-append-le, get_or-take}
use Rattle.std.specs.Prelude.{IsTrue, is_some}
use Rattle.tf_desk.specs.Crash.{written, Torn}
use Rattle.tf_desk.specs.State.{DeskState, bytes_now, LeftNow, IsDurable, Passes, passes_within}
use Rattle.tf_journal.specs.declared.title.Title.{Title}
use Rattle.tf_journal.specs.declared.title.Title.TheVariants.{Book2}
use Rattle.tf_journal.specs.Adding.{AddsToDraft, StaysDraft, Publishes, PublishesAtMost}
use Rattle.tf_journal.specs.Format.{OPEN, SIZE_LIMIT, title_of, unborn, bodies, recovered, journal_bytes, record_of, Held, IsBody, LiesAs, LiesShut, IsDrafted, IsOpen, IsReady, IsDraft, LeavesUnborn, LeavesUnbornOr, StaysUnborn}
use Rattle.tf_journal.specs.Gates.{LeavesTornAt, LeavesGated}
use Rattle.tf_journal.proofs.HeaderLemmas.{sixteen, letters_there}
use Rattle.tf_journal.proofs.LieLemmas.{recovered_lies}
use Rattle.tf_journal.proofs.TornLemmas.{tail_of, torn_prefix}
use Rattle.tf_journal.proofs.BirthLemmas.{still_unborn, draft_letters, torn_open, opened_now}
use Rattle.tf_journal.proofs.AppendLemmas.{appended_lies, appended_exact}
use Rattle.tf_journal.proofs.PathLemmas.{left_then}

-- ---- writes behind the file's gate

tail_same : (g h : ℕ) (rest : List ℕ) (m : ℕ) → 1 ≤ m → drop m (g ∷ rest) ≡ drop m (h ∷ rest)
tail_same g h rest zero some = absurd (omega (arith, some))
tail_same g h rest (suc m) some = refl

-- they are the same whether that gate is open
opened_written : (old : List ℕ) (at : ℕ) (bytes : List ℕ) → 1 ≤ at → 1 ≤ length old → OPEN ∷ drop 1 (written old at bytes) ≡ written (OPEN ∷ drop 1 old) at bytes
opened_written [] at bytes some there = absurd (omega (arith, there))
opened_written (gate ∷ rest) zero bytes some there = absurd (omega (arith, some))
opened_written (gate ∷ rest) (suc k) bytes some there =
    ap (λ (l : List ℕ). OPEN ∷ (take k rest ++ (bytes ++ l))) (tail_same gate OPEN rest (suc k + length bytes) (omega arith))

-- what stands before them stays
front_stays : (n : ℕ) (old : List ℕ) (at : ℕ) (bytes : List ℕ) → n ≤ at → n ≤ length old → take n (written old at bytes) ≡ take n old
front_stays n old at bytes before within =
    take-append-le n (take at old) (bytes ++ drop (at + length bytes) old) (omega (arith, before, within, length-take at old)) ∙ take-take n at old before

written_long : (old : List ℕ) (at : ℕ) (bytes : List ℕ) → at ≤ length old → at ≤ length (written old at bytes)
written_long old at bytes within = omega (arith, within, length-append (take at old) (bytes ++ drop (at + length bytes) old), length-take at old)

-- a draft is unborn
pub draft_unborn : (title : Title) (held : List (List ℕ)) (size : ℕ) (bytes : List ℕ) → title ≡ Book2 → LiesShut title held size bytes → recovered title bytes ≡ unborn
draft_unborn title held size bytes several draft =
    let letters = draft_letters title held size bytes draft.lies in still_unborn title bytes bytes several draft.shut letters.0 letters.1 refl

module _ (title : Title) (held : List (List ℕ)) (size : ℕ) (old body buffer : List ℕ) (several : title ≡ Book2) (draft : LiesShut title held size old) (is : IsBody title body)
    (fits : size + (5 + length body) ≤ SIZE_LIMIT) (filled : buffer ≡ tail_of body) where
  letters : (take 16 (drop 1 old) ≡ title_of title) × (17 ≤ length old)
  letters = draft_letters title held size old draft.lies

  low : 18 ≤ size
  low = omega (arith, draft.lies.place, length-append (OPEN ∷ title_of title) (flat_map record_of held), sixteen title)

  within : size ≤ length old
  within = omega (arith, draft.lies.whole, letters.1, length-drop 1 old)

  staged_long : 17 ≤ length (written old (size - 1 + 1) buffer)
  staged_long = omega (arith, low, written_long old (size - 1 + 1) buffer (omega (arith, within, low)))

  staged_front : take 17 (written old (size - 1 + 1) buffer) ≡ take 17 old
  staged_front = front_stays 17 old (size - 1 + 1) buffer (omega (arith, low)) letters.1

  first : (new : List ℕ) → new ≡ written (written old (size - 1 + 1) buffer) (size - 1) (OPEN ∷ []) → get_or new 0 0 ≡ get_or old 0 0
  first new wrote =
      let front : take 17 new ≡ take 17 old = ap (take 17) wrote ∙ front_stays 17 (written old (size - 1 + 1) buffer) (size - 1) (OPEN ∷ []) (omega (arith, low)) staged_long ∙ staged_front in
      sym (get_or-take 17 new 0 0 (omega arith)) ∙ ap (λ (l : List ℕ). get_or l 0 0) front ∙ get_or-take 17 old 0 0 (omega arith)

  opened : (new : List ℕ) → new ≡ written (written old (size - 1 + 1) buffer) (size - 1) (OPEN ∷ []) → OPEN ∷ drop 1 new ≡ written (written (OPEN ∷ drop 1 old) (size - 1 + 1) buffer) (size - 1) (OPEN ∷ [])
  opened new wrote =
      ap (λ (l : List ℕ). OPEN ∷ drop 1 l) wrote
      ∙ opened_written (written old (size - 1 + 1) buffer) (size - 1) (OPEN ∷ []) (omega (arith, low)) (omega (arith, staged_long))
      ∙ ap (λ (l : List ℕ). written l (size - 1) (OPEN ∷ [])) (opened_written old (size - 1 + 1) buffer (omega arith) (omega (arith, letters.1)))

  -- after both writes it is a draft with the new body
  pub drafted_shut : (new : List ℕ) → new ≡ written (written old (size - 1 + 1) buffer) (size - 1) (OPEN ∷ []) → LiesShut title (held ++ body ∷ []) (size + (5 + length body)) new
  drafted_shut new wrote = record {
    shut = λ open_gate. draft.shut (sym (first new wrote) ∙ open_gate);
    lies = appended_lies title held size (OPEN ∷ drop 1 old) body buffer (sixteen title) draft.lies is fits filled (OPEN ∷ drop 1 new) (opened new wrote);
  }

  -- a file in which nothing stood behind the last gate would have just these bodies, were its gate open
  pub drafted_exact : (new : List ℕ) → length old ≡ size → new ≡ written (written old (size - 1 + 1) buffer) (size - 1) (OPEN ∷ []) → OPEN ∷ drop 1 new ≡ journal_bytes title (held ++ body ∷ [])
  drafted_exact new long wrote =
      appended_exact title held size (OPEN ∷ drop 1 old) body buffer (sixteen title) draft.lies is fits filled (OPEN ∷ drop 1 new) (omega (arith, long, letters.1, length-drop 1 old)) (opened new wrote)

  -- a crash inside leaves it unborn
  pub drafted_crash : (shown : Option (List ℕ)) (image text : List ℕ) → LeavesGated old (size - 1) buffer shown image text → LeavesUnborn title shown image text
  drafted_crash shown image text left = (
    ⊎_elim
        (λ behind. kept image (size - 1 + 1) (length buffer) old behind (omega (arith, low)) (omega (arith, within, low)) refl)
        (λ gate. kept image (size - 1) 1 (written old (size - 1 + 1) buffer) gate (omega (arith, low)) (omega (arith, low, written_long old (size - 1 + 1) buffer (omega (arith, within, low)))) staged_front)
        left.0,
    left.1,
  )
    where
      kept : (image : List ℕ) (at n : ℕ) (was : List ℕ) → Torn at n was image → 17 ≤ at → at ≤ length was → take 17 was ≡ take 17 old → recovered title image ≡ unborn
      kept image at n was torn past there same =
          still_unborn title old image several draft.shut letters.0 letters.1
          (sym (take-take 17 at image past) ∙ ap (take 17) (torn_prefix at n was image torn there) ∙ take-take 17 at was past ∙ same)

-- ---- appends

-- where an append may write, the file is all on the disk, and its last gate is there
pub ready_durable : {K : Type 0} (state : K → DeskState) (journal : Held K) → IsReady state journal ⊎ IsDraft state journal → IsOpen state journal
    → IsDurable (state journal.desk) × (journal.size ≤ length (bytes_now (state journal.desk)))
ready_durable state journal (inl ready) opened = let held = ready opened in (held.1.durable, held.1.lies.whole)
ready_durable state journal (inr draft) opened =
    let held = draft opened in
    let old = bytes_now (state journal.desk) in
    let letters = draft_letters journal.title held.0 journal.size old held.1.shut.lies in
    (held.1.durable, omega (arith, held.1.shut.lies.whole, letters.1, length-drop 1 old))

-- what an append to a draft does that answered Ok
pub draft_adds : {K : Type 0} (state : K → DeskState) (journal : Held K) (next : K) (held : List (List ℕ)) (body buffer : List ℕ) → IsDrafted state journal held
    → IsBody journal.title body → journal.size + (5 + length body) ≤ SIZE_LIMIT → buffer ≡ tail_of body
    → bytes_now (state next) ≡ written (written (bytes_now (state journal.desk)) (journal.size - 1 + 1) buffer) (journal.size - 1) (OPEN ∷ []) → IsDurable (state next)
    → AddsToDraft state body journal (record journal { desk = next; size = journal.size + (5 + length body) }) held
draft_adds state journal next held body buffer drafted is fits filled wrote durable =
    let old = bytes_now (state journal.desk) in
    let new = bytes_now (state next) in
    let shut = drafted_shut journal.title held journal.size old body buffer drafted.title drafted.shut is fits filled new wrote in
    record {
      draft = record { title = drafted.title; shut = shut; durable = durable };
      exact = λ long. drafted_exact journal.title held journal.size old body buffer drafted.title drafted.shut is fits filled new long wrote;
      lasts = λ image left. ap (recovered journal.title) (durable image left) ∙ draft_unborn journal.title (held ++ body ∷ []) (journal.size + (5 + length body)) new drafted.title shut;
    }

-- what a crash leaves of a draft that is on the disk
pub draft_stays : {K : Type 0} (state : K → DeskState) (journal : Held K) (held : List (List ℕ)) → IsDrafted state journal held → StaysUnborn journal.title (state journal.desk)
draft_stays state journal held drafted image left =
    ap (recovered journal.title) (drafted.durable image left) ∙ draft_unborn journal.title held journal.size (bytes_now (state journal.desk)) drafted.title drafted.shut

-- what an append to a draft leaves that wrote, whatever it answered
pub draft_at_most : {K : Type 0} (state : K → DeskState) (journal next : Held K) (held : List (List ℕ)) (body buffer : List ℕ) → IsDrafted state journal held
    → IsBody journal.title body → journal.size + (5 + length body) ≤ SIZE_LIMIT → buffer ≡ tail_of body
    → Passes (LeavesGated (bytes_now (state journal.desk)) (journal.size - 1) buffer (state journal.desk).shown) (state journal.desk) (state next.desk)
    → IsTrue (is_some (state next.desk).shown)
    → ((start : ℕ) (image text : List ℕ) → start ≤ (state next.desk).content.clock → LeftNow (state next.desk) image text → (state next.desk).crashes start image text)
    → ((image text : List ℕ) → (state journal.desk).crashes (state journal.desk).content.clock image text → LeftNow (state journal.desk) image text)
    → StaysDraft state journal next
draft_at_most state journal next held body buffer drafted is fits filled gated shows counts only =
    let old = state journal.desk in
    let passes : Passes (LeavesUnborn journal.title old.shown) old (state next.desk) =
    passes_within gated (λ image text left. drafted_crash journal.title held journal.size (bytes_now old) body buffer drafted.title drafted.shut is fits filled old.shown image text left) in
    record {
      crash = passes;
      leaves = λ image left. ⊎_elim (λ before. draft_stays state journal held drafted image before) (λ inside. inside.1.0) (left_then passes shows counts only image left);
    }

-- ---- the gate is opened

-- what the opening of a draft's gate does
pub published : {K : Type 0} (state : K → DeskState) (journal : Held K) (next : K) (held : List (List ℕ)) → IsDrafted state journal held
    → bytes_now (state next) ≡ written (bytes_now (state journal.desk)) 0 (OPEN ∷ []) → IsDurable (state next)
    → ((image text : List ℕ) → (state next).crashes (state next).content.clock image text → LeftNow (state next) image text)
    → Publishes state journal (record journal { desk = next }) held
published state journal next held drafted wrote durable only =
    let old = bytes_now (state journal.desk) in
    let letters = draft_letters journal.title held journal.size old drafted.shut.lies in
    let file : bytes_now (state next) ≡ OPEN ∷ drop 1 old = wrote ∙ opened_now old (omega (arith, letters.1)) in
    let lies : LiesAs journal.title held journal.size (bytes_now (state next)) = subst (LiesAs journal.title held journal.size) (sym file) drafted.shut.lies in
    let found : recovered journal.title (bytes_now (state next)) ≡ bodies held = recovered_lies journal.title held journal.size (bytes_now (state next)) (sixteen journal.title) lies in
    record {
      rest = record { lies = lies; durable = durable };
      file = file;
      recovers = found;
      lasts = λ image text left. ap (recovered journal.title) (durable image (only image text left).0) ∙ found;
    }

-- what it leaves, whatever it answered
pub published_at_most : {K : Type 0} (state : K → DeskState) (journal next : Held K) (held : List (List ℕ)) → IsDrafted state journal held
    → Passes (LeavesTornAt (bytes_now (state journal.desk)) 0 1 (state journal.desk).shown) (state journal.desk) (state next.desk)
    → IsTrue (is_some (state next.desk).shown)
    → ((start : ℕ) (image text : List ℕ) → start ≤ (state next.desk).content.clock → LeftNow (state next.desk) image text → (state next.desk).crashes start image text)
    → ((image text : List ℕ) → (state journal.desk).crashes (state journal.desk).content.clock image text → LeftNow (state journal.desk) image text)
    → PublishesAtMost state journal next held
published_at_most state journal next held drafted torn shows counts only =
    let old = state journal.desk in
    let title = journal.title in
    let letters = draft_letters title held journal.size (bytes_now old) drafted.shut.lies in
    let titled = letters_there title (drop 1 (bytes_now old)) drafted.title letters.0 in
    let passes : Passes (LeavesUnbornOr title held old.shown) old (state next.desk) =
    passes_within torn (λ image text left. (torn_open title held journal.size (bytes_now old) image drafted.shut titled left.0, left.1)) in
    record {
      crash = passes;
      leaves = λ image left. ⊎_elim (λ before. inl (draft_stays state journal held drafted image before)) (λ inside. inside.1.0) (left_then passes shows counts only image left);
    }
