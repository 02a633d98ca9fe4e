-- What an append leaves, by the bytes that it writes.
use Rattle.std.proofs.Common.{◌≡◌, inl, ⊎_elim, ℕ, ◌+◌, ◌-◌, ◌≤◌, List, [], ◌∷◌, ◌++◌, length, take, drop, Option, Some, None, refl, sym, ◌∙◌, ap, subst, arith, append-nil, append_assoc}
use Rattle.std.specs.List.{flat_map}
use Rattle.std.proofs.lemmas.List.{take_all, drop_all, drop_at, take-append-le}
use Rattle.std.specs.Prelude.{IsTrue, is_some}
use Rattle.tf_desk.specs.Crash.{written, Torn}
use Rattle.tf_desk.specs.State.{DeskState, bytes_now, LeftNow, IsDurable, Passes, passes_within}
use Rattle.tf_journal.specs.Adding.{Adds, AddsAtMost}
use Rattle.tf_journal.specs.Format.{OPEN, SIZE_LIMIT, length_bytes, record_of, prefix_of, journal_bytes, bodies, recovered, title_of, Held, IsBody, LiesAs, IsAtRest, LeavesBodies, LeavesEither, LeavesBeforeOrAfter}
use Rattle.tf_journal.specs.declared.title.Title.{Title}
use Rattle.tf_journal.specs.Gates.{LeavesGated}
use Rattle.tf_journal.proofs.HeaderLemmas.{sixteen}
use Rattle.tf_journal.proofs.LieLemmas.{recovered_lies}
use Rattle.tf_journal.proofs.ReachLemmas.{flat_map-push}
use Rattle.tf_journal.proofs.TornLemmas.{tail_of, torn_behind, torn_gate, gate_open}

module _ (title : Title) (held : List (List ℕ)) (size : ℕ) (old body buffer : List ℕ) (sixteen : length (title_of title) ≡ 16) (lies : LiesAs title held size old) (is : IsBody title body) (fits : size + (5 + length body) ≤ SIZE_LIMIT)
    (filled : buffer ≡ tail_of body) where
  at_gate : size - 1 + 1 ≡ size
  at_gate = omega (arith, lies.place)

  -- after both syncs the new body lies in the file
  pub appended_lies : (new : List ℕ) → new ≡ written (written old (size - 1 + 1) buffer) (size - 1) (OPEN ∷ []) → LiesAs title (held ++ body ∷ []) (size + (5 + length body)) new
  appended_lies new wrote =
      let whole = gate_open title held size (size - 1) old body sixteen lies is at_gate (omega (arith, fits)) in
      let same : new ≡ written (written old (size - 1 + 1) (tail_of body)) (size - 1) (OPEN ∷ []) = wrote ∙ ap (λ (b : List ℕ). written (written old (size - 1 + 1) b) (size - 1) (OPEN ∷ [])) filled in
      let sum : size + 5 + length body ≡ size + (5 + length body) = omega arith in
      subst (λ (n : ℕ). LiesAs title (held ++ body ∷ []) n new) sum (subst (LiesAs title (held ++ body ∷ []) (size + 5 + length body)) (sym same) whole)

  -- a crash inside leaves the bodies from before, with the new one or without
  pub appended_crash : (shown : Option (List ℕ)) (image text : List ℕ) → LeavesGated old (size - 1) buffer shown image text → LeavesBeforeOrAfter title held body shown image text
  appended_crash shown image text left = (
    ⊎_elim (λ behind. inl (recovered_lies title held size image sixteen (torn_behind title held size (length buffer) old image lies (subst (λ (n : ℕ). Torn n (length buffer) old image) at_gate behind))))
        (λ gate. torn_gate title held size (size - 1) old body sixteen lies is at_gate (omega (arith, fits)) image (subst (λ (b : List ℕ). Torn (size - 1) 1 (written old (size - 1 + 1) b) image) filled gate))
        left.0,
    left.1,
  )

  -- a file in which nothing stands behind the last gate has just these bodies and the new one then
  pub appended_exact : (new : List ℕ) → length old ≡ size → new ≡ written (written old (size - 1 + 1) buffer) (size - 1) (OPEN ∷ []) → new ≡ journal_bytes title (held ++ body ∷ [])
  appended_exact new long wrote =
      let prefix : List ℕ = prefix_of title held in
      let tail : List ℕ = tail_of body in
      let place : size - 1 ≡ length prefix = omega (arith, lies.place) in
      let behind : written old (size - 1 + 1) buffer ≡ old ++ tail =
      ap (λ (l : List ℕ). l ++ (buffer ++ drop (size - 1 + 1 + length buffer) old)) (take_all (size - 1 + 1) old (omega (arith, long, at_gate)))
      ∙ ap (λ (l : List ℕ). old ++ (buffer ++ l)) (drop_all (size - 1 + 1 + length buffer) old (omega (arith, long, at_gate)))
      ∙ ap (λ (l : List ℕ). old ++ l) (append-nil buffer ∙ filled) in
      let first : take (size - 1) (old ++ tail) ≡ prefix =
      take-append-le (size - 1) old tail (omega (arith, long)) ∙ ap (λ (n : ℕ). take n old) place ∙ lies.prefix in
      let last : drop (size - 1 + 1) (old ++ tail) ≡ tail = drop_at old tail (size - 1 + 1) (omega (arith, long, at_gate)) in
      let opened : new ≡ prefix ++ (OPEN ∷ tail) =
      wrote ∙ ap (λ (l : List ℕ). written l (size - 1) (OPEN ∷ [])) behind
      ∙ ap (λ (l : List ℕ). l ++ (OPEN ∷ drop (size - 1 + 1) (old ++ tail))) first
      ∙ ap (λ (l : List ℕ). prefix ++ (OPEN ∷ l)) last in
      opened ∙ ap (λ (l : List ℕ). prefix ++ (OPEN ∷ l)) (sym (append_assoc (length_bytes (length body)) body (0 ∷ [])))
      ∙ sym (append_assoc prefix (record_of body) (0 ∷ []))
      ∙ ap (λ (l : List ℕ). l ++ 0 ∷ []) (append_assoc (OPEN ∷ title_of title) (flat_map record_of held) (record_of body) ∙ ap (λ (l : List ℕ). (OPEN ∷ title_of title) ++ l) (sym (flat_map-push held body)))

-- what a desk shows that tells it
some_text : (shown : Option (List ℕ)) → IsTrue (is_some shown) → (text : List ℕ) × (shown ≡ Some text)
some_text None told = absurd (cc)
some_text (Some text) told = (text, refl)

-- what a crash after an append leaves, whatever the append answered: each image is one of those that a crash inside may leave
appended_leaves : (title : Title) (held : List (List ℕ)) (body : List ℕ) {old new : DeskState} → IsTrue (is_some new.shown)
    → Passes (LeavesBeforeOrAfter title held body old.shown) old new → ((image text : List ℕ) → LeftNow new image text → new.crashes old.content.clock image text)
    → ((image text : List ℕ) → old.crashes old.content.clock image text → recovered title image ≡ bodies held) → LeavesEither title new held (held ++ body ∷ [])
appended_leaves title held body {old} {new} told passes counts before image left_now =
    let text = some_text new.shown told in
    ⊎_elim (λ earlier. inl (before image text.0 earlier)) (λ now. now.0) (passes.since old.content.clock image text.0 (omega arith) (counts image text.0 (left_now, text.1)))

-- what a crash leaves of a journal at rest
pub rest_leaves : {K : Type 0} (state : K → DeskState) (journal : Held K) (held : List (List ℕ)) → IsAtRest state journal held
    → LeavesBodies journal.title (state journal.desk) held
rest_leaves state journal held rest image left_now =
    ap (recovered journal.title) (rest.durable image left_now) ∙ recovered_lies journal.title held journal.size (bytes_now (state journal.desk)) (sixteen journal.title) rest.lies

-- what an append leaves that wrote, whatever it answered
pub appended_at_most : {K : Type 0} (state : K → DeskState) (journal next : Held K) (held : List (List ℕ)) (body buffer : List ℕ) → IsAtRest state journal held
    → IsBody journal.title body → journal.size + (5 + length body) ≤ SIZE_LIMIT → buffer ≡ tail_of body
    → Passes (LeavesGated (bytes_now (state journal.desk)) (journal.size - 1) buffer (state journal.desk).shown) (state journal.desk) (state next.desk)
    → IsTrue (is_some (state next.desk).shown)
    → ((start : ℕ) (image text : List ℕ) → start ≤ (state next.desk).content.clock → LeftNow (state next.desk) image text → (state next.desk).crashes start image text)
    → ((image text : List ℕ) → (state journal.desk).crashes (state journal.desk).content.clock image text → LeftNow (state journal.desk) image text)
    → AddsAtMost state body journal next held
appended_at_most state journal next held body buffer rest is fits filled gated shows counts only =
    let title = journal.title in
    let old = state journal.desk in
    let passes : Passes (LeavesBeforeOrAfter title held body old.shown) old (state next.desk) =
    passes_within gated (λ image text left. appended_crash title held journal.size (bytes_now old) body buffer (sixteen journal.title) rest.lies is fits filled old.shown image text left) in
    record {
      crash = passes;
      leaves = appended_leaves title held body shows passes (λ image text now. counts old.content.clock image text passes.later now)
          (λ image text was. rest_leaves state journal held rest image (only image text was).0);
    }

-- what an append does that answered Ok
pub appended_adds : {K : Type 0} (state : K → DeskState) (journal : Held K) (next : K) (held : List (List ℕ)) (body buffer : List ℕ) → IsAtRest state journal held
    → IsBody journal.title body → journal.size + (5 + length body) ≤ SIZE_LIMIT → buffer ≡ tail_of body
    → bytes_now (state next) ≡ written (written (bytes_now (state journal.desk)) (journal.size - 1 + 1) buffer) (journal.size - 1) (OPEN ∷ []) → IsDurable (state next)
    → ((image text : List ℕ) → (state next).crashes (state next).content.clock image text → LeftNow (state next) image text)
    → Adds state body journal (record journal { desk = next; size = journal.size + (5 + length body) }) held
appended_adds state journal next held body buffer rest is fits filled wrote durable only =
    let title = journal.title in
    let old = bytes_now (state journal.desk) in
    let new = bytes_now (state next) in
    let size = journal.size + (5 + length body) in
    let lies : LiesAs title (held ++ body ∷ []) size new = appended_lies title held journal.size old body buffer (sixteen journal.title) rest.lies is fits filled new wrote in
    let found : recovered title new ≡ bodies (held ++ body ∷ []) = recovered_lies title (held ++ body ∷ []) size new (sixteen journal.title) lies in
    record {
      rest = record { lies = lies; durable = durable };
      recovers = found;
      exact = λ long. appended_exact title held journal.size old body buffer (sixteen journal.title) rest.lies is fits filled new long wrote;
      lasts = λ image text left. ap (recovered title) (durable image (only image text left).0) ∙ found;
    }
