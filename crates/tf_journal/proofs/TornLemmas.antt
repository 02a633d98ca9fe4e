-- What a crash may leave of a journal's file while a record is written.
use Rattle.std.proofs.Common.{◌≡◌, ◌≢◌, ◌⊎◌, inl, inr, ℕ, ◌+◌, ◌≤◌, ◌<◌, List, [], ◌∷◌, ◌++◌, length, get_or, take, drop, refl, sym, ◌∙◌, ap, subst, arith, append_assoc, length-append, length-take, take-append-drop}
use Rattle.std.specs.List.{flat_map}
use Rattle.std.proofs.lemmas.List.{drop_more, take_at, drop_at, take_all, take-take, get_or_at, get_or-take}
use Rattle.std.proofs.lemmas.Bool.{cases_eq}
use Rattle.tf_desk.specs.Crash.{written, Torn}
use Rattle.tf_journal.specs.Format.{OPEN, title_of, SIZE_LIMIT, length_bytes, record_of, prefix_of, bodies, recovered, IsBody, AreBodies, LiesAs}
use Rattle.tf_journal.specs.declared.title.Title.{Title}
use Rattle.tf_journal.proofs.ReachLemmas.{flat_map-push, length-record_of, bodies_push}
use Rattle.tf_journal.proofs.LieLemmas.{recovered_lies}

-- the length, the body and a closed gate, as they are written behind a gate
abbrev pub tail_of : List ℕ → List ℕ
tail_of b = length_bytes (length b) ++ (b ++ 0 ∷ [])

pub length-tail_of : (b : List ℕ) → length (tail_of b) ≡ 5 + length b
length-tail_of b = omega (arith, length-append (length_bytes (length b)) (b ++ 0 ∷ []), length-append b (0 ∷ []))

-- bodies lie in bytes that begin as others in which they lie, their gate included
pub lies_same : (title : Title) (held : List (List ℕ)) (size : ℕ) (old new : List ℕ) → LiesAs title held size old → take size new ≡ take size old → size ≤ length new → LiesAs title held size new
lies_same title held size old new lies same whole =
    let n = length (prefix_of title held) in
    let before : take n new ≡ take n old = sym (take-take n size new (omega (arith, lies.place))) ∙ ap (take n) same ∙ take-take n size old (omega (arith, lies.place)) in
    let gate : get_or new n 0 ≡ get_or old n 0 = sym (get_or-take size new n 0 (omega (arith, lies.place))) ∙ ap (λ (l : List ℕ). get_or l n 0) same ∙ get_or-take size old n 0 (omega (arith, lies.place)) in
    record {
      prefix = before ∙ lies.prefix;
      place = lies.place;
      whole = whole;
      gate = λ is. lies.gate (sym gate ∙ is);
      limit = lies.limit;
      fit = lies.fit;
    }

-- the bytes before a torn range stay, where the file had them
pub torn_prefix : (at n : ℕ) (old image : List ℕ) → Torn at n old image → at ≤ length old → take at image ≡ take at old
torn_prefix at n old image torn within = sym (take-take at (length old) image within) ∙ torn.before

-- torn behind the gate, the bodies still lie there
pub torn_behind : (title : Title) (held : List (List ℕ)) (size n : ℕ) (old image : List ℕ) → LiesAs title held size old → Torn size n old image → LiesAs title held size image
torn_behind title held size n old image lies torn = lies_same title held size old image lies (torn_prefix size n old image torn lies.whole) (omega (arith, torn.no_shorter, lies.whole))

-- behind an open gate a body's record lies
pub lies_more : (title : Title) (held : List (List ℕ)) (new rest bytes : List ℕ) → AreBodies title held → IsBody title new → length (prefix_of title held) + 6 + length new ≤ SIZE_LIMIT
    → take (length (prefix_of title held)) bytes ≡ prefix_of title held → length (prefix_of title held) < length bytes → get_or bytes (length (prefix_of title held)) 0 ≡ OPEN
    → drop (length (prefix_of title held) + 1) bytes ≡ tail_of new ++ rest
    → LiesAs title (held ++ new ∷ []) (length (prefix_of title held) + 6 + length new) bytes
lies_more title held new rest bytes are is fits prefix there gate behind =
    let n = length (prefix_of title held) in
    let prefix_new : prefix_of title (held ++ new ∷ []) ≡ prefix_of title held ++ record_of new = ap (λ (l : List ℕ). (OPEN ∷ title_of title) ++ l) (flat_map-push held new) ∙ sym (append_assoc (OPEN ∷ title_of title) (flat_map record_of held) (record_of new)) in
    let long : length (prefix_of title held ++ record_of new) ≡ n + 5 + length new = omega (arith, length-append (prefix_of title held) (record_of new), length-record_of new) in
    let tail_is : tail_of new ++ rest ≡ (length_bytes (length new) ++ new) ++ (0 ∷ rest) =
    ap (λ (l : List ℕ). l ++ rest) (sym (append_assoc (length_bytes (length new)) new (0 ∷ []))) ∙ append_assoc (length_bytes (length new) ++ new) (0 ∷ []) rest in
    let split : bytes ≡ (prefix_of title held ++ record_of new) ++ (0 ∷ rest) =
    sym (take-append-drop n bytes) ∙ ap (λ (l : List ℕ). l ++ drop n bytes) prefix
    ∙ ap (λ (l : List ℕ). prefix_of title held ++ l) (drop_more bytes n 0 there ∙ ap (λ (g : ℕ). g ∷ drop (n + 1) bytes) gate ∙ ap (λ (l : List ℕ). OPEN ∷ l) (behind ∙ tail_is))
    ∙ sym (append_assoc (prefix_of title held) (record_of new) (0 ∷ rest)) in
    record {
      prefix = ap (λ (l : List ℕ). take (length l) bytes) prefix_new ∙ ap (take (length (prefix_of title held ++ record_of new))) split
          ∙ take_at (prefix_of title held ++ record_of new) (0 ∷ rest) (length (prefix_of title held ++ record_of new)) refl ∙ sym prefix_new;
      place = omega (arith, ap length prefix_new, long);
      whole = omega (arith, ap length split, length-append (prefix_of title held ++ record_of new) (0 ∷ rest), long);
      gate = λ open_gate. shut (sym open_gate ∙ ap (λ (l : List ℕ). get_or bytes (length l) 0) prefix_new ∙ ap (λ (l : List ℕ). get_or l (length (prefix_of title held ++ record_of new)) 0) split
          ∙ get_or_at (prefix_of title held ++ record_of new) 0 rest 0 (length (prefix_of title held ++ record_of new)) refl);
      limit = fits;
      fit = bodies_push title held new are is;
    }
  where
    shut : OPEN ≡ 0 → ⊥
    shut is = omega (arith, is)

-- ---- a record that was written behind its gate

module _ (title : Title) (held : List (List ℕ)) (size gate_place : ℕ) (old new : List ℕ) (sixteen : length (title_of title) ≡ 16) (lies : LiesAs title held size old) (is : IsBody title new)
    (at : gate_place + 1 ≡ size) (fits : size + 5 + length new ≤ SIZE_LIMIT) where
  at_prefix : gate_place ≡ length (prefix_of title held)
  at_prefix = omega (arith, at, lies.place)

  staged : List ℕ
  staged = written old (gate_place + 1) (tail_of new)

  before : length (take (gate_place + 1) old) ≡ gate_place + 1
  before = omega (arith, length-take (gate_place + 1) old, lies.whole, at)

  -- what stands behind the gate then
  staged_behind : drop (gate_place + 1) (written old (gate_place + 1) (tail_of new)) ≡ tail_of new ++ drop (gate_place + 1 + length (tail_of new)) old
  staged_behind = drop_at (take (gate_place + 1) old) (tail_of new ++ drop (gate_place + 1 + length (tail_of new)) old) (gate_place + 1) before

  staged_prefix : take (gate_place + 1) (written old (gate_place + 1) (tail_of new)) ≡ take (gate_place + 1) old
  staged_prefix = take_at (take (gate_place + 1) old) (tail_of new ++ drop (gate_place + 1 + length (tail_of new)) old) (gate_place + 1) before

  pub staged_long : gate_place + 1 ≤ length (written old (gate_place + 1) (tail_of new))
  staged_long = omega (arith, length-append (take (gate_place + 1) old) (tail_of new ++ drop (gate_place + 1 + length (tail_of new)) old), before)

  -- bytes that begin as the old ones up to the gate, and go on as the staged ones behind it
  gated : (bytes : List ℕ) → take gate_place bytes ≡ take gate_place (written old (gate_place + 1) (tail_of new)) → drop (gate_place + 1) bytes ≡ drop (gate_place + 1) (written old (gate_place + 1) (tail_of new))
      → gate_place < length bytes → get_or bytes gate_place 0 ≡ OPEN → LiesAs title (held ++ new ∷ []) (size + 5 + length new) bytes
  gated bytes prefix behind there gate =
      let n = length (prefix_of title held) in
      let whole : take gate_place (written old (gate_place + 1) (tail_of new)) ≡ take gate_place old =
      sym (take-take gate_place (gate_place + 1) (written old (gate_place + 1) (tail_of new)) (omega arith)) ∙ ap (take gate_place) staged_prefix ∙ take-take gate_place (gate_place + 1) old (omega arith) in
      let prefix_is : take n bytes ≡ prefix_of title held = ap (λ (k : ℕ). take k bytes) (sym at_prefix) ∙ prefix ∙ whole ∙ ap (λ (k : ℕ). take k old) at_prefix ∙ lies.prefix in
      let behind_is : drop (n + 1) bytes ≡ tail_of new ++ drop (gate_place + 1 + length (tail_of new)) old = ap (λ (k : ℕ). drop (k + 1) bytes) (sym at_prefix) ∙ behind ∙ staged_behind in
      let more = lies_more title held new (drop (gate_place + 1 + length (tail_of new)) old) bytes lies.fit is (omega (arith, fits, lies.place)) prefix_is (omega (arith, there, at_prefix)) (ap (λ (k : ℕ). get_or bytes k 0) (sym at_prefix) ∙ gate) behind_is in
      let sum : n + 6 + length new ≡ size + 5 + length new = omega (arith, lies.place) in
      subst (λ (s : ℕ). LiesAs title (held ++ new ∷ []) s bytes) sum more

  -- torn at the gate: the bodies from before, with the new one or without
  pub torn_gate : (image : List ℕ) → Torn gate_place 1 (written old (gate_place + 1) (tail_of new)) image → (recovered title image ≡ bodies held) ⊎ (recovered title image ≡ bodies (held ++ new ∷ []))
  torn_gate image torn =
      let w : List ℕ = written old (gate_place + 1) (tail_of new) in
      let long : length w ≡ length image = omega (arith, torn.no_shorter, torn.no_longer, staged_long) in
      let whole : take (length w) image ≡ image = take_all (length w) image (omega (arith, long)) in
      let prefix : take gate_place image ≡ take gate_place w = torn_prefix gate_place 1 w image torn (omega (arith, staged_long)) in
      let behind : drop (gate_place + 1) image ≡ drop (gate_place + 1) w = ap (drop (gate_place + 1)) (sym whole) ∙ torn.after in
      elim (cases_eq (get_or image gate_place 0) OPEN) [
        | inl open_gate ↦ inr (recovered_lies title (held ++ new ∷ []) (size + 5 + length new) image sixteen (gated image prefix behind (omega (arith, long, staged_long)) open_gate))
        | inr shut ↦ inl (recovered_lies title held size image sixteen (still image prefix (omega (arith, long, staged_long)) shut))
      ]
    where
      still : (image : List ℕ) → take gate_place image ≡ take gate_place (written old (gate_place + 1) (tail_of new)) → gate_place + 1 ≤ length image → get_or image gate_place 0 ≢ OPEN → LiesAs title held size image
      still image prefix long shut =
          let whole : take gate_place (written old (gate_place + 1) (tail_of new)) ≡ take gate_place old =
          sym (take-take gate_place (gate_place + 1) (written old (gate_place + 1) (tail_of new)) (omega arith)) ∙ ap (take gate_place) staged_prefix ∙ take-take gate_place (gate_place + 1) old (omega arith) in
          record {
            prefix = ap (λ (k : ℕ). take k image) (sym at_prefix) ∙ prefix ∙ whole ∙ ap (λ (k : ℕ). take k old) at_prefix ∙ lies.prefix;
            place = lies.place;
            whole = omega (arith, at, long);
            gate = λ open_gate. shut (ap (λ (k : ℕ). get_or image k 0) at_prefix ∙ open_gate);
            limit = lies.limit;
            fit = lies.fit;
          }

  -- the gate opened: the new body lies there
  pub gate_open : LiesAs title (held ++ new ∷ []) (size + 5 + length new) (written (written old (gate_place + 1) (tail_of new)) gate_place (OPEN ∷ []))
  gate_open =
      let w : List ℕ = written old (gate_place + 1) (tail_of new) in
      let bytes : List ℕ = written w gate_place (OPEN ∷ []) in
      let cut : length (take gate_place w) ≡ gate_place = omega (arith, length-take gate_place w, staged_long) in
      gated bytes (take_at (take gate_place w) (OPEN ∷ drop (gate_place + 1) w) gate_place cut)
      (ap (drop (gate_place + 1)) (sym (append_assoc (take gate_place w) (OPEN ∷ []) (drop (gate_place + 1) w))) ∙ drop_at (take gate_place w ++ OPEN ∷ []) (drop (gate_place + 1) w) (gate_place + 1) (omega (arith, length-append (take gate_place w) (OPEN ∷ []), cut)))
      (omega (arith, length-append (take gate_place w) (OPEN ∷ drop (gate_place + 1) w), cut))
      (get_or_at (take gate_place w) OPEN (drop (gate_place + 1) w) 0 gate_place cut)
