-- Where the records stand of a file in which bodies lie.
use Rattle.std.proofs.Common.{◌≡◌, inr, ℕ, ◌+◌, ◌≤◌, List, [], ◌∷◌, ◌++◌, length, get_or, drop, refl, sym, ◌∙◌, ap, arith, append_assoc, length-append}
use Rattle.std.specs.List.{flat_map}
use Rattle.tf_journal.specs.Format.{OPEN, title_of, SIZE_LIMIT, record_of, length_bytes, prefix_of, closed, body, record_at, IsBody, AreBodies, LiesAs}
use Rattle.tf_journal.specs.declared.title.Title.{Title}
use Rattle.tf_journal.proofs.FoundLemmas.{found_closed}
use Rattle.tf_journal.proofs.ReachLemmas.{flat_map-push, length-record_of}
use Rattle.tf_journal.proofs.LieLemmas.{found_body, lies_split}

-- the first record's gate
pub first_place : (title : Title) → length (title_of title) ≡ 16 → length (prefix_of title []) ≡ 17
first_place title sixteen = omega (arith, length-append (OPEN ∷ title_of title) [], sixteen)

flat_map-append : (before after : List (List ℕ)) → flat_map record_of (before ++ after) ≡ flat_map record_of before ++ flat_map record_of after
flat_map-append [] after = refl
flat_map-append (first ∷ before) after = ap (λ (l : List ℕ). record_of first ++ l) (flat_map-append before after) ∙ sym (append_assoc (record_of first) (flat_map record_of before) (flat_map record_of after))

middle : (title : Title) (before after : List (List ℕ)) (b : List ℕ) → AreBodies title (before ++ b ∷ after) → IsBody title b
middle title [] after b are = are.0
middle title (first ∷ before) after b are = middle title before after b are.1

-- what is found where the bodies before it end is the next body
pub found_next : (title : Title) (before after : List (List ℕ)) (b : List ℕ) (size : ℕ) (bytes : List ℕ) → LiesAs title (before ++ b ∷ after) size bytes
    → record_at title bytes (length (prefix_of title before)) ≡ body b (length (prefix_of title (before ++ b ∷ [])))
found_next title before after b size bytes lies =
    let held = before ++ b ∷ after in
    let p : List ℕ = prefix_of title before in
    let gate = get_or bytes (length (prefix_of title held)) 0 in
    let rest : List ℕ = drop (length (prefix_of title held) + 1) bytes in
    let tail : List ℕ = flat_map record_of after ++ gate ∷ rest in
    let prefix : prefix_of title held ≡ p ++ (record_of b ++ flat_map record_of after) =
    ap (λ (l : List ℕ). (OPEN ∷ title_of title) ++ l) (flat_map-append before (b ∷ after)) ∙ sym (append_assoc (OPEN ∷ title_of title) (flat_map record_of before) (record_of b ++ flat_map record_of after)) in
    let split : bytes ≡ p ++ (record_of b ++ tail) =
    lies_split title held size bytes lies ∙ ap (λ (l : List ℕ). l ++ gate ∷ rest) prefix ∙ append_assoc p (record_of b ++ flat_map record_of after) (gate ∷ rest)
    ∙ ap (λ (l : List ℕ). p ++ l) (append_assoc (record_of b) (flat_map record_of after) (gate ∷ rest)) in
    let next : length (prefix_of title (before ++ b ∷ [])) ≡ length p + 5 + length b =
    ap (λ (l : List ℕ). length ((OPEN ∷ title_of title) ++ l)) (flat_map-push before b) ∙ ap length (sym (append_assoc (OPEN ∷ title_of title) (flat_map record_of before) (record_of b))) ∙ omega (arith, length-append p (record_of b), length-record_of b) in
    let fits : length p + 6 + length b ≤ SIZE_LIMIT =
    omega (arith, lies.place, lies.limit, ap length prefix, length-append p (record_of b ++ flat_map record_of after), length-append (record_of b) (flat_map record_of after), length-record_of b) in
    ap (λ (l : List ℕ). record_at title l (length p)) split ∙ found p gate rest after (middle title before after b lies.fit) fits ∙ ap (body b) (sym next)
  where
    found : (p : List ℕ) (gate : ℕ) (rest : List ℕ) (others : List (List ℕ)) → IsBody title b → length p + 6 + length b ≤ SIZE_LIMIT
        → record_at title (p ++ (record_of b ++ (flat_map record_of others ++ gate ∷ rest))) (length p) ≡ body b (length p + 5 + length b)
    found p gate rest [] is fits = found_body title p b gate rest is fits
    found p gate rest (second ∷ others) is fits = found_body title p b OPEN (((length_bytes (length second) ++ second) ++ flat_map record_of others) ++ gate ∷ rest) is fits

-- behind the last body nothing is found
pub found_end : (title : Title) (held : List (List ℕ)) (size : ℕ) (bytes : List ℕ) → LiesAs title held size bytes → record_at title bytes (length (prefix_of title held)) ≡ closed
found_end title held size bytes lies = found_closed title bytes (length (prefix_of title held)) (inr lies.gate)

-- nothing is left where the place of the last gate is reached
pub nothing_behind : (title : Title) (before rest : List (List ℕ)) (size : ℕ) (bytes : List ℕ) → LiesAs title (before ++ rest) size bytes
    → size ≤ length (prefix_of title before) + 1 → rest ≡ []
nothing_behind title before [] size bytes lies ends = refl
nothing_behind title before (first ∷ others) size bytes lies ends =
    let p : List ℕ = prefix_of title before in
    let prefix : prefix_of title (before ++ first ∷ others) ≡ p ++ (record_of first ++ flat_map record_of others) =
    ap (λ (l : List ℕ). (OPEN ∷ title_of title) ++ l) (flat_map-append before (first ∷ others)) ∙ sym (append_assoc (OPEN ∷ title_of title) (flat_map record_of before) (record_of first ++ flat_map record_of others)) in
    absurd (omega (arith, ends, lies.place, ap length prefix, length-append p (record_of first ++ flat_map record_of others), length-append (record_of first) (flat_map record_of others), length-record_of first))
