-- What recovery finds in a file in which bodies lie.
use Rattle.std.proofs.Common.{◌≡◌, ◌≢◌, inr, ℕ, zero, suc, ◌+◌, ◌*◌, ◌/◌, ◌%◌, ◌≤◌, List, [], ◌∷◌, ◌++◌, length, get_or, take, drop, Option, None, refl, sym, ◌∙◌, ap, arith, append_assoc, length-append, take-append-drop}
use Rattle.std.specs.List.{flat_map}
use Rattle.std.proofs.lemmas.List.{drop_more, take_at, drop_at, get_or-append-add}
use Rattle.tf_journal.specs.Format.{OPEN, title_of, SIZE_LIMIT, length_bytes, length_at, record_of, prefix_of, Found, body, record_at, record_within, bodies, with_body, then_from, records_from, title_fault, titled, recovered, IsBody, AreBodies, LiesAs}
use Rattle.tf_journal.specs.declared.title.Title.{Title}
use Rattle.tf_journal.proofs.FoundLemmas.{found_closed, found_open, within_body, length_read, small_limit}
use Rattle.tf_journal.proofs.ReachLemmas.{length-record_of, records_long}
use Rattle.tf_journal.proofs.HeaderLemmas.{born, not_old, letters_stand, open_header, title_stands}

-- ---- one record

at_seam : (p l : List ℕ) (k : ℕ) → get_or (p ++ l) (length p + k) 0 ≡ get_or l k 0
at_seam p l k = get_or-append-add p l k 0

-- a record that stands behind other bytes is found there
pub found_body : (title : Title) (p b : List ℕ) (gate : ℕ) (rest : List ℕ) → IsBody title b → length p + 6 + length b ≤ SIZE_LIMIT
    → record_at title (p ++ (record_of b ++ gate ∷ rest)) (length p) ≡ body b (length p + 5 + length b)
found_body title p b gate rest is fits =
    let n = length b in
    let l : List ℕ = record_of b ++ gate ∷ rest in
    let bytes : List ℕ = p ++ l in
    let size : length bytes ≡ length p + (5 + n + (1 + length rest)) = omega (arith, length-append p l, length-append (record_of b) (gate ∷ rest), length-record_of b) in
    let open_gate : get_or bytes (length p) 0 ≡ OPEN = (let k : length p ≡ length p + 0 = omega arith in ap (λ (k : ℕ). get_or bytes k 0) k) ∙ at_seam p l 0 in
    let one : get_or bytes (length p + 1) 0 ≡ n / 256 / 256 / 256 = at_seam p l 1 in
    let two : get_or bytes (length p + 1 + 1) 0 ≡ n / 256 / 256 % 256 = (let k : length p + 1 + 1 ≡ length p + 2 = omega arith in ap (λ (k : ℕ). get_or bytes k 0) k) ∙ at_seam p l 2 in
    let three : get_or bytes (length p + 1 + 2) 0 ≡ n / 256 % 256 = (let k : length p + 1 + 2 ≡ length p + 3 = omega arith in ap (λ (k : ℕ). get_or bytes k 0) k) ∙ at_seam p l 3 in
    let four : get_or bytes (length p + 1 + 3) 0 ≡ n % 256 = (let k : length p + 1 + 3 ≡ length p + 4 = omega arith in ap (λ (k : ℕ). get_or bytes k 0) k) ∙ at_seam p l 4 in
    let long : length_at bytes (length p + 1) ≡ n = spelled (get_or bytes (length p + 1) 0) (get_or bytes (length p + 1 + 1) 0) (get_or bytes (length p + 1 + 2) 0) (get_or bytes (length p + 1 + 3) 0) n one two three four (omega (arith, is.1, small_limit title)) in
    let head : List ℕ = p ++ (OPEN ∷ length_bytes n) in
    let split : bytes ≡ head ++ (b ++ gate ∷ rest) = ap (λ (m : List ℕ). p ++ m) (append_assoc (OPEN ∷ length_bytes n) b (gate ∷ rest)) ∙ sym (append_assoc p (OPEN ∷ length_bytes n) (b ++ gate ∷ rest)) in
    let before : length head ≡ length p + 5 = length-append p (OPEN ∷ length_bytes n) in
    let its : take n (drop (length p + 5) bytes) ≡ b = ap (take n) (ap (drop (length p + 5)) split ∙ drop_at head (b ++ gate ∷ rest) (length p + 5) before) ∙ take_at b (gate ∷ rest) n refl in
    found_open title bytes (length p) (omega (arith, size)) open_gate
    ∙ ap (record_within title bytes (length p)) long
    ∙ within_body title bytes (length p) n (omega (arith, is.0)) is.1 fits (omega (arith, size))
    ∙ ap (λ (m : List ℕ). body m (length p + 5 + n)) its
  where
    spelled : (w x y z n : ℕ) → w ≡ n / 256 / 256 / 256 → x ≡ n / 256 / 256 % 256 → y ≡ n / 256 % 256 → z ≡ n % 256 → n ≤ SIZE_LIMIT → 256 * (256 * (256 * w + x) + y) + z ≡ n
    spelled w x y z n e f g h short = omega (arith, e, f, g, h, length_read n short)

-- ---- all records

-- bodies and a gate that isn't open are read as these bodies
pub records_lie : (title : Title) (held : List (List ℕ)) (p : List ℕ) (gate : ℕ) (rest : List ℕ) (most : ℕ) → AreBodies title held → length held ≤ most → gate ≢ OPEN
    → length p + length (flat_map record_of held) + 1 ≤ SIZE_LIMIT
    → records_from title most (p ++ (flat_map record_of held ++ gate ∷ rest)) (length p) ≡ bodies held
records_lie title [] p gate rest zero are few shut fits = refl
records_lie title [] p gate rest (suc most) are few shut fits =
    let bytes : List ℕ = p ++ gate ∷ rest in
    let here : get_or bytes (length p) 0 ≡ gate = (let k : length p ≡ length p + 0 = omega arith in ap (λ (k : ℕ). get_or bytes k 0) k) ∙ at_seam p (gate ∷ rest) 0 in
    ap (λ (f : Found). then_from f (records_from title most bytes)) (found_closed title bytes (length p) (inr (λ is. shut (sym here ∙ is))))
records_lie title (first ∷ held) p gate rest zero are few shut fits = absurd (omega (arith, few))
records_lie title (first ∷ held) p gate rest (suc most) are few shut fits =
    let tail : List ℕ = flat_map record_of held ++ gate ∷ rest in
    let bytes : List ℕ = p ++ ((record_of first ++ flat_map record_of held) ++ gate ∷ rest) in
    let next : List ℕ = p ++ record_of first in
    let split : bytes ≡ p ++ (record_of first ++ tail) = ap (λ (m : List ℕ). p ++ m) (append_assoc (record_of first) (flat_map record_of held) (gate ∷ rest)) in
    let moved : bytes ≡ next ++ tail = split ∙ sym (append_assoc p (record_of first) tail) in
    let long : length next ≡ length p + 5 + length first = omega (arith, length-append p (record_of first), length-record_of first) in
    let total = length-append (record_of first) (flat_map record_of held) in
    let here : record_at title bytes (length p) ≡ body first (length p + 5 + length first) =
    ap (λ (b : List ℕ). record_at title b (length p)) split ∙ found_first first held p gate rest are.0 (omega (arith, fits, total, length-record_of first)) in
    let others : records_from title most bytes (length p + 5 + length first) ≡ bodies held =
    ap (λ (b : List ℕ). records_from title most b (length p + 5 + length first)) moved ∙ ap (records_from title most (next ++ tail)) (sym long)
    ∙ records_lie title held next gate rest most are.1 (omega (arith, few)) shut (omega (arith, fits, total, long, length-record_of first)) in
    ap (λ (f : Found). then_from f (records_from title most bytes)) here ∙ ap (with_body first) others
  where
    found_first : (first : List ℕ) (held : List (List ℕ)) (p : List ℕ) (gate : ℕ) (rest : List ℕ) → IsBody title first → length p + 6 + length first ≤ SIZE_LIMIT
        → record_at title (p ++ (record_of first ++ (flat_map record_of held ++ gate ∷ rest))) (length p) ≡ body first (length p + 5 + length first)
    found_first first [] p gate rest is fits = found_body title p first gate rest is fits
    found_first first (second ∷ held) p gate rest is fits =
        let m : List ℕ = length_bytes (length second) ++ second in
        let same : flat_map record_of (second ∷ held) ++ gate ∷ rest ≡ OPEN ∷ ((m ++ flat_map record_of held) ++ gate ∷ rest) = refl in
        found_body title p first OPEN ((m ++ flat_map record_of held) ++ gate ∷ rest) is fits

-- ---- the whole file

-- bytes in which bodies lie, up to the gate and what is behind it
pub lies_split : (title : Title) (held : List (List ℕ)) (size : ℕ) (bytes : List ℕ) → LiesAs title held size bytes
    → bytes ≡ prefix_of title held ++ (get_or bytes (length (prefix_of title held)) 0 ∷ drop (length (prefix_of title held) + 1) bytes)
lies_split title held size bytes lies =
    let n = length (prefix_of title held) in
    sym (take-append-drop n bytes) ∙ ap (λ (l : List ℕ). l ++ drop n bytes) lies.prefix ∙ ap (λ (l : List ℕ). prefix_of title held ++ l) (drop_more bytes n 0 (omega (arith, lies.place, lies.whole)))

-- recovery finds the bodies that lie in a file
pub recovered_lies : (title : Title) (held : List (List ℕ)) (size : ℕ) (bytes : List ℕ) → length (title_of title) ≡ 16 → LiesAs title held size bytes → recovered title bytes ≡ bodies held
recovered_lies title held size bytes sixteen lies =
    let n = length (prefix_of title held) in
    let gate = get_or bytes n 0 in
    let rest : List ℕ = drop (n + 1) bytes in
    let records : List ℕ = flat_map record_of held in
    let split : bytes ≡ (OPEN ∷ title_of title) ++ (records ++ gate ∷ rest) = lies_split title held size bytes lies ∙ append_assoc (OPEN ∷ title_of title) records (gate ∷ rest) in
    let prefix_long : n ≡ 17 + length records = omega (arith, length-append (OPEN ∷ title_of title) records, sixteen) in
    let open_gate : get_or bytes 0 0 ≡ OPEN = ap (λ (l : List ℕ). get_or l 0 0) split in
    let not_unborn = born title bytes (omega (arith, lies.whole, lies.place, prefix_long)) (λ short is. absurd (omega (arith, open_gate, is))) (λ shut. absurd (shut open_gate)) in
    let after : drop 1 bytes ≡ title_of title ++ (records ++ gate ∷ rest) = ap (drop 1) split in
    let young = not_old title (drop 1 bytes) (ap (take 16) after ∙ letters_stand (title_of title) (records ++ gate ∷ rest) sixteen) in
    let stands : title_fault (title_of title) (drop 1 bytes) 1 ≡ None = ap (λ (l : List ℕ). title_fault (title_of title) l 1) after ∙ behind (title_of title) records gate rest in
    let start : length (OPEN ∷ title_of title) ≡ 17 = omega (arith, sixteen) in
    open_header title bytes (omega (arith, lies.whole, lies.place, prefix_long)) not_unborn young open_gate
    ∙ ap (λ (f : Option (ℕ × Option ℕ)). titled f (records_from title (length bytes) bytes 17)) stands
    ∙ ap (λ (b : List ℕ). records_from title (length bytes) b 17) split
    ∙ ap (records_from title (length bytes) ((OPEN ∷ title_of title) ++ (records ++ gate ∷ rest))) (sym start)
    ∙ records_lie title held (OPEN ∷ title_of title) gate rest (length bytes) lies.fit (omega (arith, records_long held, lies.whole, lies.place, prefix_long)) lies.gate (omega (arith, start, prefix_long, lies.place, lies.limit))
  where
    behind : (letters records : List ℕ) (gate : ℕ) (rest : List ℕ) → title_fault letters (letters ++ (records ++ gate ∷ rest)) 1 ≡ None
    behind letters [] gate rest = title_stands letters gate rest 1
    behind letters (r ∷ records) gate rest = title_stands letters r (records ++ gate ∷ rest) 1
