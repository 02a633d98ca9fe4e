-- What is read of a file through a window.
use Rattle.std.proofs.Common.{◌≡◌, ℕ, ◌+◌, ◌-◌, ◌≤◌, min, List, length, take, drop, inl, inr, sym, ◌∙◌, ap, arith, length-take, length-drop}
use Rattle.std.proofs.lemmas.List.{take_all, take-take, drop-take, drop-drop}
use Rattle.std.proofs.lemmas.Bool.{cases_lt}

-- as many as were read are all up to the window's width
pub all_read : (width n at : ℕ) (file : List ℕ) → n ≡ min width (length file - at) → take n (drop at file) ≡ take width (drop at file)
all_read width n at file is = elim (cases_lt (length file - at) width) [
  | inl less ↦
      take_all n (drop at file) (omega (arith, is, less, length-drop at file)) ∙ sym (take_all width (drop at file) (omega (arith, less, length-drop at file)))
  | inr whole ↦ let same : n ≡ width = omega (arith, is, whole) in ap (λ (k : ℕ). take k (drop at file)) same
]

-- bytes that a window has are the file's
pub covered : (n : ℕ) (file bytes : List ℕ) (start count place : ℕ) → take count bytes ≡ take count (drop start file) → start ≤ place → place - start + n ≤ count
    → take n (drop (place - start) bytes) ≡ take n (drop place file)
covered n file bytes start count place part from within =
    let at = place - start in
    let whole : start + at ≡ place = omega (arith, from) in
    sym (drop-take at n bytes)
    ∙ ap (drop at) (sym (take-take (at + n) count bytes within) ∙ ap (take (at + n)) part ∙ take-take (at + n) count (drop start file) within)
    ∙ drop-take at n (drop start file)
    ∙ ap (take n) (drop-drop at start file ∙ ap (λ (k : ℕ). drop k file) whole)

-- the first five bytes of what was read, or all of it
pub first_read : (bytes rest : List ℕ) (count : ℕ) → length bytes ≡ 4096 → count ≤ 4096 → take count bytes ≡ take 4096 rest → take (min count 5) bytes ≡ take 5 rest
first_read bytes rest count long short is = elim (cases_lt count 5) [
  | inl few ↦
      let same : min count 5 ≡ count = omega (arith, few) in
      let all : length rest ≡ count = omega (arith, few, long, ap length is, length-take count bytes, length-take 4096 rest) in
      ap (λ (k : ℕ). take k bytes) same ∙ is ∙ take_all 4096 rest (omega (arith, all, short)) ∙ sym (take_all 5 rest (omega (arith, all, few)))
  | inr many ↦
      let same : min count 5 ≡ 5 = omega (arith, many) in
      ap (λ (k : ℕ). take k bytes) same ∙ sym (take-take 5 count bytes many) ∙ ap (take 5) is ∙ take-take 5 4096 rest (omega arith)
]
