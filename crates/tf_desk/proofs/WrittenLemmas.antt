-- What is written in parts.
use Rattle.std.proofs.Common.{◌≡◌, ◌⊎◌, ℕ, ◌+◌, ◌-◌, ◌≤◌, List, ◌++◌, [], length, take, drop, inl, inr, sym, ◌∙◌, ap, arith, length-append, length-take, length-drop}
use Rattle.std.proofs.lemmas.List.{drop_all, take_at, drop_at, append_assoc, length-take-le, take-take, drop-drop, drop-take, take-append-drop}
use Rattle.std.proofs.lemmas.Bool.{cases_lt}
use Rattle.tf_desk.specs.Crash.{written, Torn}

pub cases_le : (m n : ℕ) → (m ≤ n) ⊎ (n ≤ m)
cases_le m n = elim (cases_lt n m) [ inl lt ↦ inr (omega arith) | inr le ↦ inl le ]

pub size_written : (old : List ℕ) (at : ℕ) (bytes : List ℕ) → length (written old at bytes) ≡ length (take at old) + (length bytes + length (drop (at + length bytes) old))
size_written old at bytes = length-append (take at old) (bytes ++ drop (at + length bytes) old) ∙ ap (λ (n : ℕ). length (take at old) + n) (length-append bytes (drop (at + length bytes) old))

-- a part before a write stays
front_same : (k from bound : ℕ) (b c : List ℕ) → k ≤ from → k ≤ bound → take from (take bound c) ≡ take from b → take k c ≡ take k b
front_same k from bound b c low within same =
    sym (take-take k bound c within) ∙ sym (take-take k from (take bound c) low) ∙ ap (take k) same ∙ take-take k from b low

-- a write within the range of another
pub torn_within : (at n from m : ℕ) (a b c : List ℕ) → at ≤ from → from + m ≤ at + n → Torn at n a b → Torn from m b c → Torn at n a c
torn_within at n from m a b c low high s t = record {
  no_shorter = omega (arith, s.no_shorter, t.no_shorter);
  no_longer = omega (arith, s.no_longer, t.no_longer);
  before = elim (cases_le at (length a)) [
    | inl inside ↦
        take-take at (length a) c inside
        ∙ front_same at from (length b) b c low (omega (arith, inside, s.no_shorter)) t.before
        ∙ sym (take-take at (length a) b inside) ∙ s.before
    | inr past ↦
        ap (take at) (front_same (length a) from (length b) b c (omega (arith, past, low)) s.no_shorter t.before) ∙ s.before
  ];
  after = elim (cases_le (at + n) (length a)) [
    | inl inside ↦ back inside ∙ s.after
    | inr past ↦
        drop_all (at + n) (take (length a) c) (omega (arith, past, length-take (length a) c)) ∙ sym (drop_all (at + n) a past)
  ];
}
  where
    further : (l : List ℕ) → drop (at + n) l ≡ drop ((at + n) - (from + m)) (drop (from + m) l)
    further l = let sum : at + n ≡ (from + m) + ((at + n) - (from + m)) = omega (arith, high) in ap (λ (k : ℕ). drop k l) sum ∙ sym (drop-drop ((at + n) - (from + m)) (from + m) l)

    whole : drop (at + n) (take (length b) c) ≡ drop (at + n) b
    whole = further (take (length b) c) ∙ ap (drop ((at + n) - (from + m))) t.after ∙ sym (further b)

    swapped : (bound : ℕ) (l : List ℕ) → at + n ≤ bound → drop (at + n) (take bound l) ≡ take (bound - (at + n)) (drop (at + n) l)
    swapped bound l inside = let sum : bound ≡ (at + n) + (bound - (at + n)) = omega (arith, inside) in ap (λ (k : ℕ). drop (at + n) (take k l)) sum ∙ drop-take (at + n) (bound - (at + n)) l

    back : at + n ≤ length a → drop (at + n) (take (length a) c) ≡ drop (at + n) (take (length a) b)
    back inside =
        let less : length a - (at + n) ≤ length b - (at + n) = omega (arith, s.no_shorter) in
        let there : at + n ≤ length b = omega (arith, inside, s.no_shorter) in
        swapped (length a) c inside
        ∙ sym (take-take (length a - (at + n)) (length b - (at + n)) (drop (at + n) c) less)
        ∙ ap (take (length a - (at + n))) (sym (swapped (length b) c there) ∙ whole)
        ∙ sym (swapped (length a) b inside)

-- nothing is put
pub written_none : (old : List ℕ) (at : ℕ) → written old at [] ≡ old
written_none old at = let sum : at + length {A = ℕ} [] ≡ at = omega arith in ap (λ (k : ℕ). take at old ++ drop k old) sum ∙ take-append-drop at old

-- what is written in two parts is written at once
pub written_on : (old front part : List ℕ) (at : ℕ) → at + length front ≤ length (written old at front)
    → written (written old at front) (at + length front) part ≡ written old at (front ++ part)
written_on old front part at within =
    let inside : at ≤ length old = omega (arith, within, size_written old at front, length-take at old, length-drop (at + length front) old) in
    let start : length (take at old) ≡ at = length-take-le at old inside in
    let whole : written old at front ≡ (take at old ++ front) ++ drop (at + length front) old = sym (append_assoc (take at old) front (drop (at + length front) old)) in
    let size : length (take at old ++ front) ≡ at + length front = length-append (take at old) front ∙ ap (λ (k : ℕ). k + length front) start in
    let first : take (at + length front) (written old at front) ≡ take at old ++ front = ap (take (at + length front)) whole ∙ take_at (take at old ++ front) (drop (at + length front) old) (at + length front) size in
    let rest : drop ((at + length front) + length part) (written old at front) ≡ drop ((at + length front) + length part) old =
    sym (drop-drop (length part) (at + length front) (written old at front))
    ∙ ap (λ (l : List ℕ). drop (length part) (drop (at + length front) l)) whole
    ∙ ap (drop (length part)) (drop_at (take at old ++ front) (drop (at + length front) old) (at + length front) size)
    ∙ drop-drop (length part) (at + length front) old in
    let sum : (at + length front) + length part ≡ at + length (front ++ part) = omega (arith, length-append front part) in
    ap (λ (l : List ℕ). l ++ (part ++ drop ((at + length front) + length part) (written old at front))) first
    ∙ ap (λ (l : List ℕ). (take at old ++ front) ++ (part ++ l)) (rest ∙ ap (λ (k : ℕ). drop k old) sum)
    ∙ append_assoc (take at old) front (part ++ drop (at + length (front ++ part)) old)
    ∙ ap (λ (l : List ℕ). take at old ++ l) (sym (append_assoc front part (drop (at + length (front ++ part)) old)))
