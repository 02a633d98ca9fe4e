-- What appends leave, one after another.
use Rattle.std.proofs.Common.{◌≡◌, ℕ, ◌+◌, ◌<◌, ◌≤◌, List, ◌++◌, length, take, get_or, ap, ◌∙◌, sym, arith, length-append, append_assoc}
use Rattle.std.proofs.lemmas.List.Folds.{length-flat_map-take}
use Rattle.std.specs.List.{flat_map}

-- no room for one of several, behind those before it
pub no_room : {X : Type 0} (form : X → List ℕ) (xs : List X) (i : ℕ) (x : X) (old now : List ℕ) (before room : ℕ) → i < length xs → x ≡ get_or xs i x → now ≡ old ++ flat_map form (take i xs)
    → before ≤ room → room < length now + length (form x) → before < length old + length (flat_map form xs)
no_room form xs i x old now before room within is appended grown full =
    let len : length now ≡ length old + length (flat_map form (take i xs)) = ap length appended ∙ length-append old (flat_map form (take i xs)) in
    let same : length (form (get_or xs i x)) ≡ length (form x) = ap (λ y. length (form y)) (sym is) in
    omega (arith, length-flat_map-take form xs i x within)

-- three parts that were appended one after another
pub three_parts : (old a b c first second third : List ℕ) → first ≡ old ++ a → second ≡ first ++ b → third ≡ second ++ c → third ≡ old ++ (a ++ (b ++ c))
three_parts old a b c first second third one two three =
    three ∙ ap (λ xs. xs ++ c) (two ∙ ap (λ xs. xs ++ b) one) ∙ append_assoc (old ++ a) b c ∙ append_assoc old a (b ++ c)
