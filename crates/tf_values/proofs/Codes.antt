-- Forms that stand one after the other have one reading.
use Rattle.std.proofs.Common.{◌≡◌, ℕ, ◌<◌, ◌⊎◌, inl, inr, List, [], ◌∷◌, ◌++◌, length, refl, sym, ap, subst, ◌∙◌, append_assoc, arith, length-append}
use Rattle.std.proofs.lemmas.List.{append-nil}
use Rattle.std.specs.List.{flat_map, AllByRecursion}

-- no form begins another's, where only what may follow stands behind both
pub record IsCode {X : Type 0} (form : X → List ℕ) (Good : X → Type 0) (Follows : List ℕ → Type 0) : Type 0 where
  pub one : (x y : X) (a b : List ℕ) → Good x → Good y → Follows a → Follows b → form x ++ a ≡ form y ++ b → (x ≡ y) × (a ≡ b)
  pub forms_follow : (x : X) (a : List ℕ) → Good x → Follows (form x ++ a)

-- no form stands in front
abbrev pub BeginsNone : {X : Type 0} → (X → List ℕ) → (X → Type 0) → (List ℕ → Type 0) → List ℕ → Type 0
BeginsNone {X} form Good Follows a = (x : X) (rest : List ℕ) → Good x → Follows rest → a ≡ form x ++ rest → ⊥

-- ys are xs and then more, and a has the forms of those in front of b
pub record GoesOn {X : Type 0} (form : X → List ℕ) (Good : X → Type 0) (xs ys : List X) (a b : List ℕ) : Type 0 where
  pub more : List X
  pub longer : ys ≡ xs ++ more
  pub rest : a ≡ flat_map form more ++ b
  pub good : AllByRecursion Good more

all_follow : {X : Type 0} (form : X → List ℕ) (Good : X → Type 0) (Follows : List ℕ → Type 0) → IsCode form Good Follows → (xs : List X) (a : List ℕ) → AllByRecursion Good xs → Follows a → Follows (flat_map form xs ++ a)
all_follow form Good Follows code [] a good follows = follows
all_follow form Good Follows code (x ∷ xs) a good follows = subst Follows (sym (append_assoc (form x) (flat_map form xs) a)) (code.forms_follow x (flat_map form xs ++ a) good.0)

goes_on-cons : {X : Type 0} (form : X → List ℕ) (Good : X → Type 0) (x y : X) (xs ys : List X) (a b : List ℕ) → x ≡ y → GoesOn form Good xs ys a b → GoesOn form Good (x ∷ xs) (y ∷ ys) a b
goes_on-cons form Good x y xs ys a b same on = record { more = on.more; longer = rw (same, on.longer) refl; rest = on.rest; good = on.good }

pub one_longer : {X : Type 0} (form : X → List ℕ) (Good : X → Type 0) (Follows : List ℕ → Type 0) → IsCode form Good Follows → (xs ys : List X) (a b : List ℕ)
    → AllByRecursion Good xs → AllByRecursion Good ys → Follows a → Follows b → flat_map form xs ++ a ≡ flat_map form ys ++ b
    → GoesOn form Good xs ys a b ⊎ GoesOn form Good ys xs b a
one_longer form Good Follows code [] ys a b gx gy fa fb e = inl (record { more = ys; longer = refl; rest = e; good = gy })
one_longer form Good Follows code (x ∷ xs) [] a b gx gy fa fb e = inr (record { more = x ∷ xs; longer = refl; rest = sym e; good = gx })
one_longer form Good Follows code (x ∷ xs) (y ∷ ys) a b gx gy fa fb e =
    let first = code.one x y (flat_map form xs ++ a) (flat_map form ys ++ b) gx.0 gy.0 (all_follow form Good Follows code xs a gx.1 fa) (all_follow form Good Follows code ys b gy.1 fb)
    (sym (append_assoc (form x) (flat_map form xs) a) ∙ e ∙ append_assoc (form y) (flat_map form ys) b) in
    elim (one_longer form Good Follows code xs ys a b gx.1 gy.1 fa fb first.1) [
      | inl on ↦ inl (goes_on-cons form Good x y xs ys a b first.0 on)
      | inr on ↦ inr (goes_on-cons form Good y x ys xs b a (sym first.0) on)
    ]

-- where no further form stands in front of a, nothing goes on there
ends : {X : Type 0} (form : X → List ℕ) (Good : X → Type 0) (Follows : List ℕ → Type 0) → IsCode form Good Follows → (xs ys : List X) (a b : List ℕ) → Follows b
    → BeginsNone form Good Follows a → (more : List X) → ys ≡ xs ++ more → a ≡ flat_map form more ++ b → AllByRecursion Good more → (xs ≡ ys) × (a ≡ b)
ends form Good Follows code xs ys a b fb none [] longer rest good = (sym (longer ∙ append-nil xs), rest)
ends form Good Follows code xs ys a b fb none (z ∷ more) longer rest good =
    absurd (none z (flat_map form more ++ b) good.0 (all_follow form Good Follows code more b good.1 fb) (rest ∙ append_assoc (form z) (flat_map form more) b))

-- two readings that both go as far as they can are one
pub one_reading : {X : Type 0} (form : X → List ℕ) (Good : X → Type 0) (Follows : List ℕ → Type 0) → IsCode form Good Follows → (xs ys : List X) (a b : List ℕ)
    → AllByRecursion Good xs → AllByRecursion Good ys → Follows a → Follows b → BeginsNone form Good Follows a → BeginsNone form Good Follows b
    → flat_map form xs ++ a ≡ flat_map form ys ++ b → (xs ≡ ys) × (a ≡ b)
one_reading form Good Follows code xs ys a b gx gy fa fb na nb e =
    elim (one_longer form Good Follows code xs ys a b gx gy fa fb e) [
      | inl on ↦ ends form Good Follows code xs ys a b fb na on.more on.longer on.rest on.good
      | inr on ↦ let same = ends form Good Follows code ys xs b a fa nb on.more on.longer on.rest on.good in (sym same.0, sym same.1)
    ]

-- a reading that is stuck is no beginning of a longer one
pub no_longer : {X : Type 0} (form : X → List ℕ) (Good : X → Type 0) (Follows : List ℕ → Type 0) → IsCode form Good Follows → (xs ys : List X) (a b : List ℕ)
    → AllByRecursion Good xs → AllByRecursion Good ys → Follows a → Follows b → BeginsNone form Good Follows a → length xs < length ys
    → flat_map form xs ++ a ≡ flat_map form ys ++ b → ⊥
no_longer form Good Follows code xs ys a b gx gy fa fb na shorter e =
    elim (one_longer form Good Follows code xs ys a b gx gy fa fb e) [
      | inl on ↦ let same : xs ≡ ys = (ends form Good Follows code xs ys a b fb na on.more on.longer on.rest on.good).0 in let lens : length xs ≡ length ys = ap length same in omega arith
      | inr on ↦ let lens : length xs ≡ length (ys ++ on.more) = ap length on.longer in omega (arith, length-append ys on.more)
    ]

none_more : {X : Type 0} (form : X → List ℕ) (xs ys : List X) (a b : List ℕ) (more : List X) → length xs ≡ length ys → ys ≡ xs ++ more → a ≡ flat_map form more ++ b → (xs ≡ ys) × (a ≡ b)
none_more form xs ys a b [] lens longer rest = (sym (longer ∙ append-nil xs), rest)
none_more form xs ys a b (z ∷ more) lens longer rest = let longs : length ys ≡ length (xs ++ z ∷ more) = ap length longer in absurd (omega (arith, length-append xs (z ∷ more)))

-- two readings of equally many forms are one
pub one_counted : {X : Type 0} (form : X → List ℕ) (Good : X → Type 0) (Follows : List ℕ → Type 0) → IsCode form Good Follows → (xs ys : List X) (a b : List ℕ)
    → AllByRecursion Good xs → AllByRecursion Good ys → Follows a → Follows b → length xs ≡ length ys
    → flat_map form xs ++ a ≡ flat_map form ys ++ b → (xs ≡ ys) × (a ≡ b)
one_counted form Good Follows code xs ys a b gx gy fa fb lens e =
    elim (one_longer form Good Follows code xs ys a b gx gy fa fb e) [
      | inl on ↦ none_more form xs ys a b on.more lens on.longer on.rest
      | inr on ↦ let same = none_more form ys xs b a on.more (sym lens) on.longer on.rest in (sym same.0, sym same.1)
    ]
