-- Heads are read where they stand, and only where they stand.
use Rattle.std.proofs.Common.{◌≡◌, ℕ, List, [], ◌∷◌, ◌++◌, length, Option, Some, None, refl, sym, ap, ◌∙◌}
use Rattle.std.specs.Prelude.{MatchOption}
use Rattle.tf_entries.specs.declared.heads.Head.{Head}
use Rattle.tf_entries.specs.declared.heads.Head.TheVariants as head
use Rattle.tf_entries.specs.Heads.{head_bytes, IsHead, BeginsWith, IsFound, read_head}
use Rattle.tf_entries.proofs.NumberLemmas.{number_16}
use Rattle.tf_entries.proofs.ReadingLemmas.{Reads, same_read, went_on, on_tag, no_tag, bare, with_part}

head_again : (h : Head) (rest : List ℕ) → IsHead h → read_head (head_bytes h ++ rest) ≡ Some (h, rest)
head_again head.Detail rest is = refl
head_again (head.Entry number) rest is = went_on number_16 (λ n after. Some (head.Entry n, after)) number rest is

head_sound : (bytes : List ℕ) (h : Head) (rest : List ℕ) → read_head bytes ≡ Some (h, rest) → IsHead h × (bytes ≡ head_bytes h ++ rest)
head_sound [] h rest is = absurd (cc)
head_sound (tag ∷ bytes) h rest is =
    on_tag (IsHead h × (tag ∷ bytes ≡ head_bytes h ++ rest)) tag 1 _ _ (h, rest) is
    (λ at found. bare head_bytes IsHead head.Detail 1 tt refl tag bytes h rest at found)
    (λ is2. on_tag (IsHead h × (tag ∷ bytes ≡ head_bytes h ++ rest)) tag 2 _ _ (h, rest) is2
    (λ at found. with_part number_16 head_bytes IsHead head.Entry 2 (λ n below. below) (λ n. refl) tag bytes h rest at found)
    (no_tag (IsHead h × (tag ∷ bytes ≡ head_bytes h ++ rest)) (h, rest)))

pub head_read : Reads head_bytes IsHead read_head
head_read = record { again = head_again; sound = head_sound }

-- a head that is found is one that the bytes begin with
begins : (bytes : List ℕ) (h : Head) → IsFound bytes h → BeginsWith bytes h
begins bytes h found = let both = head_sound bytes h found.rest found.read in record { is_head = both.0; rest = found.rest; prefix = both.1 }

-- one that they begin with is found
finds : (bytes : List ℕ) (h : Head) (rest : List ℕ) → IsHead h → bytes ≡ head_bytes h ++ rest → read_head bytes ≡ Some (h, rest)
finds bytes h rest is prefix = ap read_head prefix ∙ head_again h rest is

-- what was taken
pub taken_is : (bytes : List ℕ) (result : Option (Head × ℕ)) → MatchOption result (read_head bytes ≡ None) (λ taken. IsFound bytes taken.0 × (taken.1 ≡ length (head_bytes taken.0)))
    → MatchOption result ((first : Head) → BeginsWith bytes first → ⊥) (λ taken. BeginsWith bytes taken.0 × (taken.1 ≡ length (head_bytes taken.0)))
taken_is bytes None none = λ first has. let found : ◌≡◌ {A = Option (Head × List ℕ)} (Some (first, has.rest)) None = sym (finds bytes first has.rest has.is_head has.prefix) ∙ none in cc
taken_is bytes (Some taken) found = (begins bytes taken.0 found.0, found.1)

pub taken_back : (bytes : List ℕ) (result : Option (Head × ℕ)) → MatchOption result (read_head bytes ≡ None) (λ taken. IsFound bytes taken.0 × (taken.1 ≡ length (head_bytes taken.0)))
    → (first : Head) (rest : List ℕ) → IsHead first → bytes ≡ head_bytes first ++ rest → result ≡ Some (first, length (head_bytes first))
taken_back bytes None none first rest is prefix = let found : ◌≡◌ {A = Option (Head × List ℕ)} (Some (first, rest)) None = sym (finds bytes first rest is prefix) ∙ none in absurd (cc)
taken_back bytes (Some taken) found first rest is prefix =
    let same = same_read taken.0 first found.0.rest rest (sym found.0.read ∙ finds bytes first rest is prefix) in
    ap Some (pair taken.0 first taken.1 (length (head_bytes first)) same.0 (found.1 ∙ ap (λ (h : Head). length (head_bytes h)) same.0))
  where
    pair : (a b : Head) (n m : ℕ) → a ≡ b → n ≡ m → ◌≡◌ {A = Head × ℕ} (a, n) (b, m)
    pair a b n m same long = cc

-- the head at the front, and what stands behind it, are those that were put there
pub head_one : (a b : Head) (rest more : List ℕ) → IsHead a → IsHead b → head_bytes a ++ rest ≡ head_bytes b ++ more → (a ≡ b) × (rest ≡ more)
head_one a b rest more good fine is = same_read a b rest more (sym (head_again a rest good) ∙ ap read_head is ∙ head_again b more fine)
