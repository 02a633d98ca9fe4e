-- Lemmas on the first file of a name.
use Rattle.std.proofs.Common.{◌≡◌, ℕ, zero, suc, ◌<◌, Bool, true, false, List, [], ◌∷◌, ◌++◌, length, get_or, set, Option, Some, None, unwrap_or, if◌then◌else◌, ◌==◌, refl, sym, ◌∙◌, ap, subst, arith}
use Rattle.std.specs.Cmp.Lexicographic.{pointwise, bytes_decides}
use Rattle.tf_desk.specs.declared.past.MemoryFile.{MemoryFile}
use Rattle.tf_desk.specs.MemoryDesk.{has_name, file_at, IsFirst}

-- each file before this place has another name
abbrev pub OthersBefore : List MemoryFile → List ℕ → ℕ → Type 0
OthersBefore files name place = (k : ℕ) (d : MemoryFile) → k < place → has_name name (get_or files k d) ≡ false

-- the first file of the name stands where it is found
pub first_found : (files : List MemoryFile) (name : List ℕ) (place : ℕ) (d : MemoryFile) → place < length files → OthersBefore files name place → has_name name (get_or files place d) ≡ true → IsFirst files place name
first_found [] name place d within others here = absurd (omega (arith, within))
first_found (file ∷ files) name zero d within others here = here
first_found (file ∷ files) name (suc place) d within others here =
    (others zero d (omega arith), first_found files name place d (omega (arith, within)) (λ k e below. others (suc k) e (omega (arith, below))) here)

other_here : (b : Bool) (bytes : List ℕ) (rest : Option (List ℕ)) → b ≡ false → rest ≡ None → (if b then Some bytes else rest) ≡ None
other_here true bytes rest is none = cc
other_here false bytes rest is none = none

-- where all files have other names there is none of the name
pub none_found : (files : List MemoryFile) (name : List ℕ) → OthersBefore files name (length files) → file_at files name ≡ None
none_found [] name others = refl
none_found (file ∷ files) name others =
    other_here (has_name name file) (file.bytes.items) (file_at files name) (others zero file (omega arith)) (none_found files name (λ k e below. others (suc k) e (omega (arith, below))))

pub first_within : (files : List MemoryFile) (place : ℕ) (name : List ℕ) → IsFirst files place name → place < length files
first_within [] place name first = absurd first
first_within (file ∷ files) zero name first = omega arith
first_within (file ∷ files) (suc place) name first = omega (arith, first_within files place name first.1)

pub chosen : {X : Type 0} (b : Bool) (x y : X) → b ≡ true → (if b then x else y) ≡ x
chosen true x y is = refl
chosen false x y is = cc

pub passed : {X : Type 0} (b : Bool) (x y : X) → b ≡ false → (if b then x else y) ≡ y
passed true x y is = cc
passed false x y is = refl

pub first_name : (files : List MemoryFile) (place : ℕ) (name : List ℕ) (d : MemoryFile) → IsFirst files place name → (get_or files place d).name ≡ name
first_name [] place name d first = absurd first
first_name (file ∷ files) zero name d first = (bytes_decides file.name name).0 first
first_name (file ∷ files) (suc place) name d first = first_name files place name d first.1

pub first_bytes : (files : List MemoryFile) (place : ℕ) (name : List ℕ) (d : MemoryFile) → IsFirst files place name → file_at files name ≡ Some ((get_or files place d).bytes.items)
first_bytes [] place name d first = absurd first
first_bytes (file ∷ files) zero name d first = chosen (has_name name file) (Some file.bytes.items) (file_at files name) first
first_bytes (file ∷ files) (suc place) name d first = passed (has_name name file) (Some file.bytes.items) (file_at files name) first.0 ∙ first_bytes files place name d first.1

-- some bytes are under the name of a first file
pub first_there : (files : List MemoryFile) (place : ℕ) (name : List ℕ) → IsFirst files place name → (bytes : List ℕ) × (file_at files name ≡ Some bytes)
first_there [] place name first = absurd first
first_there (file ∷ files) place name first = (_, first_bytes (file ∷ files) place name file first)

-- the names of two lists of files are the same where one file's bytes are replaced
pub first_set : (files : List MemoryFile) (place at : ℕ) (name : List ℕ) (file d : MemoryFile) → file.name ≡ (get_or files at d).name → IsFirst files place name → IsFirst (set files at file) place name
first_set [] place at name file d same first = absurd first
first_set (old ∷ files) zero zero name file d same first = let P : List ℕ → Type 0 = λ n. pointwise ◌==◌ n name ≡ true in subst P (sym same) first
first_set (old ∷ files) zero (suc at) name file d same first = first
first_set (old ∷ files) (suc place) zero name file d same first = (let P : List ℕ → Type 0 = λ n. pointwise ◌==◌ n name ≡ false in subst P (sym same) first.0, first.1)
first_set (old ∷ files) (suc place) (suc at) name file d same first = (first.0, first_set files place at name file d same first.1)

-- two tests of which only one can pass may be made in either order
swapped : {X : Type 0} (a b : Bool) (x y z : X) → (a ≡ true → b ≡ true → ⊥) → (if a then x else (if b then y else z)) ≡ (if b then y else (if a then x else z))
swapped true true x y z both = absurd (both refl refl)
swapped true false x y z both = refl
swapped false b x y z both = refl

-- what is under each name after the bytes of one file are replaced
pub file_at-set : (files : List MemoryFile) (place : ℕ) (name : List ℕ) (file : MemoryFile) → file.name ≡ name → IsFirst files place name
    → (other : List ℕ) → file_at (set files place file) other ≡ (if pointwise ◌==◌ name other then Some file.bytes.items else file_at files other)
file_at-set [] place name file same first other = absurd first
file_at-set (old ∷ files) zero name file same first other =
    let its : old.name ≡ name = (bytes_decides old.name name).0 first in
    ap (λ (n : List ℕ). if pointwise ◌==◌ n other then Some file.bytes.items else file_at files other) same
    ∙ replaced (pointwise ◌==◌ name other) (pointwise ◌==◌ old.name other) (ap (λ (n : List ℕ). pointwise ◌==◌ n other) its)
  where
    replaced : (a b : Bool) → b ≡ a → (if a then Some file.bytes.items else file_at files other) ≡ (if a then Some file.bytes.items else (if b then Some old.bytes.items else file_at files other))
    replaced true b is = refl
    replaced false true is = cc
    replaced false false is = refl
file_at-set (old ∷ files) (suc place) name file same first other =
    ap (λ (rest : Option (List ℕ)). if pointwise ◌==◌ old.name other then Some old.bytes.items else rest) (file_at-set files place name file same first.1 other)
    ∙ swapped (pointwise ◌==◌ old.name other) (pointwise ◌==◌ name other) (Some old.bytes.items) (Some file.bytes.items) (file_at files other)
    (λ a b. let its : old.name ≡ name = (bytes_decides old.name other).0 a ∙ sym ((bytes_decides name other).0 b) in
    let told : pointwise ◌==◌ old.name name ≡ true = (bytes_decides old.name name).1 its in
    clash told)
  where
    clash : pointwise ◌==◌ old.name name ≡ true → ⊥
    clash told = let other_name = first.0 in cc

-- a new file at the end is the first of its name where there was none
pub first_push : (files : List MemoryFile) (file : MemoryFile) (name : List ℕ) → file.name ≡ name → file_at files name ≡ None → IsFirst (files ++ file ∷ []) (length files) name
first_push [] file name same none = (bytes_decides file.name name).1 same
first_push (old ∷ files) file name same none = skip (first_push files file name same) (has_name name old) refl
  where
    skip : (file_at files name ≡ None → IsFirst (files ++ file ∷ []) (length files) name) → (b : Bool) → has_name name old ≡ b → (has_name name old ≡ false) × IsFirst (files ++ file ∷ []) (length files) name
    skip further true is = let here : file_at (old ∷ files) name ≡ Some old.bytes.items = chosen (has_name name old) (Some old.bytes.items) (file_at files name) is in cc
    skip further false is = (is, further (sym (passed (has_name name old) (Some old.bytes.items) (file_at files name) is) ∙ none))

-- what is under each name after an empty file is made
pub file_at-push : (files : List MemoryFile) (file : MemoryFile) (name : List ℕ) → file.name ≡ name → file.bytes.items ≡ [] → file_at files name ≡ None
    → (other : List ℕ) → file_at (files ++ file ∷ []) other ≡ (if pointwise ◌==◌ name other then Some (unwrap_or (file_at files other) []) else file_at files other)
file_at-push [] file name same empty none other =
    ap (λ (n : List ℕ). if pointwise ◌==◌ n other then Some file.bytes.items else None) same
    ∙ ap (λ (bytes : List ℕ). if pointwise ◌==◌ name other then Some bytes else None) empty
file_at-push (old ∷ files) file name same empty none other =
    skip (λ missing. file_at-push files file name same empty missing other) (has_name name old) refl
  where
    both : (a b : Bool) (r s : Option (List ℕ)) → r ≡ (if b then Some (unwrap_or s []) else s) → (if a then Some old.bytes.items else r) ≡ (if b then Some (unwrap_or (if a then Some old.bytes.items else s) []) else (if a then Some old.bytes.items else s))
    both true true r s is = refl
    both true false r s is = refl
    both false b r s is = is

    skip : (file_at files name ≡ None → file_at (files ++ file ∷ []) other ≡ (if pointwise ◌==◌ name other then Some (unwrap_or (file_at files other) []) else file_at files other))
        → (b : Bool) → has_name name old ≡ b → file_at ((old ∷ files) ++ file ∷ []) other ≡ (if pointwise ◌==◌ name other then Some (unwrap_or (file_at (old ∷ files) other) []) else file_at (old ∷ files) other)
    skip further true is = let here : file_at (old ∷ files) name ≡ Some old.bytes.items = chosen (has_name name old) (Some old.bytes.items) (file_at files name) is in cc
    skip further false is = both (pointwise ◌==◌ old.name other) (pointwise ◌==◌ name other) (file_at (files ++ file ∷ []) other) (file_at files other)
        (further (sym (passed (has_name name old) (Some old.bytes.items) (file_at files name) is) ∙ none))

-- picking a file that is there changes what is under no name
pub file_at-picked : (files : List MemoryFile) (name : List ℕ) (bytes : List ℕ) → file_at files name ≡ Some bytes
    → (other : List ℕ) → file_at files other ≡ (if pointwise ◌==◌ name other then Some (unwrap_or (file_at files other) []) else file_at files other)
file_at-picked files name bytes there other = either (pointwise ◌==◌ name other) refl
  where
    some_same : (file : Option (List ℕ)) → file ≡ Some bytes → file ≡ Some (unwrap_or file [])
    some_same None is = cc
    some_same (Some b) is = refl

    either : (b : Bool) → pointwise ◌==◌ name other ≡ b → file_at files other ≡ (if pointwise ◌==◌ name other then Some (unwrap_or (file_at files other) []) else file_at files other)
    either true is =
        let its : file_at files other ≡ Some bytes = ap (file_at files) (sym ((bytes_decides name other).0 is)) ∙ there in
        some_same (file_at files other) its ∙ sym (chosen (pointwise ◌==◌ name other) (Some (unwrap_or (file_at files other) [])) (file_at files other) is)
    either false is = sym (passed (pointwise ◌==◌ name other) (Some (unwrap_or (file_at files other) [])) (file_at files other) is)
