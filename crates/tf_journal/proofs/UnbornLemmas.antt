-- What recovery takes as unborn is unborn.
use Rattle.std.proofs.Common.{◌≡◌, ◌≢◌, zero, suc, ◌∷◌, ◌==◌, length, if◌then◌else◌, ℕ, List, [], Bool, true, false, Option, Some, None, refl}
use Rattle.tf_journal.specs.Format.{OPEN, title_of, Found, closed, body, bad, record_at, Recovered, unborn, old_format, bodies, not_a_book, with_body, then_from, records_from, title_fault, titled, recovered_born, recovered, is_old, is_unborn}
use Rattle.tf_journal.specs.declared.title.Title.{Title}

with_born : (first : List ℕ) (found : Recovered) → found ≢ unborn → with_body first found ≢ unborn
with_born first unborn born = λ is. born refl
with_born first old_format born = λ is. let same : old_format ≡ unborn = is in cc
with_born first (bodies others) born = λ is. let same : bodies (first ∷ others) ≡ unborn = is in cc
with_born first (not_a_book offset byte) born = λ is. let same : not_a_book offset byte ≡ unborn = is in cc

then_born : (found : Found) (next : ℕ → Recovered) → ((place : ℕ) → next place ≢ unborn) → then_from found next ≢ unborn
then_born closed next born = λ is. let same : bodies [] ≡ unborn = is in cc
then_born (body first place) next born = with_born first (next place) (born place)
then_born (bad offset byte) next born = λ is. let same : not_a_book offset byte ≡ unborn = is in cc

records_born : (title : Title) (most : ℕ) (bytes : List ℕ) (place : ℕ) → records_from title most bytes place ≢ unborn
records_born title zero bytes place = λ is. let same : bodies [] ≡ unborn = is in cc
records_born title (suc most) bytes place = then_born (record_at title bytes place) (records_from title most bytes) (records_born title most bytes)

titled_born : (fault : Option (ℕ × Option ℕ)) (found : Recovered) → found ≢ unborn → titled fault found ≢ unborn
titled_born None found born = born
titled_born (Some fault) found born = λ is. let same : not_a_book fault.0 fault.1 ≡ unborn = is in cc

either_born : (test : Bool) (first second : Recovered) → first ≢ unborn → second ≢ unborn → (if test then first else second) ≢ unborn
either_born true first second one other = one
either_born false first second one other = other

bad_born : (offset : ℕ) (byte : Option ℕ) → not_a_book offset byte ≢ unborn
bad_born offset byte is = cc

unborn_if : (test : Bool) (found : Recovered) → found ≢ unborn → (if test then unborn else found) ≡ unborn → test ≡ true
unborn_if true found born is = refl
unborn_if false found born is = absurd (born is)

old_born : old_format ≢ unborn
old_born is = cc

pub unborn_found : (title : Title) (bytes : List ℕ) → recovered title bytes ≡ unborn → is_unborn title bytes ≡ true
unborn_found title [] is = refl
unborn_found title (gate ∷ rest) is =
    unborn_if (is_unborn title (gate ∷ rest)) (if is_old title rest then old_format else recovered_born title (gate ∷ rest))
    (either_born (is_old title rest) old_format (recovered_born title (gate ∷ rest)) old_born
    (either_born (gate == OPEN) (titled (title_fault (title_of title) rest 1) (records_from title (length (gate ∷ rest)) (gate ∷ rest) 17)) (not_a_book 0 (Some gate))
    (titled_born (title_fault (title_of title) rest 1) (records_from title (length (gate ∷ rest)) (gate ∷ rest) 17) (records_born title (length (gate ∷ rest)) (gate ∷ rest) 17)) (bad_born 0 (Some gate))))
    is
