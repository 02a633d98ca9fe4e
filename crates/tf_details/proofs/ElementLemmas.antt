-- What a list of elements tells of the details.
use Rattle.std.proofs.Common.{◌≡◌, ◌≤◌, ◌<◌, ℕ, List, [], ◌∷◌, length, Bool, true, false, Some, refl, arith, length-append}
use Rattle.std.specs.Prelude.{nat_eq, if◌then◌else◌}
use Rattle.std.proofs.lemmas.Bool.{eqb-true}
use Rattle.std.proofs.lemmas.Option.{slice_get_within}
use Rattle.tf_flow.specs.Plan.{PlanValue}
use Rattle.tf_states.specs.declared.record.Entry.{Entry}
use Rattle.tf_details.specs.Elements.{Element, detail, entry, details, plan_of, history, IsLegalBook}

-- a number of a detail is below how many there are
pub number_below : (book : List Element) (n : ℕ) (plan : PlanValue) → plan_of book n ≡ Some plan → n < length (details book)
number_below book n plan is = slice_get_within (details book) n plan is

-- there are 64 details at most
pub few_details : (book : List Element) → IsLegalBook book → length (details book) ≤ 64
few_details [] legal = omega arith
few_details (detail plan ∷ book) legal = omega (arith, legal.0.few, length-append (details book) (plan ∷ []))
few_details (entry n e ∷ book) legal = few_details book legal.1

-- an entry that isn't of the detail isn't in its history
not_of : (b : Bool) (e : Entry) (past : List Entry) → (b ≡ true → ⊥) → past ≡ [] → (if b then e ∷ past else past) ≡ []
not_of true e past other is = absurd (other refl)
not_of false e past other is = is

-- a detail that isn't there yet has no history
pub none_past : (book : List Element) (n : ℕ) → IsLegalBook book → length (details book) ≤ n → history n book ≡ []
none_past [] n legal past = refl
none_past (detail plan ∷ book) n legal past = none_past book n legal.1 (omega (arith, length-append (details book) (plan ∷ []), past))
none_past (entry its e ∷ book) n legal past =
    not_of (nat_eq its n) e (history n book) (λ is. let same : its ≡ n = eqb-true its n is in omega (arith, same, number_below book its legal.0.plan legal.0.of_detail, past)) (none_past book n legal.1 past)
