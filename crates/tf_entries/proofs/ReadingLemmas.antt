-- A form is read where it stands, and only where it stands.
use Rattle.std.proofs.lemmas.List.{map-append}
use Rattle.std.proofs.Common.{◌≡◌, map, ℕ, zero, suc, ◌==◌, List, [], ◌∷◌, ◌++◌, length, Bool, true, false, Option, Some, None, eqb-true, refl, sym, ap, subst, ◌∙◌, append_assoc, append-nil}
use Rattle.std.specs.Prelude.{if◌then◌else◌}
use Rattle.std.specs.List.{flat_map, AllByRecursion}
use Rattle.tf_values.specs.declared.faults.MakeFault.{MakeFault}
use Rattle.tf_values.specs.declared.faults.MakeFault.TheVariants as fault
use Rattle.tf_entries.specs.Reading.{RefusesForm, chain, where_true, read_first, read_many, whole, at_end}

-- what has the form is read from it with whatever follows, and what is read has it
pub record Reads {X : Type 0} (form : X → List ℕ) (Good : X → Type 0) (read : List ℕ → Option (X × List ℕ)) : Type 0 where
  pub again : (x : X) (rest : List ℕ) → Good x → read (form x ++ rest) ≡ Some (x, rest)
  pub sound : (bytes : List ℕ) (x : X) (rest : List ℕ) → read bytes ≡ Some (x, rest) → Good x × (bytes ≡ form x ++ rest)

-- ---- one after another

-- what was read first by a reading that went on
pub record Began {X Y : Type 0} (form : X → List ℕ) (Good : X → Type 0) (next : X → List ℕ → Option (Y × List ℕ)) (bytes : List ℕ) (y : Y) (rest : List ℕ) : Type 0 where
  pub first : X
  pub behind : List ℕ
  pub good : Good first
  pub prefix : bytes ≡ form first ++ behind
  pub goes : next first behind ≡ Some (y, rest)

-- what was read is what was read
pub same_read : {X : Type 0} (x y : X) (a b : List ℕ) → ◌≡◌ {A = Option (X × List ℕ)} (Some (x, a)) (Some (y, b)) → (x ≡ y) × (a ≡ b)
same_read {X} x y a b e =
    let pairs : ◌≡◌ {A = X × List ℕ} (x, a) (y, b) = cc in
    (ap (λ (p : X × List ℕ). p.0) pairs, ap (λ (p : X × List ℕ). p.1) pairs)

pub opened : {X Y : Type 0} (o : Option (X × List ℕ)) (next : X → List ℕ → Option (Y × List ℕ)) (z : Y × List ℕ) → chain o next ≡ Some z → (p : X × List ℕ) × (o ≡ Some p) × (next p.0 p.1 ≡ Some z)
opened None next z is = absurd (cc)
opened (Some p) next z is = (p, refl, is)

module _ {X : Type 0} {form : X → List ℕ} {Good : X → Type 0} {read : List ℕ → Option (X × List ℕ)} (code : Reads form Good read) where
  pub began : {Y : Type 0} (next : X → List ℕ → Option (Y × List ℕ)) (bytes : List ℕ) (y : Y) (rest : List ℕ) → chain (read bytes) next ≡ Some (y, rest) → Began form Good next bytes y rest
  began next bytes y rest is =
      let p = opened (read bytes) next (y, rest) is in
      let found = code.sound bytes p.0.0 p.0.1 p.1 in
      record { first = p.0.0; behind = p.0.1; good = found.0; prefix = found.1; goes = p.2 }

  -- past what stands at the front
  pub went_on : {Y : Type 0} (next : X → List ℕ → Option (Y × List ℕ)) (x : X) (rest : List ℕ) → Good x → chain (read (form x ++ rest)) next ≡ next x rest
  went_on next x rest good = ap (λ o. chain o next) (code.again x rest good)

  -- past what stands in front of more of the same form
  pub went_past : {Y : Type 0} (next : X → List ℕ → Option (Y × List ℕ)) (x : X) (more rest : List ℕ) → Good x → chain (read ((form x ++ more) ++ rest)) next ≡ next x (more ++ rest)
  went_past next x more rest good = ap (λ bytes. chain (read bytes) next) (append_assoc (form x) more rest) ∙ went_on next x (more ++ rest) good

  -- a form of what is made of something else
  pub made_of : {Y : Type 0} (to : X → Y) (from : Y → X) (H : Y → Type 0) → ((x : X) → Good x → H (to x) × (from (to x) ≡ x)) → ((y : Y) → H y → Good (from y) × (to (from y) ≡ y))
      → Reads (λ y. form (from y)) H (λ bytes. chain (read bytes) (λ x rest. Some (to x, rest)))
  made_of {Y} to from H there back = record {
    again = λ y rest good. went_on (λ x after. Some (to x, after)) (from y) rest (back y good).0 ∙ ap (λ (z : Y). Some (z, rest)) (back y good).1;
    sound = λ bytes y rest is.
        let b = began (λ x after. Some (to x, after)) bytes y rest is in
        let same = same_read (to b.first) y b.behind rest b.goes in
        (subst H same.0 (there b.first b.good).0, b.prefix ∙ ap (λ x. form x ++ b.behind) (sym (there b.first b.good).1 ∙ ap from same.0) ∙ ap (λ more. form (from y) ++ more) same.1);
  }

-- ---- tags

-- one more test of a tag
pub on_tag : {Z : Type 0} (P : Type 0) (tag k : ℕ) (here there : Option Z) (z : Z) → (if tag == k then here else there) ≡ Some z → (tag ≡ k → here ≡ Some z → P) → (there ≡ Some z → P) → P
on_tag {Z} P tag k here there z is here_too on = by (tag == k) refl is
  where
    by : (b : Bool) → (tag == k) ≡ b → (if b then here else there) ≡ Some z → P
    by true found is = here_too (eqb-true tag k found) is
    by false found is = on is

-- what has no other tag
pub no_tag : {Z : Type 0} (P : Type 0) (z : Z) → None ≡ Some z → P
no_tag P z is = absurd (cc)

-- a tagged form that ends with its tag
pub bare : {Y : Type 0} (form : Y → List ℕ) (H : Y → Type 0) (y : Y) (k : ℕ) → H y → form y ≡ k ∷ [] → (tag : ℕ) (bytes : List ℕ) (z : Y) (rest : List ℕ) → tag ≡ k → ◌≡◌ {A = Option (Y × List ℕ)} (Some (y, bytes)) (Some (z, rest))
    → H z × (tag ∷ bytes ≡ form z ++ rest)
bare form H y k good is tag bytes z rest tagged found =
    let same = same_read y z bytes rest found in
    (subst H same.0 good, ap (λ n. n ∷ bytes) tagged ∙ ap (λ more. k ∷ more) same.1 ∙ ap (λ prefix. prefix ++ rest) (sym is ∙ ap form same.0))

-- a tagged form with a part behind its tag
pub with_part : {X Y : Type 0} {part : X → List ℕ} {Good : X → Type 0} {read : List ℕ → Option (X × List ℕ)} → Reads part Good read
    → (form : Y → List ℕ) (H : Y → Type 0) (to : X → Y) (k : ℕ) → ((x : X) → Good x → H (to x)) → ((x : X) → form (to x) ≡ k ∷ part x)
    → (tag : ℕ) (bytes : List ℕ) (z : Y) (rest : List ℕ) → tag ≡ k → chain (read bytes) (λ x after. Some (to x, after)) ≡ Some (z, rest)
    → H z × (tag ∷ bytes ≡ form z ++ rest)
with_part {part = part} code form H to k good is tag bytes z rest tagged found =
    let b = began code (λ x after. Some (to x, after)) bytes z rest found in
    let same = same_read (to b.first) z b.behind rest b.goes in (
      subst H same.0 (good b.first b.good),
      ap (λ n. n ∷ bytes) tagged ∙ ap (λ more. k ∷ more) (b.prefix ∙ ap (λ more. part b.first ++ more) same.1) ∙ ap (λ prefix. prefix ++ rest) (sym (is b.first) ∙ ap form same.0),
    )

-- ---- conditions

pub kept : {Y : Type 0} (b : Bool) (o : Option (Y × List ℕ)) (z : Y × List ℕ) → where_true b o ≡ Some z → (b ≡ true) × (o ≡ Some z)
kept true o z is = (refl, is)
kept false o z is = absurd (cc)

pub keeps : {Y : Type 0} (b : Bool) (o : Option (Y × List ℕ)) → b ≡ true → where_true b o ≡ o
keeps true o is = refl
keeps false o is = absurd (cc)

-- ---- several

module _ {X : Type 0} {form : X → List ℕ} {Good : X → Type 0} {read : List ℕ → Option (X × List ℕ)} (code : Reads form Good read) where
  pub many_again : (xs : List X) (rest : List ℕ) → AllByRecursion Good xs → read_many read (length xs) (flat_map form xs ++ rest) ≡ Some (xs, rest)
  many_again [] rest good = refl
  many_again (x ∷ xs) rest good =
      went_past code (λ y more. chain (read_many read (length xs) more) (λ ys after. Some (y ∷ ys, after))) x (flat_map form xs) rest good.0
      ∙ ap (λ o. chain o (λ ys after. Some (x ∷ ys, after))) (many_again xs rest good.1)

  -- so many forms that stand one after another
  pub record AreRead (count : ℕ) (bytes : List ℕ) (xs : List X) (rest : List ℕ) : Type 0 where
    pub good : AllByRecursion Good xs
    pub counted : length xs ≡ count
    pub prefix : bytes ≡ flat_map form xs ++ rest

  pub many_sound : (count : ℕ) (bytes : List ℕ) (xs : List X) (rest : List ℕ) → read_many read count bytes ≡ Some (xs, rest) → AreRead count bytes xs rest
  many_sound zero bytes xs rest is =
      let same = same_read [] xs bytes rest is in
      subst (λ ys. AreRead zero bytes ys rest) same.0 (record { good = tt; counted = refl; prefix = same.1 })
  many_sound (suc count) bytes xs rest is =
      let b = began code (λ x more. chain (read_many read count more) (λ ys after. Some (x ∷ ys, after))) bytes xs rest is in
      let others = opened (read_many read count b.behind) (λ ys after. Some (b.first ∷ ys, after)) (xs, rest) b.goes in
      let made = same_read (b.first ∷ others.0.0) xs others.0.1 rest others.2 in
      let tail = many_sound count b.behind others.0.0 others.0.1 others.1 in
      subst (λ ys. AreRead (suc count) bytes ys rest) made.0 (record {
        good = (b.good, tail.good);
        counted = ap suc tail.counted;
        prefix = b.prefix ∙ ap (λ more. form b.first ++ more) (tail.prefix ∙ ap (λ more. flat_map form others.0.0 ++ more) made.1) ∙ sym (append_assoc (form b.first) (flat_map form others.0.0) rest);
      })

-- ---- the whole of the bytes

ended : {X : Type 0} (p x : X) (rest : List ℕ) → at_end p rest ≡ Some x → (p ≡ x) × (rest ≡ [])
ended p x [] is = (cc, refl)
ended p x (next ∷ others) is = absurd (cc)

pub whole_is : {X : Type 0} (o : Option (X × List ℕ)) (x : X) → whole o ≡ Some x → o ≡ Some (x, [])
whole_is None x is = absurd (cc)
whole_is (Some p) x is = let end = ended p.0 x p.1 is in let prefix : p.0 ≡ x = end.0 in let after : p.1 ≡ [] = end.1 in rw (← prefix, ← after) refl

pub whole_of : {X : Type 0} (o : Option (X × List ℕ)) (x : X) → o ≡ Some (x, []) → whole o ≡ Some x
whole_of o x is = ap whole is

-- ---- faults

-- a fault that refuses one thing refuses another that isn't spelled either
pub refuses : {X Y : Type 0} (part : Option X) (other : Option Y) (e : MakeFault) → (part ≡ None → other ≡ None) → RefusesForm part e → RefusesForm other e
refuses part other fault.No same refused = same refused
refuses part other fault.Memory same refused = refused

-- ---- parts

-- a part in front of those that are read behind it
pub joined : (bytes part behind more rest : List ℕ) → bytes ≡ part ++ behind → behind ≡ more ++ rest → bytes ≡ (part ++ more) ++ rest
joined bytes part behind more rest prefix others = prefix ∙ ap (λ after. part ++ after) others ∙ sym (append_assoc part more rest)

-- the last part
pub ends_with : (bytes part behind rest : List ℕ) → bytes ≡ part ++ behind → behind ≡ rest → bytes ≡ part ++ rest
ends_with bytes part behind rest prefix after = prefix ∙ ap (λ more. part ++ more) after

-- ---- several, one turn after another

-- those that were read already, followed by the others
abbrev pub after : {X : Type 0} → List X → Option (List X × List ℕ) → Option (List X × List ℕ)
after made others = chain others (λ xs rest. Some (made ++ xs, rest))

pub after_nothing : {X : Type 0} (others : Option (List X × List ℕ)) → after [] others ≡ others
after_nothing None = refl
after_nothing (Some p) = refl

more_after : {X : Type 0} (made : List X) (x : X) (others : Option (List X × List ℕ)) → after (made ++ x ∷ []) others ≡ after made (chain others (λ xs rest. Some (x ∷ xs, rest)))
more_after made x None = refl
more_after {X} made x (Some p) = ap (λ (xs : List X). Some (xs, p.1)) (append_assoc made (x ∷ []) p.0)

-- one more was read
pub read_turn : {X : Type 0} (read : List ℕ → Option (X × List ℕ)) (made : List X) (left next : ℕ) (bytes behind : List ℕ) (x : X) (whole : Option (List X × List ℕ)) → left ≡ suc next → read bytes ≡ Some (x, behind)
    → after made (read_many read left bytes) ≡ whole → after (made ++ x ∷ []) (read_many read next behind) ≡ whole
read_turn read made left next bytes behind x whole more found same =
    more_after made x (read_many read next behind)
    ∙ ap (λ o. after made (read_first o (read_many read next))) (sym found)
    ∙ ap (λ (n : ℕ). after made (read_many read n bytes)) (sym more) ∙ same

-- one couldn't be read
pub read_stops : {X : Type 0} (read : List ℕ → Option (X × List ℕ)) (made : List X) (left next : ℕ) (bytes : List ℕ) (whole : Option (List X × List ℕ)) → left ≡ suc next → read bytes ≡ None
    → after made (read_many read left bytes) ≡ whole → whole ≡ None
read_stops read made left next bytes whole more none same =
    sym same ∙ ap (λ (n : ℕ). after made (read_many read n bytes)) more ∙ ap (λ o. after made (read_first o (read_many read next))) none

-- all were read
pub read_ends : {X : Type 0} (read : List ℕ → Option (X × List ℕ)) (made : List X) (left : ℕ) (bytes : List ℕ) (whole : Option (List X × List ℕ)) → left ≡ 0
    → after made (read_many read left bytes) ≡ whole → whole ≡ Some (made, bytes)
read_ends {X} read made left bytes whole none same =
    sym same ∙ ap (λ (n : ℕ). after made (read_many read n bytes)) none ∙ ap (λ (xs : List X). Some (xs, bytes)) (append-nil made)

-- ---- what the code's values show, one turn after another

module _ {X Y : Type 0} (shown : Y → X) where
  pub shown_turn : (read : List ℕ → Option (X × List ℕ)) (made : List Y) (left next : ℕ) (bytes behind : List ℕ) (y : Y) (whole : Option (List X × List ℕ)) → left ≡ suc next → read bytes ≡ Some (shown y, behind)
      → after (map shown made) (read_many read left bytes) ≡ whole → after (map shown (made ++ y ∷ [])) (read_many read next behind) ≡ whole
  shown_turn read made left next bytes behind y whole more found same =
      ap (λ xs. after xs (read_many read next behind)) (map-append shown made (y ∷ [])) ∙ read_turn read (map shown made) left next bytes behind (shown y) whole more found same
