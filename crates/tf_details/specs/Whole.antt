-- Legal books as wholes: what makes a book legal, said of all of it; and which books tell the same.
use Rattle.std.specs.Prelude.{◌≡◌, ◌<◌, ◌≤◌, ℕ, List, [], ◌∷◌, length, map, Some}
use Rattle.tf_flow.specs.Plan.{PlanValue, WrittenPlan, plan_tree, plan_as_written}
use Rattle.tf_details.specs.Elements.{Element, detail, entry, details, plan_of, history, detail_name, IsHistoryOf}

-- ---- legal books

-- each entry names a detail before it
abbrev pub AreNumbered : List Element → Type 0
AreNumbered [] = Unit {0}
AreNumbered (detail plan ∷ before) = AreNumbered before
AreNumbered (entry number e ∷ before) = (number < length (details before)) × AreNumbered before

-- each detail's plan can run, and its history is legal; there are 64 details at most, no two of one name; and each
-- entry names a detail before it
pub record IsLegalAsAWhole (book : List Element) : Type 0 where
  pub histories : (number : ℕ) (plan : PlanValue) → plan_of book number ≡ Some plan
      → IsHistoryOf plan (history number book)
  pub few : length (details book) ≤ 64
  pub names : (i j : ℕ) (p q : PlanValue) → plan_of book i ≡ Some p → plan_of book j ≡ Some q
      → detail_name p ≡ detail_name q → i ≡ j
  pub numbered : AreNumbered book

-- ---- books that tell the same

-- a plan as it is written
abbrev pub plan_written : PlanValue → WrittenPlan
plan_written plan = plan_as_written (plan_tree plan)

-- as many details, whose plans are written alike, one by one, and have the same histories
pub record AreAlike (a b : List Element) : Type 0 where
  pub plans : map plan_written (details a) ≡ map plan_written (details b)
  pub histories : (number : ℕ) → history number a ≡ history number b
