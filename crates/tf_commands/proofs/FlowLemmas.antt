-- What a file that holds no flow isn't besides.
use Rattle.std.proofs.Common.{◌≡◌, ℕ, List, [], ◌∷◌, ◌++◌, Some, inl, inr, ◌∙◌, sym, arith}
use Rattle.tf_flow.specs.Plan.{PlanValue}
use Rattle.tf_journal.specs.Format.{Recovered, unborn, bodies}
use Rattle.tf_details.specs.Elements.{Element, element_bytes, bodies_of, plan_of, Contents, IsContents}
use Rattle.tf_details.proofs.ElementLemmas.{number_below}
use Rattle.tf_commands.specs.Books.{HoldsNoFlow}

not_empty : (before : List (List ℕ)) (body : List ℕ) → before ++ body ∷ [] ≡ [] → ⊥
not_empty [] body none = cc
not_empty (first ∷ before) body none = cc

-- it holds no element
pub none_held : (found : Recovered) (element : Element) (elements : List Element) → HoldsNoFlow found → found ≡ bodies (bodies_of (element ∷ elements)) → ⊥
none_held found element elements (inl none) is = let both : unborn ≡ bodies (bodies_of (element ∷ elements)) = sym none ∙ is in cc
none_held found element elements (inr none) is =
    let both : bodies [] ≡ bodies (bodies_of (element ∷ elements)) = sym none ∙ is in
    let same : [] ≡ bodies_of elements ++ element_bytes element ∷ [] = cc in
    not_empty (bodies_of elements) (element_bytes element) (sym same)

-- and so no flow
pub flow_held : (found : Recovered) (plan : PlanValue) (contents : Contents) → HoldsNoFlow found → IsContents plan contents → found ≡ bodies (bodies_of contents.elements) → ⊥
flow_held found plan contents none held is = by contents.elements held.of_detail is
  where
    by : (elements : List Element) → plan_of elements contents.number ≡ Some plan → found ≡ bodies (bodies_of elements) → ⊥
    by [] has same = omega (arith, number_below [] contents.number plan has)
    by (element ∷ elements) has same = none_held found element elements none same
