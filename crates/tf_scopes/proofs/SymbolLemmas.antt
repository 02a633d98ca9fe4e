-- The places of those that list a symbol, and who gives it to an atom.
use Rattle.std.proofs.Common.{◌≡◌, ℕ, suc, ◌+◌, ◌-◌, ◌<◌, ◌≤◌, List, [], ◌∷◌, ◌++◌, length, Bool, true, false, Option, None, sym, ap, ◌∙◌, add-one, arith, slice_get, slice_index_or}
use Rattle.std.specs.Prelude.{if◌then◌else◌}
use Rattle.std.proofs.lemmas.Option.{slice_get_past}
use Rattle.tf_flow.specs.Plan.{PlanValue}
use Rattle.tf_flow.specs.Plan as numbering
use Rattle.tf_flow.specs.Outline.{Atom}
use Rattle.tf_model.specs.Plan.{Outline, outline_of}
use Rattle.tf_model.proofs.Told.{listed_by}
use Rattle.tf_model.specs.Scope.{lists_symbol}
use Rattle.tf_numbers.specs.Numbers.{which_below}
use Rattle.tf_numbers.proofs.ListLemmas.{nothing_after}
use Rattle.tf_order.specs.Graph.{standing_of_plan}
use Rattle.tf_order.specs.Index.{add_once}
use Rattle.tf_scopes.specs.Symbols.{lists_in, lists_at}
use Rattle.tf_scopes.proofs.PlaceLemmas.{number_there}
use Rattle.tf_model.proofs.PlanLemmas.{atoms_counted}
use Rattle.tf_order.proofs.IndexLemmas.{not_last}

-- ---- numbers that pass, one more

which_more : (n : ℕ) (test : ℕ → Bool) → (if test n then add_once (which_below n test) n else which_below n test) ≡ which_below (suc n) test
which_more n test = by_test (test n)
  where
    by_test : (b : Bool) → (if b then add_once (which_below n test) n else which_below n test) ≡ which_below n test ++ (if b then n ∷ [] else [])
    by_test true = ap (λ (b : Bool). if b then which_below n test else which_below n test ++ n ∷ []) (not_last n n test (omega arith))
    by_test false = sym (nothing_after (which_below n test))

-- ---- the places of a symbol

listed_past : (o : Option Atom) (symbol : List ℕ) → o ≡ None → listed_by o symbol ≡ false
listed_past o symbol is = ap (λ (p : Option Atom). listed_by p symbol) is

-- a number that no atom has lists no symbol
pub lists_nothing : (plan : PlanValue) (a : ℕ) (symbol : List ℕ) → length (numbering.atoms plan) ≤ a → lists_symbol (outline_of plan) symbol a ≡ false
lists_nothing plan a symbol past = listed_past (slice_get (outline_of plan).atoms a) symbol (slice_get_past (outline_of plan).atoms a (omega (arith, past, atoms_counted plan)))

-- one place more of the standing order
pub places_more : (plan : Outline) (symbol standing : List ℕ) (place atom : ℕ) (old new : List ℕ) → standing ≡ standing_of_plan plan → place < length standing → atom ≡ slice_index_or standing place 0
    → old ≡ which_below place (lists_at plan symbol) → new ≡ (if lists_symbol plan symbol atom then add_once old place else old) → new ≡ which_below (place + 1) (lists_at plan symbol)
places_more plan symbol standing place atom old new is below there was added =
    let here : lists_at plan symbol place ≡ lists_symbol plan symbol atom =
    ap (lists_in plan symbol) (ap (λ (xs : List ℕ). slice_get xs place) (sym is) ∙ number_there standing place below) ∙ ap (lists_symbol plan symbol) (sym there)
    in
    added
    ∙ (ap (λ (b : Bool). if b then add_once old place else old) (sym here)
    ∙ (ap (λ (xs : List ℕ). if lists_at plan symbol place then add_once xs place else xs) was
    ∙ (which_more place (lists_at plan symbol)
    ∙ ap (λ (n : ℕ). which_below n (lists_at plan symbol)) (sym (add-one place)))))
