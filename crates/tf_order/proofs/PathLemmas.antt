-- Where two paths from the root part.
use Rattle.std.proofs.Common.{◌≡◌, ℕ, zero, suc, ◌-◌, ◌≤◌, List, [], ◌∷◌, drop, length, Bool, true, false, ◌&&◌, Option, Some, None, refl, sym, ap, ◌∙◌, inl, inr, min, arith, slice_get}
use Rattle.std.specs.Prelude.{nat_eq, if◌then◌else◌, ◌<◌}
use Rattle.std.proofs.Common.{get_or}
use Rattle.std.proofs.lemmas.Bool.{cases_lt}
use Rattle.tf_model.specs.Before.{Flow, item_before, turn_before, path_before, path_at}
use Rattle.tf_model.proofs.Told.{path_in}
use Rattle.tf_flow.specs.declared.listing.AtomPlace.{AtomPlace}
use Rattle.tf_flow.specs.Listing.{shown_atoms}
use Rattle.tf_flow.proofs.NumberingLemmas.{atom_there}
use Rattle.tf_model.specs.Readiness.{last_item}
use Rattle.tf_flow.specs.declared.paths.Turn.{Turn}
use Rattle.tf_model.specs.Plan.{last_flow}
use Rattle.tf_order.specs.declared.paths.Meeting.{Meeting}
use Rattle.tf_order.specs.declared.paths.Meeting.TheVariants as meet
use Rattle.tf_order.specs.Paths.{parted, parting, here_or_below, meeting, decides, flow_of_turn, item_of_turn}

-- ---- what the model says by turns, by where paths part

decided_turn : (flows : List Flow) (g : ℕ) (x y : Option ℕ) (below : Meeting) → turn_before flows g x y (decides flows below) ≡ decides flows (here_or_below (parted g x y) below)
decided_turn flows g None None below = refl
decided_turn flows g None (Some v) below = refl
decided_turn flows g (Some u) None below = refl
decided_turn flows g (Some u) (Some v) below = by_item (nat_eq u v)
  where
    by_item : (b : Bool) → (if b then decides flows below else item_before flows g u v) ≡ decides flows (here_or_below (if b then None else Some (meet.Items g u v)) below)
    by_item true = refl
    by_item false = refl

decided_here : (flows : List Flow) (x y : Turn) (below : Meeting) → (nat_eq x.flow y.flow && turn_before flows x.flow x.item y.item (decides flows below)) ≡ decides flows (here_or_below (parting x y) below)
decided_here flows x y below = by_flow (nat_eq x.flow y.flow)
  where
    by_flow : (b : Bool) → (b && turn_before flows x.flow x.item y.item (decides flows below)) ≡ decides flows (here_or_below (if b then parted x.flow x.item y.item else Some meet.Apart) below)
    by_flow true = decided_turn flows x.flow x.item y.item below
    by_flow false = refl

-- where two paths part decides which is before the other
pub path_before_met : (flows : List Flow) (a b : List Turn) → path_before flows a b ≡ decides flows (meeting a b)
path_before_met flows [] b = refl
path_before_met flows (x ∷ xs) [] = refl
path_before_met flows (x ∷ xs) (y ∷ ys) =
    ap (λ (below : Bool). nat_eq x.flow y.flow && turn_before flows x.flow x.item y.item below) (path_before_met flows xs ys)
    ∙ decided_here flows x y (meeting xs ys)

-- ---- the last turn

one_later : (turn next : Turn) (turns : List Turn) → slice_get (next ∷ turns) (length (next ∷ turns) - 1) ≡ slice_get (turn ∷ next ∷ turns) (length (turn ∷ next ∷ turns) - 1)
one_later turn next turns =
    let here : length (next ∷ turns) - 1 ≡ length turns = omega arith in
    let later : length (turn ∷ next ∷ turns) - 1 ≡ suc (length turns) = omega arith in
    ap (slice_get (next ∷ turns)) here ∙ sym (ap (slice_get (turn ∷ next ∷ turns)) later)

last_flow_told : (turns : List Turn) → last_flow turns ≡ flow_of_turn (slice_get turns (length turns - 1))
last_flow_told [] = refl
last_flow_told (turn ∷ []) = refl
last_flow_told (turn ∷ next ∷ turns) = last_flow_told (next ∷ turns) ∙ ap flow_of_turn (one_later turn next turns)

last_item_told : (turns : List Turn) → last_item turns ≡ item_of_turn (slice_get turns (length turns - 1))
last_item_told [] = refl
last_item_told (turn ∷ []) = refl
last_item_told (turn ∷ next ∷ turns) = last_item_told (next ∷ turns) ∙ ap item_of_turn (one_later turn next turns)

pub last_turn_flow : (path : List Turn) (found : Option Turn) → found ≡ slice_get path (length path - 1) → last_flow path ≡ flow_of_turn found
last_turn_flow path found is = last_flow_told path ∙ ap flow_of_turn (sym is)

pub last_turn_item : (path : List Turn) (found : Option Turn) → found ≡ slice_get path (length path - 1) → last_item path ≡ item_of_turn found
last_turn_item path found is = last_item_told path ∙ ap item_of_turn (sym is)

-- ---- the end of a path

nothing_left : (path : List Turn) (i : ℕ) → length path ≤ i → drop i path ≡ []
nothing_left [] zero whole = refl
nothing_left [] (suc i) whole = refl
nothing_left (x ∷ path) zero whole = absurd (omega arith)
nothing_left (x ∷ path) (suc i) whole = nothing_left path i (omega arith)

no_second : (xs : List Turn) → meeting xs [] ≡ meet.Apart
no_second [] = refl
no_second (x ∷ xs) = refl

-- one of the paths ends here
pub meeting_over : (a b : List Turn) (i : ℕ) → min (length a) (length b) ≤ i → meet.Apart ≡ meeting (drop i a) (drop i b)
meeting_over a b i over = elim (cases_lt i (length a)) [
  | inl below ↦ sym (ap (λ (ys : List Turn). meeting (drop i a) ys) (nothing_left b i (omega (arith, over, below))) ∙ no_second (drop i a))
  | inr past ↦ sym (ap (λ (xs : List Turn). meeting xs (drop i b)) (nothing_left a i past))
]

-- ---- the path of the atom of a number

pub path_there : (found : List AtomPlace) (k : ℕ) (atom : AtomPlace) → k < length found → atom ≡ get_or found k atom → atom.path ≡ path_at (shown_atoms found) k
path_there found k atom below is = ap path_in (sym (atom_there found k atom below is))
