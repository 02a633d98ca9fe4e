-- The flows of a plan's outline are those of its tree, by their numbers.
use Rattle.std.proofs.Common.{◌≡◌, ℕ, zero, suc, ◌+◌, ◌≤◌, List, [], ◌∷◌, ◌++◌, length, map, Bool, true, false, Option, Some, None, refl, sym, ap, ◌∙◌, subst, arith, eqb-true, eq-eqb, slice_get}
use Rattle.std.specs.Prelude.{cond, nat_eq, option_map}
use Rattle.std.proofs.lemmas.List.{length-map}
use Rattle.tf_flow.specs.declared.atoms.Retry.{Retry}
use Rattle.tf_flow.specs.declared.deciders.Link.{Link}
use Rattle.tf_flow.specs.declared.nested.FlowKind.{FlowKind}
use Rattle.tf_flow.specs.declared.nested.Flow.{Flow as FlowValue}
use Rattle.tf_flow.specs.Outline.{connection_of, Part, a_retry, Atom, FlowPlace, part_of, name_of, name_of_atom, atoms_of, atoms_among, retry_atoms, enter, flows_of, flows_among, flow_count, atom_count, retry_count, retry_number, flow_trees, flow_trees_among}
use Rattle.tf_flow.specs.Plan.{PlanValue}
use Rattle.tf_flow.specs.Plan as numbering
use Rattle.tf_flow.specs.Tree.{Tree, Trees, task, flow, no_trees, tree, tree_of}
use Rattle.tf_flow.proofs.TreeLemmas.{tree_of-flow}
use Rattle.tf_flow.proofs.OutlineLemmas.{same_atoms, flows_told, place_name}
use Rattle.tf_model.specs.Before.{Flow, find_flow, arranged, arrange}
use Rattle.tf_model.specs.Plan.{outline_of, is_retry, retry_of}
use Rattle.tf_model.proofs.Told.{is_retry_in, retry_in}
use Rattle.tf_numbers.proofs.TruthLemmas.{never_true}
use Rattle.tf_flow.proofs.ListingLemmas.{length_retry, length_atoms, length_flows}
use Rattle.std.proofs.lemmas.Option.{slice_get-map}

-- the retry controller of a flow
abbrev pub control_of : Tree → Option Retry
control_of (task t) = None
control_of (flow head items) = head.retry

-- the links that are written in a flow
abbrev pub links_of : Tree → List Link
links_of (task t) = []
links_of (flow head items) = head.links

-- the kind of a flow
abbrev pub kind_of : Tree → Option FlowKind
kind_of (task t) = None
kind_of (flow head items) = Some head.kind

-- the retry controller stands at that number
abbrev pub StandsAt : List Part → Option ℕ → Option Retry → Type 0
StandsAt parts None None = Unit {0}
StandsAt parts (Some r) (Some control) = slice_get parts r ≡ Some (a_retry control)
StandsAt parts None (Some control) = ⊥
StandsAt parts (Some r) None = ⊥

-- the place of a flow is that of this tree, which has the number g
pub record Fits (parts : List Part) (g : ℕ) (place : FlowPlace) (t : Tree) : Type 0 where
  pub number : place.number ≡ g
  pub kind : Some place.kind ≡ kind_of t
  pub links : place.links ≡ map connection_of (links_of t)
  pub retry : StandsAt parts place.retry (control_of t)

abbrev AllFit : List Part → ℕ → List FlowPlace → List Tree → Type 0
AllFit parts g [] [] = Unit {0}
AllFit parts g (place ∷ places) (t ∷ ts) = Fits parts g place t × AllFit parts (suc g) places ts
AllFit parts g [] (t ∷ ts) = ⊥
AllFit parts g (place ∷ places) [] = ⊥

moved : (parts : List Part) (g h : ℕ) (places : List FlowPlace) (ts : List Tree) → g ≡ h → AllFit parts g places ts → AllFit parts h places ts
moved parts g h places ts same all = subst (λ (n : ℕ). AllFit parts n places ts) same all

fit_both : (parts : List Part) (g : ℕ) (ps qs : List FlowPlace) (ts us : List Tree) → AllFit parts g ps ts → AllFit parts (g + length ps) qs us → AllFit parts g (ps ++ qs) (ts ++ us)
fit_both parts g [] qs [] us one two = moved parts (g + 0) g qs us (omega arith) two
fit_both parts g [] qs (t ∷ ts) us one two = absurd one
fit_both parts g (p ∷ ps) qs [] us one two = absurd one
fit_both parts g (p ∷ ps) qs (t ∷ ts) us one two = (one.0, fit_both parts (suc g) ps qs ts us one.1 (moved parts (g + suc (length ps)) (suc g + length ps) qs us (omega arith) two))

-- the atoms stand among the parts from the number a on
abbrev SitsAt : List Part → ℕ → List Atom → Type 0
SitsAt parts a xs = (k : ℕ) (p : Part) → option_map part_of (slice_get xs k) ≡ Some p → slice_get parts (a + k) ≡ Some p

get_front : (xs ys : List Atom) (k : ℕ) (p : Part) → option_map part_of (slice_get xs k) ≡ Some p → option_map part_of (slice_get (xs ++ ys) k) ≡ Some p
get_front [] ys k p is = absurd (cc)
get_front (x ∷ xs) ys zero p is = is
get_front (x ∷ xs) ys (suc k) p is = get_front xs ys k p is

get_back : (xs ys : List Atom) (k : ℕ) → slice_get (xs ++ ys) (length xs + k) ≡ slice_get ys k
get_back [] ys k = let same : 0 + k ≡ k = omega arith in ap (slice_get ys) same
get_back (x ∷ xs) ys k = let later : length (x ∷ xs) + k ≡ suc (length xs + k) = omega arith in ap (slice_get (x ∷ (xs ++ ys))) later ∙ get_back xs ys k

sits_first : (parts : List Part) (a : ℕ) (xs ys : List Atom) → SitsAt parts a (xs ++ ys) → SitsAt parts a xs
sits_first parts a xs ys sits = λ k p is. sits k p (get_front xs ys k p is)

sits_second : (parts : List Part) (a b : ℕ) (xs ys : List Atom) → a + length xs ≡ b → SitsAt parts a (xs ++ ys) → SitsAt parts b ys
sits_second parts a b xs ys same sits = λ k p is.
    let place : a + (length xs + k) ≡ b + k = omega (arith, same) in
    ap (slice_get parts) (sym place) ∙ sits (length xs + k) p (ap (option_map part_of) (get_back xs ys k) ∙ is)

get_entered : (g i : ℕ) (xs : List Atom) (k : ℕ) → option_map part_of (slice_get (map (enter g i) xs) k) ≡ option_map part_of (slice_get xs k)
get_entered g i [] k = refl
get_entered g i (x ∷ xs) zero = refl
get_entered g i (x ∷ xs) (suc k) = get_entered g i xs k

sits_entered : (parts : List Part) (a g i : ℕ) (xs : List Atom) → SitsAt parts a (map (enter g i) xs) → SitsAt parts a xs
sits_entered parts a g i xs sits = λ k p is. sits k p (get_entered g i xs k ∙ is)

stands_at : (parts : List Part) (g a : ℕ) (control : Option Retry) → SitsAt parts a (retry_atoms g control) → StandsAt parts (retry_number a control) control
stands_at parts g a None sits = tt
stands_at parts g a (Some r) sits = let place : a + 0 ≡ a = omega arith in ap (slice_get parts) (sym place) ∙ sits 0 (a_retry r) refl

mutual
  flows_fit : (t : Tree) (parts : List Part) (g a : ℕ) → SitsAt parts a (atoms_of g t) → AllFit parts g (flows_of g a t) (flow_trees t)
  flows_fit (task t) parts g a sits = tt
  flows_fit (flow head items) parts g a sits = (
    record { number = refl; kind = refl; links = refl; retry = stands_at parts g a head.retry (sits_first parts a (retry_atoms g head.retry) (atoms_among g 0 (suc g) items) sits) },
    among_fit items parts g 0 (suc g) (a + retry_count head.retry)
        (sits_second parts a (a + retry_count head.retry) (retry_atoms g head.retry) (atoms_among g 0 (suc g) items) (ap (λ (n : ℕ). a + n) (length_retry g head.retry)) sits),
  )

  among_fit : (ts : Trees) (parts : List Part) (g i n a : ℕ) → SitsAt parts a (atoms_among g i n ts) → AllFit parts n (flows_among n a ts) (flow_trees_among ts)
  among_fit no_trees parts g i n a sits = tt
  among_fit (tree first others) parts g i n a sits =
      fit_both parts n (flows_of n a first) (flows_among (n + flow_count first) (a + atom_count first) others) (flow_trees first) (flow_trees_among others)
      (flows_fit first parts n a (sits_entered parts a g i (atoms_of n first) (sits_first parts a (map (enter g i) (atoms_of n first)) (atoms_among g (suc i) (n + flow_count first) others) sits)))
      (moved parts (n + flow_count first) (n + length (flows_of n a first)) (flows_among (n + flow_count first) (a + atom_count first) others) (flow_trees_among others) (ap (λ (k : ℕ). n + k) (sym (length_flows n a first)))
      (among_fit others parts g (suc i) (n + flow_count first) (a + atom_count first)
      (sits_second parts a (a + atom_count first) (map (enter g i) (atoms_of n first)) (atoms_among g (suc i) (n + flow_count first) others)
      (ap (λ (k : ℕ). a + k) (length-map (atoms_of n first) (enter g i) ∙ length_atoms n first)) sits)))

-- ---- the flow of a number

-- what the atoms of a plan are, by number
abbrev pub parts_of : PlanValue → List Part
parts_of plan = map part_of (atoms_of 0 (tree_of plan.root))

-- among these flows there is one of this number, which is that of the tree
pub record Found (flows : List Flow) (parts : List Part) (g : ℕ) (t : Tree) : Type 0 where
  pub flow : Flow
  pub is : find_flow flows g ≡ Some flow
  pub fits : Fits parts g flow.place t

found_past : (flows : List Flow) (parts : List Part) (first : Flow) (g : ℕ) (t : Tree) → nat_eq first.place.number g ≡ false → Found flows parts g t → Found (first ∷ flows) parts g t
found_past flows parts first g t off found = record { flow = found.flow; is = ap (λ (b : Bool). cond b (Some first) (find_flow flows g)) off ∙ found.is; fits = found.fits }

past : (number g k : ℕ) → number ≡ g → nat_eq number (g + suc k) ≡ false
past number g k is = never_true (nat_eq number (g + suc k)) (λ on. let same : number ≡ g + suc k = eqb-true number (g + suc k) on in omega (arith, is, same))

found_at : (atoms : List Atom) (parts : List Part) (g : ℕ) (places : List FlowPlace) (ts : List Tree) (k : ℕ) (t : Tree) → AllFit parts g places ts → slice_get ts k ≡ Some t → Found (arranged atoms places) parts (g + k) t
found_at atoms parts g [] [] k t all is = absurd (cc)
found_at atoms parts g [] (u ∷ us) k t all is = absurd all
found_at atoms parts g (place ∷ places) [] k t all is = absurd all
found_at atoms parts g (place ∷ places) (u ∷ us) zero t all is =
    let same : u ≡ t = cc in
    let here : g + 0 ≡ g = omega arith in
    record {
      flow = arrange atoms (arranged atoms places) place;
      is = ap (λ (b : Bool). cond b (Some (arrange atoms (arranged atoms places) place)) (find_flow (arranged atoms places) (g + 0))) (eq-eqb place.number (g + 0) (all.0.number ∙ sym here));
      fits = subst (λ (n : ℕ). Fits parts n place t) (sym here) (subst (Fits parts g place) same all.0);
    }
found_at atoms parts g (place ∷ places) (u ∷ us) (suc k) t all is =
    let later : suc g + k ≡ g + suc k = omega arith in
    found_past (arranged atoms places) parts (arrange atoms (arranged atoms places) place) (g + suc k) t (past place.number g k all.0.number)
    (subst (λ (n : ℕ). Found (arranged atoms places) parts n t) later (found_at atoms parts (suc g) places us k t all.1 is))

none_at : (atoms : List Atom) (parts : List Part) (g : ℕ) (places : List FlowPlace) (ts : List Tree) (k : ℕ) → AllFit parts g places ts → slice_get ts k ≡ None → find_flow (arranged atoms places) (g + k) ≡ None
none_at atoms parts g [] ts k all is = refl
none_at atoms parts g (place ∷ places) [] k all is = absurd all
none_at atoms parts g (place ∷ places) (u ∷ us) zero all is = absurd (cc)
none_at atoms parts g (place ∷ places) (u ∷ us) (suc k) all is =
    let later : suc g + k ≡ g + suc k = omega arith in
    ap (λ (b : Bool). cond b (Some (arrange atoms (arranged atoms places) place)) (find_flow (arranged atoms places) (g + suc k))) (past place.number g k all.0.number)
    ∙ (ap (find_flow (arranged atoms places)) (sym later) ∙ none_at atoms parts (suc g) places us k all.1 is)

plan_fits : (plan : PlanValue) → AllFit (parts_of plan) 0 (flows_of 0 0 (tree_of plan.root)) (flow_trees (tree_of plan.root))
plan_fits plan = flows_fit (tree_of plan.root) (parts_of plan) 0 0 (λ k p is. let same : 0 + k ≡ k = omega arith in ap (slice_get (parts_of plan)) same ∙ (slice_get-map part_of (atoms_of 0 (tree_of plan.root)) k ∙ is))

-- the flow of a number in the outline is the plan's
pub flow_there : (plan : PlanValue) (g : ℕ) (t : Tree) → numbering.flow plan g ≡ Some t → Found (outline_of plan).flows (parts_of plan) g t
flow_there plan g t is =
    let same : 0 + g ≡ g = omega arith in
    subst (λ (n : ℕ). Found (outline_of plan).flows (parts_of plan) n t) same
    (found_at (atoms_of 0 (tree_of plan.root)) (parts_of plan) 0 (flows_of 0 0 (tree_of plan.root)) (flow_trees (tree_of plan.root)) g t (plan_fits plan) is)

pub flow_nowhere : (plan : PlanValue) (g : ℕ) → numbering.flow plan g ≡ None → find_flow (outline_of plan).flows g ≡ None
flow_nowhere plan g is =
    let same : 0 + g ≡ g = omega arith in
    ap (find_flow (outline_of plan).flows) (sym same)
    ∙ none_at (atoms_of 0 (tree_of plan.root)) (parts_of plan) 0 (flows_of 0 0 (tree_of plan.root)) (flow_trees (tree_of plan.root)) g (plan_fits plan) is

-- ---- a number that no flow has

as_many : (parts : List Part) (g : ℕ) (places : List FlowPlace) (ts : List Tree) → AllFit parts g places ts → length places ≡ length ts
as_many parts g [] [] all = refl
as_many parts g [] (t ∷ ts) all = absurd all
as_many parts g (p ∷ ps) [] all = absurd all
as_many parts g (p ∷ ps) (t ∷ ts) all = ap suc (as_many parts (suc g) ps ts all.1)

get_over : (ts : List Tree) (k : ℕ) → length ts ≤ k → slice_get ts k ≡ None
get_over [] k whole = refl
get_over (t ∷ ts) zero whole = absurd (omega arith)
get_over (t ∷ ts) (suc k) whole = get_over ts k (omega arith)

pub no_flow : (plan : PlanValue) (g : ℕ) → length (numbering.flows plan) ≤ g → numbering.flow plan g ≡ None
no_flow plan g past_end =
    let named : length (map place_name (flows_of 0 0 (tree_of plan.root))) ≡ length (numbering.flows plan) = ap length (flows_told (tree_of plan.root) 0 0) in
    let counted : length (map place_name (flows_of 0 0 (tree_of plan.root))) ≡ length (flows_of 0 0 (tree_of plan.root)) = length-map (flows_of 0 0 (tree_of plan.root)) place_name in
    let trees : length (flows_of 0 0 (tree_of plan.root)) ≡ length (flow_trees (tree_of plan.root)) = as_many (parts_of plan) 0 (flows_of 0 0 (tree_of plan.root)) (flow_trees (tree_of plan.root)) (plan_fits plan) in
    get_over (flow_trees (tree_of plan.root)) g (omega (arith, past_end, named, counted, trees))

-- ---- the retry controller of a flow

pub control_of_flow : (f : FlowValue) → control_of (tree_of f) ≡ f.retry
control_of_flow f = ap control_of (tree_of-flow f)

pub links_of_flow : (f : FlowValue) → links_of (tree_of f) ≡ f.links
links_of_flow f = ap links_of (tree_of-flow f)

pub kind_of_flow : (f : FlowValue) → kind_of (tree_of f) ≡ Some f.kind
kind_of_flow f = ap kind_of (tree_of-flow f)

pub retry_nowhere : (plan : PlanValue) (g : ℕ) → numbering.flow plan g ≡ None → retry_of (outline_of plan) g ≡ None
retry_nowhere plan g is = ap retry_in (flow_nowhere plan g is)

none_stands : (parts : List Part) (o : Option ℕ) → StandsAt parts o None → o ≡ None
none_stands parts None stands = refl
none_stands parts (Some r) stands = absurd stands

pub no_retry : (plan : PlanValue) (g : ℕ) (f : FlowValue) → numbering.flow plan g ≡ Some (tree_of f) → f.retry ≡ None → retry_of (outline_of plan) g ≡ None
no_retry plan g f is none =
    let found = flow_there plan g (tree_of f) is in
    ap retry_in found.is ∙ none_stands (parts_of plan) found.flow.place.retry (subst (StandsAt (parts_of plan) found.flow.place.retry) (control_of_flow f ∙ none) found.fits.retry)

-- the retry controller of a flow, by its number
pub record StandsIn (plan : PlanValue) (g : ℕ) (control : Retry) : Type 0 where
  pub number : ℕ
  pub is : retry_of (outline_of plan) g ≡ Some number
  pub there : slice_get (parts_of plan) number ≡ Some (a_retry control)

pub record Standing (parts : List Part) (o : Option ℕ) (control : Retry) : Type 0 where
  pub number : ℕ
  pub is : o ≡ Some number
  pub there : slice_get parts number ≡ Some (a_retry control)

one_stands : (parts : List Part) (o : Option ℕ) (control : Retry) → StandsAt parts o (Some control) → Standing parts o control
one_stands parts None control stands = absurd stands
one_stands parts (Some r) control stands = record { number = r; is = refl; there = stands }

pub stands_in : (plan : PlanValue) (g : ℕ) (f : FlowValue) (control : Retry) → numbering.flow plan g ≡ Some (tree_of f) → f.retry ≡ Some control → StandsIn plan g control
stands_in plan g f control is some =
    let found = flow_there plan g (tree_of f) is in
    let stands = one_stands (parts_of plan) found.flow.place.retry control (subst (StandsAt (parts_of plan) found.flow.place.retry) (control_of_flow f ∙ some) found.fits.retry) in
    record { number = stands.number; is = ap retry_in found.is ∙ stands.is; there = stands.there }

retry_by : (o : Option Atom) (control : Retry) → option_map part_of o ≡ Some (a_retry control) → is_retry_in o ≡ true
retry_by None control is = absurd (cc)
retry_by (Some atom) control is = let same : atom.part ≡ a_retry control = cc in ap (λ (p : Part). is_retry_in (Some (record { path = atom.path; part = p }))) same

pub stands_retry : (plan : PlanValue) (r : ℕ) (control : Retry) → slice_get (parts_of plan) r ≡ Some (a_retry control) → is_retry (outline_of plan) r ≡ true
stands_retry plan r control there = retry_by (slice_get (outline_of plan).atoms r) control (sym (slice_get-map part_of (outline_of plan).atoms r) ∙ there)

name_by : (o : Option Atom) (control : Retry) → option_map part_of o ≡ Some (a_retry control) → option_map name_of_atom o ≡ Some control.name
name_by None control is = absurd (cc)
name_by (Some atom) control is = let same : atom.part ≡ a_retry control = cc in ap (λ (p : Part). Some (name_of p)) same

pub stands_named : (plan : PlanValue) (r : ℕ) (control : Retry) → slice_get (parts_of plan) r ≡ Some (a_retry control) → slice_get (numbering.atoms plan) r ≡ Some control.name
stands_named plan r control there =
    ap (λ (names : List (List ℕ)). slice_get names r) (sym (same_atoms plan))
    ∙ (slice_get-map name_of_atom (outline_of plan).atoms r
    ∙ name_by (slice_get (outline_of plan).atoms r) control (sym (slice_get-map part_of (outline_of plan).atoms r) ∙ there))
