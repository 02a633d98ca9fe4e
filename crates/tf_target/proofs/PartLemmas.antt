-- The atoms and the flows of what is kept of a plan, beside those of the whole.
use Rattle.std.proofs.Common.{◌≡◌, ◌≢◌, ◌∙◌, ℕ, zero, suc, ◌+◌, ◌-◌, ◌<◌, ◌≤◌, List, [], ◌∷◌, ◌++◌, map, length, true, false, Option, Some, None, refl, sym, ap, subst, inl, inr, ◌⊎◌, arith, eqb-true}
use Rattle.std.specs.Prelude.{nat_eq, option_map}
use Rattle.tf_flow.specs.Outline.{Atom, Standing, stands_task, stands_flow, Item, FlowPlace, flow_count, flows_among_count, retry_count, atom_count, atoms_among_count, enter, retry_atoms, atoms_of, atoms_among, retry_number, item_of, items_of, flows_of, flows_among, connection_of}
use Rattle.tf_flow.specs.Tree.{Tree, task, flow, Trees, no_trees, tree, Head}
use Rattle.tf_flow.specs.declared.atoms.Retry.{Retry}
use Rattle.tf_flow.specs.declared.paths.Turn.{Turn}
use Rattle.tf_model.specs.Before.{same_place, takes_item, passes_item}
use Rattle.tf_numbers.proofs.EquationLemmas.{ap2}
use Rattle.tf_numbers.proofs.ListLemmas.{map_append}
use Rattle.tf_numbers.proofs.TruthLemmas.{never_true, neither, and_first, and_second, second_false}

-- ---- the whole's numbers in paths and flows

-- the item of a turn: those of the root alone have other numbers
abbrev pub item_at : (ℕ → ℕ) → ℕ → ℕ → ℕ
item_at it zero v = it v
item_at it (suc g) v = v

abbrev pub item_in : (ℕ → ℕ) → ℕ → Option ℕ → Option ℕ
item_in it g item = option_map (item_at it g) item

abbrev pub whole_turn : (fl it : ℕ → ℕ) → Turn → Turn
whole_turn fl it x = record { flow = fl x.flow; item = item_in it x.flow x.item }

abbrev pub whole_atom : (fl it : ℕ → ℕ) → Atom → Atom
whole_atom fl it atom = record { path = map (whole_turn fl it) atom.path; part = atom.part }

abbrev pub whole_standing : (fl at : ℕ → ℕ) → Standing → Standing
whole_standing fl at (stands_task a) = stands_task (at a)
whole_standing fl at (stands_flow g) = stands_flow (fl g)

abbrev pub whole_item : (fl at : ℕ → ℕ) → Item → Item
whole_item fl at item = record { name = item.name; standing = whole_standing fl at item.standing }

abbrev pub whole_place : (fl at : ℕ → ℕ) → FlowPlace → FlowPlace
whole_place fl at p = record { number = fl p.number; name = p.name; kind = p.kind; retry = option_map at p.retry; control = p.control; items = map (whole_item fl at) p.items; links = p.links }

-- the numbers from one on go over into those from another on, so many of them
abbrev pub Shifts : (ℕ → ℕ) → ℕ → ℕ → ℕ → Type 0
Shifts f new old count = (x : ℕ) → x < count → f (new + x) ≡ old + x

shift_first : (f : ℕ → ℕ) (new old count : ℕ) → 0 < count → Shifts f new old count → f new ≡ old
shift_first f new old count some shifts = ap f (omega arith) ∙ (shifts 0 some ∙ omega arith)

shift_prefix : (f : ℕ → ℕ) (new old n m : ℕ) → Shifts f new old (n + m) → Shifts f new old n
shift_prefix f new old n m shifts x below = shifts x (omega (arith, below))

shift_back : (f : ℕ → ℕ) (new old n m : ℕ) → Shifts f new old (n + m) → Shifts f (new + n) (old + n) m
shift_back f new old n m shifts x below = ap f (omega arith) ∙ (shifts (n + x) (omega (arith, below)) ∙ omega arith)

shift_rest : (f : ℕ → ℕ) (new old m : ℕ) → Shifts f new old (1 + m) → Shifts f (suc new) (suc old) m
shift_rest f new old m shifts x below = ap f (omega arith) ∙ (shifts (1 + x) (omega (arith, below)) ∙ omega arith)

map_map : {X Y Z : Type 0} (f : X → Y) (g : Y → Z) (xs : List X) → map g (map f xs) ≡ map (λ x. g (f x)) xs
map_map f g [] = refl
map_map f g (x ∷ xs) = ap (λ zs. g (f x) ∷ zs) (map_map f g xs)

-- an atom of an item of a nested flow
enter_whole : (fl it : ℕ → ℕ) (g i : ℕ) (xs : List Atom) → map (enter (fl (suc g)) i) (map (whole_atom fl it) xs) ≡ map (whole_atom fl it) (map (enter (suc g) i) xs)
enter_whole fl it g i [] = refl
enter_whole fl it g i (x ∷ xs) = ap (λ ys. enter (fl (suc g)) i (whole_atom fl it x) ∷ ys) (enter_whole fl it g i xs)

retry_whole : (fl it : ℕ → ℕ) (g : ℕ) (r : Option Retry) → retry_atoms (fl (suc g)) r ≡ map (whole_atom fl it) (retry_atoms (suc g) r)
retry_whole fl it g None = refl
retry_whole fl it g (Some r) = refl

mutual
  pub atoms_whole : (fl it : ℕ → ℕ) (t : Tree) (new old : ℕ) → Shifts fl (suc new) old (flow_count t) → atoms_of old t ≡ map (whole_atom fl it) (atoms_of (suc new) t)
  atoms_whole fl it (task t) new old shifts = refl
  atoms_whole fl it (flow head items) new old shifts =
      let here : fl (suc new) ≡ old = shift_first fl (suc new) old (1 + flows_among_count items) (omega arith) shifts in
      ap2 (λ (xs ys : List Atom). xs ++ ys)
      (ap (λ (g : ℕ). retry_atoms g head.retry) (sym here) ∙ retry_whole fl it new head.retry)
      (ap (λ (g : ℕ). atoms_among g 0 (suc old) items) (sym here) ∙ atoms_whole_among fl it items new 0 (suc new) (suc old) (shift_rest fl (suc new) old (flows_among_count items) shifts))
      ∙ sym (map_append (whole_atom fl it) (retry_atoms (suc new) head.retry) (atoms_among (suc new) 0 (suc (suc new)) items))

  atoms_whole_among : (fl it : ℕ → ℕ) (ts : Trees) (g i new old : ℕ) → Shifts fl (suc new) old (flows_among_count ts) → atoms_among (fl (suc g)) i old ts ≡ map (whole_atom fl it) (atoms_among (suc g) i (suc new) ts)
  atoms_whole_among fl it no_trees g i new old shifts = refl
  atoms_whole_among fl it (tree first others) g i new old shifts =
      ap2 (λ (xs ys : List Atom). xs ++ ys)
      (ap (map (enter (fl (suc g)) i)) (atoms_whole fl it first new old (shift_prefix fl (suc new) old (flow_count first) (flows_among_count others) shifts)) ∙ enter_whole fl it g i (atoms_of (suc new) first))
      (atoms_whole_among fl it others g (suc i) (new + flow_count first) (old + flow_count first) (λ x below. ap fl (omega arith) ∙ shift_back fl (suc new) old (flow_count first) (flows_among_count others) shifts x below)
      ∙ ap (λ (n : ℕ). map (whole_atom fl it) (atoms_among (suc g) (suc i) n others)) (omega arith))
      ∙ sym (map_append (whole_atom fl it) (map (enter (suc g) i) (atoms_of (suc new) first)) (atoms_among (suc g) (suc i) (suc new + flow_count first) others))

pub item_whole : (fl at : ℕ → ℕ) (t : Tree) (new old a b : ℕ) → Shifts fl new old (flow_count t) → Shifts at a b (atom_count t) → item_of old b t ≡ whole_item fl at (item_of new a t)
item_whole fl at (task t) new old a b flows atoms = ap (λ (n : ℕ). record { name = t.name; standing = stands_task n }) (sym (shift_first at a b 1 (omega arith) atoms))
item_whole fl at (flow head items) new old a b flows atoms = ap (λ (n : ℕ). record { name = head.name; standing = stands_flow n }) (sym (shift_first fl new old (1 + flows_among_count items) (omega arith) flows))

items_whole : (fl at : ℕ → ℕ) (ts : Trees) (new old a b : ℕ) → Shifts fl new old (flows_among_count ts) → Shifts at a b (atoms_among_count ts) → items_of old b ts ≡ map (whole_item fl at) (items_of new a ts)
items_whole fl at no_trees new old a b flows atoms = refl
items_whole fl at (tree first others) new old a b flows atoms =
    ap2 (λ (x : Item) (xs : List Item). x ∷ xs)
    (item_whole fl at first new old a b (shift_prefix fl new old (flow_count first) (flows_among_count others) flows) (shift_prefix at a b (atom_count first) (atoms_among_count others) atoms))
    (items_whole fl at others (new + flow_count first) (old + flow_count first) (a + atom_count first) (b + atom_count first)
    (shift_back fl new old (flow_count first) (flows_among_count others) flows) (shift_back at a b (atom_count first) (atoms_among_count others) atoms))

retry_moved : (at : ℕ → ℕ) (r : Option Retry) (a b m : ℕ) → Shifts at a b (retry_count r + m) → retry_number b r ≡ option_map at (retry_number a r)
retry_moved at None a b m shifts = refl
retry_moved at (Some r) a b m shifts = ap Some (sym (shift_first at a b (1 + m) (omega arith) shifts))

abbrev placed : Head → ℕ → Option ℕ → List Item → FlowPlace
placed head g r items = record { number = g; name = head.name; kind = head.kind; retry = r; control = head.retry; items = items; links = map connection_of head.links }

same_placed : (head : Head) (g g' : ℕ) (r r' : Option ℕ) (items items' : List Item) → g ≡ g' → r ≡ r' → items ≡ items' → placed head g r items ≡ placed head g' r' items'
same_placed head g g' r r' items items' a b c =
    ap (λ (n : ℕ). placed head n r items) a ∙ (ap (λ (x : Option ℕ). placed head g' x items) b ∙ ap (placed head g' r') c)

mutual
  pub flows_whole : (fl at : ℕ → ℕ) (t : Tree) (new old a b : ℕ) → Shifts fl new old (flow_count t) → Shifts at a b (atom_count t) → flows_of old b t ≡ map (whole_place fl at) (flows_of new a t)
  flows_whole fl at (task t) new old a b flows atoms = refl
  flows_whole fl at (flow head items) new old a b flows atoms =
      let inside : Shifts fl (suc new) (suc old) (flows_among_count items) = shift_rest fl new old (flows_among_count items) flows in
      let behind : Shifts at (a + retry_count head.retry) (b + retry_count head.retry) (atoms_among_count items) = shift_back at a b (retry_count head.retry) (atoms_among_count items) atoms in
      ap2 (λ (x : FlowPlace) (xs : List FlowPlace). x ∷ xs)
      (same_placed head old (fl new) (retry_number b head.retry) (option_map at (retry_number a head.retry)) (items_of (suc old) (b + retry_count head.retry) items) (map (whole_item fl at) (items_of (suc new) (a + retry_count head.retry) items))
      (sym (shift_first fl new old (1 + flows_among_count items) (omega arith) flows)) (retry_moved at head.retry a b (atoms_among_count items) atoms)
      (items_whole fl at items (suc new) (suc old) (a + retry_count head.retry) (b + retry_count head.retry) inside behind))
      (flows_whole_among fl at items (suc new) (suc old) (a + retry_count head.retry) (b + retry_count head.retry) inside behind)

  flows_whole_among : (fl at : ℕ → ℕ) (ts : Trees) (new old a b : ℕ) → Shifts fl new old (flows_among_count ts) → Shifts at a b (atoms_among_count ts) → flows_among old b ts ≡ map (whole_place fl at) (flows_among new a ts)
  flows_whole_among fl at no_trees new old a b flows atoms = refl
  flows_whole_among fl at (tree first others) new old a b flows atoms =
      ap2 (λ (xs ys : List FlowPlace). xs ++ ys)
      (flows_whole fl at first new old a b (shift_prefix fl new old (flow_count first) (flows_among_count others) flows) (shift_prefix at a b (atom_count first) (atoms_among_count others) atoms))
      (flows_whole_among fl at others (new + flow_count first) (old + flow_count first) (a + atom_count first) (b + atom_count first)
      (shift_back fl new old (flow_count first) (flows_among_count others) flows) (shift_back at a b (atom_count first) (atoms_among_count others) atoms))
      ∙ sym (map_append (whole_place fl at) (flows_of new a first) (flows_among (new + flow_count first) (a + atom_count first) others))

-- ---- the flows of a tree are numbered from one number on

abbrev pub Between : ℕ → ℕ → List Turn → Type 0
Between low high [] = Unit {0}
Between low high (x ∷ xs) = (low ≤ x.flow) × (x.flow < high) × Between low high xs

abbrev pub AllBetween : ℕ → ℕ → List Atom → Type 0
AllBetween low high [] = Unit {0}
AllBetween low high (x ∷ xs) = Between low high x.path × AllBetween low high xs

between_wider : (low high less more : ℕ) (w : List Turn) → less ≤ low → high ≤ more → Between low high w → Between less more w
between_wider low high less more [] a b each = tt
between_wider low high less more (x ∷ xs) a b each = (omega (arith, a, each.0), omega (arith, b, each.1), between_wider low high less more xs a b each.2)

all_wider : (low high less more : ℕ) (xs : List Atom) → less ≤ low → high ≤ more → AllBetween low high xs → AllBetween less more xs
all_wider low high less more [] a b each = tt
all_wider low high less more (x ∷ xs) a b each = (between_wider low high less more x.path a b each.0, all_wider low high less more xs a b each.1)

all_both : (low high : ℕ) (xs ys : List Atom) → AllBetween low high xs → AllBetween low high ys → AllBetween low high (xs ++ ys)
all_both low high [] ys first second = second
all_both low high (x ∷ xs) ys first second = (first.0, all_both low high xs ys first.1 second)

all_entered : (low high g i : ℕ) (xs : List Atom) → low ≤ g → g < high → AllBetween low high xs → AllBetween low high (map (enter g i) xs)
all_entered low high g i [] a b each = tt
all_entered low high g i (x ∷ xs) a b each = ((a, b, each.0), all_entered low high g i xs a b each.1)

mutual
  pub flows_between : (t : Tree) (n : ℕ) → AllBetween n (n + flow_count t) (atoms_of n t)
  flows_between (task t) n = (tt, tt)
  flows_between (flow head items) n =
      all_both n (n + flow_count (flow head items)) (retry_atoms n head.retry) (atoms_among n 0 (suc n) items) (control head.retry)
      (among_between items n 0 (suc n) n (n + flow_count (flow head items)) (omega arith) (omega arith) (omega arith) (omega arith))
    where
      control : (r : Option Retry) → AllBetween n (n + (1 + flows_among_count items)) (retry_atoms n r)
      control None = tt
      control (Some r) = ((omega arith, omega arith, tt), tt)

  among_between : (ts : Trees) (g i n low high : ℕ) → low ≤ g → g < high → low ≤ n → n + flows_among_count ts ≤ high → AllBetween low high (atoms_among g i n ts)
  among_between no_trees g i n low high a b c d = tt
  among_between (tree first others) g i n low high a b c d =
      all_both low high (map (enter g i) (atoms_of n first)) (atoms_among g (suc i) (n + flow_count first) others)
      (all_entered low high g i (atoms_of n first) a b (all_wider n (n + flow_count first) low high (atoms_of n first) c (omega (arith, d)) (flows_between first n)))
      (among_between others g (suc i) (n + flow_count first) low high a b (omega (arith, c)) (omega (arith, d)))

-- ---- atoms that are kept, and those that are left out

-- the path leads through no item of the whole that is kept
abbrev pub Avoids : (fl it : ℕ → ℕ) → List Turn → Type 0
Avoids fl it path = (g : ℕ) (o : Option ℕ) → passes_item (fl g) (item_in it g o) path ≡ false

-- the atoms from one number on of what is kept are those of the whole from another on, of which some are left out
pub data AtomsMoved (fl at it : ℕ → ℕ) : ℕ → ℕ → List Atom → List Atom → Type 0 where
  all_moved : (a b : ℕ) → AtomsMoved fl at it a b [] []
  atom_kept : (a b : ℕ) (x : Atom) (y : Atom) (xs ys : List Atom) → at a ≡ b → y ≡ whole_atom fl it x → AtomsMoved fl at it (suc a) (suc b) xs ys → AtomsMoved fl at it a b (x ∷ xs) (y ∷ ys)
  atom_left : (a b : ℕ) (y : Atom) (xs ys : List Atom) → Avoids fl it y.path → AtomsMoved fl at it a (suc b) xs ys → AtomsMoved fl at it a b xs (y ∷ ys)

-- several that are kept before the others
pub kept_before : (fl at it : ℕ → ℕ) (xs : List Atom) (a b : ℕ) (left whole : List Atom) → Shifts at a b (length xs) → AtomsMoved fl at it (a + length xs) (b + length xs) left whole
    → AtomsMoved fl at it a b (xs ++ left) (map (whole_atom fl it) xs ++ whole)
kept_before fl at it [] a b left whole shifts rest = subst (λ (n : ℕ). AtomsMoved fl at it n b left whole) (omega arith) (subst (λ (n : ℕ). AtomsMoved fl at it (a + 0) n left whole) (omega arith) rest)
kept_before fl at it (x ∷ xs) a b left whole shifts rest =
    atom_kept a b x (whole_atom fl it x) (xs ++ left) (map (whole_atom fl it) xs ++ whole) (shift_first at a b (1 + length xs) (omega arith) (λ y below. shifts y (omega (arith, below)))) refl
    (kept_before fl at it xs (suc a) (suc b) left whole (shift_rest at a b (length xs) (λ y below. shifts y (omega (arith, below))))
    (subst (λ (n : ℕ). AtomsMoved fl at it n (suc b + length xs) left whole) (omega arith) (subst (λ (n : ℕ). AtomsMoved fl at it (a + length (x ∷ xs)) n left whole) (omega arith) rest)))

-- several that are left out before the others
abbrev AllAvoid : (fl it : ℕ → ℕ) → List Atom → Type 0
AllAvoid fl it [] = Unit {0}
AllAvoid fl it (x ∷ xs) = Avoids fl it x.path × AllAvoid fl it xs

pub left_before : (fl at it : ℕ → ℕ) (ys : List Atom) (a b : ℕ) (left whole : List Atom) → AllAvoid fl it ys → AtomsMoved fl at it a (b + length ys) left whole → AtomsMoved fl at it a b left (ys ++ whole)
left_before fl at it [] a b left whole each rest = subst (λ (n : ℕ). AtomsMoved fl at it a n left whole) (omega arith) rest
left_before fl at it (y ∷ ys) a b left whole each rest =
    atom_left a b y left (ys ++ whole) each.0
    (left_before fl at it ys a (suc b) left whole each.1 (subst (λ (n : ℕ). AtomsMoved fl at it a n left whole) (omega arith) rest))

-- a path through flows of which none is kept
avoids_between : (fl it : ℕ → ℕ) (low high : ℕ) (w : List Turn) → ((g : ℕ) → (fl g < low) ⊎ (high ≤ fl g)) → Between low high w → (g : ℕ) (o : Option ℕ) → passes_item (fl g) (item_in it g o) w ≡ false
avoids_between fl it low high [] apart each g o = refl
avoids_between fl it low high (x ∷ xs) apart each g o =
    neither (takes_item (fl g) (item_in it g o) x) (passes_item (fl g) (item_in it g o) xs)
    (never_true (takes_item (fl g) (item_in it g o) x) (λ on. far (apart g) (eqb-true x.flow (fl g) (and_first (nat_eq x.flow (fl g)) (same_place x.item (item_in it g o)) on))))
    (avoids_between fl it low high xs apart each.2 g o)
  where
    far : (fl g < low) ⊎ (high ≤ fl g) → x.flow ≡ fl g → ⊥
    far (inl below) same = absurd (omega (arith, below, same, each.0))
    far (inr above) same = absurd (omega (arith, above, same, each.1))

-- the atoms of an item of the root that is left out
pub entered_avoid : (fl it : ℕ → ℕ) (low high i : ℕ) (xs : List Atom) → fl 0 ≡ 0 → ((g : ℕ) → 0 < g → 0 < fl g) → ((v : ℕ) → it v ≢ i) → ((g : ℕ) → (fl g < low) ⊎ (high ≤ fl g)) → AllBetween low high xs → AllAvoid fl it (map (enter 0 i) xs)
entered_avoid fl it low high i [] root nested other apart each = tt
entered_avoid fl it low high i (x ∷ xs) root nested other apart each = (
  (λ g o. neither (takes_item (fl g) (item_in it g o) record { flow = 0; item = Some i }) (passes_item (fl g) (item_in it g o) x.path) (first g o) (avoids_between fl it low high x.path apart each.0 g o)),
  entered_avoid fl it low high i xs root nested other apart each.1,
)
  where
    first : (g : ℕ) (o : Option ℕ) → takes_item (fl g) (item_in it g o) record { flow = 0; item = Some i } ≡ false
    first g None = second_false (nat_eq 0 (fl g)) false refl
    first zero (Some v) = never_true (takes_item (fl 0) (Some (it v)) record { flow = 0; item = Some i }) (λ on. other v (sym (eqb-true i (it v) (and_second (nat_eq 0 (fl 0)) (nat_eq i (it v)) on))))
    first (suc g) (Some v) = never_true (takes_item (fl (suc g)) (Some v) record { flow = 0; item = Some i }) (λ on.
        let same : 0 ≡ fl (suc g) = eqb-true 0 (fl (suc g)) (and_first (nat_eq 0 (fl (suc g))) (nat_eq i v) on) in
        absurd (omega (arith, same, nested (suc g) (omega arith))))

-- ---- flows that are kept, and those that are left out

-- no number of what is kept becomes this one
abbrev pub Absent : (ℕ → ℕ) → ℕ → Type 0
Absent f x = (k : ℕ) → f k ≢ x

abbrev pub StandsAbsent : (fl at : ℕ → ℕ) → Standing → Type 0
StandsAbsent fl at (stands_task a) = Absent at a
StandsAbsent fl at (stands_flow g) = Absent fl g

abbrev pub ItemsAbsent : (fl at : ℕ → ℕ) → List Item → Type 0
ItemsAbsent fl at [] = Unit {0}
ItemsAbsent fl at (x ∷ xs) = StandsAbsent fl at x.standing × ItemsAbsent fl at xs

abbrev pub ControlAbsent : (ℕ → ℕ) → Option ℕ → Type 0
ControlAbsent at None = Unit {0}
ControlAbsent at (Some a) = Absent at a

-- nothing of the flow is kept
pub record LeftPlace (fl at : ℕ → ℕ) (q : FlowPlace) : Type 0 where
  pub control : ControlAbsent at q.retry
  pub items : ItemsAbsent fl at q.items

abbrev pub AllLeft : (fl at : ℕ → ℕ) → List FlowPlace → Type 0
AllLeft fl at [] = Unit {0}
AllLeft fl at (q ∷ qs) = LeftPlace fl at q × AllLeft fl at qs

-- the numbers of what is kept are none of these
abbrev pub Apart : (ℕ → ℕ) → ℕ → ℕ → Type 0
Apart f low high = (k : ℕ) → (f k < low) ⊎ (high ≤ f k)

pub absent_between : (f : ℕ → ℕ) (low high x : ℕ) → Apart f low high → low ≤ x → x < high → Absent f x
absent_between f low high x apart a b k same = far (apart k)
  where
    far : (f k < low) ⊎ (high ≤ f k) → ⊥
    far (inl below) = absurd (omega (arith, below, same, a))
    far (inr above) = absurd (omega (arith, above, same, b))

left_both : (fl at : ℕ → ℕ) (ps qs : List FlowPlace) → AllLeft fl at ps → AllLeft fl at qs → AllLeft fl at (ps ++ qs)
left_both fl at [] qs first second = second
left_both fl at (p ∷ ps) qs first second = (first.0, left_both fl at ps qs first.1 second)

pub item_absent : (fl at : ℕ → ℕ) (t : Tree) (n a low high lo hi : ℕ) → Apart fl low high → Apart at lo hi → low ≤ n → n + flow_count t ≤ high → lo ≤ a → a + atom_count t ≤ hi → StandsAbsent fl at (item_of n a t).standing
item_absent fl at (task t) n a low high lo hi flows atoms x y z w = absent_between at lo hi a atoms z (omega (arith, w))
item_absent fl at (flow head items) n a low high lo hi flows atoms x y z w = absent_between fl low high n flows x (omega (arith, y))

items_absent : (fl at : ℕ → ℕ) (ts : Trees) (n a low high lo hi : ℕ) → Apart fl low high → Apart at lo hi → low ≤ n → n + flows_among_count ts ≤ high → lo ≤ a → a + atoms_among_count ts ≤ hi → ItemsAbsent fl at (items_of n a ts)
items_absent fl at no_trees n a low high lo hi flows atoms x y z w = tt
items_absent fl at (tree first others) n a low high lo hi flows atoms x y z w = (
  item_absent fl at first n a low high lo hi flows atoms x (omega (arith, y)) z (omega (arith, w)),
  items_absent fl at others (n + flow_count first) (a + atom_count first) low high lo hi flows atoms (omega (arith, x)) (omega (arith, y)) (omega (arith, z)) (omega (arith, w)),
)

control_absent : (at : ℕ → ℕ) (r : Option Retry) (a lo hi : ℕ) → Apart at lo hi → lo ≤ a → a + retry_count r ≤ hi → ControlAbsent at (retry_number a r)
control_absent at None a lo hi atoms z w = tt
control_absent at (Some r) a lo hi atoms z w = absent_between at lo hi a atoms z (omega (arith, w))

mutual
  pub left_places : (fl at : ℕ → ℕ) (t : Tree) (n a low high lo hi : ℕ) → Apart fl low high → Apart at lo hi → low ≤ n → n + flow_count t ≤ high → lo ≤ a → a + atom_count t ≤ hi → AllLeft fl at (flows_of n a t)
  left_places fl at (task t) n a low high lo hi flows atoms x y z w = tt
  left_places fl at (flow head items) n a low high lo hi flows atoms x y z w = (
    record {
      control = control_absent at head.retry a lo hi atoms z (omega (arith, w));
      items = items_absent fl at items (suc n) (a + retry_count head.retry) low high lo hi flows atoms (omega (arith, x)) (omega (arith, y)) (omega (arith, z)) (omega (arith, w));
    },
    left_among fl at items (suc n) (a + retry_count head.retry) low high lo hi flows atoms (omega (arith, x)) (omega (arith, y)) (omega (arith, z)) (omega (arith, w)),
  )

  left_among : (fl at : ℕ → ℕ) (ts : Trees) (n a low high lo hi : ℕ) → Apart fl low high → Apart at lo hi → low ≤ n → n + flows_among_count ts ≤ high → lo ≤ a → a + atoms_among_count ts ≤ hi → AllLeft fl at (flows_among n a ts)
  left_among fl at no_trees n a low high lo hi flows atoms x y z w = tt
  left_among fl at (tree first others) n a low high lo hi flows atoms x y z w =
      left_both fl at (flows_of n a first) (flows_among (n + flow_count first) (a + atom_count first) others)
      (left_places fl at first n a low high lo hi flows atoms x (omega (arith, y)) z (omega (arith, w)))
      (left_among fl at others (n + flow_count first) (a + atom_count first) low high lo hi flows atoms (omega (arith, x)) (omega (arith, y)) (omega (arith, z)) (omega (arith, w)))

pub data PlacesMoved (fl at : ℕ → ℕ) : List FlowPlace → List FlowPlace → Type 0 where
  all_placed : PlacesMoved fl at [] []
  place_kept : (p q : FlowPlace) (ps qs : List FlowPlace) → q ≡ whole_place fl at p → 0 < p.number → PlacesMoved fl at ps qs → PlacesMoved fl at (p ∷ ps) (q ∷ qs)
  place_left : (q : FlowPlace) (ps qs : List FlowPlace) → ((g : ℕ) → fl g ≢ q.number) → 0 < q.number → LeftPlace fl at q → PlacesMoved fl at ps qs → PlacesMoved fl at ps (q ∷ qs)

abbrev NumbersBetween : ℕ → ℕ → List FlowPlace → Type 0
NumbersBetween low high [] = Unit {0}
NumbersBetween low high (p ∷ ps) = (low ≤ p.number) × (p.number < high) × NumbersBetween low high ps

numbers_wider : (low high less more : ℕ) (ps : List FlowPlace) → less ≤ low → high ≤ more → NumbersBetween low high ps → NumbersBetween less more ps
numbers_wider low high less more [] a b each = tt
numbers_wider low high less more (p ∷ ps) a b each = (omega (arith, a, each.0), omega (arith, b, each.1), numbers_wider low high less more ps a b each.2)

numbers_both : (low high : ℕ) (ps qs : List FlowPlace) → NumbersBetween low high ps → NumbersBetween low high qs → NumbersBetween low high (ps ++ qs)
numbers_both low high [] qs first second = second
numbers_both low high (p ∷ ps) qs first second = (first.0, first.1, numbers_both low high ps qs first.2 second)

mutual
  pub numbers_between : (t : Tree) (n a : ℕ) → NumbersBetween n (n + flow_count t) (flows_of n a t)
  numbers_between (task t) n a = tt
  numbers_between (flow head items) n a = (omega arith, omega arith, numbers_wider (suc n) (suc n + flows_among_count items) n (n + (1 + flows_among_count items)) (flows_among (suc n) (a + retry_count head.retry) items) (omega arith) (omega arith) (numbers_among items (suc n) (a + retry_count head.retry)))

  numbers_among : (ts : Trees) (n a : ℕ) → NumbersBetween n (n + flows_among_count ts) (flows_among n a ts)
  numbers_among no_trees n a = tt
  numbers_among (tree first others) n a =
      numbers_both n (n + (flow_count first + flows_among_count others)) (flows_of n a first) (flows_among (n + flow_count first) (a + atom_count first) others)
      (numbers_wider n (n + flow_count first) n (n + (flow_count first + flows_among_count others)) (flows_of n a first) (omega arith) (omega arith) (numbers_between first n a))
      (numbers_wider (n + flow_count first) (n + flow_count first + flows_among_count others) n (n + (flow_count first + flows_among_count others)) (flows_among (n + flow_count first) (a + atom_count first) others) (omega arith) (omega arith) (numbers_among others (n + flow_count first) (a + atom_count first)))

pub places_before : (fl at : ℕ → ℕ) (low high : ℕ) (ps left whole : List FlowPlace) → 0 < low → NumbersBetween low high ps → PlacesMoved fl at left whole → PlacesMoved fl at (ps ++ left) (map (whole_place fl at) ps ++ whole)
places_before fl at low high [] left whole some each rest = rest
places_before fl at low high (p ∷ ps) left whole some each rest =
    place_kept p (whole_place fl at p) (ps ++ left) (map (whole_place fl at) ps ++ whole) refl (omega (arith, some, each.0)) (places_before fl at low high ps left whole some each.2 rest)

pub places_past : (fl at : ℕ → ℕ) (low high : ℕ) (qs left whole : List FlowPlace) → 0 < low → Apart fl low high → NumbersBetween low high qs → AllLeft fl at qs → PlacesMoved fl at left whole → PlacesMoved fl at left (qs ++ whole)
places_past fl at low high [] left whole some apart each gone rest = rest
places_past fl at low high (q ∷ qs) left whole some apart each gone rest =
    place_left q left (qs ++ whole) (absent_between fl low high q.number apart each.0 each.1) (omega (arith, some, each.0)) gone.0 (places_past fl at low high qs left whole some apart each.2 gone.1 rest)
