-- The items of a plan's root one after another, beside those that are kept.
use Rattle.std.proofs.Common.{◌≡◌, ◌≢◌, ◌∙◌, ℕ, zero, suc, ◌+◌, ◌-◌, ◌<◌, ◌≤◌, List, [], ◌∷◌, ◌++◌, map, length, Bool, true, false, refl, sym, ap, subst, inl, inr, ◌⊎◌, arith, Option, Some, None, slice_get}
use Rattle.std.proofs.lemmas.Bool.{cases_lt}
use Rattle.std.proofs.lemmas.List.{length-map}
use Rattle.tf_flow.proofs.ListingLemmas.{length_atoms}
use Rattle.std.specs.Prelude.{option_map}
use Rattle.tf_flow.specs.Outline.{Atom, Item, items_of, FlowPlace, flow_count, atom_count, enter, atoms_of, atoms_among, flows_of, flows_among}
use Rattle.tf_flow.specs.Tree.{Tree, Trees, no_trees, tree}
use Rattle.tf_numbers.proofs.EquationLemmas.{ap2}
use Rattle.tf_numbers.proofs.TruthLemmas.{either_way}
use Rattle.tf_target.specs.Target.{keep_first, kept_among}
use Rattle.tf_target.proofs.MoveLemmas.{moved_by, moved, size_of, here_or_behind, behind_here, moved_from}
use Rattle.tf_target.proofs.PartLemmas.{whole_atom, whole_item, whole_place, item_whole, Shifts, atoms_whole, flows_whole, flows_between, entered_avoid, AtomsMoved, all_moved, kept_before, left_before, PlacesMoved, all_placed, numbers_between, places_before, places_past, left_places, item_absent, StandsAbsent}

-- an item is one
abbrev pub one : Tree → ℕ
one t = 1

-- the numbers of the items that are still to come, and of their flows and atoms, in what is kept and in the whole
pub record Tail (fl at it : ℕ → ℕ) (test : ℕ → Bool) (ts : Trees) (i' i n' n a' a : ℕ) : Type 0 where
  pub items : (x : ℕ) → i' ≤ x → it x ≡ moved one test ts i i' x
  pub items_low : (x : ℕ) → x < i' → it x < i
  pub flows : (x : ℕ) → n' ≤ x → fl x ≡ moved flow_count test ts n n' x
  pub flows_low : (x : ℕ) → x < n' → fl x < n
  pub atoms : (x : ℕ) → a' ≤ x → at x ≡ moved atom_count test ts a a' x
  pub atoms_low : (x : ℕ) → x < a' → at x < a

-- the function on numbers at an item that is kept, behind it, and at one that is left out
at_kept : (size : Tree → ℕ) (test : ℕ → Bool) (first : Tree) (others : Trees) (old new x : ℕ) → test 0 ≡ true → x < new + size first → moved size test (tree first others) old new x ≡ old + (x - new)
at_kept size test first others old new x on_here below =
    ap (λ b. moved_by b (size first) old new x (moved size (λ u. test (suc u)) others (old + size first) (new + size first) x) (moved size (λ u. test (suc u)) others (old + size first) new x)) on_here
    ∙ here_or_behind (size first) old new x (moved size (λ u. test (suc u)) others (old + size first) (new + size first) x) (moved size (λ u. test (suc u)) others (old + size first) new x) below

behind_kept : (size : Tree → ℕ) (test : ℕ → Bool) (first : Tree) (others : Trees) (old new x : ℕ) → test 0 ≡ true → new + size first ≤ x
    → moved size test (tree first others) old new x ≡ moved size (λ u. test (suc u)) others (old + size first) (new + size first) x
behind_kept size test first others old new x on_here from =
    ap (λ b. moved_by b (size first) old new x (moved size (λ u. test (suc u)) others (old + size first) (new + size first) x) (moved size (λ u. test (suc u)) others (old + size first) new x)) on_here
    ∙ behind_here (size first) old new x (moved size (λ u. test (suc u)) others (old + size first) (new + size first) x) (moved size (λ u. test (suc u)) others (old + size first) new x) from

past_left : (size : Tree → ℕ) (test : ℕ → Bool) (first : Tree) (others : Trees) (old new x : ℕ) → test 0 ≡ false
    → moved size test (tree first others) old new x ≡ moved size (λ u. test (suc u)) others (old + size first) new x
past_left size test first others old new x off_here =
    ap (λ b. moved_by b (size first) old new x (moved size (λ u. test (suc u)) others (old + size first) (new + size first) x) (moved size (λ u. test (suc u)) others (old + size first) new x)) off_here

low_kept : (size : Tree → ℕ) (test : ℕ → Bool) (first : Tree) (others : Trees) (f : ℕ → ℕ) (old new : ℕ) → test 0 ≡ true → ((x : ℕ) → new ≤ x → f x ≡ moved size test (tree first others) old new x) → ((x : ℕ) → x < new → f x < old)
    → (x : ℕ) → x < new + size first → f x < old + size first
low_kept size test first others f old new on_here is low x below = elim (cases_lt x new) [
  | inl less ↦ omega (arith, low x less)
  | inr from ↦ omega (arith, is x from, at_kept size test first others old new x on_here below, from, below)
]

kept_tail : (fl at it : ℕ → ℕ) (test : ℕ → Bool) (first : Tree) (others : Trees) (i' i n' n a' a : ℕ) → test 0 ≡ true → Tail fl at it test (tree first others) i' i n' n a' a
    → Tail fl at it (λ u. test (suc u)) others (i' + 1) (i + 1) (n' + flow_count first) (n + flow_count first) (a' + atom_count first) (a + atom_count first)
kept_tail fl at it test first others i' i n' n a' a on_here tail = record {
  items = λ x from. tail.items x (omega (arith, from)) ∙ behind_kept one test first others i i' x on_here from;
  items_low = low_kept one test first others it i i' on_here tail.items tail.items_low;
  flows = λ x from. tail.flows x (omega (arith, from)) ∙ behind_kept flow_count test first others n n' x on_here from;
  flows_low = low_kept flow_count test first others fl n n' on_here tail.flows tail.flows_low;
  atoms = λ x from. tail.atoms x (omega (arith, from)) ∙ behind_kept atom_count test first others a a' x on_here from;
  atoms_low = low_kept atom_count test first others at a a' on_here tail.atoms tail.atoms_low;
}

left_tail : (fl at it : ℕ → ℕ) (test : ℕ → Bool) (first : Tree) (others : Trees) (i' i n' n a' a : ℕ) → test 0 ≡ false → Tail fl at it test (tree first others) i' i n' n a' a
    → Tail fl at it (λ u. test (suc u)) others i' (i + 1) n' (n + flow_count first) a' (a + atom_count first)
left_tail fl at it test first others i' i n' n a' a off_here tail = record {
  items = λ x from. tail.items x from ∙ past_left one test first others i i' x off_here;
  items_low = λ x below. omega (arith, tail.items_low x below);
  flows = λ x from. tail.flows x from ∙ past_left flow_count test first others n n' x off_here;
  flows_low = λ x below. omega (arith, tail.flows_low x below);
  atoms = λ x from. tail.atoms x from ∙ past_left atom_count test first others a a' x off_here;
  atoms_low = λ x below. omega (arith, tail.atoms_low x below);
}

-- the numbers of the flows and atoms of an item that is kept
shifts_kept : (size : Tree → ℕ) (test : ℕ → Bool) (first : Tree) (others : Trees) (f : ℕ → ℕ) (old new : ℕ) → test 0 ≡ true → ((x : ℕ) → new ≤ x → f x ≡ moved size test (tree first others) old new x) → Shifts f new old (size first)
shifts_kept size test first others f old new on_here is x below = is (new + x) (omega arith) ∙ (at_kept size test first others old new (new + x) on_here (omega (arith, below)) ∙ omega arith)

-- no number of what is kept is one of an item that is left out
apart_left : (size : Tree → ℕ) (test : ℕ → Bool) (first : Tree) (others : Trees) (f : ℕ → ℕ) (old new : ℕ) → test 0 ≡ false → ((x : ℕ) → new ≤ x → f x ≡ moved size test (tree first others) old new x) → ((x : ℕ) → x < new → f x < old)
    → (x : ℕ) → (f x < old) ⊎ (old + size first ≤ f x)
apart_left size test first others f old new off_here is low x = elim (cases_lt x new) [
  | inl less ↦ inl (low x less)
  | inr from ↦ inr (omega (arith, is x from, past_left size test first others old new x off_here, moved_from size (λ u. test (suc u)) others (old + size first) new x from))
]

enter_root : (fl it : ℕ → ℕ) (i' i : ℕ) (xs : List Atom) → fl 0 ≡ 0 → it i' ≡ i → map (enter 0 i) (map (whole_atom fl it) xs) ≡ map (whole_atom fl it) (map (enter 0 i') xs)
enter_root fl it i' i [] root is = refl
enter_root fl it i' i (x ∷ xs) root is =
    ap2 (λ (y : Atom) (ys : List Atom). y ∷ ys) (ap2 (λ (g u : ℕ). enter g u (whole_atom fl it x)) (sym root) (sym is)) (enter_root fl it i' i xs root is)

pub tail_atoms : (fl at it : ℕ → ℕ) (test : ℕ → Bool) (ts : Trees) (i' i n' n a' a : ℕ) → fl 0 ≡ 0 → ((g : ℕ) → 0 < g → 0 < fl g) → Tail fl at it test ts i' i (suc n') n a' a
    → AtomsMoved fl at it a' a (atoms_among 0 i' (suc n') (kept_among test ts)) (atoms_among 0 i n ts)
tail_atoms fl at it test no_trees i' i n' n a' a root nested tail = all_moved a' a
tail_atoms fl at it test (tree first others) i' i n' n a' a root nested tail = elim (either_way (test 0)) [
  | inl on_here ↦
      let kept : Trees = kept_among (λ u. test (suc u)) others in
      let rest : AtomsMoved fl at it (a' + atom_count first) (a + atom_count first) (atoms_among 0 (i' + 1) (suc (n' + flow_count first)) kept) (atoms_among 0 (i + 1) (n + flow_count first) others) =
      tail_atoms fl at it (λ u. test (suc u)) others (i' + 1) (i + 1) (n' + flow_count first) (n + flow_count first) (a' + atom_count first) (a + atom_count first) root nested
      (subst (λ (m : ℕ). Tail fl at it (λ u. test (suc u)) others (i' + 1) (i + 1) m (n + flow_count first) (a' + atom_count first) (a + atom_count first)) (omega arith) (kept_tail fl at it test first others i' i (suc n') n a' a on_here tail)) in
      let placed : it i' ≡ i = tail.items i' (omega arith) ∙ (at_kept one test first others i i' i' on_here (omega arith) ∙ omega arith) in
      let own : map (enter 0 i) (atoms_of n first) ≡ map (whole_atom fl it) (map (enter 0 i') (atoms_of (suc n') first)) =
      ap (map (enter 0 i)) (atoms_whole fl it first n' n (shifts_kept flow_count test first others fl n (suc n') on_here tail.flows)) ∙ enter_root fl it i' i (atoms_of (suc n') first) root placed in
      let count : length (map (enter 0 i') (atoms_of (suc n') first)) ≡ atom_count first = length-map (atoms_of (suc n') first) (enter 0 i') ∙ length_atoms (suc n') first in
      subst (λ b. AtomsMoved fl at it a' a (atoms_among 0 i' (suc n') (keep_first b first kept)) (atoms_among 0 i n (tree first others))) (sym on_here)
      (subst (λ (ys : List Atom). AtomsMoved fl at it a' a (map (enter 0 i') (atoms_of (suc n') first) ++ atoms_among 0 (suc i') (suc n' + flow_count first) kept) (ys ++ atoms_among 0 (suc i) (n + flow_count first) others)) (sym own)
      (kept_before fl at it (map (enter 0 i') (atoms_of (suc n') first)) a' a (atoms_among 0 (suc i') (suc n' + flow_count first) kept) (atoms_among 0 (suc i) (n + flow_count first) others)
      (subst (Shifts at a' a) (sym count) (shifts_kept atom_count test first others at a a' on_here tail.atoms))
      (again fl at it a' a i' i (suc (n' + flow_count first)) (suc n' + flow_count first) (n + flow_count first) (atom_count first) (length (map (enter 0 i') (atoms_of (suc n') first))) kept others count (omega arith) rest)))
  | inr off_here ↦
      let kept : Trees = kept_among (λ u. test (suc u)) others in
      let rest : AtomsMoved fl at it a' (a + atom_count first) (atoms_among 0 i' (suc n') kept) (atoms_among 0 (i + 1) (n + flow_count first) others) =
      tail_atoms fl at it (λ u. test (suc u)) others i' (i + 1) n' (n + flow_count first) a' (a + atom_count first) root nested (left_tail fl at it test first others i' i (suc n') n a' a off_here tail) in
      let count : length (map (enter 0 i) (atoms_of n first)) ≡ atom_count first = length-map (atoms_of n first) (enter 0 i) ∙ length_atoms n first in
      let other : (v : ℕ) → it v ≢ i = λ v same. not_here it i v (apart_left one test first others it i i' off_here tail.items tail.items_low v) same in
      subst (λ b. AtomsMoved fl at it a' a (atoms_among 0 i' (suc n') (keep_first b first kept)) (atoms_among 0 i n (tree first others))) (sym off_here)
      (left_before fl at it (map (enter 0 i) (atoms_of n first)) a' a (atoms_among 0 i' (suc n') kept) (atoms_among 0 (suc i) (n + flow_count first) others)
      (entered_avoid fl it n (n + flow_count first) i (atoms_of n first) root nested other (apart_left flow_count test first others fl n (suc n') off_here tail.flows tail.flows_low) (flows_between first n))
      (subst (λ (m : ℕ). AtomsMoved fl at it a' (a + m) (atoms_among 0 i' (suc n') kept) (atoms_among 0 (suc i) (n + flow_count first) others)) (sym count)
      (subst (λ (m : ℕ). AtomsMoved fl at it a' (a + atom_count first) (atoms_among 0 i' (suc n') kept) (atoms_among 0 m (n + flow_count first) others)) (omega arith) rest)))
]
  where
    again : (fl at it : ℕ → ℕ) (a' a i' i n n' m c d : ℕ) (kept others : Trees) → d ≡ c → n ≡ n'
        → AtomsMoved fl at it (a' + c) (a + c) (atoms_among 0 (i' + 1) n kept) (atoms_among 0 (i + 1) m others) → AtomsMoved fl at it (a' + d) (a + d) (atoms_among 0 (suc i') n' kept) (atoms_among 0 (suc i) m others)
    again fl at it a' a i' i n n' m c d kept others same flows rest =
        subst (λ (k : ℕ). AtomsMoved fl at it (a' + k) (a + k) (atoms_among 0 (suc i') n' kept) (atoms_among 0 (suc i) m others)) (sym same)
        (subst (λ (k : ℕ). AtomsMoved fl at it (a' + c) (a + c) (atoms_among 0 (suc i') k kept) (atoms_among 0 (suc i) m others)) flows
        (subst (λ (k : ℕ). AtomsMoved fl at it (a' + c) (a + c) (atoms_among 0 k n kept) (atoms_among 0 (suc i) m others)) (omega arith)
        (subst (λ (k : ℕ). AtomsMoved fl at it (a' + c) (a + c) (atoms_among 0 (i' + 1) n kept) (atoms_among 0 k m others)) (omega arith) rest)))

    not_here : (it : ℕ → ℕ) (i v : ℕ) → (it v < i) ⊎ (i + 1 ≤ it v) → it v ≡ i → ⊥
    not_here it i v (inl below) same = absurd (omega (arith, below, same))
    not_here it i v (inr above) same = absurd (omega (arith, above, same))

pub tail_places : (fl at it : ℕ → ℕ) (test : ℕ → Bool) (ts : Trees) (i' i n' n a' a : ℕ) → 0 < n' → 0 < n → Tail fl at it test ts i' i n' n a' a
    → PlacesMoved fl at (flows_among n' a' (kept_among test ts)) (flows_among n a ts)
tail_places fl at it test no_trees i' i n' n a' a some there tail = all_placed
tail_places fl at it test (tree first others) i' i n' n a' a some there tail = elim (either_way (test 0)) [
  | inl on_here ↦
      let kept : Trees = kept_among (λ u. test (suc u)) others in
      let rest : PlacesMoved fl at (flows_among (n' + flow_count first) (a' + atom_count first) kept) (flows_among (n + flow_count first) (a + atom_count first) others) =
      tail_places fl at it (λ u. test (suc u)) others (i' + 1) (i + 1) (n' + flow_count first) (n + flow_count first) (a' + atom_count first) (a + atom_count first) (omega (arith, some)) (omega (arith, there)) (kept_tail fl at it test first others i' i n' n a' a on_here tail) in
      let own : flows_of n a first ≡ map (whole_place fl at) (flows_of n' a' first) =
      flows_whole fl at first n' n a' a (shifts_kept flow_count test first others fl n n' on_here tail.flows) (shifts_kept atom_count test first others at a a' on_here tail.atoms) in
      subst (λ b. PlacesMoved fl at (flows_among n' a' (keep_first b first kept)) (flows_among n a (tree first others))) (sym on_here)
      (subst (λ (qs : List FlowPlace). PlacesMoved fl at (flows_of n' a' first ++ flows_among (n' + flow_count first) (a' + atom_count first) kept) (qs ++ flows_among (n + flow_count first) (a + atom_count first) others)) (sym own)
      (places_before fl at n' (n' + flow_count first) (flows_of n' a' first) (flows_among (n' + flow_count first) (a' + atom_count first) kept) (flows_among (n + flow_count first) (a + atom_count first) others) some (numbers_between first n' a') rest))
  | inr off_here ↦
      let kept : Trees = kept_among (λ u. test (suc u)) others in
      let rest : PlacesMoved fl at (flows_among n' a' kept) (flows_among (n + flow_count first) (a + atom_count first) others) =
      tail_places fl at it (λ u. test (suc u)) others i' (i + 1) n' (n + flow_count first) a' (a + atom_count first) some (omega (arith, there)) (left_tail fl at it test first others i' i n' n a' a off_here tail) in
      subst (λ b. PlacesMoved fl at (flows_among n' a' (keep_first b first kept)) (flows_among n a (tree first others))) (sym off_here)
      (places_past fl at n (n + flow_count first) (flows_of n a first) (flows_among n' a' kept) (flows_among (n + flow_count first) (a + atom_count first) others) there
      (apart_left flow_count test first others fl n n' off_here tail.flows tail.flows_low) (numbers_between first n a)
      (left_places fl at first n a n (n + flow_count first) a (a + atom_count first) (apart_left flow_count test first others fl n n' off_here tail.flows tail.flows_low) (apart_left atom_count test first others at a a' off_here tail.atoms tail.atoms_low) (omega arith) (omega arith) (omega arith) (omega arith)) rest)
]

-- ---- items

pub items_sized : (n a : ℕ) (ts : Trees) → length (items_of n a ts) ≡ size_of one ts
items_sized n a no_trees = refl
items_sized n a (tree first others) = omega (arith, items_sized (n + flow_count first) (a + atom_count first) others)

-- an item of what is kept, in the whole
pub record ItemFound (fl at : ℕ → ℕ) (test : ℕ → Bool) (ts : Trees) (i n a x : ℕ) (item : Option Item) : Type 0 where
  pub from : i ≤ x
  pub below : x < i + size_of one ts
  pub tested : test (x - i) ≡ true
  pub is : slice_get (items_of n a ts) (x - i) ≡ option_map (whole_item fl at) item

item_behind : (fl at : ℕ → ℕ) (test : ℕ → Bool) (first : Tree) (others : Trees) (i n a x : ℕ) (item : Option Item) → ItemFound fl at (λ u. test (suc u)) others (i + 1) (n + flow_count first) (a + atom_count first) x item
    → ItemFound fl at test (tree first others) i n a x item
item_behind fl at test first others i n a x item found =
    let low : i + 1 ≤ x = found.from in
    let e : x - i ≡ suc (x - (i + 1)) = omega (arith, low) in
    record {
      from = omega (arith, low);
      below = omega (arith, found.below);
      tested = ap test e ∙ found.tested;
      is = ap (slice_get (items_of n a (tree first others))) e ∙ found.is;
    }

pub tail_item : (fl at it : ℕ → ℕ) (test : ℕ → Bool) (ts : Trees) (i' i n' n a' a k : ℕ) → Tail fl at it test ts i' i n' n a' a → k < size_of one (kept_among test ts)
    → ItemFound fl at test ts i n a (it (i' + k)) (slice_get (items_of n' a' (kept_among test ts)) k)
tail_item fl at it test no_trees i' i n' n a' a k tail below = absurd (omega (arith, below))
tail_item fl at it test (tree first others) i' i n' n a' a k tail below = elim (either_way (test 0)) [
  | inl on_here ↦
      let kept : Trees = kept_among (λ u. test (suc u)) others in
      let under : k < size_of one (tree first kept) = subst (λ b. k < size_of one (keep_first b first kept)) on_here below in
      subst (λ b. ItemFound fl at test (tree first others) i n a (it (i' + k)) (slice_get (items_of n' a' (keep_first b first kept)) k)) (sym on_here)
      (by_number fl at it test first others kept i' i n' n a' a k on_here tail under
      (λ j less. tail_item fl at it (λ u. test (suc u)) others (i' + 1) (i + 1) (n' + flow_count first) (n + flow_count first) (a' + atom_count first) (a + atom_count first) j (kept_tail fl at it test first others i' i n' n a' a on_here tail) less))
  | inr off_here ↦
      let kept : Trees = kept_among (λ u. test (suc u)) others in
      let under : k < size_of one kept = subst (λ b. k < size_of one (keep_first b first kept)) off_here below in
      subst (λ b. ItemFound fl at test (tree first others) i n a (it (i' + k)) (slice_get (items_of n' a' (keep_first b first kept)) k)) (sym off_here)
      (item_behind fl at test first others i n a (it (i' + k)) (slice_get (items_of n' a' kept) k)
      (tail_item fl at it (λ u. test (suc u)) others i' (i + 1) n' (n + flow_count first) a' (a + atom_count first) k (left_tail fl at it test first others i' i n' n a' a off_here tail) under))
]
  where
    by_number : (fl at it : ℕ → ℕ) (test : ℕ → Bool) (first : Tree) (others kept : Trees) (i' i n' n a' a k : ℕ) → test 0 ≡ true → Tail fl at it test (tree first others) i' i n' n a' a → k < size_of one (tree first kept)
        → ((j : ℕ) → j < size_of one kept → ItemFound fl at (λ u. test (suc u)) others (i + 1) (n + flow_count first) (a + atom_count first) (it (i' + 1 + j)) (slice_get (items_of (n' + flow_count first) (a' + atom_count first) kept) j))
        → ItemFound fl at test (tree first others) i n a (it (i' + k)) (slice_get (items_of n' a' (tree first kept)) k)
    by_number fl at it test first others kept i' i n' n a' a zero on_here tail below rest =
        let here : it (i' + 0) ≡ i = tail.items (i' + 0) (omega arith) ∙ (at_kept one test first others i i' (i' + 0) on_here (omega arith) ∙ omega arith) in
        let none : it (i' + 0) - i ≡ 0 = omega (arith, here) in
        record {
          from = omega (arith, here);
          below = omega (arith, here);
          tested = ap test none ∙ on_here;
          is = ap (slice_get (items_of n a (tree first others))) none ∙ ap Some (item_whole fl at first n' n a' a (shifts_kept flow_count test first others fl n n' on_here tail.flows) (shifts_kept atom_count test first others at a a' on_here tail.atoms));
        }
    by_number fl at it test first others kept i' i n' n a' a (suc j) on_here tail below rest =
        subst (λ (x : ℕ). ItemFound fl at test (tree first others) i n a x (slice_get (items_of (n' + flow_count first) (a' + atom_count first) kept) j)) (ap it (omega arith))
        (item_behind fl at test first others i n a (it (i' + 1 + j)) (slice_get (items_of (n' + flow_count first) (a' + atom_count first) kept) j) (rest j (omega (arith, below))))

-- an item of the whole at which the test passes is one of what is kept
pub tail_found : (fl at it : ℕ → ℕ) (test : ℕ → Bool) (ts : Trees) (i' i n' n a' a k : ℕ) → Tail fl at it test ts i' i n' n a' a → k < size_of one ts → test k ≡ true
    → (j : ℕ) × (j < size_of one (kept_among test ts)) × (it (i' + j) ≡ i + k)
tail_found fl at it test no_trees i' i n' n a' a k tail below on = absurd (omega (arith, below))
tail_found fl at it test (tree first others) i' i n' n a' a zero tail below on =
    subst (λ b. (j : ℕ) × (j < size_of one (keep_first b first (kept_among (λ u. test (suc u)) others))) × (it (i' + j) ≡ i + 0)) (sym on)
    (0, omega arith, tail.items (i' + 0) (omega arith) ∙ (at_kept one test first others i i' (i' + 0) on (omega arith) ∙ omega arith))
tail_found fl at it test (tree first others) i' i n' n a' a (suc k) tail below on = elim (either_way (test 0)) [
  | inl on_here ↦
      let found = tail_found fl at it (λ u. test (suc u)) others (i' + 1) (i + 1) (n' + flow_count first) (n + flow_count first) (a' + atom_count first) (a + atom_count first) k (kept_tail fl at it test first others i' i n' n a' a on_here tail) (omega (arith, below)) on in
      subst (λ b. (j : ℕ) × (j < size_of one (keep_first b first (kept_among (λ u. test (suc u)) others))) × (it (i' + j) ≡ i + suc k)) (sym on_here)
      (suc found.0, omega (arith, found.1), ap it (omega arith) ∙ (found.2 ∙ omega arith))
  | inr off_here ↦
      let found = tail_found fl at it (λ u. test (suc u)) others i' (i + 1) n' (n + flow_count first) a' (a + atom_count first) k (left_tail fl at it test first others i' i n' n a' a off_here tail) (omega (arith, below)) on in
      subst (λ b. (j : ℕ) × (j < size_of one (keep_first b first (kept_among (λ u. test (suc u)) others))) × (it (i' + j) ≡ i + suc k)) (sym off_here)
      (found.0, found.1, found.2 ∙ omega arith)
]

-- an item of the whole at which the test fails isn't one of what is kept
abbrev pub IsAbsentAt : (fl at : ℕ → ℕ) → Option Item → Type 0
IsAbsentAt fl at None = Unit {0}
IsAbsentAt fl at (Some item) = StandsAbsent fl at item.standing

pub tail_absent : (fl at it : ℕ → ℕ) (test : ℕ → Bool) (ts : Trees) (i' i n' n a' a k : ℕ) → Tail fl at it test ts i' i n' n a' a → test k ≡ false → IsAbsentAt fl at (slice_get (items_of n a ts) k)
tail_absent fl at it test no_trees i' i n' n a' a k tail off = tt
tail_absent fl at it test (tree first others) i' i n' n a' a zero tail off =
    item_absent fl at first n a n (n + flow_count first) a (a + atom_count first) (apart_left flow_count test first others fl n n' off tail.flows tail.flows_low) (apart_left atom_count test first others at a a' off tail.atoms tail.atoms_low) (omega arith) (omega arith) (omega arith) (omega arith)
tail_absent fl at it test (tree first others) i' i n' n a' a (suc k) tail off = elim (either_way (test 0)) [
  | inl on_here ↦ tail_absent fl at it (λ u. test (suc u)) others (i' + 1) (i + 1) (n' + flow_count first) (n + flow_count first) (a' + atom_count first) (a + atom_count first) k (kept_tail fl at it test first others i' i n' n a' a on_here tail) off
  | inr off_here ↦ tail_absent fl at it (λ u. test (suc u)) others i' (i + 1) n' (n + flow_count first) a' (a + atom_count first) k (left_tail fl at it test first others i' i n' n a' a off_here tail) off
]
