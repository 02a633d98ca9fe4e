-- The paths of atoms ascend, and atoms that stand side by side are alike.
use Rattle.std.proofs.Common.{◌≡◌, ◌≢◌, ◌-◌, false, ℕ, zero, suc, ◌+◌, ◌<◌, ◌≤◌, List, [], ◌∷◌, ◌++◌, length, map, Bool, true, ◌&&◌, ◌⊎◌, Option, Some, None, refl, sym, ap, subst, ◌∙◌, add-one, inl, inr, arith, eqb-true, eq-eqb, slice_get, slice_index_or}
use Rattle.std.specs.Prelude.{IfSome, nat_eq, if◌then◌else◌}
use Rattle.std.proofs.lemmas.Bool.{cases_lt}
use Rattle.std.proofs.lemmas.List.{length-map}
use Rattle.tf_flow.specs.declared.atoms.Retry.{Retry}
use Rattle.tf_flow.specs.declared.paths.Turn.{Turn}
use Rattle.tf_flow.specs.Outline.{Atom, atoms_of, atoms_among, retry_atoms, enter, flow_count}
use Rattle.tf_flow.specs.Tree.{Tree, Trees, task, flow, no_trees, tree}
use Rattle.tf_model.specs.Before.{Flow, item_before, turn_before, path_before, path_at, same_place}
use Rattle.tf_model.specs.Plan.{Outline as PlanOutline, is_before, path}
use Rattle.tf_numbers.proofs.EquationLemmas.{ap2}
use Rattle.tf_flow.specs.declared.listing.Outline.{Outline}
use Rattle.tf_flow.specs.Listing.{shown_atom, shown_atoms}
use Rattle.tf_order.specs.Intervals.{IsEarlierPlace, IsPathUpTo, IsAscending, Agree, IsUpToItem, GoesAlong, IsSteady, IsAlike, IsAlongUpTo, TellsTheSame}
use Rattle.tf_order.specs.Tables.{plan_seen, atoms_found, is_after_last}
use Rattle.tf_order.proofs.GraphLemmas.{no_later}

-- ---- the paths of a tree's atoms ascend

pub up_to_itself : (path : List Turn) → IsPathUpTo path path
up_to_itself [] = tt
up_to_itself (x ∷ xs) = (refl, inr (refl, up_to_itself xs))

-- a path comes up to those of all these atoms
abbrev IsUpToAll : List Turn → List Atom → Type 0
IsUpToAll path [] = Unit {0}
IsUpToAll path (x ∷ xs) = IsPathUpTo path x.path × IsUpToAll path xs

-- each comes up to all that follow
abbrev Ascend : List Atom → Type 0
Ascend [] = Unit {0}
Ascend (x ∷ xs) = IsUpToAll x.path xs × Ascend xs

abbrev EachUpToAll : List Atom → List Atom → Type 0
EachUpToAll [] ys = Unit {0}
EachUpToAll (x ∷ xs) ys = IsUpToAll x.path ys × EachUpToAll xs ys

up_to_both : (path : List Turn) (xs ys : List Atom) → IsUpToAll path xs → IsUpToAll path ys → IsUpToAll path (xs ++ ys)
up_to_both path [] ys first second = second
up_to_both path (x ∷ xs) ys first second = (first.0, up_to_both path xs ys first.1 second)

ascend_both : (xs ys : List Atom) → Ascend xs → Ascend ys → EachUpToAll xs ys → Ascend (xs ++ ys)
ascend_both [] ys first second each = second
ascend_both (x ∷ xs) ys first second each = (up_to_both x.path xs ys first.0 each.0, ascend_both xs ys first.1 second each.1)

up_to_entered : (g i : ℕ) (path : List Turn) (xs : List Atom) → IsUpToAll path xs → IsUpToAll (record { flow = g; item = Some i } ∷ path) (map (enter g i) xs)
up_to_entered g i path [] is = tt
up_to_entered g i path (x ∷ xs) is = ((refl, inr (refl, is.0)), up_to_entered g i path xs is.1)

ascend_entered : (g i : ℕ) (xs : List Atom) → Ascend xs → Ascend (map (enter g i) xs)
ascend_entered g i [] is = tt
ascend_entered g i (x ∷ xs) is = (up_to_entered g i x.path xs is.0, ascend_entered g i xs is.1)

earlier_still : (p : Option ℕ) (j : ℕ) → IsEarlierPlace p (Some j) → IsEarlierPlace p (Some (suc j))
earlier_still None j is = tt
earlier_still (Some i) j is = omega (arith, is)

up_to_item : (g j : ℕ) (p : Option ℕ) (rest : List Turn) (xs : List Atom) → IsEarlierPlace p (Some j) → IsUpToAll (record { flow = g; item = p } ∷ rest) (map (enter g j) xs)
up_to_item g j p rest [] earlier = tt
up_to_item g j p rest (x ∷ xs) earlier = ((refl, inl earlier), up_to_item g j p rest xs earlier)

up_to_items : (ts : Trees) (g j n : ℕ) (p : Option ℕ) (rest : List Turn) → IsEarlierPlace p (Some j) → IsUpToAll (record { flow = g; item = p } ∷ rest) (atoms_among g j n ts)
up_to_items no_trees g j n p rest earlier = tt
up_to_items (tree first others) g j n p rest earlier =
    up_to_both (record { flow = g; item = p } ∷ rest) (map (enter g j) (atoms_of n first)) (atoms_among g (suc j) (n + flow_count first) others)
    (up_to_item g j p rest (atoms_of n first) earlier)
    (up_to_items others g (suc j) (n + flow_count first) p rest (earlier_still p j earlier))

each_up_to_items : (ts : Trees) (g i n : ℕ) (xs : List Atom) → EachUpToAll (map (enter g i) xs) (atoms_among g (suc i) n ts)
each_up_to_items ts g i n [] = tt
each_up_to_items ts g i n (x ∷ xs) = (up_to_items ts g (suc i) n (Some i) x.path (omega arith), each_up_to_items ts g i n xs)

after_retry : (control : Option Retry) (g : ℕ) (xs : List Atom) → IsUpToAll (record { flow = g; item = None } ∷ []) xs → Ascend xs → Ascend (retry_atoms g control ++ xs)
after_retry None g xs first rest = rest
after_retry (Some r) g xs first rest = (first, rest)

mutual
  ascend_at : (t : Tree) (g : ℕ) → Ascend (atoms_of g t)
  ascend_at (task t) g = (tt, tt)
  ascend_at (flow head items) g = after_retry head.retry g (atoms_among g 0 (suc g) items) (up_to_items items g 0 (suc g) None [] tt) (ascend_among items g 0 (suc g))

  ascend_among : (ts : Trees) (g i n : ℕ) → Ascend (atoms_among g i n ts)
  ascend_among no_trees g i n = tt
  ascend_among (tree first others) g i n =
      ascend_both (map (enter g i) (atoms_of n first)) (atoms_among g (suc i) (n + flow_count first) others)
      (ascend_entered g i (atoms_of n first) (ascend_at first n))
      (ascend_among others g (suc i) (n + flow_count first))
      (each_up_to_items others g i (n + flow_count first) (atoms_of n first))

up_to_at : (path : List Turn) (xs : List Atom) (j : ℕ) → IsUpToAll path xs → j < length xs → IsPathUpTo path (path_at xs j)
up_to_at path [] j is below = absurd (omega arith)
up_to_at path (x ∷ xs) zero is below = is.0
up_to_at path (x ∷ xs) (suc j) is below = up_to_at path xs j is.1 (omega arith)

ascend_to : (xs : List Atom) (i j : ℕ) → Ascend xs → i ≤ j → j < length xs → IsPathUpTo (path_at xs i) (path_at xs j)
ascend_to [] i j is from below = absurd (omega arith)
ascend_to (x ∷ xs) zero zero is from below = up_to_itself x.path
ascend_to (x ∷ xs) zero (suc j) is from below = up_to_at x.path xs j is.0 (omega arith)
ascend_to (x ∷ xs) (suc i) zero is from below = absurd (omega arith)
ascend_to (x ∷ xs) (suc i) (suc j) is from below = ascend_to xs i j is.1 (omega arith) (omega arith)

-- the paths of a plan's atoms ascend
pub paths_ascend : (t : Tree) (outline : Outline) → shown_atoms outline.atoms.items ≡ atoms_of 0 t → IsAscending (plan_seen outline)
unfolding plan_seen
paths_ascend t outline atoms_are i j from below = ascend_to (shown_atoms outline.atoms.items) i j (subst Ascend (sym atoms_are) (ascend_at t 0)) from below

-- ---- paths that go along with another

down_to : (most : ℕ) (p q : Option ℕ) → IsEarlierPlace p q → IsUpToItem most q → IsUpToItem most p
down_to most None q earlier within = tt
down_to most (Some u) None earlier within = absurd earlier
down_to most (Some u) (Some v) earlier within = omega (arith, earlier, within)

never_earlier : (p : Option ℕ) → IsEarlierPlace p p → ⊥
never_earlier None earlier = earlier
never_earlier (Some u) earlier = omega (arith, earlier)

never_back : (p q : Option ℕ) → IsEarlierPlace p q → IsEarlierPlace q p → ⊥
never_back None None there back = there
never_back None (Some v) there back = back
never_back (Some u) None there back = there
never_back (Some u) (Some v) there back = omega (arith, there, back)

-- the place between two that are the same is that one
pinched : {X : Type 0} (p q : Option ℕ) → IsEarlierPlace p q ⊎ (p ≡ q) → IsEarlierPlace q p ⊎ ((q ≡ p) × X) → p ≡ q
pinched p q (inl there) (inl back) = absurd (never_back p q there back)
pinched p q (inl there) (inr same) = sym (same.0)
pinched p q (inr same) back = same

-- paths that part at no earlier place go on below
below_same : {X : Type 0} (p q : Option ℕ) → p ≡ q → IsEarlierPlace p q ⊎ ((p ≡ q) × X) → X
below_same p q same (inl earlier) = absurd (never_earlier q (subst (λ (r : Option ℕ). IsEarlierPlace r q) same earlier))
below_same p q same (inr both) = both.1

place_kept : {X : Type 0} (p q : Option ℕ) → IsEarlierPlace p q ⊎ ((p ≡ q) × X) → IsEarlierPlace p q ⊎ (p ≡ q)
place_kept p q (inl earlier) = inl earlier
place_kept p q (inr both) = inr both.0

upper : {X : Type 0} (most : ℕ) (p q : Option ℕ) → IsEarlierPlace p q ⊎ ((p ≡ q) × X) → IsUpToItem most q → IsUpToItem most p
upper most p q (inl earlier) within = down_to most p q earlier within
upper most p q (inr both) within = subst (IsUpToItem most) (sym both.0) within

-- what stands between two paths that go along goes along too
pub along_between : (turns most : ℕ) (first middle last : List Turn) → IsPathUpTo first middle → IsPathUpTo middle last → GoesAlong turns most first last → GoesAlong turns most first middle
along_between turns most [] middle last to on along = absurd along
along_between turns most (x ∷ xs) [] last to on along = absurd to
along_between turns most (x ∷ xs) (y ∷ ys) [] to on along = absurd on
along_between zero most (x ∷ xs) (y ∷ ys) (z ∷ zs) to on along = (to.0, upper most y.item z.item on.1 along.1)
along_between (suc turns) most (x ∷ xs) (y ∷ ys) (z ∷ zs) to on along =
    let back : IsEarlierPlace y.item x.item ⊎ ((y.item ≡ x.item) × IsPathUpTo ys zs) = subst (λ (r : Option ℕ). IsEarlierPlace y.item r ⊎ ((y.item ≡ r) × IsPathUpTo ys zs)) (sym along.1) on.1 in
    let same : x.item ≡ y.item = pinched x.item y.item (place_kept x.item y.item to.1) back in
    (to.0, same, along_between turns most xs ys zs (below_same x.item y.item same to.1) (below_same y.item z.item (sym same ∙ along.1) on.1) along.2)

-- ---- what an atom is before, of those that go along

-- the order of the flow tells the same of this place and of those from it on up to an item
abbrev IsSteadyAt : List Flow → ℕ → Option ℕ → Option ℕ → ℕ → Type 0
IsSteadyAt flows g p q most = (other : Option ℕ) → IsEarlierPlace q other ⊎ (q ≡ other) → IsUpToItem most other → (a b : Bool) → turn_before flows g p other a ≡ turn_before flows g p q b

alike_by : (flows : List Flow) (turns most : ℕ) (first second other : List Turn) (x y : Turn) → Agree turns first second → slice_get first turns ≡ Some x → slice_get second turns ≡ Some y → x.flow ≡ y.flow
    → IsSteadyAt flows x.flow x.item y.item most → IsPathUpTo second other → GoesAlong turns most second other → path_before flows first other ≡ path_before flows first second
alike_by flows turns most first [] other x y agree x_is y_is same steady to along = absurd along
alike_by flows turns most first (v ∷ vs) [] x y agree x_is y_is same steady to along = absurd along
alike_by flows zero most [] (v ∷ vs) (w ∷ ws) x y agree x_is y_is same steady to along = absurd (cc)
alike_by flows zero most (u ∷ us) (v ∷ vs) (w ∷ ws) x y agree x_is y_is same steady to along =
    let u_is : u ≡ x = cc in
    let v_is : v ≡ y = cc in
    let flow_v : u.flow ≡ v.flow = ap (λ (t : Turn). t.flow) u_is ∙ (same ∙ ap (λ (t : Turn). t.flow) (sym v_is)) in
    let steady_v : IsSteadyAt flows u.flow u.item v.item most = subst (λ (t : Turn). IsSteadyAt flows u.flow u.item t.item most) (sym v_is) (subst (λ (t : Turn). IsSteadyAt flows t.flow t.item y.item most) (sym u_is) steady) in
    ap2 ◌&&◌ (eq-eqb u.flow w.flow (flow_v ∙ along.0) ∙ sym (eq-eqb u.flow v.flow flow_v))
    (steady_v w.item (place_kept v.item w.item to.1) along.1 (path_before flows us ws) (path_before flows us vs))
alike_by flows (suc turns) most [] (v ∷ vs) (w ∷ ws) x y agree x_is y_is same steady to along = absurd agree
alike_by flows (suc turns) most (u ∷ us) (v ∷ vs) (w ∷ ws) x y agree x_is y_is same steady to along =
    ap2 ◌&&◌ (ap (nat_eq u.flow) (sym along.0))
    (ap2 (turn_before flows u.flow u.item) (sym along.1)
    (alike_by flows turns most us vs ws x y agree.2 x_is y_is same steady (below_same v.item w.item along.1 to.1) along.2))

retry_steady : (flows : List Flow) (g v most : ℕ) → IsSteadyAt flows g None (Some v) most
retry_steady flows g v most None (inl earlier) within a b = absurd earlier
retry_steady flows g v most None (inr same) within a b = absurd (cc)
retry_steady flows g v most (Some w) from within a b = refl

items_steady : (flows : List Flow) (g u v most : ℕ) → IsSteady u (item_before flows g u) v most → IsSteadyAt flows g (Some u) (Some v) most
items_steady flows g u v most is None (inl earlier) within a b = absurd earlier
items_steady flows g u v most is None (inr same) within a b = absurd (cc)
items_steady flows g u v most is (Some w) from within a b =
    let v_w : v ≤ w = at_least v w from in
    let there = is w v_w within in
    let here = is v (omega arith) (omega (arith, v_w, within)) in
    ap (λ (c : Bool). if c then a else item_before flows g u w) there.0
    ∙ (there.1 ∙ sym (ap (λ (c : Bool). if c then b else item_before flows g u v) here.0))
  where
    at_least : (v w : ℕ) → IsEarlierPlace (Some v) (Some w) ⊎ (Some v ≡ Some w) → v ≤ w
    at_least v w (inl earlier) = omega (arith, earlier)
    at_least v w (inr same) = let is : v ≡ w = cc in omega (arith, is)

-- from the retry controller of a flow all its items are alike
pub alike_retry : (flows : List Flow) (turns most v : ℕ) (first second : List Turn) (x y : Turn) → Agree turns first second → slice_get first turns ≡ Some x → slice_get second turns ≡ Some y → x.flow ≡ y.flow
    → x.item ≡ None → y.item ≡ Some v → IsAlike flows turns first second most
alike_retry flows turns most v first second x y agree x_is y_is same x_none y_some other to along =
    alike_by flows turns most first second other x y agree x_is y_is same
    (subst (λ (p : Option ℕ). IsSteadyAt flows x.flow p y.item most) (sym x_none) (subst (λ (q : Option ℕ). IsSteadyAt flows x.flow None q most) (sym y_some) (retry_steady flows x.flow v most)))
    to along

-- from an item those are alike of which the order of the flow tells the same
pub alike_items : (flows : List Flow) (turns most u v : ℕ) (first second : List Turn) (x y : Turn) → Agree turns first second → slice_get first turns ≡ Some x → slice_get second turns ≡ Some y → x.flow ≡ y.flow
    → x.item ≡ Some u → y.item ≡ Some v → IsSteady u (item_before flows x.flow u) v most → IsAlike flows turns first second most
alike_items flows turns most u v first second x y agree x_is y_is same x_some y_some steady other to along =
    alike_by flows turns most first second other x y agree x_is y_is same
    (subst (λ (p : Option ℕ). IsSteadyAt flows x.flow p y.item most) (sym x_some) (subst (λ (q : Option ℕ). IsSteadyAt flows x.flow (Some u) q most) (sym y_some) (items_steady flows x.flow u v most steady)))
    to along

-- what holds of what is told, holds of another kind too
pub each_some : {P Q : ℕ → Type 0} (o : Option ℕ) → IfSome o P → ((k : ℕ) → P k → Q k) → IfSome o Q
each_some None is more = tt
each_some (Some k) is more = more k is

-- ---- turns that two paths share

pub agree_next : (first second : List Turn) (i : ℕ) (d e : Turn) → Agree i first second → i < length first → i < length second
    → ((slice_index_or first i d).flow ≡ (slice_index_or second i e).flow) × ((slice_index_or first i d).item ≡ (slice_index_or second i e).item) → Agree (i + 1) first second
agree_next first second i d e agree in_first in_second same = subst (λ (n : ℕ). Agree n first second) (sym (add-one i)) (next first second i agree in_first in_second same)
  where
    next : (xs ys : List Turn) (i : ℕ) → Agree i xs ys → i < length xs → i < length ys → ((slice_index_or xs i d).flow ≡ (slice_index_or ys i e).flow) × ((slice_index_or xs i d).item ≡ (slice_index_or ys i e).item) → Agree (suc i) xs ys
    next [] ys i agree in_xs in_ys here = absurd (omega arith)
    next (u ∷ us) [] i agree in_xs in_ys here = absurd (omega arith)
    next (u ∷ us) (v ∷ vs) zero agree in_xs in_ys here = (here.0, here.1, tt)
    next (u ∷ us) (v ∷ vs) (suc i) agree in_xs in_ys here = (agree.0, agree.1, next us vs i agree.2 (omega arith) (omega arith) here)

agree_fewer : (n d : ℕ) (xs ys : List Turn) → Agree n xs ys → d ≤ n → Agree d xs ys
agree_fewer n zero xs ys agree few = tt
agree_fewer zero (suc d) xs ys agree few = absurd (omega arith)
agree_fewer (suc n) (suc d) [] ys agree few = absurd agree
agree_fewer (suc n) (suc d) (x ∷ xs) [] agree few = absurd agree
agree_fewer (suc n) (suc d) (x ∷ xs) (y ∷ ys) agree few = (agree.0, agree.1, agree_fewer n d xs ys agree.2 (omega arith))

goes_on : (turns most : ℕ) (xs ys : List Turn) (x y : Turn) → Agree turns xs ys → slice_get xs turns ≡ Some x → slice_get ys turns ≡ Some y → x.flow ≡ y.flow → IsUpToItem most y.item → GoesAlong turns most xs ys
goes_on turns most [] ys x y agree x_is y_is same up = absurd (cc)
goes_on turns most (u ∷ us) [] x y agree x_is y_is same up = absurd (cc)
goes_on zero most (u ∷ us) (v ∷ vs) x y agree x_is y_is same up =
    let u_is : u ≡ x = cc in
    let v_is : v ≡ y = cc in
    (ap (λ (t : Turn). t.flow) u_is ∙ (same ∙ ap (λ (t : Turn). t.flow) (sym v_is)), subst (λ (t : Turn). IsUpToItem most t.item) (sym v_is) up)
goes_on (suc turns) most (u ∷ us) (v ∷ vs) x y agree x_is y_is same up = (agree.0, agree.1, goes_on turns most us vs x y agree.2 x_is y_is same up)

-- paths that share more turns than these, and go on in one flow, go along
pub along_seen : (shared turns most : ℕ) (xs ys : List Turn) (x y : Turn) → Agree shared xs ys → turns ≤ shared → slice_get xs turns ≡ Some x → slice_get ys turns ≡ Some y → x.flow ≡ y.flow → IsUpToItem most y.item → GoesAlong turns most xs ys
along_seen shared turns most xs ys x y agree few x_is y_is same up = goes_on turns most xs ys x y (agree_fewer shared turns xs ys agree few) x_is y_is same up

pub along_there : {x y v w : List Turn} (turns most : ℕ) → x ≡ v → y ≡ w → GoesAlong turns most x y → GoesAlong turns most v w
along_there {x = x} {w = w} turns most x_is y_is along = subst (λ (a : List Turn). GoesAlong turns most a w) x_is (subst (GoesAlong turns most x) y_is along)

pub place_same : (p q : Option ℕ) → same_place p q ≡ true → p ≡ q
place_same None None is = refl
place_same None (Some v) is = absurd (cc)
place_same (Some u) None is = absurd (cc)
place_same (Some u) (Some v) is = ap Some (eqb-true u v is)

-- turns into one flow to the same place
pub turns_same : (x y : Turn) (on : Bool) → x.flow ≡ y.flow → on ≡ same_place x.item y.item → on ≡ true → (x.flow ≡ y.flow) × (x.item ≡ y.item)
turns_same x y on same is place = (same, place_same x.item y.item (sym is ∙ place))

-- ---- atoms that go along

pub along_start : (outline : Outline) (b turns most end : ℕ) → end ≡ b + 1 → IsAlongUpTo turns most (shown_atoms outline.atoms.items) b end
along_start outline b turns most end is k above below = absurd (omega (arith, is, above, below))

pub along_to : (outline : Outline) (b turns most middle end : ℕ) → IsAscending (plan_seen outline) → middle < atoms_found outline
    → GoesAlong turns most (path_at (shown_atoms outline.atoms.items) b) (path_at (shown_atoms outline.atoms.items) middle) → end ≡ middle + 1 → IsAlongUpTo turns most (shown_atoms outline.atoms.items) b end
unfolding plan_seen
along_to outline b turns most middle end ascending within along is k above below =
    let room : middle < length (shown_atoms outline.atoms.items) = subst (λ (n : ℕ). middle < n) (sym (length-map outline.atoms.items shown_atom)) within in
    along_between turns most (path_at (shown_atoms outline.atoms.items) b) (path_at (shown_atoms outline.atoms.items) k) (path_at (shown_atoms outline.atoms.items) middle)
    (ascending b k (omega (arith, above)) (omega (arith, below, is, room)))
    (ascending k middle (omega (arith, below, is)) room)
    along

-- ---- an interval

pub interval_alone : (test : ℕ → Bool) (on : Bool) (b end : ℕ) → on ≡ test b → end ≡ b + 1 → TellsTheSame test on b end
interval_alone test on b end is ends k from to = let here : k ≡ b = omega (arith, ends, from, to) in ap test here ∙ sym is

pub before_seen : (outline : Outline) (a b : ℕ) (v w : List Turn) (on : Bool) → v ≡ path_at (shown_atoms outline.atoms.items) a → w ≡ path_at (shown_atoms outline.atoms.items) b → on ≡ path_before (plan_seen outline).flows v w → on ≡ is_before (plan_seen outline) a b
unfolding is_before plan_seen
before_seen outline a b v w on v_is w_is is = is ∙ ap2 (path_before (plan_seen outline).flows) v_is w_is

pub interval_along : (outline : Outline) (a b turns most end : ℕ) (on : Bool) (v w : List Turn) → IsAscending (plan_seen outline) → IsAlongUpTo turns most (shown_atoms outline.atoms.items) b end → end ≤ atoms_found outline
    → on ≡ is_before (plan_seen outline) a b → v ≡ path_at (shown_atoms outline.atoms.items) a → w ≡ path_at (shown_atoms outline.atoms.items) b → IsAlike (plan_seen outline).flows turns v w most
    → TellsTheSame (is_before (plan_seen outline) a) on b end
unfolding plan_seen is_before
interval_along outline a b turns most end on v w ascending along ends is v_is w_is alike k from to =
    let alike_there : IsAlike (plan_seen outline).flows turns (path_at (shown_atoms outline.atoms.items) a) (path_at (shown_atoms outline.atoms.items) b) most =
    subst (λ (x : List Turn). IsAlike (plan_seen outline).flows turns x (path_at (shown_atoms outline.atoms.items) b) most) v_is (subst (λ (y : List Turn). IsAlike (plan_seen outline).flows turns v y most) w_is alike) in
    elim (cases_lt b k) [
      | inl above ↦
          let room : k < length (shown_atoms outline.atoms.items) = subst (λ (n : ℕ). k < n) (sym (length-map outline.atoms.items shown_atom)) (omega (arith, to, ends)) in
          alike_there (path_at (shown_atoms outline.atoms.items) k) (ascending b k from room) (along k above to) ∙ sym is
      | inr below ↦ let here : k ≡ b = omega (arith, below, from) in ap (λ (n : ℕ). is_before (plan_seen outline) a n) here ∙ sym is
    ]

-- ---- the atom that stands before another in tree order

pub none_is_last : (plan : PlanOutline) (a end : ℕ) (b : ℕ) → a ≡ 0 → TellsTheSame (is_after_last plan a) false b end
none_is_last plan a end b first k from to = ap (λ (n : ℕ). is_after_last plan n k) first

last_is : (plan : PlanOutline) (a k : ℕ) → a ≢ 0 → is_after_last plan a k ≡ is_before plan (a - 1) k
last_is plan zero k some = absurd (some refl)
last_is plan (suc a) k some = let same : a ≡ suc a - 1 = omega arith in ap (λ (n : ℕ). is_before plan n k) same

pub last_told : (plan : PlanOutline) (a b end : ℕ) (on : Bool) → a ≢ 0 → TellsTheSame (is_after_last plan a) on b end → TellsTheSame (is_before plan (a - 1)) on b end
last_told plan a b end on some told k from to = sym (last_is plan a k some) ∙ told k from to

pub told_last : (plan : PlanOutline) (a b end : ℕ) (on : Bool) → a ≢ 0 → TellsTheSame (is_before plan (a - 1)) on b end → TellsTheSame (is_after_last plan a) on b end
told_last plan a b end on some told k from to = last_is plan a k some ∙ told k from to

-- a number that no atom has is before none
pub past_is_before_none : (outline : Outline) (a b end : ℕ) → atoms_found outline ≤ a → TellsTheSame (is_before (plan_seen outline) a) false b end
unfolding plan_seen
past_is_before_none outline a b end past k from to = no_later (plan_seen outline) a k (subst (λ (n : ℕ). n ≤ a) (sym (length-map outline.atoms.items shown_atom)) past)
