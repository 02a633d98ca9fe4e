-- Links and the names of items.
use Rattle.std.proofs.Common.{◌≡◌, ℕ, ◌+◌, ◌<◌, List, [], ◌∷◌, ◌++◌, true, false, not, cond, length, take, get_or, filter, refl, ap, sym, ◌∙◌}
use Rattle.std.proofs.lemmas.List.{take_more}
use Rattle.std.specs.List.{list_any}
use Rattle.tf_flow.specs.declared.deciders.Link.{Link}
use Rattle.tf_flow.specs.declared.nested.Item.{Item}
use Rattle.tf_flow.specs.Tree.{first_some, is_among, Member, member_of, item_tree}
use Rattle.tf_flow.specs.Rules.{member_names, nested_names, stray_end, decides_flow}
use Rattle.tf_flow.specs.Shown.{members}

-- which links stray depends on which names are among those of the items alone
pub stray_same : (a b : List (List ℕ)) → ((name : List ℕ) → is_among a name ≡ is_among b name) → (links : List Link) → first_some (stray_end a) links ≡ first_some (stray_end b) links
stray_same a b same [] = refl
stray_same a b same (link ∷ links) = rw (same link.from, same link.to, stray_same a b same links) refl

pub decides_same : (a b : List (List ℕ)) → ((name : List ℕ) → is_among a name ≡ is_among b name) → (links : List Link) → list_any (decides_flow a) links ≡ list_any (decides_flow b) links
decides_same a b same [] = refl
decides_same a b same (link ∷ links) = rw (same link.from, same link.to, decides_same a b same links) refl

-- one more item at the end
members_push : (items : List Item) (item : Item) → members (items ++ item ∷ []) ≡ members items ++ member_of (item_tree item) ∷ []
members_push [] item = refl
members_push (first ∷ items) item = ap (λ (ms : List Member). member_of (item_tree first) ∷ ms) (members_push items item)

names_push : (ms : List Member) (m : Member) → member_names (ms ++ m ∷ []) ≡ member_names ms ++ m.name ∷ []
names_push [] m = refl
names_push (first ∷ ms) m = ap (λ (names : List (List ℕ)). first.name ∷ names) (names_push ms m)

abbrev flows : List Member → List Member
flows ms = filter (λ m. not m.is_task) ms

nested_push_flow : (ms : List Member) (m : Member) → not m.is_task ≡ true → nested_names (ms ++ m ∷ []) ≡ nested_names ms ++ m.name ∷ []
nested_push_flow [] m is = rw is refl
nested_push_flow (first ∷ ms) m is =
    elim (not first.is_task) as (λ b. member_names (cond b (first ∷ flows (ms ++ m ∷ [])) (flows (ms ++ m ∷ []))) ≡ member_names (cond b (first ∷ flows ms) (flows ms)) ++ m.name ∷ [])
    [ true ↦ ap (λ (names : List (List ℕ)). first.name ∷ names) (nested_push_flow ms m is) | false ↦ nested_push_flow ms m is ]

nested_push_task : (ms : List Member) (m : Member) → not m.is_task ≡ false → nested_names (ms ++ m ∷ []) ≡ nested_names ms
nested_push_task [] m is = rw is refl
nested_push_task (first ∷ ms) m is =
    elim (not first.is_task) as (λ b. member_names (cond b (first ∷ flows (ms ++ m ∷ [])) (flows (ms ++ m ∷ []))) ≡ member_names (cond b (first ∷ flows ms) (flows ms)))
    [ true ↦ ap (λ (names : List (List ℕ)). first.name ∷ names) (nested_push_task ms m is) | false ↦ nested_push_task ms m is ]

-- the front of the items, and the item after it
prefix : (items : List Item) (i : ℕ) (item : Item) → i < length items → item ≡ get_or items i item → members (take (i + 1) items) ≡ members (take i items) ++ member_of (item_tree item) ∷ []
prefix items i item within is =
    ap members (take_more items i item within ∙ ap (λ (x : Item). take i items ++ x ∷ []) (sym is)) ∙ members_push (take i items) item

pub names_more : (items : List Item) (i : ℕ) (item : Item) → i < length items → item ≡ get_or items i item → member_names (members (take (i + 1) items)) ≡ member_names (members (take i items)) ++ (member_of (item_tree item)).name ∷ []
names_more items i item within is = ap member_names (prefix items i item within is) ∙ names_push (members (take i items)) (member_of (item_tree item))

pub nested_more_flow : (items : List Item) (i : ℕ) (item : Item) → i < length items → item ≡ get_or items i item → not (member_of (item_tree item)).is_task ≡ true → nested_names (members (take (i + 1) items)) ≡ nested_names (members (take i items)) ++ (member_of (item_tree item)).name ∷ []
nested_more_flow items i item within is nested = ap nested_names (prefix items i item within is) ∙ nested_push_flow (members (take i items)) (member_of (item_tree item)) nested

pub nested_more_task : (items : List Item) (i : ℕ) (item : Item) → i < length items → item ≡ get_or items i item → not (member_of (item_tree item)).is_task ≡ false → nested_names (members (take (i + 1) items)) ≡ nested_names (members (take i items))
nested_more_task items i item within is nested = ap nested_names (prefix items i item within is) ∙ nested_push_task (members (take i items)) (member_of (item_tree item)) nested
