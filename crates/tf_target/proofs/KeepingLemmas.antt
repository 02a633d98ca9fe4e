-- What is kept of a flow, as code makes it.
use Rattle.std.proofs.Common.{◌≡◌, ◌∙◌, ℕ, suc, ◌+◌, ◌<◌, List, [], ◌∷◌, ◌++◌, Bool, true, false, ◌&&◌, Option, map, filter, length, take, get_or, refl, ap, sym, arith}
use Rattle.std.proofs.lemmas.List.{take_more, map-append, length-take}
use Rattle.tf_numbers.proofs.ListLemmas.{nothing_after, filter_append}
use Rattle.std.specs.Prelude.{if◌then◌else◌}
use Rattle.std.specs.List.{list_any}
use Rattle.tf_flow.specs.Outline.{Connection, connection_of}
use Rattle.tf_flow.specs.Tree.{same_name, is_among, member_of, Tree, task, flow, Trees, trees_of, item_tree, tree_of}
use Rattle.tf_flow.specs.Rules.{member_names}
use Rattle.tf_flow.specs.Shown.{members}
use Rattle.tf_flow.specs.Plan.{WrittenTree, written_task, written_flow, as_written, all_as_written, item_as_written, written, written_trees, WrittenTrees}
use Rattle.tf_flow.specs.declared.atoms.Retry.{Retry}
use Rattle.tf_flow.specs.declared.deciders.Link.{Link}
use Rattle.tf_flow.specs.declared.nested.Flow.{Flow}
use Rattle.tf_flow.specs.declared.nested.FlowKind.{FlowKind}
use Rattle.tf_flow.specs.declared.nested.Item.{Item}
use Rattle.tf_flow.proofs.TreeLemmas.{tree_of-flow}
use Rattle.tf_flow.proofs.WrittenLemmas.{flow_written}
use Rattle.tf_numbers.proofs.EquationLemmas.{ap2}
use Rattle.tf_target.specs.Target.{keep_first, kept_among, joins_kept, kept_tree, pick_first, elements_kept, names_among}

-- ---- one element more

picked_push : {X : Type 0} (test : ℕ → Bool) (xs : List X) (x : X) → elements_kept test (xs ++ x ∷ []) ≡ elements_kept test xs ++ (if test (length xs) then x ∷ [] else [])
picked_push test [] x = first (test 0)
  where
    first : (b : Bool) → pick_first b x [] ≡ (if b then x ∷ [] else [])
    first true = refl
    first false = refl
picked_push test (y ∷ ys) x = either (test 0) (picked_push (λ u. test (suc u)) ys x)
  where
    either : (b : Bool) → elements_kept (λ u. test (suc u)) (ys ++ x ∷ []) ≡ elements_kept (λ u. test (suc u)) ys ++ (if test (suc (length ys)) then x ∷ [] else [])
        → pick_first b y (elements_kept (λ u. test (suc u)) (ys ++ x ∷ [])) ≡ pick_first b y (elements_kept (λ u. test (suc u)) ys) ++ (if test (suc (length ys)) then x ∷ [] else [])
    either true rest = ap (λ zs. y ∷ zs) rest
    either false rest = rest

-- the front of the items elements_kept, and one item more
picked_prefix : (test : ℕ → Bool) (items : List Item) (i : ℕ) (item : Item) → i < length items → item ≡ get_or items i item
    → elements_kept test (take (i + 1) items) ≡ elements_kept test (take i items) ++ (if test i then item ∷ [] else [])
picked_prefix test items i item within is =
    let count : length (take i items) ≡ i = omega (arith, length-take i items, within) in
    ap (elements_kept test) (take_more items i item within ∙ ap (λ (x : Item). take i items ++ x ∷ []) (sym is))
    ∙ (picked_push test (take i items) item ∙ ap (λ (n : ℕ). elements_kept test (take i items) ++ (if test n then item ∷ [] else [])) count)

filter_prefix : (test : Link → Bool) (links : List Link) (i : ℕ) (link : Link) → i < length links → link ≡ get_or links i link
    → filter test (take (i + 1) links) ≡ filter test (take i links) ++ (if test link then link ∷ [] else [])
filter_prefix test links i link within is =
    ap (filter test) (take_more links i link within ∙ ap (λ (x : Link). take i links ++ x ∷ []) (sym is)) ∙ filter_append test (take i links) (link ∷ [])

pub picked_yes : (test : ℕ → Bool) (items : List Item) (i : ℕ) (item copy : Item) (old new : List Item) → i < length items → item ≡ get_or items i item → test i ≡ true
    → map item_as_written old ≡ map item_as_written (elements_kept test (take i items)) → item_as_written copy ≡ item_as_written item → new ≡ old ++ copy ∷ []
    → map item_as_written new ≡ map item_as_written (elements_kept test (take (i + 1) items))
picked_yes test items i item copy old new within is passes before copied pushed =
    ap (map item_as_written) pushed
    ∙ (map-append item_as_written old (copy ∷ [])
    ∙ (ap2 (λ (xs ys : List WrittenTree). xs ++ ys) before (ap (λ (w : WrittenTree). w ∷ []) copied)
    ∙ sym (ap (map item_as_written) (picked_prefix test items i item within is ∙ ap (λ (b : Bool). elements_kept test (take i items) ++ (if b then item ∷ [] else [])) passes)
    ∙ map-append item_as_written (elements_kept test (take i items)) (item ∷ []))))

pub picked_no : (test : ℕ → Bool) (items : List Item) (i : ℕ) (item : Item) (old : List Item) → i < length items → item ≡ get_or items i item → test i ≡ false
    → map item_as_written old ≡ map item_as_written (elements_kept test (take i items)) → map item_as_written old ≡ map item_as_written (elements_kept test (take (i + 1) items))
picked_no test items i item old within is fails before =
    before
    ∙ sym (ap (map item_as_written) (picked_prefix test items i item within is ∙ (ap (λ (b : Bool). elements_kept test (take i items) ++ (if b then item ∷ [] else [])) fails ∙ nothing_after (elements_kept test (take i items)))))

-- ---- links

pub filter_yes : (test : Link → Bool) (links : List Link) (i : ℕ) (link copy : Link) (old new : List Link) → i < length links → link ≡ get_or links i link → test link ≡ true
    → map connection_of old ≡ map connection_of (filter test (take i links)) → connection_of copy ≡ connection_of link → new ≡ old ++ copy ∷ []
    → map connection_of new ≡ map connection_of (filter test (take (i + 1) links))
filter_yes test links i link copy old new within is passes before copied pushed =
    ap (map connection_of) pushed
    ∙ (map-append connection_of old (copy ∷ [])
    ∙ (ap2 (λ (xs ys : List Connection). xs ++ ys) before (ap (λ (w : Connection). w ∷ []) copied)
    ∙ sym (ap (map connection_of) (filter_prefix test links i link within is ∙ ap (λ (b : Bool). filter test (take i links) ++ (if b then link ∷ [] else [])) passes)
    ∙ map-append connection_of (filter test (take i links)) (link ∷ []))))

pub filter_no : (test : Link → Bool) (links : List Link) (i : ℕ) (link : Link) (old : List Link) → i < length links → link ≡ get_or links i link → test link ≡ false
    → map connection_of old ≡ map connection_of (filter test (take i links)) → map connection_of old ≡ map connection_of (filter test (take (i + 1) links))
filter_no test links i link old within is fails before =
    before
    ∙ sym (ap (map connection_of) (filter_prefix test links i link within is ∙ (ap (λ (b : Bool). filter test (take i links) ++ (if b then link ∷ [] else [])) fails ∙ nothing_after (filter test (take i links)))))

-- ---- the flow

pub picked_trees : (test : ℕ → Bool) (items : List Item) → kept_among test (trees_of (map item_tree items)) ≡ trees_of (map item_tree (elements_kept test items))
picked_trees test [] = refl
picked_trees test (item ∷ items) = ap (keep_first (test 0) (item_tree item)) (picked_trees (λ u. test (suc u)) items) ∙ either (test 0)
  where
    either : (b : Bool) → keep_first b (item_tree item) (trees_of (map item_tree (elements_kept (λ u. test (suc u)) items))) ≡ trees_of (map item_tree (pick_first b item (elements_kept (λ u. test (suc u)) items)))
    either true = refl
    either false = refl

abbrev written_name : WrittenTree → List ℕ
written_name (written_task t) = t.name
written_name (written_flow head items) = head.name

name_written : (a b : Tree) → as_written a ≡ as_written b → (member_of a).name ≡ (member_of b).name
name_written a b same = sym (told a) ∙ (ap written_name same ∙ told b)
  where
    told : (t : Tree) → written_name (as_written t) ≡ (member_of t).name
    told (task t) = refl
    told (flow head items) = refl

-- items that are written alike have the same names
names_written : (xs ys : List Item) → map item_as_written xs ≡ map item_as_written ys → member_names (members xs) ≡ member_names (members ys)
names_written [] [] same = refl
names_written [] (y ∷ ys) same = absurd (cc)
names_written (x ∷ xs) [] same = absurd (cc)
names_written (x ∷ xs) (y ∷ ys) same =
    let first : item_as_written x ≡ item_as_written y = cc in
    let others : map item_as_written xs ≡ map item_as_written ys = cc in
    ap2 (λ (name : List ℕ) (names : List (List ℕ)). name ∷ names) (name_written (item_tree x) (item_tree y) first) (names_written xs ys others)

items_written : (items : List Item) → all_as_written (trees_of (map item_tree items)) ≡ written_trees (map item_as_written items)
items_written [] = refl
items_written (item ∷ items) = ap (λ others. written (item_as_written item) others) (items_written items)

filter_alike : {X : Type 0} (p q : X → Bool) → ((x : X) → p x ≡ q x) → (xs : List X) → filter p xs ≡ filter q xs
filter_alike p q same [] = refl
filter_alike p q same (x ∷ xs) = ap2 (λ b rest. if b then x ∷ rest else rest) (same x) (filter_alike p q same xs)

pub flow_kept : (f made : Flow) (test : ℕ → Bool) (has : List ℕ → Bool)
    → made.name ≡ f.name → made.kind ≡ f.kind → made.retry ≡ f.retry
    → map item_as_written made.items.items.items ≡ map item_as_written (elements_kept test f.items.items.items)
    → ((name : List ℕ) → has name ≡ list_any (same_name name) (member_names (members made.items.items.items)))
    → map connection_of made.links ≡ map connection_of (filter (λ (link : Link). has link.from && has link.to) f.links)
    → as_written (tree_of made) ≡ as_written (kept_tree test (tree_of f))
flow_kept f made test has name kind retry items told links =
    let kept : List Item = elements_kept test f.items.items.items in
    let names : List (List ℕ) = names_among (kept_among test (trees_of (map item_tree f.items.items.items))) in
    let trees : kept_among test (trees_of (map item_tree f.items.items.items)) ≡ trees_of (map item_tree kept) = picked_trees test f.items.items.items in
    let named : member_names (members made.items.items.items) ≡ names = names_written made.items.items.items kept items ∙ ap names_among (sym trees) in
    let among : (n : List ℕ) → has n ≡ is_among names n = λ n. told n ∙ ap (λ (xs : List (List ℕ)). is_among xs n) named in
    let joined : filter (λ (link : Link). has link.from && has link.to) f.links ≡ filter (joins_kept names) f.links =
    filter_alike (λ (link : Link). has link.from && has link.to) (joins_kept names) (λ link. ap2 (λ a b. a && b) (among link.from) (among link.to)) f.links in
    flow_written made
    ∙ (same_head made.name f.name made.kind f.kind made.retry f.retry (map connection_of made.links) (map connection_of (filter (joins_kept names) f.links)) (written_trees (map item_as_written made.items.items.items)) (all_as_written (trees_of (map item_tree kept)))
    name kind retry (links ∙ ap (map connection_of) joined) (ap written_trees items ∙ sym (items_written kept))
    ∙ (ap (λ (ts : Trees). written_flow record { name = f.name; kind = f.kind; retry = f.retry; links = map connection_of (filter (joins_kept names) f.links) } (all_as_written ts)) (sym trees)
    ∙ ap (λ (t : Tree). as_written (kept_tree test t)) (sym (tree_of-flow f))))
  where
    same_head : (n n' : List ℕ) (k k' : FlowKind) (r r' : Option Retry) (ls ls' : List Connection) (ts ts' : WrittenTrees) → n ≡ n' → k ≡ k' → r ≡ r' → ls ≡ ls' → ts ≡ ts'
        → written_flow record { name = n; kind = k; retry = r; links = ls } ts ≡ written_flow record { name = n'; kind = k'; retry = r'; links = ls' } ts'
    same_head n n' k k' r r' ls ls' ts ts' a b c d e =
        ap (λ x. written_flow record { name = x; kind = k; retry = r; links = ls } ts) a
        ∙ (ap (λ x. written_flow record { name = n'; kind = x; retry = r; links = ls } ts) b
        ∙ (ap (λ x. written_flow record { name = n'; kind = k'; retry = x; links = ls } ts) c
        ∙ (ap (λ x. written_flow record { name = n'; kind = k'; retry = r'; links = x } ts) d
        ∙ ap (λ x. written_flow record { name = n'; kind = k'; retry = r'; links = ls' } x) e)))
