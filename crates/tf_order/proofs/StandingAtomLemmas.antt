-- The atoms of a flow in standing order.
use Rattle.std.proofs.Common.{◌≡◌, ℕ, ◌+◌, ◌<◌, ◌≤◌, List, [], ◌∷◌, ◌++◌, length, take, flat_map, Option, Some, None, refl, sym, ap, ◌∙◌, add-one, append_assoc, slice_index_or, slice_get}
use Rattle.std.specs.Option.{option_to_list, option_map}
use Rattle.std.proofs.lemmas.List.{length-map}
use Rattle.std.proofs.lemmas.Option.{slice_get-map}
use Rattle.tf_numbers.specs.Numbers.{Pair}
use Rattle.tf_model.specs.Before.{Flow, find_flow, standing_at, standing_of_item, standing_atoms}
use Rattle.tf_model.proofs.Told.{standing_in, standing_of}
use Rattle.tf_links.specs.Graphs.{standing_items}
use Rattle.tf_order.specs.declared.arranged.Arranged.{Arranged}
use Rattle.tf_flow.specs.declared.listing.ItemPlace.{ItemPlace}
use Rattle.tf_flow.specs.declared.listing.Standing.{Standing}
use Rattle.tf_flow.specs.declared.listing.Standing.TheVariants as place
use Rattle.tf_order.specs.declared.context.Context.{Context}
use Rattle.tf_order.specs.Arranged.{IsShownAt, ShowsFlows}
use Rattle.tf_links.specs.Links.{LinksValue, AreLinks}
use Rattle.tf_flow.specs.Listing.{shown_item, shown_standing}
use Rattle.tf_order.specs.Context.{place_seen, count_seen}
use Rattle.tf_links.proofs.StandingLemmas.{taking_next, taking_none, taking_all}
use Rattle.tf_numbers.proofs.ListLemmas.{nothing_after}

-- ---- a nested flow

found_in : (shown : Option (Option Arranged)) (o : Option Flow) (flow : Arranged) → IsShownAt shown o → shown ≡ Some (Some flow) → flow.standing.items ≡ standing_in o
found_in None o flow is some = absurd (cc)
found_in (Some None) o flow is some = absurd (cc)
found_in (Some (Some other)) None flow is some = absurd is
found_in (Some (Some other)) (Some f) flow is some = let same : other ≡ flow = cc in ap (λ (d : Arranged). d.standing.items) (sym same) ∙ is.standing

pub flow_found : (table : List (Option Arranged)) (inner : List Flow) (g : ℕ) (flow : Arranged) (atoms : List ℕ) → ShowsFlows table inner → slice_get table g ≡ Some (Some flow) → atoms ++ flow.standing.items ≡ atoms ++ standing_in (find_flow inner g)
flow_found table inner g flow atoms shows is = ap (λ (xs : List ℕ). atoms ++ xs) (found_in (slice_get table g) (find_flow inner g) flow (shows g) is)

none_in : (shown : Option (Option Arranged)) (o : Option Flow) → IsShownAt shown o → ((flow : Arranged) → shown ≡ Some (Some flow) → ⊥) → [] ≡ standing_in o
none_in None None is none = refl
none_in None (Some f) is none = absurd is
none_in (Some None) None is none = refl
none_in (Some None) (Some f) is none = absurd is
none_in (Some (Some flow)) o is none = absurd (none flow refl)

pub flow_none : (table : List (Option Arranged)) (inner : List Flow) (g : ℕ) (atoms : List ℕ) → ShowsFlows table inner → ((flow : Arranged) → slice_get table g ≡ Some (Some flow) → ⊥) → atoms ≡ atoms ++ standing_in (find_flow inner g)
flow_none table inner g atoms shows none = sym (nothing_after atoms) ∙ ap (λ (xs : List ℕ). atoms ++ xs) (none_in (slice_get table g) (find_flow inner g) (shows g) none)

-- ---- an item

item_seen : (context : Context) (inner : List Flow) (item : ℕ) (found : Option ItemPlace) → slice_get context.level.now.items.items item ≡ found → standing_of_item inner (place_seen context) item ≡ standing_of inner (option_map shown_item found)
item_seen context inner item found is = ap (standing_of inner) (slice_get-map shown_item context.level.now.items.items item ∙ ap (option_map shown_item) is)

pub item_none : (context : Context) (inner : List Flow) (item : ℕ) (atoms : List ℕ) → slice_get context.level.now.items.items item ≡ None → atoms ≡ atoms ++ standing_of_item inner (place_seen context) item
item_none context inner item atoms is = sym (nothing_after atoms) ∙ ap (λ (xs : List ℕ). atoms ++ xs) (sym (item_seen context inner item None is))

pub item_task : (context : Context) (inner : List Flow) (item atom : ℕ) (found : ItemPlace) (atoms : List ℕ) → slice_get context.level.now.items.items item ≡ Some found → found.standing ≡ place.Task atom → atoms ++ atom ∷ [] ≡ atoms ++ standing_of_item inner (place_seen context) item
item_task context inner item atom found atoms is task = ap (λ (xs : List ℕ). atoms ++ xs) (sym (item_seen context inner item (Some found) is ∙ ap (λ (s : Standing). standing_at inner (shown_standing s)) task))

pub item_flow : (context : Context) (inner : List Flow) (item g : ℕ) (found : ItemPlace) (atoms new : List ℕ) → slice_get context.level.now.items.items item ≡ Some found → found.standing ≡ place.Flow g → new ≡ atoms ++ standing_in (find_flow inner g) → new ≡ atoms ++ standing_of_item inner (place_seen context) item
item_flow context inner item g found atoms new is flow more = more ∙ ap (λ (xs : List ℕ). atoms ++ xs) (sym (item_seen context inner item (Some found) is ∙ ap (λ (s : Standing). standing_at inner (shown_standing s)) flow))

-- ---- all items

abbrev pub AtomsOf : Context → List ℕ → List ℕ → Type 0
AtomsOf context atoms items = (inner : List Flow) → ShowsFlows context.table.now inner → atoms ≡ option_to_list (place_seen context).retry ++ flat_map (standing_of_item inner (place_seen context)) items

pub atoms_start : (context : Context) (first atoms order : List ℕ) → first ≡ [] → atoms ≡ first ++ option_to_list (place_seen context).retry → AtomsOf context atoms (take 0 order)
atoms_start context first atoms order none is inner shows = is ∙ (ap (λ (xs : List ℕ). xs ++ option_to_list (place_seen context).retry) none
    ∙ (sym (nothing_after (option_to_list (place_seen context).retry)) ∙ ap (λ (xs : List ℕ). option_to_list (place_seen context).retry ++ flat_map (standing_of_item inner (place_seen context)) xs) (sym (taking_none order))))

flat_more : (f : ℕ → List ℕ) (xs : List ℕ) (x : ℕ) → flat_map f (xs ++ x ∷ []) ≡ flat_map f xs ++ f x
flat_more f [] x = nothing_after (f x)
flat_more f (y ∷ ys) x = ap (λ (zs : List ℕ). f y ++ zs) (flat_more f ys x) ∙ sym (append_assoc (f y) (flat_map f ys) (f x))

pub atoms_more : (context : Context) (atoms new order : List ℕ) (i : ℕ) → AtomsOf context atoms (take i order) → i < length order
    → ((inner : List Flow) → ShowsFlows context.table.now inner → new ≡ atoms ++ standing_of_item inner (place_seen context) (slice_index_or order i 0)) → AtomsOf context new (take (i + 1) order)
atoms_more context atoms new order i before within more inner shows = more inner shows
    ∙ (ap (λ (xs : List ℕ). xs ++ standing_of_item inner (place_seen context) (slice_index_or order i 0)) (before inner shows)
    ∙ (append_assoc (option_to_list (place_seen context).retry) (flat_map (standing_of_item inner (place_seen context)) (take i order)) (standing_of_item inner (place_seen context) (slice_index_or order i 0))
    ∙ ap (λ (xs : List ℕ). option_to_list (place_seen context).retry ++ xs) (sym (ap (flat_map (standing_of_item inner (place_seen context))) (ap (λ (n : ℕ). take n order) (add-one i) ∙ taking_next order i within) ∙ flat_more (standing_of_item inner (place_seen context)) (take i order) (slice_index_or order i 0)))))

pub atoms_all : (context : Context) (links : LinksValue) (atoms order : List ℕ) (i : ℕ) → AtomsOf context atoms (take i order) → length order ≤ i → links.count ≡ count_seen context → ((pairs : List Pair) → AreLinks links pairs → order ≡ standing_items links.count pairs)
    → (inner : List Flow) (pairs : List Pair) → ShowsFlows context.table.now inner → AreLinks links pairs → atoms ≡ standing_atoms inner (place_seen context) pairs
atoms_all context links atoms order i is whole count standing inner pairs shows are = is inner shows
    ∙ ap (λ (xs : List ℕ). option_to_list (place_seen context).retry ++ flat_map (standing_of_item inner (place_seen context)) xs)
    (taking_all order i whole ∙ (standing pairs are ∙ ap (λ (n : ℕ). standing_items n pairs) (count ∙ sym (length-map context.level.now.items.items shown_item))))
