-- The widest depth, link after link.
use Rattle.std.proofs.Common.{◌≡◌, ℕ, suc, ◌+◌, ◌<◌, ◌≤◌, List, [], ◌∷◌, length, map, drop, get_or, Bool, true, false, cond, Option, Some, None, refl, sym, ap, ◌∙◌, add-one}
use Rattle.std.specs.Prelude.{filter, filter_map}
use Rattle.std.specs.List.{cons_option}
use Rattle.tf_flow.specs.declared.deciders.Depth.{Depth}
use Rattle.tf_flow.specs.declared.deciders.Depth.TheVariants as depth
use Rattle.tf_flow.specs.declared.deciders.Link.{Link}
use Rattle.tf_flow.specs.Outline.{Connection, connection_of}
use Rattle.tf_model.specs.Readiness.{wider, wider_of, widest, decides_on, decider_links, refused, refused_depth, seen, seen_by_link}
use Rattle.tf_model.specs.Plan.{Outline, atom_name}
use Rattle.tf_model.proofs.Told.{connections_in, found_home}
use Rattle.tf_model.specs.History.{Snapshot}
use Rattle.tf_numbers.proofs.ListLemmas.{drop_first, drop_whole}
use Rattle.tf_rules.specs.Deciders.{wider_if_any, has_any}
use Rattle.tf_rules.specs.Seen.{deciding}

wider_chain : (a b c : Depth) → wider (wider a b) c ≡ wider a (wider b c)
wider_chain depth.All b c = refl
wider_chain depth.Flow depth.All c = refl
wider_chain depth.Flow depth.Flow depth.All = refl
wider_chain depth.Flow depth.Flow depth.Flow = refl
wider_chain depth.Flow depth.Flow depth.Neighbors = refl
wider_chain depth.Flow depth.Flow depth.Atom = refl
wider_chain depth.Flow depth.Neighbors depth.All = refl
wider_chain depth.Flow depth.Neighbors depth.Flow = refl
wider_chain depth.Flow depth.Neighbors depth.Neighbors = refl
wider_chain depth.Flow depth.Neighbors depth.Atom = refl
wider_chain depth.Flow depth.Atom c = refl
wider_chain depth.Neighbors depth.All c = refl
wider_chain depth.Neighbors depth.Flow depth.All = refl
wider_chain depth.Neighbors depth.Flow depth.Flow = refl
wider_chain depth.Neighbors depth.Flow depth.Neighbors = refl
wider_chain depth.Neighbors depth.Flow depth.Atom = refl
wider_chain depth.Neighbors depth.Neighbors depth.All = refl
wider_chain depth.Neighbors depth.Neighbors depth.Flow = refl
wider_chain depth.Neighbors depth.Neighbors depth.Neighbors = refl
wider_chain depth.Neighbors depth.Neighbors depth.Atom = refl
wider_chain depth.Neighbors depth.Atom c = refl
wider_chain depth.Atom b c = refl

any_chain : (a b c : Option Depth) → wider_if_any (wider_if_any a b) c ≡ wider_if_any a (wider_if_any b c)
any_chain None b c = refl
any_chain (Some a) None c = refl
any_chain (Some a) (Some b) None = refl
any_chain (Some a) (Some b) (Some c) = ap Some (wider_chain a b c)

first_wider : (x : Depth) (o : Option Depth) → Some (wider_of x o) ≡ wider_if_any (Some x) o
first_wider x None = refl
first_wider x (Some y) = refl

widest_first : (o : Option Depth) (xs : List Depth) → widest (cons_option o xs) ≡ wider_if_any o (widest xs)
widest_first None xs = refl
widest_first (Some x) xs = first_wider x (widest xs)

any_none : (o : Option Depth) → wider_if_any o None ≡ o
any_none None = refl
any_none (Some x) = refl

-- the depths that these links give
abbrev given : (Connection → Option Depth) → List ℕ → List Link → List Depth
given give task links = filter_map give (deciding task links)

asked : (give : Connection → Option Depth) (task : List ℕ) (link : Link) (links : List Link) → decides_on task (connection_of link) ≡ true → widest (given give task (link ∷ links)) ≡ wider_if_any (give (connection_of link)) (widest (given give task links))
asked give task link links on =
    ap (λ (b : Bool). widest (filter_map give (cond b (connection_of link ∷ deciding task links) (deciding task links)))) on
    ∙ widest_first (give (connection_of link)) (given give task links)

unasked : (give : Connection → Option Depth) (task : List ℕ) (link : Link) (links : List Link) → decides_on task (connection_of link) ≡ false → widest (given give task (link ∷ links)) ≡ widest (given give task links)
unasked give task link links off = ap (λ (b : Bool). widest (filter_map give (cond b (connection_of link ∷ deciding task links) (deciding task links)))) off

-- the depths that were found, and those of the links that are left
abbrev pub IsFound : (Connection → Option Depth) → List ℕ → List Link → Option Depth → List Link → Type 0
IsFound give task all found left = wider_if_any found (widest (filter_map give (deciding task left))) ≡ widest (filter_map give (deciding task all))

here : (links : List Link) (k : ℕ) (link : Link) → k < length links → link ≡ get_or links k link → drop k links ≡ link ∷ drop (k + 1) links
here links k link below is = drop_first links k link below ∙ (ap (λ (l : Link). l ∷ drop (suc k) links) (sym is) ∙ ap (λ (n : ℕ). link ∷ drop n links) (sym (add-one k)))

pub found_more : (give : Connection → Option Depth) (task : List ℕ) (links : List Link) (k : ℕ) (link : Link) (found more new : Option Depth) → IsFound give task links found (drop k links) → k < length links → link ≡ get_or links k link
    → decides_on task (connection_of link) ≡ true → more ≡ give (connection_of link) → new ≡ wider_if_any found more → IsFound give task links new (drop (k + 1) links)
found_more give task links k link found more new before below is on told wide =
    ap (λ (o : Option Depth). wider_if_any o (widest (given give task (drop (k + 1) links)))) (wide ∙ ap (wider_if_any found) told)
    ∙ (any_chain found (give (connection_of link)) (widest (given give task (drop (k + 1) links)))
    ∙ (ap (wider_if_any found) (sym (asked give task link (drop (k + 1) links) on))
    ∙ (ap (λ (ls : List Link). wider_if_any found (widest (given give task ls))) (sym (here links k link below is)) ∙ before)))

pub found_past : (give : Connection → Option Depth) (task : List ℕ) (links : List Link) (k : ℕ) (link : Link) (found : Option Depth) → IsFound give task links found (drop k links) → k < length links → link ≡ get_or links k link
    → decides_on task (connection_of link) ≡ false → IsFound give task links found (drop (k + 1) links)
found_past give task links k link found before below is off =
    ap (wider_if_any found) (sym (unasked give task link (drop (k + 1) links) off))
    ∙ (ap (λ (ls : List Link). wider_if_any found (widest (given give task ls))) (sym (here links k link below is)) ∙ before)

pub found_all : (give : Connection → Option Depth) (task : List ℕ) (links : List Link) (k : ℕ) (found : Option Depth) → IsFound give task links found (drop k links) → length links ≤ k → found ≡ widest (filter_map give (deciding task links))
found_all give task links k found before whole =
    sym (any_none found) ∙ (ap (λ (ls : List Link). wider_if_any found (widest (given give task ls))) (sym (drop_whole links k whole)) ∙ before)

-- the links around an atom are those of its own flow
pub deciding_told : (plan : Outline) (v : ℕ) (task : List ℕ) (links : List Link) → map connection_of links ≡ connections_in (found_home plan v) → task ≡ atom_name plan v → deciding task links ≡ decider_links plan v
deciding_told plan v task links is named = ap (λ (name : List ℕ). filter (decides_on name) (map connection_of links)) named ∙ ap (filter (decides_on (atom_name plan v))) is

pub refused_told : (plan : Outline) (s : Snapshot) (v : ℕ) (list : List Connection) → list ≡ decider_links plan v
    → widest (filter_map (refused_depth plan s (filter_map (seen_by_link plan s) list)) list) ≡ refused plan s v
unfolding refused
refused_told plan s v list is = ap (λ (links : List Connection). widest (filter_map (refused_depth plan s (filter_map (seen_by_link plan s) links)) links)) is

-- ---- whether there is a decider

pub any_here : (task : List ℕ) (links : List Link) (k : ℕ) (link : Link) → k < length links → link ≡ get_or links k link → decides_on task (connection_of link) ≡ true → has_any (deciding task (drop k links)) ≡ true
any_here task links k link below is on =
    ap (λ (ls : List Link). has_any (deciding task ls)) (here links k link below is)
    ∙ ap (λ (b : Bool). has_any (cond b (connection_of link ∷ deciding task (drop (k + 1) links)) (deciding task (drop (k + 1) links)))) on

pub any_past : (task : List ℕ) (links : List Link) (k : ℕ) (link : Link) → k < length links → link ≡ get_or links k link → decides_on task (connection_of link) ≡ false → has_any (deciding task (drop k links)) ≡ has_any (deciding task (drop (k + 1) links))
any_past task links k link below is off =
    ap (λ (ls : List Link). has_any (deciding task ls)) (here links k link below is)
    ∙ ap (λ (b : Bool). has_any (cond b (connection_of link ∷ deciding task (drop (k + 1) links)) (deciding task (drop (k + 1) links)))) off

pub any_none_left : (task : List ℕ) (links : List Link) (k : ℕ) → length links ≤ k → has_any (deciding task (drop k links)) ≡ false
any_none_left task links k whole = ap (λ (ls : List Link). has_any (deciding task ls)) (drop_whole links k whole)

-- without a decider nothing refuses
pub never_refused : (plan : Outline) (s : Snapshot) (v : ℕ) (list : List Connection) → decider_links plan v ≡ list → has_any list ≡ false → refused plan s v ≡ None
unfolding refused
never_refused plan s v [] is none = ap (λ (links : List Connection). widest (filter_map (refused_depth plan s (seen plan s v)) links)) is
never_refused plan s v (link ∷ links) is none = absurd (cc)
