-- How links and ambiguities grow along the path to an atom, and over all atoms.
use Rattle.std.proofs.Common.{◌≡◌, ◌≢◌, ℕ, zero, suc, ◌+◌, ◌<◌, ◌≤◌, List, [], ◌∷◌, ◌++◌, length, take, flat_map, Bool, true, false, ◌&&◌, ◌||◌, Option, Some, None, refl, sym, ap, ◌∙◌, add-one, append_assoc, arith, eqb-true, eq-eqb, slice_index_or}
use Rattle.std.specs.Prelude.{nat_eq, nat_lt, if◌then◌else◌}
use Rattle.std.specs.List.{list_any}
use Rattle.std.proofs.lemmas.Bool.{ltb-true}
use Rattle.tf_numbers.specs.Numbers.{which_below}
use Rattle.tf_flow.specs.declared.paths.Turn.{Turn}
use Rattle.tf_model.specs.Before.{Flow, takes_item, same_place, passes_item, path_at, is_inside, needs_of_atom, needs, is_inferred_by}
use Rattle.tf_model.specs.Plan.{is_ambiguous}
use Rattle.tf_numbers.proofs.TruthLemmas.{true_both, never_true, or_chain, or_false, second_false, or_nothing}
use Rattle.tf_order.specs.declared.context.Context.{Context}
use Rattle.tf_order.specs.Arranged.{ShowsFlows}
use Rattle.tf_links.specs.Bits.{has}
use Rattle.tf_links.specs.Links.{leads, LinksValue}
use Rattle.tf_order.specs.Context.{atoms_seen, place_seen, count_seen, LinksBy, for_item, needed_at, taken_at, passed_at, needed_below}
use Rattle.tf_order.proofs.ContextLemmas.{length_seen}
use Rattle.tf_numbers.proofs.ListLemmas.{nothing_after, take_whole}
use Rattle.tf_order.proofs.LinkingLemmas.{links_then, links_none, links_as, any_append, take_next, take_none}

-- ---- the turns of an atom's path

abbrev pub TurnSeen : Context → ℕ → Turn → LinksValue → List ℕ → LinksValue → List ℕ → Type 0
TurnSeen context atom turn s0 d0 s d = (inner : List Flow) → ShowsFlows context.table.now inner → LinksBy context (taken_at context inner atom turn) s0 d0 s d

if_none : (b : Bool) (xs : List (List ℕ)) (p : List ℕ → Bool) → b ≡ false → list_any p (if b then xs else []) ≡ false
if_none true xs p off = absurd (cc)
if_none false xs p off = refl

pub turn_other : (context : Context) (atom : ℕ) (turn : Turn) (s : LinksValue) (d : List ℕ) → turn.flow ≢ (place_seen context).number → TurnSeen context atom turn s d s d
turn_other context atom turn s d differ inner shows = links_none context (taken_at context inner atom turn) s d
    (λ v p. if_none (takes_item (place_seen context).number (Some v) turn) (needed_at context inner atom v) p (ap (λ (b : Bool). b && same_place turn.item (Some v)) (never_true (nat_eq turn.flow (place_seen context).number) (λ same. differ (eqb-true turn.flow (place_seen context).number same)))))

pub turn_retry : (context : Context) (atom : ℕ) (turn : Turn) (s : LinksValue) (d : List ℕ) → turn.item ≡ None → TurnSeen context atom turn s d s d
turn_retry context atom turn s d none inner shows = links_none context (taken_at context inner atom turn) s d
    (λ v p. if_none (takes_item (place_seen context).number (Some v) turn) (needed_at context inner atom v) p (second_false (nat_eq turn.flow (place_seen context).number) _ (ap (λ (o : Option ℕ). same_place o (Some v)) none)))

-- an item past the last one is none of the flow's: nothing is told of it
pub turn_past : (context : Context) (atom : ℕ) (turn : Turn) (item : ℕ) (s : LinksValue) (d : List ℕ) → turn.item ≡ Some item → count_seen context ≤ item → TurnSeen context atom turn s d s d
turn_past context atom turn item s d is past inner shows = record {
  links = λ u v. or_nothing (leads s.rows u v) _ (nothing v (is_inferred_by (atoms_seen context) (place_seen context) u v));
  ambiguities = λ v. or_nothing (has d v) _ (nothing v (is_ambiguous (atoms_seen context) (place_seen context) v));
}
  where
    nothing : (v : ℕ) (p : List ℕ → Bool) → nat_lt v (count_seen context) && list_any p (taken_at context inner atom turn v) ≡ false
    nothing v p = by_item (nat_eq item v) refl
      where
        by_item : (b : Bool) → nat_eq item v ≡ b → nat_lt v (count_seen context) && list_any p (taken_at context inner atom turn v) ≡ false
        by_item true same = ap (λ (b : Bool). b && list_any p (taken_at context inner atom turn v)) (never_true (nat_lt v (count_seen context)) (λ less. let below : v < count_seen context = ltb-true v (count_seen context) less in let e : item ≡ v = eqb-true item v same in omega (arith, below, e, past)))
        by_item false other = second_false (nat_lt v (count_seen context)) _ (if_none (takes_item (place_seen context).number (Some v) turn) (needed_at context inner atom v) p
            (second_false (nat_eq turn.flow (place_seen context).number) _ (ap (λ (o : Option ℕ). same_place o (Some v)) is ∙ other)))

pub turn_here : (context : Context) (atom : ℕ) (turn : Turn) (item : ℕ) (s0 s : LinksValue) (d0 d : List ℕ) → turn.flow ≡ (place_seen context).number → turn.item ≡ Some item
    → ((inner : List Flow) → ShowsFlows context.table.now inner → LinksBy context (for_item item (needed_at context inner atom item)) s0 d0 s d) → TurnSeen context atom turn s0 d0 s d
turn_here context atom turn item s0 s d0 d same is one inner shows = links_as context (for_item item (needed_at context inner atom item)) (taken_at context inner atom turn) s0 s d0 d (one inner shows) (λ v. by_item v (nat_eq item v) refl)
  where
    by_item : (v : ℕ) (b : Bool) → nat_eq item v ≡ b → (if b then needed_at context inner atom item else []) ≡ (if takes_item (place_seen context).number (Some v) turn then needed_at context inner atom v else [])
    by_item v true e = ap (needed_at context inner atom) (eqb-true item v e)
        ∙ sym (ap (λ (b : Bool). if b then needed_at context inner atom v else []) (true_both (nat_eq turn.flow (place_seen context).number) (same_place turn.item (Some v)) (eq-eqb turn.flow (place_seen context).number same) (ap (λ (o : Option ℕ). same_place o (Some v)) is ∙ e)))
    by_item v false other = sym (ap (λ (b : Bool). if b then needed_at context inner atom v else []) (second_false (nat_eq turn.flow (place_seen context).number) _ (ap (λ (o : Option ℕ). same_place o (Some v)) is ∙ other)))

-- what the turns so far gave
abbrev pub TurnsSeen : Context → ℕ → LinksValue → List ℕ → LinksValue → List ℕ → List Turn → Type 0
TurnsSeen context atom s0 d0 s d turns = (inner : List Flow) → ShowsFlows context.table.now inner → LinksBy context (passed_at context inner atom turns) s0 d0 s d

pub turns_start : (context : Context) (atom : ℕ) (s : LinksValue) (d : List ℕ) (turns : List Turn) → TurnsSeen context atom s d s d (take 0 turns)
turns_start context atom s d turns inner shows = links_none context (passed_at context inner atom (take 0 turns)) s d
    (λ v p. if_none (passes_item (place_seen context).number (Some v) (take 0 turns)) (needed_at context inner atom v) p (ap (λ (ts : List Turn). passes_item (place_seen context).number (Some v) ts) (take_none turns)))

passes_more : (flow v : ℕ) (turns : List Turn) (turn : Turn) → passes_item flow (Some v) ((turns ++ turn ∷ [])) ≡ (passes_item flow (Some v) turns || takes_item flow (Some v) turn)
passes_more flow v [] turn = or_false (takes_item flow (Some v) turn)
passes_more flow v (t ∷ ts) turn = ap (λ (b : Bool). takes_item flow (Some v) t || b) (passes_more flow v ts turn) ∙ or_chain (takes_item flow (Some v) t) (passes_item flow (Some v) ts) (takes_item flow (Some v) turn)

if_both : (a b c : Bool) (xs : List (List ℕ)) (p : List ℕ → Bool) → c ≡ a || b → list_any p (if c then xs else []) ≡ (list_any p (if a then xs else []) || list_any p (if b then xs else []))
if_both true true c xs p is = ap (λ (d : Bool). list_any p (if d then xs else [])) is ∙ twice (list_any p xs)
  where
    twice : (d : Bool) → d ≡ d || d
    twice true = refl
    twice false = refl
if_both true false c xs p is = ap (λ (d : Bool). list_any p (if d then xs else [])) is ∙ or_false (list_any p xs)
  where
    or_false : (d : Bool) → d ≡ d || false
    or_false true = refl
    or_false false = refl
if_both false b c xs p is = ap (λ (d : Bool). list_any p (if d then xs else [])) is

pub turns_more : (context : Context) (atom : ℕ) (s0 s1 s2 : LinksValue) (d0 d1 d2 : List ℕ) (turns : List Turn) (i : ℕ) (turn : Turn) → TurnsSeen context atom s0 d0 s1 d1 (take i turns) → i < length turns → turn ≡ slice_index_or turns i turn
    → TurnSeen context atom turn s1 d1 s2 d2 → TurnsSeen context atom s0 d0 s2 d2 (take (i + 1) turns)
turns_more context atom s0 s1 s2 d0 d1 d2 turns i turn before within is one inner shows =
    links_then context (passed_at context inner atom (take i turns)) (taken_at context inner atom turn) (passed_at context inner atom (take (i + 1) turns)) s0 s1 s2 d0 d1 d2 (before inner shows) (one inner shows)
    (λ v p. if_both (passes_item (place_seen context).number (Some v) (take i turns)) (takes_item (place_seen context).number (Some v) turn) (passes_item (place_seen context).number (Some v) (take (i + 1) turns)) (needed_at context inner atom v) p
    (ap (λ (ts : List Turn). passes_item (place_seen context).number (Some v) ts) (ap (λ (n : ℕ). take n turns) (add-one i) ∙ take_next turns i turn within is) ∙ passes_more (place_seen context).number v (take i turns) turn))

pub turns_all : (context : Context) (atom : ℕ) (s0 s : LinksValue) (d0 d : List ℕ) (turns : List Turn) (i : ℕ) (path : List Turn) → TurnsSeen context atom s0 d0 s d (take i turns) → length turns ≤ i → turns ≡ path
    → (inner : List Flow) → ShowsFlows context.table.now inner → LinksBy context (passed_at context inner atom path) s0 d0 s d
turns_all context atom s0 s d0 d turns i path seen whole is inner shows = links_as context (passed_at context inner atom (take i turns)) (passed_at context inner atom path) s0 s d0 d (seen inner shows)
    (λ v. ap (λ (w : List Turn). passed_at context inner atom w v) (take_whole turns i whole ∙ is))

-- ---- all atoms

abbrev pub AtomsSeen : Context → LinksValue → List ℕ → LinksValue → List ℕ → ℕ → Type 0
AtomsSeen context s0 d0 s d n = (inner : List Flow) → ShowsFlows context.table.now inner → LinksBy context (needed_below context inner n) s0 d0 s d

pub inferred_start : (context : Context) (s : LinksValue) (d : List ℕ) → AtomsSeen context s d s d 0
inferred_start context s d inner shows = links_none context (needed_below context inner 0) s d (λ v p. refl)

pub flat_append : {X Y : Type 0} (f : X → List Y) (xs ys : List X) → flat_map f (xs ++ ys) ≡ flat_map f xs ++ flat_map f ys
flat_append f [] ys = refl
flat_append {Y = Y} f (x ∷ xs) ys = ap (λ (zs : List Y). f x ++ zs) (flat_append f xs ys) ∙ sym (append_assoc (f x) (flat_map f xs) (flat_map f ys))

pub inferred_more : (context : Context) (s0 s1 s2 : LinksValue) (d0 d1 d2 : List ℕ) (atom : ℕ) → AtomsSeen context s0 d0 s1 d1 atom
    → ((inner : List Flow) → ShowsFlows context.table.now inner → LinksBy context (passed_at context inner atom (path_at (atoms_seen context) atom)) s1 d1 s2 d2) → AtomsSeen context s0 d0 s2 d2 (atom + 1)
inferred_more context s0 s1 s2 d0 d1 d2 atom before one inner shows =
    links_then context (needed_below context inner atom) (passed_at context inner atom (path_at (atoms_seen context) atom)) (needed_below context inner (atom + 1)) s0 s1 s2 d0 d1 d2 (before inner shows) (one inner shows)
    (λ v p. ap (λ (n : ℕ). list_any p (needed_below context inner n v)) (add-one atom)
    ∙ (ap (list_any p) (flat_append (needs_of_atom (atoms_seen context) inner (place_seen context).number v) (which_below atom (is_inside (atoms_seen context) (place_seen context).number v)) (if is_inside (atoms_seen context) (place_seen context).number v atom then atom ∷ [] else []))
    ∙ (any_append p (needed_below context inner atom v) (flat_map (needs_of_atom (atoms_seen context) inner (place_seen context).number v) (if is_inside (atoms_seen context) (place_seen context).number v atom then atom ∷ [] else []))
    ∙ ap (λ (b : Bool). list_any p (needed_below context inner atom v) || b) (last v p (is_inside (atoms_seen context) (place_seen context).number v atom)))))
  where
    last : (v : ℕ) (p : List ℕ → Bool) (b : Bool) → list_any p (flat_map (needs_of_atom (atoms_seen context) inner (place_seen context).number v) (if b then atom ∷ [] else [])) ≡ list_any p (if b then needed_at context inner atom v else [])
    last v p true = ap (list_any p) (nothing_after (needs_of_atom (atoms_seen context) inner (place_seen context).number v atom))
    last v p false = refl

pub inferred_all : (context : Context) (s0 s : LinksValue) (d0 d : List ℕ) (n : ℕ) → AtomsSeen context s0 d0 s d n → n ≡ length context.atoms.now → (inner : List Flow) → ShowsFlows context.table.now inner
    → LinksBy context (needs (atoms_seen context) inner (place_seen context).number) s0 d0 s d
inferred_all context s0 s d0 d n seen whole inner shows = links_as context (needed_below context inner n) (needs (atoms_seen context) inner (place_seen context).number) s0 s d0 d (seen inner shows)
    (λ v. ap (λ (k : ℕ). needed_below context inner k v) (whole ∙ sym (length_seen context.atoms.now)))

read_again : {X : Type 0} (xs : List X) (i : ℕ) (d : X) → i < length xs → slice_index_or xs i d ≡ slice_index_or xs i (slice_index_or xs i d)
read_again [] i d within = absurd (omega arith)
read_again (x ∷ xs) zero d within = refl
read_again (x ∷ xs) (suc i) d within = read_again xs i d (omega arith)

pub turns_next : (context : Context) (atom : ℕ) (s0 s1 s2 : LinksValue) (d0 d1 d2 : List ℕ) (turns : List Turn) (i : ℕ) (other : Turn) → TurnsSeen context atom s0 d0 s1 d1 (take i turns) → i < length turns
    → TurnSeen context atom (slice_index_or turns i other) s1 d1 s2 d2 → TurnsSeen context atom s0 d0 s2 d2 (take (i + 1) turns)
turns_next context atom s0 s1 s2 d0 d1 d2 turns i other before within one =
    turns_more context atom s0 s1 s2 d0 d1 d2 turns i (slice_index_or turns i other) before within (read_again turns i other within) one
