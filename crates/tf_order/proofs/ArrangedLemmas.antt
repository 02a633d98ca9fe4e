-- Flows that are arranged, by their numbers.
use Rattle.std.proofs.Common.{◌≡◌, ◌≢◌, ℕ, ◌-◌, ◌<◌, ◌≤◌, max, List, Bool, true, false, Option, Some, None, refl, sym, ap, ◌∙◌, inl, inr, length, [], arith, eqb-true, eq-eqb, slice_get, slice_index_or}
use Rattle.std.specs.Prelude.{nat_eq, nat_lt}
use Rattle.std.proofs.lemmas.Bool.{cases_lt, lt-ltb, ltb-true}
use Rattle.tf_numbers.proofs.TruthLemmas.{never_true, clash, and_first, true_both}
use Rattle.tf_numbers.specs.Numbers.{has_pair}
use Rattle.tf_model.specs.Before.{Flow, find_flow, item_before}
use Rattle.tf_model.proofs.Told.{order_in}
use Rattle.tf_order.specs.declared.arranged.Arranged.{Arranged}
use Rattle.tf_links.specs.Bits.{has}
use Rattle.tf_links.specs.Links.{leads}
use Rattle.tf_links.proofs.LinkLemmas.{row_zero}
use Rattle.tf_order.specs.Arranged.{comes_before, IsShownAt, ShowsFlows}
use Rattle.tf_order.specs.Intervals.{IsSteady, stands_later}

order_of : (shown : Option (Option Arranged)) (o : Option Flow) (flow : Arranged) (u v : ℕ) → IsShownAt shown o → shown ≡ Some (Some flow) → comes_before flow u v ≡ has_pair (order_in o) u v
order_of None o flow u v is some = absurd (cc)
order_of (Some None) o flow u v is some = absurd (cc)
order_of (Some (Some other)) None flow u v is some = absurd is
order_of (Some (Some other)) (Some f) flow u v is some = let same : other ≡ flow = cc in ap (λ (d : Arranged). comes_before d u v) (sym same) ∙ is.order u v

pub order_found : (table : List (Option Arranged)) (flows : List Flow) (g u v : ℕ) (flow : Arranged) → ShowsFlows table flows → slice_get table g ≡ Some (Some flow) → comes_before flow u v ≡ item_before flows g u v
order_found table flows g u v flow shows is = order_of (slice_get table g) (find_flow flows g) flow u v (shows g) is

no_order : (shown : Option (Option Arranged)) (o : Option Flow) (u v : ℕ) → IsShownAt shown o → ((flow : Arranged) → shown ≡ Some (Some flow) → ⊥) → false ≡ has_pair (order_in o) u v
no_order None None u v is none = refl
no_order None (Some f) u v is none = absurd is
no_order (Some None) None u v is none = refl
no_order (Some None) (Some f) u v is none = absurd is
no_order (Some (Some flow)) o u v is none = absurd (none flow refl)

pub order_none : (table : List (Option Arranged)) (flows : List Flow) (g u v : ℕ) → ShowsFlows table flows → ((flow : Arranged) → slice_get table g ≡ Some (Some flow) → ⊥) → false ≡ item_before flows g u v
order_none table flows g u v shows none = no_order (slice_get table g) (find_flow flows g) u v (shows g) none

-- ---- items that one comes before, or none of which

other_number : (u w : ℕ) → u ≢ w → nat_eq u w ≡ false
other_number u w differ = never_true (nat_eq u w) (λ same. differ (eqb-true u w same))

differ_of : (u v : ℕ) → nat_eq u v ≡ false → u ≢ v
differ_of u v other same = clash (nat_eq u v) (eq-eqb u v same) other

not_later : (items u w : ℕ) → w < u → stands_later items u w ≡ false
not_later items u w below = never_true (stands_later items u w) (λ is. let above : u < w = ltb-true u w (and_first (nat_lt u w) (nat_lt w items) is) in absurd (omega (arith, below, above)))

later : (items u w : ℕ) → u < w → w < items → stands_later items u w ≡ true
later items u w above within = true_both (nat_lt u w) (nat_lt w items) (lt-ltb u w above) (lt-ltb w items within)

pub line_ahead : (items u v last : ℕ) → v < u → last ≡ u - 1 → IsSteady u (stands_later items u) v last
line_ahead items u v last below is w from to = let under : w < u = omega (arith, below, is, to) in
    (other_number u w (λ same. omega (arith, under, same)), not_later items u w under ∙ sym (not_later items u v below))

pub line_behind : (items u v last : ℕ) → nat_eq u v ≡ false → u ≤ v → last ≡ max v (items - 1) → IsSteady u (stands_later items u) v last
line_behind items u v last other from is w above to =
    let differ : u ≢ v = differ_of u v other in
    let over : u < v = omega (arith, from, differ) in (
      other_number u w (λ same. omega (arith, over, above, same)),
      elim (cases_lt v items) [
        | inl within ↦ let inside : w < items = omega (arith, within, is, to) in
            later items u w (omega (arith, over, above)) inside ∙ sym (later items u v over within)
        | inr past ↦ let same : w ≡ v = omega (arith, past, is, to, above) in ap (stands_later items u) same
      ],
    )

pub unordered_ahead : (u v last : ℕ) → v < u → last ≡ u - 1 → IsSteady u (λ w. false) v last
unordered_ahead u v last below is w from to = (other_number u w (λ same. omega (arith, below, is, to, same)), refl)

pub unordered_behind : (u v last : ℕ) → nat_eq u v ≡ false → u ≤ v → IsSteady u (λ w. false) v last
unordered_behind u v last other from w above to =
    let differ : u ≢ v = differ_of u v other in
    (other_number u w (λ same. omega (arith, differ, from, above, same)), refl)

only_one : (u : ℕ) (test : ℕ → Bool) (v w : ℕ) → nat_eq u v ≡ false → w ≡ v → (nat_eq u w ≡ false) × (test w ≡ test v)
only_one u test v w other same = (ap (nat_eq u) same ∙ other, ap test same)

pub only_itself : (u : ℕ) (test : ℕ → Bool) (v last : ℕ) → nat_eq u v ≡ false → last ≡ v → IsSteady u test v last
only_itself u test v last other is w from to = only_one u test v w other (omega (arith, is, from, to))

-- a run of the row of u
abbrev IsRunOf : List ℕ → ℕ → ℕ → Type 0
IsRunOf row v end = (k : ℕ) → v ≤ k → k < end → has row k ≡ has row v

run_there : (rows : List (List ℕ)) (u v end w : ℕ) (row : List ℕ) → u < length rows → row ≡ slice_index_or rows u row → IsRunOf row v end → v ≤ w → w < end → leads rows u w ≡ leads rows u v
run_there rows u v end w row below read run from to =
    let same : row ≡ slice_index_or rows u [] = row_zero rows u row below read in
    ap (λ (r : List ℕ). has r w) (sym same) ∙ (run w from to ∙ ap (λ (r : List ℕ). has r v) same)

-- the run goes on past u, and ends before it here
pub run_before : (rows : List (List ℕ)) (u v end last : ℕ) (row : List ℕ) → u < length rows → row ≡ slice_index_or rows u row → IsRunOf row v end → v < u → u < end → last ≡ u - 1 → IsSteady u (leads rows u) v last
run_before rows u v end last row below read run before within is w from to =
    (other_number u w (λ same. omega (arith, before, is, to, same)), run_there rows u v end w row below read run from (omega (arith, before, within, is, to)))

-- u isn't in the run
pub run_apart : (rows : List (List ℕ)) (u v end last : ℕ) (row : List ℕ) → u < length rows → row ≡ slice_index_or rows u row → IsRunOf row v end → nat_eq u v ≡ false → (v < u → end ≤ u) → v < end → last ≡ end - 1 → IsSteady u (leads rows u) v last
run_apart rows u v end last row below read run other apart begins is w from to =
    let inside : w < end = omega (arith, begins, is, to) in
    let differ : u ≢ v = differ_of u v other in (
      other_number u w (λ same. elim (cases_lt v u) [
        | inl before ↦ let past : end ≤ u = apart before in omega (arith, past, inside, same)
        | inr after ↦ omega (arith, after, differ, from, same)
      ]),
      run_there rows u v end w row below read run from inside,
    )

pub steady_found : (table : List (Option Arranged)) (flows : List Flow) (g u v last : ℕ) (flow : Arranged) → ShowsFlows table flows → slice_get table g ≡ Some (Some flow) → IsSteady u (comes_before flow u) v last → IsSteady u (item_before flows g u) v last
steady_found table flows g u v last flow shows found is w from to = let here = is w from to in
    (here.0, sym (order_found table flows g u w flow shows found) ∙ (here.1 ∙ order_found table flows g u v flow shows found))
