-- A part of a plan keeps each limit and each rule; it can only be empty.
use Rattle.std.proofs.Common.{◌≡◌, ◌∙◌, ℕ, suc, ◌+◌, ◌≤◌, max, ◌-◌, List, [], ◌∷◌, ◌++◌, Bool, true, false, Some, None, map, filter, length, refl, ap, sym, subst, inl, inr, arith, ltb-true}
use Rattle.std.proofs.lemmas.List.Sums.{sum_by-cons}
use Rattle.std.proofs.lemmas.Bool.{cases_lt, lt-ltb}
use Rattle.std.specs.List.{sum_by}
use Rattle.std.specs.Option.{option_or}
use Rattle.std.specs.Prelude.{if◌then◌else◌, option_map, nat_lt}
use Rattle.tf_flow.specs.Limits.{name_len, link_len, place_len, level_len, plan_len, capped, passing, passing_nesting, passing_comparisons, passing_at, passing_links, link_count, passed, limit_fault}
use Rattle.tf_flow.specs.Tree.{same_name, first_some, first_again, has_twice, Place, at_flow, Level, member_of, members_of, places, places_among, is_atom, is_flow, name_at, Trees, no_trees, tree, nesting, deepest}
use Rattle.tf_flow.specs.Rules.{duplicate, unknown, bad_link, bad_atom, member_names, stray_end, unknown_at, bad_link_at, bad_atom_at, bind_symbols, has_bad_link}
use Rattle.tf_flow.specs.declared.atoms.Bind.{Bind}
use Rattle.tf_flow.specs.declared.faults.Limit.{Limit}
use Rattle.tf_flow.specs.declared.faults.Limit.TheVariants as limit
use Rattle.tf_flow.specs.declared.faults.PlanFault.TheVariants as fault
use Rattle.tf_numbers.proofs.OptionLemmas.{neither_there, none_mapped, none_if}
use Rattle.tf_numbers.proofs.TruthLemmas.{never_true, clash}
use Rattle.tf_target.specs.Target.{keep_first, kept_among}
use Rattle.tf_target.proofs.WithinLemmas.{Within, none_left, left_in, left_out, within_prefix, within_behind, within_map, within_filter, shorter, lesser_sum, still_nothing, still_once}

-- ---- what is kept among items

pub places_kept : (test : ℕ → Bool) (items : Trees) → Within (places_among (kept_among test items)) (places_among items)
places_kept test no_trees = none_left
places_kept test (tree first others) = either (test 0) (places_kept (λ u. test (suc u)) others)
  where
    either : (b : Bool) → Within (places_among (kept_among (λ u. test (suc u)) others)) (places_among others)
        → Within (places_among (keep_first b first (kept_among (λ u. test (suc u)) others))) (places first ++ places_among others)
    either true rest = within_prefix (places first) (places_among (kept_among (λ u. test (suc u)) others)) (places_among others) rest
    either false rest = within_behind (places first) (places_among (kept_among (λ u. test (suc u)) others)) (places_among others) rest

pub members_kept : (test : ℕ → Bool) (items : Trees) → Within (members_of (kept_among test items)) (members_of items)
members_kept test no_trees = none_left
members_kept test (tree first others) = either (test 0) (members_kept (λ u. test (suc u)) others)
  where
    either : (b : Bool) → Within (members_of (kept_among (λ u. test (suc u)) others)) (members_of others)
        → Within (members_of (keep_first b first (kept_among (λ u. test (suc u)) others))) (member_of first ∷ members_of others)
    either true rest = left_in (member_of first) (members_of (kept_among (λ u. test (suc u)) others)) (members_of others) rest
    either false rest = left_out (member_of first) (members_of (kept_among (λ u. test (suc u)) others)) (members_of others) rest

pub no_deeper : (test : ℕ → Bool) (items : Trees) → deepest (kept_among test items) ≤ deepest items
no_deeper test no_trees = omega arith
no_deeper test (tree first others) = either (test 0) (no_deeper (λ u. test (suc u)) others)
  where
    either : (b : Bool) → deepest (kept_among (λ u. test (suc u)) others) ≤ deepest others
        → deepest (keep_first b first (kept_among (λ u. test (suc u)) others)) ≤ max (nesting first) (deepest others)
    either true rest = omega (arith, rest)
    either false rest = omega (arith, rest)

-- ---- limits

within_limit : (most count less : ℕ) → less ≤ count → passing most count ≡ None → passing most less ≡ None
within_limit most count less le none =
    let fits : nat_lt most count ≡ false = none_if (nat_lt most count) count none in
    elim (cases_lt most less) [
      | inl past ↦ absurd (clash (nat_lt most count) (lt-ltb most count (omega (arith, past, le))) fits)
      | inr from ↦ ap (λ b. if b then Some less else None) (never_true (nat_lt most less) (λ is. absurd (omega (arith, from, ltb-true most less is))))
    ]

-- a flow's own place, with fewer links and fewer items, and places of which some are left out
module _ (name : List ℕ) (level less : Level) (order part : List Place)
    (links : Within less.links level.links) (members : Within less.members level.members) (same_name_is : less.name ≡ level.name) (rest : Within part order) where
  abbrev whole : List Place
  whole = at_flow level ∷ order

  abbrev left : List Place
  left = at_flow less ∷ part

  links_fit : (which : Limit) → passing_links which level.links ≡ None → passing_links which less.links ≡ None
  links_fit limit.Test none = still_nothing passing_nesting less.links level.links links none
  links_fit limit.Comparisons none = still_nothing passing_comparisons less.links level.links links none
  links_fit limit.Nesting none = refl
  links_fit limit.Atoms none = refl
  links_fit limit.Flows none = refl
  links_fit limit.Links none = refl
  links_fit limit.Arguments none = refl
  links_fit limit.Injects none = refl
  links_fit limit.Provided none = refl
  links_fit limit.Words none = refl
  links_fit limit.Store none = refl
  links_fit limit.Plan none = refl

  each_fits : (which : Limit) → first_some (passing_at which) whole ≡ None → first_some (passing_at which) left ≡ None
  each_fits which none =
      let both = neither_there (passing_at which (at_flow level)) (first_some (passing_at which) order) none in
      ap (λ o. option_or o (first_some (passing_at which) part)) (links_fit which both.0) ∙ still_nothing (passing_at which) part order rest both.1

  atoms_fewer : length (filter is_atom left) ≤ length (filter is_atom whole)
  atoms_fewer = shorter (filter is_atom part) (filter is_atom order) (within_filter is_atom part order rest)

  flows_fewer : length (filter is_flow left) ≤ length (filter is_flow whole)
  flows_fewer = let fewer : length (filter is_flow part) ≤ length (filter is_flow order) = shorter (filter is_flow part) (filter is_flow order) (within_filter is_flow part order rest) in omega (arith, fewer)

  links_fewer : sum_by link_count left ≤ sum_by link_count whole
  links_fewer =
      let here : length less.links ≤ length level.links = shorter less.links level.links links in
      let there : sum_by link_count part ≤ sum_by link_count order = lesser_sum link_count part order rest in
      omega (arith, sum_by-cons link_count (at_flow less) part, sum_by-cons link_count (at_flow level) order, here, there)

  level_shorter : level_len less ≤ level_len level
  level_shorter =
      let counted : length less.members ≤ length level.members = shorter less.members level.members members in
      let linked : sum_by link_len less.links ≤ sum_by link_len level.links = lesser_sum link_len less.links level.links links in
      let named : name_len less.name ≡ name_len level.name = ap name_len same_name_is in
      omega (arith, counted, linked, named)

  bytes_fewer : sum_by place_len left ≤ sum_by place_len whole
  bytes_fewer =
      let there : sum_by place_len part ≤ sum_by place_len order = lesser_sum place_len part order rest in
      omega (arith, sum_by-cons place_len (at_flow less) part, sum_by-cons place_len (at_flow level) order, level_shorter, there)

  still_fits : (deep flat : ℕ) (store : List Bind) (which : Limit) → flat ≤ deep → passed deep whole store which ≡ None → passed flat left store which ≡ None
  still_fits deep flat store limit.Nesting le none = within_limit 16 deep flat le none
  still_fits deep flat store limit.Atoms le none = within_limit 1000 (length (filter is_atom whole)) (length (filter is_atom left)) atoms_fewer none
  still_fits deep flat store limit.Flows le none = within_limit 500 (length (filter is_flow whole)) (length (filter is_flow left)) flows_fewer none
  still_fits deep flat store limit.Links le none = within_limit 4000 (capped (sum_by link_count whole)) (capped (sum_by link_count left)) (omega (arith, links_fewer)) none
  still_fits deep flat store limit.Arguments le none = each_fits limit.Arguments none
  still_fits deep flat store limit.Injects le none = each_fits limit.Injects none
  still_fits deep flat store limit.Provided le none = each_fits limit.Provided none
  still_fits deep flat store limit.Words le none = each_fits limit.Words none
  still_fits deep flat store limit.Store le none = none
  still_fits deep flat store limit.Test le none = each_fits limit.Test none
  still_fits deep flat store limit.Comparisons le none = each_fits limit.Comparisons none
  still_fits deep flat store limit.Plan le none = within_limit 1048576 (capped (plan_len whole store)) (capped (plan_len left store)) (omega (arith, bytes_fewer)) none

  pub all_fit : (deep flat : ℕ) (store : List Bind) (which : List Limit) → flat ≤ deep → first_some (limit_fault deep whole store) which ≡ None → first_some (limit_fault flat left store) which ≡ None
  all_fit deep flat store [] le none = refl
  all_fit deep flat store (first ∷ others) le none =
      let both = neither_there (limit_fault deep whole store first) (first_some (limit_fault deep whole store) others) none in
      let fits : passed flat left store first ≡ None = still_fits deep flat store first le (none_mapped (λ n. fault.TooLarge first n) (passed deep whole store first) both.0) in
      ap (λ o. option_or (option_map (λ n. fault.TooLarge first n) o) (first_some (limit_fault flat left store) others)) fits ∙ all_fit deep flat store others le both.1

  -- ---- rules

  pub names_once : duplicate whole ≡ None → duplicate left ≡ None
  names_once none =
      ap (option_map (λ n. fault.Duplicate n)) (still_once same_name (map name_at left) (map name_at whole)
      (subst (λ (n : List ℕ). Within (n ∷ map name_at part) (level.name ∷ map name_at order)) (sym same_name_is) (left_in level.name (map name_at part) (map name_at order) (within_map name_at part order rest)))
      (none_mapped (λ n. fault.Duplicate n) (first_again same_name (map name_at whole)) none))

  pub ends_known : first_some (stray_end (member_names less.members)) less.links ≡ None → unknown whole ≡ None → unknown left ≡ None
  ends_known here none =
      let both = neither_there (unknown_at (at_flow level)) (first_some unknown_at order) (none_mapped (λ n. fault.Unknown n) (first_some unknown_at whole) none) in
      ap (option_map (λ n. fault.Unknown n)) (ap (λ o. option_or o (first_some unknown_at part)) here ∙ still_nothing unknown_at part order rest both.1)

  pub atoms_good : (store : List Bind) → bad_atom name store whole ≡ None → bad_atom name store left ≡ None
  atoms_good store none = either (has_twice (bind_symbols store)) (none_mapped (λ n. fault.BadAtom n) (if has_twice (bind_symbols store) then Some name else first_some bad_atom_at whole) none)
    where
      either : (b : Bool) → (if b then Some name else first_some bad_atom_at whole) ≡ None → option_map (λ n. fault.BadAtom n) (if b then Some name else first_some bad_atom_at left) ≡ None
      either true is = absurd (cc)
      either false is = ap (option_map (λ n. fault.BadAtom n)) (still_nothing bad_atom_at part order rest (neither_there (bad_atom_at (at_flow level)) (first_some bad_atom_at order) is).1)

  pub links_good : has_bad_link less ≡ false → bad_link whole ≡ None → bad_link left ≡ None
  links_good here none =
      let both = neither_there (bad_link_at (at_flow level)) (first_some bad_link_at order) (none_mapped (λ n. fault.BadLink n) (first_some bad_link_at whole) none) in
      ap (option_map (λ n. fault.BadLink n)) (ap (λ b. option_or (if b then Some less.name else None) (first_some bad_link_at part)) here ∙ still_nothing bad_link_at part order rest both.1)
