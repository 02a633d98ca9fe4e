-- The generated flow without the state of the draws: each group and each task by its number, and by the number of its draw.
use Rattle.std.proofs.Common.{◌≡◌, ℕ, zero, suc, ◌+◌, ◌*◌, ◌-◌, ◌≤◌, List, [], ◌∷◌, ◌++◌, map, refl, sym, ap, ◌∙◌, inl, inr, arith}
use Rattle.std.specs.Prelude.{◌/◌, ◌%◌}
use Rattle.std.proofs.lemmas.Bool.{cases_lt}
use Rattle.tf_flow.specs.declared.atoms.Task.{Task}
use Rattle.tf_flow.specs.declared.nested.FlowKind.{FlowKind}
use Rattle.tf_flow.specs.declared.nested.FlowKind.TheVariants as pattern
use Rattle.tf_flow.specs.Tree.{Place, at_flow, at_retry, at_task, places, places_among, trees_of}
use Rattle.tf_numbers.specs.Numbers.{numbers_below}
use Rattle.tf_numbers.proofs.EquationLemmas.{ap2}
use Rattle.tf_numbers.proofs.ListLemmas.{nothing_after, map_append}
use Rattle.tf_demo.specs.Demo.{drawn, after, task_drawn, tasks_from, pattern_drawn, group_size, groups_from, group_count, demo_flow}
use Rattle.tf_demo.specs.Order.{tasks_in, kinds_in, task_of_number, kind_of_number}

-- ---- numbers from one on

abbrev counted : ℕ → ℕ → List ℕ
counted zero n = []
counted (suc left) n = n ∷ counted left (suc n)

counted_more : (left n last : ℕ) → n + left ≡ last → counted (suc left) n ≡ counted left n ++ last ∷ []
counted_more zero n last e = let same : n ≡ last = omega (arith, e) in ap (λ (k : ℕ). k ∷ []) same
counted_more (suc left) n last e = ap (λ (ks : List ℕ). n ∷ ks) (counted_more left (suc n) last (omega (arith, e)))

counted_below : (n : ℕ) → numbers_below n ≡ counted n 0
counted_below zero = refl
counted_below (suc n) = ap (λ (ks : List ℕ). ks ++ n ∷ []) (counted_below n) ∙ sym (counted_more n 0 n (omega arith))

counted_both : (a b n m : ℕ) → n + a ≡ m → counted (a + b) n ≡ counted a n ++ counted b m
counted_both zero b n m e = let none : 0 + b ≡ b = omega arith in let same : n ≡ m = omega (arith, e) in ap2 counted none same
counted_both (suc a) b n m e =
    let one : suc a + b ≡ suc (a + b) = omega arith in
    ap (λ (k : ℕ). counted k n) one ∙ ap (λ (ks : List ℕ). n ∷ ks) (counted_both a b (suc n) m (omega (arith, e)))

-- ---- draws

pub drawn_after : (draws state : ℕ) → drawn (after draws state) ≡ after (suc draws) state
drawn_after zero state = refl
drawn_after (suc draws) state = drawn_after draws (drawn state)

after_both : (a b c state : ℕ) → a + b ≡ c → after a (after b state) ≡ after c state
after_both a zero c state e = let same : a ≡ c = omega (arith, e) in ap (λ (k : ℕ). after k state) same
after_both a (suc b) zero state e = absurd (omega (arith, e))
after_both a (suc b) (suc c) state e = after_both a b c (drawn state) (omega (arith, e))

-- ---- tasks

tasks_both : (xs ys : List Place) → tasks_in (xs ++ ys) ≡ tasks_in xs ++ tasks_in ys
tasks_both [] ys = refl
tasks_both (at_flow level ∷ xs) ys = tasks_both xs ys
tasks_both (at_retry r ∷ xs) ys = tasks_both xs ys
tasks_both (at_task t ∷ xs) ys = ap (λ (ts : List Task). t ∷ ts) (tasks_both xs ys)

tasks_told : (seed group left number state : ℕ) → 10 * group ≤ number → number + left ≤ 10 * group + 10 → state ≡ after (number + group + 1) seed
    → tasks_in (places_among (trees_of (tasks_from group left number state))) ≡ map (task_of_number seed) (counted left number)
tasks_told seed group zero number state low high is = refl
tasks_told seed group (suc left) number state low high is =
    let of_group : group ≡ number / 10 = omega (arith, low, high) in
    let draws : suc (number + group + 1) ≡ number + number / 10 + 2 = omega (arith, of_group) in
    let more : suc (number + group + 1) ≡ suc number + group + 1 = omega arith in
    let next : drawn state ≡ after (suc (number + group + 1)) seed = ap drawn is ∙ drawn_after (number + group + 1) seed in
    let one : task_drawn group number (drawn state % 4) ≡ task_of_number seed number =
    ap (λ (s : ℕ). task_drawn group number (s % 4)) (next ∙ ap (λ (k : ℕ). after k seed) draws) ∙ ap (λ (g : ℕ). task_drawn g number (after (number + number / 10 + 2) seed % 4)) of_group in
    ap2 ◌∷◌ one (tasks_told seed group left (suc number) (drawn state) (omega (arith, low)) (omega (arith, high)) (next ∙ ap (λ (k : ℕ). after k seed) more))

-- the numbers of a group's tasks, and those behind it
group_numbers : (size group : ℕ) → counted (size - 10 * group) (10 * group) ≡ counted (group_size size group) (10 * group) ++ counted (size - 10 * suc group) (10 * suc group)
group_numbers size group = elim (cases_lt (size - 10 * group) 10) [
  | inl last ↦
      let few : size - 10 * group ≡ group_size size group = omega (arith, last) in
      let none : 0 ≡ size - 10 * suc group = omega (arith, last) in
      sym (nothing_after (counted (size - 10 * group) (10 * group))) ∙ ap2 (λ (k l : ℕ). counted k (10 * group) ++ counted l (10 * suc group)) few none
  | inr whole ↦
      let ten : 10 ≡ group_size size group = omega (arith, whole) in
      let all : size - 10 * group ≡ 10 + (size - 10 * suc group) = omega (arith, whole) in
      ap (λ (k : ℕ). counted k (10 * group)) all
      ∙ (counted_both 10 (size - 10 * suc group) (10 * group) (10 * suc group) (omega arith)
      ∙ ap (λ (k : ℕ). counted k (10 * group) ++ counted (size - 10 * suc group) (10 * suc group)) ten)
]

groups_told : (seed size left group state : ℕ) → group + left ≡ group_count size → state ≡ after (11 * group) seed
    → tasks_in (places_among (trees_of (groups_from size left group state))) ≡ map (task_of_number seed) (counted (size - 10 * group) (10 * group))
groups_told seed size zero group state all is = let none : 0 ≡ size - 10 * group = omega (arith, all) in ap (λ (k : ℕ). map (task_of_number seed) (counted k (10 * group))) none
groups_told seed size (suc left) group state all is =
    let later = places_among (trees_of (groups_from size left (suc group) (after (1 + group_size size group) state))) in
    let tasks = places_among (trees_of (tasks_from group (group_size size group) (10 * group) (drawn state))) in
    let draws : suc (11 * group) ≡ 10 * group + group + 1 = omega arith in
    let first : tasks_in tasks ≡ map (task_of_number seed) (counted (group_size size group) (10 * group)) =
    tasks_told seed group (group_size size group) (10 * group) (drawn state) (omega arith) (omega arith) (ap drawn is ∙ (drawn_after (11 * group) seed ∙ ap (λ (k : ℕ). after k seed) draws)) in
    let rest : tasks_in later ≡ map (task_of_number seed) (counted (size - 10 * suc group) (10 * suc group)) = elim (cases_lt (size - 10 * group) 10) [
      | inl last ↦
          let ends : left ≡ 0 = omega (arith, all, last) in
          let none : 0 ≡ size - 10 * suc group = omega (arith, last) in
          ap (λ (k : ℕ). tasks_in (places_among (trees_of (groups_from size k (suc group) (after (1 + group_size size group) state))))) ends
          ∙ ap (λ (k : ℕ). map (task_of_number seed) (counted k (10 * suc group))) none
      | inr whole ↦
          let so_many : 1 + group_size size group + 11 * group ≡ 11 * suc group = omega (arith, whole) in
          groups_told seed size left (suc group) (after (1 + group_size size group) state) (omega (arith, all))
          (ap (after (1 + group_size size group)) is ∙ after_both (1 + group_size size group) (11 * group) (11 * suc group) seed so_many)
    ] in
    let numbers : counted (size - 10 * group) (10 * group) ≡ counted (group_size size group) (10 * group) ++ counted (size - 10 * suc group) (10 * suc group) = group_numbers size group in
    tasks_both tasks later
    ∙ (ap2 ◌++◌ first rest
    ∙ (sym (map_append (task_of_number seed) (counted (group_size size group) (10 * group)) (counted (size - 10 * suc group) (10 * suc group)))
    ∙ ap (map (task_of_number seed)) (sym numbers)))

pub tasks_numbered : (seed size : ℕ) → tasks_in (places (demo_flow seed size)) ≡ map (task_of_number seed) (numbers_below size)
unfolding demo_flow
tasks_numbered seed size =
    let all : size - 10 * 0 ≡ size = omega arith in
    groups_told seed size (group_count size) 0 seed (omega arith) refl ∙ ap (map (task_of_number seed)) (ap (λ (k : ℕ). counted k 0) all ∙ sym (counted_below size))

-- ---- groups

no_kinds : (group left number state : ℕ) (later : List Place) → kinds_in (places_among (trees_of (tasks_from group left number state)) ++ later) ≡ kinds_in later
no_kinds group zero number state later = refl
no_kinds group (suc left) number state later = no_kinds group left (suc number) (drawn state) later

kinds_told : (seed size left group state : ℕ) → group + left ≡ group_count size → state ≡ after (11 * group) seed
    → kinds_in (places_among (trees_of (groups_from size left group state))) ≡ map (kind_of_number seed) (counted left group)
kinds_told seed size zero group state all is = refl
kinds_told seed size (suc left) group state all is =
    let later = places_among (trees_of (groups_from size left (suc group) (after (1 + group_size size group) state))) in
    let draws : suc (11 * group) ≡ 11 * group + 1 = omega arith in
    let first : pattern_drawn (drawn state % 3) ≡ kind_of_number seed group =
    ap (λ (s : ℕ). pattern_drawn (s % 3)) (ap drawn is ∙ (drawn_after (11 * group) seed ∙ ap (λ (k : ℕ). after k seed) draws)) in
    let rest : kinds_in later ≡ map (kind_of_number seed) (counted left (suc group)) = elim (cases_lt (size - 10 * group) 10) [
      | inl last ↦
          let ends : left ≡ 0 = omega (arith, all, last) in
          ap (λ (k : ℕ). kinds_in (places_among (trees_of (groups_from size k (suc group) (after (1 + group_size size group) state))))) ends
          ∙ ap (λ (k : ℕ). map (kind_of_number seed) (counted k (suc group))) (sym ends)
      | inr whole ↦
          let so_many : 1 + group_size size group + 11 * group ≡ 11 * suc group = omega (arith, whole) in
          kinds_told seed size left (suc group) (after (1 + group_size size group) state) (omega (arith, all))
          (ap (after (1 + group_size size group)) is ∙ after_both (1 + group_size size group) (11 * group) (11 * suc group) seed so_many)
    ] in
    ap2 ◌∷◌ first (no_kinds group (group_size size group) (10 * group) (drawn state) later ∙ rest)

pub kinds_numbered : (seed size : ℕ) → kinds_in (places (demo_flow seed size)) ≡ pattern.Linear ∷ map (kind_of_number seed) (numbers_below (group_count size))
unfolding demo_flow
kinds_numbered seed size =
    ap (λ (ks : List FlowKind). pattern.Linear ∷ ks)
    (kinds_told seed size (group_count size) 0 seed (omega arith) refl ∙ ap (map (kind_of_number seed)) (sym (counted_below (group_count size))))
