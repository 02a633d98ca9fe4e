-- The lists of groups and tasks, made one after another.
use Rattle.std.proofs.Common.{◌≡◌, ℕ, suc, ◌+◌, ◌-◌, ◌<◌, ◌≤◌, List, [], ◌∷◌, ◌++◌, map, sym, ap, subst, ◌∙◌, arith}
use Rattle.std.specs.Prelude.{◌%◌}
use Rattle.tf_flow.specs.declared.atoms.Task.{Task as TaskValue}
use Rattle.tf_flow.specs.declared.nested.Flow.{Flow as FlowValue}
use Rattle.tf_flow.specs.declared.nested.Item.{Item}
use Rattle.tf_flow.specs.declared.nested.Item.TheVariants.{Task, Flow}
use Rattle.tf_flow.specs.Tree.{Tree, task, tree_of, item_tree}
use Rattle.tf_flow.proofs.TreeLemmas.{item_tree-task, item_tree-flow}
use Rattle.tf_numbers.proofs.ListLemmas.{nothing_after, append_chain, map_append}
use Rattle.tf_demo.specs.Demo.{drawn, after, task_drawn, tasks_from, group_size, group_flow, groups_from}

-- one more at the end is the first of what comes
one_more : (items : List Item) (item : Item) (first : Tree) (later whole : List Tree) → item_tree item ≡ first → map item_tree items ++ first ∷ later ≡ whole → map item_tree (items ++ item ∷ []) ++ later ≡ whole
one_more items item first later whole is made =
    ap (λ (trees : List Tree). trees ++ later) (map_append item_tree items (item ∷ []))
    ∙ (append_chain (map item_tree items) (item_tree item ∷ []) later
    ∙ (ap (λ (t : Tree). map item_tree items ++ t ∷ later) is ∙ made))

-- ---- tasks

pub task_made : (items : List Item) (t : TaskValue) (group count place first state : ℕ) (whole : List Tree) → place < count → t ≡ task_drawn group (first + place) (drawn state % 4)
    → map item_tree items ++ tasks_from group (count - place) (first + place) state ≡ whole
    → map item_tree (items ++ Task t ∷ []) ++ tasks_from group (count - (place + 1)) (first + (place + 1)) (drawn state) ≡ whole
task_made items t group count place first state whole within is made =
    let left : count - place ≡ suc (count - (place + 1)) = omega (arith, within) in
    let next : suc (first + place) ≡ first + (place + 1) = omega arith in
    one_more items (Task t) (task t) (tasks_from group (count - (place + 1)) (first + (place + 1)) (drawn state)) whole (item_tree-task t)
    (ap (λ (one : TaskValue). map item_tree items ++ task one ∷ tasks_from group (count - (place + 1)) (first + (place + 1)) (drawn state)) is
    ∙ (ap (λ (number : ℕ). map item_tree items ++ task (task_drawn group (first + place) (drawn state % 4)) ∷ tasks_from group (count - (place + 1)) number (drawn state)) (sym next)
    ∙ (ap (λ (k : ℕ). map item_tree items ++ tasks_from group k (first + place) state) (sym left) ∙ made)))

pub tasks_made : (trees : List Tree) (group count place number state : ℕ) (whole : List Tree) → count ≤ place → trees ++ tasks_from group (count - place) number state ≡ whole → trees ≡ whole
tasks_made trees group count place number state whole done made =
    let none : 0 ≡ count - place = omega (arith, done) in
    sym (nothing_after trees) ∙ (ap (λ (k : ℕ). trees ++ tasks_from group k number state) none ∙ made)

-- ---- draws

pub draw_made : (count place state whole : ℕ) → place < count → after (count - place) state ≡ whole → after (count - (place + 1)) (drawn state) ≡ whole
draw_made count place state whole within made =
    let left : suc (count - (place + 1)) ≡ count - place = omega (arith, within) in ap (λ (k : ℕ). after k state) left ∙ made

pub draws_made : (count place state whole : ℕ) → count ≤ place → after (count - place) state ≡ whole → state ≡ whole
draws_made count place state whole done made = let none : 0 ≡ count - place = omega (arith, done) in ap (λ (k : ℕ). after k state) none ∙ made

-- ---- groups

pub group_made : (items : List Item) (f : FlowValue) (size count group state next : ℕ) (whole : List Tree) → group < count → tree_of f ≡ group_flow size group state → next ≡ after (1 + group_size size group) state
    → map item_tree items ++ groups_from size (count - group) group state ≡ whole
    → map item_tree (items ++ Flow f ∷ []) ++ groups_from size (count - (group + 1)) (group + 1) next ≡ whole
group_made items f size count group state next whole within is left_so made =
    let left : suc (count - (group + 1)) ≡ count - group = omega (arith, within) in
    let later : suc group ≡ group + 1 = omega arith in
    subst (λ (s : ℕ). map item_tree (items ++ Flow f ∷ []) ++ groups_from size (count - (group + 1)) (group + 1) s ≡ whole) (sym left_so)
    (one_more items (Flow f) (group_flow size group state) (groups_from size (count - (group + 1)) (group + 1) (after (1 + group_size size group) state)) whole (item_tree-flow f ∙ is)
    (ap (λ (number : ℕ). map item_tree items ++ group_flow size group state ∷ groups_from size (count - (group + 1)) number (after (1 + group_size size group) state)) (sym later)
    ∙ (ap (λ (k : ℕ). map item_tree items ++ groups_from size k group state) left ∙ made)))

pub groups_made : (trees : List Tree) (size count group state : ℕ) (whole : List Tree) → count ≤ group → trees ++ groups_from size (count - group) group state ≡ whole → trees ≡ whole
groups_made trees size count group state whole done made =
    let none : 0 ≡ count - group = omega (arith, done) in
    sym (nothing_after trees) ∙ (ap (λ (k : ℕ). trees ++ groups_from size k group state) none ∙ made)
