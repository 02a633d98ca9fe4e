-- How many tasks a plan has, and what a check says of it.
use Rattle.std.proofs.Common.{◌≡◌, ℕ, suc, ◌+◌, List, [], ◌∷◌, ◌++◌, length, Bool, true, false, sym, ap, ◌∙◌, append-nil, arith, codes, ◌-◌}
use Rattle.std.specs.Prelude.{if◌then◌else◌, take, slice_index_or, ◌<◌}
use Rattle.std.specs.Fmt.{decimal}
use Rattle.std.proofs.lemmas.List.{length-append, length-take-le, append_assoc}
use Rattle.std.proofs.Math.Seq.{take-suc}
use Rattle.tf_flow.specs.Plan.{PlanValue}
use Rattle.tf_flow.specs.Plan as numbering
use Rattle.tf_numbers.specs.Numbers.{which_below}
use Rattle.tf_model.specs.Plan.{Outline, outline_of, count, is_task}
use Rattle.tf_model.proofs.PlanLemmas.{atoms_counted}
use Rattle.tf_report.specs.Lines.{flow_name, flow_word, detail_line}
use Rattle.tf_book.specs.declared.shelf.Detail.{Detail}
use Rattle.tf_states.specs.declared.state.FlowState.{FlowState}
use Rattle.tf_commands.specs.Messages.{tasks_below, checked, state_forbids, detail_lines}
use Rattle.tf_report.proofs.LineLemmas.{flows_counted}

-- ---- flows

-- ---- how many atoms are tasks

-- one atom more, which is a task
pub counted_task : (plan : Outline) (a tasks : ℕ) → is_task plan a ≡ true → tasks ≡ tasks_below plan a → tasks + 1 ≡ tasks_below plan (a + 1)
counted_task plan a tasks is counted =
    let next : a + 1 ≡ suc a = omega arith in
    ap (λ (n : ℕ). n + 1) counted
    ∙ (sym (length-append (which_below a (is_task plan)) (if is_task plan a then a ∷ [] else []) ∙ ap (λ (test : Bool). tasks_below plan a + length (if test then a ∷ [] else [])) is)
    ∙ ap (tasks_below plan) (sym next))

-- one atom more, which is none
pub counted_other : (plan : Outline) (a tasks : ℕ) → is_task plan a ≡ false → tasks ≡ tasks_below plan a → tasks ≡ tasks_below plan (a + 1)
counted_other plan a tasks is counted =
    let next : a + 1 ≡ suc a = omega arith in
    let none : tasks_below plan a + 0 ≡ tasks_below plan a = omega arith in
    counted
    ∙ (sym (length-append (which_below a (is_task plan)) (if is_task plan a then a ∷ [] else []) ∙ (ap (λ (test : Bool). tasks_below plan a + length (if test then a ∷ [] else [])) is ∙ none))
    ∙ ap (tasks_below plan) (sym next))

-- ---- what a check says

-- nine texts that were appended by twos
by_twos : (prefix a b c d e f g h i : List ℕ) → ((((prefix ++ (a ++ b)) ++ (c ++ d)) ++ (e ++ f)) ++ (g ++ h)) ++ i ≡ prefix ++ (a ++ b ++ c ++ d ++ e ++ f ++ g ++ h ++ i)
by_twos prefix a b c d e f g h i = search (append_assoc)

-- four texts, of which the first three were appended at once
three_at_once : (prefix a b c d : List ℕ) → (prefix ++ (a ++ (b ++ c))) ++ d ≡ prefix ++ (a ++ b ++ c ++ d)
three_at_once prefix a b c d = search (append_assoc)

-- what was appended of a flow whose state forbids a command
pub forbids_told : (prefix name : List ℕ) (state : FlowState)
    → (prefix ++ (codes "taskflow: state forbids: " ++ (name ++ 32 ∷ flow_word state))) ++ codes "\n" ≡ prefix ++ state_forbids name state
unfolding state_forbids
forbids_told prefix name state = three_at_once prefix (codes "taskflow: state forbids: ") name (32 ∷ flow_word state) (codes "\n")

-- ---- the lines of details

-- one more
pub lines_on : (number : ℕ) (list : List Detail) (last : Detail) → detail_lines number (list ++ last ∷ []) ≡ detail_lines number list ++ detail_line (number + length list) last.name last.state
lines_on number [] last = let same : number ≡ number + 0 = omega arith in append-nil (detail_line number last.name last.state) ∙ ap (λ (n : ℕ). detail_line n last.name last.state) same
lines_on number (first ∷ list) last =
    let same : number + 1 + length list ≡ number + suc (length list) = omega arith in
    ap (λ (text : List ℕ). detail_line number first.name first.state ++ text) (lines_on (number + 1) list last ∙ ap (λ (n : ℕ). detail_lines (number + 1) list ++ detail_line n last.name last.state) same)
    ∙ sym (append_assoc (detail_line number first.name first.state) (detail_lines (number + 1) list) (detail_line (number + suc (length list)) last.name last.state))

-- the lines of the first details of a list, and of the next
pub lines_taken : (list : List Detail) (i number : ℕ) (next : Detail) → number ≡ i → i < length list → next ≡ slice_index_or list i next
    → detail_lines 0 (take i list) ++ detail_line number next.name next.state ≡ detail_lines 0 (take (i + 1) list)
lines_taken list i number next at below is =
    let counted : length (take i list) ≡ i = length-take-le i list (omega (arith, below)) in
    let one : i + 1 ≡ suc i = omega arith in
    let last : 0 + length (take i list) ≡ number = omega (arith, counted, at) in
    sym (ap (λ (l : List Detail). detail_lines 0 l) (ap (λ (n : ℕ). take n list) one ∙ take-suc list i next below ∙ ap (λ (d : Detail). take i list ++ d ∷ []) (sym is)) ∙ lines_on 0 (take i list) next
    ∙ ap (λ (n : ℕ). detail_lines 0 (take i list) ++ detail_line n next.name next.state) last)

-- what was appended of a plan
pub checked_told : (plan : PlanValue) (prefix : List ℕ) (tasks atoms flows : ℕ) → tasks ≡ tasks_below (outline_of plan) (count (outline_of plan)) → atoms ≡ length (numbering.atoms plan) → flows ≡ length (numbering.flows plan)
    → ((((prefix ++ (codes "ok " ++ flow_name (outline_of plan) 0)) ++ (codes ": " ++ decimal tasks)) ++ (codes " tasks, " ++ decimal (atoms - tasks))) ++ (codes " retries, " ++ decimal flows)) ++ codes " flows\n"
    ≡ prefix ++ checked (outline_of plan)
unfolding checked
checked_told plan prefix tasks atoms flows counted all flowing =
    let outline : Outline = outline_of plan in
    let number : atoms ≡ count outline = all ∙ atoms_counted plan in
    let flow_number : flows ≡ length outline.flows = flowing ∙ flows_counted plan in
    by_twos prefix (codes "ok ") (flow_name outline 0) (codes ": ") (decimal tasks) (codes " tasks, ") (decimal (atoms - tasks)) (codes " retries, ") (decimal flows) (codes " flows\n")
    ∙ (ap (λ (n : ℕ). prefix ++ (codes "ok " ++ flow_name outline 0 ++ codes ": " ++ decimal n ++ codes " tasks, " ++ decimal (atoms - n) ++ codes " retries, " ++ decimal flows ++ codes " flows\n")) counted
    ∙ (ap (λ (n : ℕ). prefix ++ (codes "ok " ++ flow_name outline 0 ++ codes ": " ++ decimal (tasks_below outline (count outline)) ++ codes " tasks, " ++ decimal (n - tasks_below outline (count outline)) ++ codes " retries, " ++ decimal flows ++ codes " flows\n")) number
    ∙ ap (λ (n : ℕ). prefix ++ (codes "ok " ++ flow_name outline 0 ++ codes ": " ++ decimal (tasks_below outline (count outline)) ++ codes " tasks, " ++ decimal (count outline - tasks_below outline (count outline)) ++ codes " retries, " ++ decimal n ++ codes " flows\n")) flow_number))
