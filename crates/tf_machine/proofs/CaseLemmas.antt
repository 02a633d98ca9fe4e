-- The first case that applies is what is forced.
use Rattle.std.proofs.Common.{◌≡◌, ℕ, suc, ◌+◌, ◌<◌, ◌≤◌, List, ◌∷◌, length, drop, get_or, add-one, Option, Some, None, sym, ap, ◌∙◌}
use Rattle.std.specs.Option.{option_or, option_map}
use Rattle.tf_states.specs.declared.record.What.{What}
use Rattle.tf_machine.specs.declared.cases.Case.{Case}
use Rattle.tf_numbers.specs.Numbers.{first_below}
use Rattle.tf_model.specs.Plan.{Outline, count}
use Rattle.tf_model.specs.History.{Snapshot}
use Rattle.tf_model.specs.Forced.{forced_attempt, forced_again, forced_reverted, forced_resolution, forced_retrying, forced_revert, forced_ignore, forced_run, forced_if_running}
use Rattle.tf_numbers.proofs.ListLemmas.{drop_first, drop_whole}
use Rattle.tf_numbers.proofs.OptionLemmas.{or_none}
use Rattle.tf_machine.specs.Cases.{applies, entry_in, cases, entry_among}

-- ---- the cases in their order

eight : (a b c d e f g h : Option What) → option_or a (option_or b (option_or c (option_or d (option_or e (option_or f (option_or g (option_or h None)))))))
    ≡ option_or a (option_or b (option_or c (option_or d (option_or e (option_or f (option_or g h))))))
eight a b c d e f g h = ap (λ (o : Option What). option_or a (option_or b (option_or c (option_or d (option_or e (option_or f (option_or g o))))))) (or_none h)

pub all_cases : (plan : Outline) (s : Snapshot) → entry_among plan s cases ≡ forced_if_running plan s
unfolding forced_if_running forced_attempt forced_again forced_reverted forced_resolution forced_retrying forced_revert forced_ignore forced_run
all_cases plan s =
    eight (forced_attempt plan s) (forced_again plan s) (forced_reverted plan s) (forced_resolution plan s) (forced_retrying plan s) (forced_revert plan s) (forced_ignore plan s) (forced_run plan s)

-- this case applies to an atom
pub case_found : (plan : Outline) (s : Snapshot) (first : Case) (others : List Case) (a : ℕ) → first_below (count plan) (applies plan s first) ≡ Some a
    → Some (entry_in plan s first a) ≡ entry_among plan s (first ∷ others)
case_found plan s first others a is = sym (ap (λ (o : Option ℕ). option_or (option_map (entry_in plan s first) o) (entry_among plan s others)) is)

-- it applies to none
pub case_passed : (plan : Outline) (s : Snapshot) (first : Case) (others : List Case) → first_below (count plan) (applies plan s first) ≡ None
    → entry_among plan s (first ∷ others) ≡ entry_among plan s others
case_passed plan s first others is = ap (λ (o : Option ℕ). option_or (option_map (entry_in plan s first) o) (entry_among plan s others)) is

-- the case at a place applies to an atom, where those before it apply to none
pub case_here : (plan : Outline) (s : Snapshot) (k : ℕ) (d : Case) (a : ℕ) → k < length cases → entry_among plan s (drop k cases) ≡ forced_if_running plan s
    → first_below (count plan) (applies plan s (get_or cases k d)) ≡ Some a → Some (entry_in plan s (get_or cases k d) a) ≡ forced_if_running plan s
case_here plan s k d a below is here =
    case_found plan s (get_or cases k d) (drop (suc k) cases) a here ∙ (ap (entry_among plan s) (sym (drop_first cases k d below)) ∙ is)

pub case_next : (plan : Outline) (s : Snapshot) (k : ℕ) (d : Case) → k < length cases → entry_among plan s (drop k cases) ≡ forced_if_running plan s
    → first_below (count plan) (applies plan s (get_or cases k d)) ≡ None → entry_among plan s (drop (k + 1) cases) ≡ forced_if_running plan s
case_next plan s k d below is none =
    ap (λ (n : ℕ). entry_among plan s (drop n cases)) (add-one k)
    ∙ (sym (case_passed plan s (get_or cases k d) (drop (suc k) cases) none) ∙ (ap (entry_among plan s) (sym (drop_first cases k d below)) ∙ is))

pub no_case : (plan : Outline) (s : Snapshot) (k : ℕ) → length cases ≤ k → entry_among plan s (drop k cases) ≡ forced_if_running plan s → None ≡ forced_if_running plan s
no_case plan s k past is = sym (ap (entry_among plan s) (drop_whole cases k past)) ∙ is
