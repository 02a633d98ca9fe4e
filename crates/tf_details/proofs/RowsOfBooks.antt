-- Worked books: two runs whose elements stand among one another, and elements that may not stand where they do.
use Rattle.std.proofs.Common.{◌≡◌, List, [], ◌∷◌, Option, Some, None, refl, sym, ap, ◌∙◌, subst, arith}
use Rattle.tf_flow.specs.Plan.{PlanValue}
use Rattle.tf_states.specs.declared.record.Entry.{Entry}
use Rattle.tf_states.specs.declared.state.AtomState.TheVariants as atom
use Rattle.tf_states.specs.declared.state.FlowState.TheVariants as flow
use Rattle.tf_model.specs.Plan.{Outline, outline_of, is_before, holds}
use Rattle.tf_model.specs.History.{mark_after, snapshot}
use Rattle.tf_model.specs.Scope.{members, symbol_value}
use Rattle.tf_model.specs.Readiness.{can_run, can_revert, refused, ignores}
use Rattle.tf_model.specs.Retries.{attempt, answer, resolution}
use Rattle.tf_model.specs.Forced.{forced_attempt, forced_again, forced_reverted, forced_resolution, forced_retrying, forced_revert, forced_ignore, forced_run, forced_if_running, is_active, forced, candidate_if_running, choice, calm_end, end_of}
use Rattle.tf_model.specs.Steps.{is_free, is_still, ends_task, may_suspend, reset, Step}
use Rattle.tf_model.proofs.RowWords.{by, to, flow_to, take_up, turn}
use Rattle.tf_model.proofs.RowsOfTasks.{two_echoes_plan, reverted_in_reverse_plan}
use Rattle.tf_model.proofs.RefusedTasks.{starts_before_running}
use Rattle.tf_details.specs.Elements.{Element, detail, entry, history, detail_name, IsForm, MayBegin, MayStand, IsLegalBook}
use Rattle.tf_details.proofs.WholeLemmas.{apart}

-- the flow is RUNNING; the first task is
abbrev pub runs : Entry
runs = by 0 (flow_to flow.Running)

abbrev pub begins : Entry
begins = by 0 (to 0 atom.Running)

runs_form : IsForm runs
runs_form = (omega arith, tt)

begins_form : IsForm begins
begins_form = (omega arith, (omega arith, refl, tt))

-- both may follow in the first run and in the second
first_runs : Step two_echoes_plan (snapshot two_echoes_plan []) runs
unfolding is_before holds mark_after snapshot members symbol_value can_run can_revert refused ignores attempt answer resolution forced_attempt forced_again forced_reverted forced_resolution forced_retrying forced_revert forced_ignore forced_run forced_if_running is_active forced candidate_if_running choice calm_end end_of is_free is_still ends_task may_suspend reset
first_runs = turn refl refl

first_begins : Step two_echoes_plan (snapshot two_echoes_plan (runs ∷ [])) begins
unfolding is_before holds mark_after snapshot members symbol_value can_run can_revert refused ignores attempt answer resolution forced_attempt forced_again forced_reverted forced_resolution forced_retrying forced_revert forced_ignore forced_run forced_if_running is_active forced candidate_if_running choice calm_end end_of is_free is_still ends_task may_suspend reset
first_begins = take_up refl refl refl

second_runs : Step reverted_in_reverse_plan (snapshot reverted_in_reverse_plan []) runs
unfolding is_before holds mark_after snapshot members symbol_value can_run can_revert refused ignores attempt answer resolution forced_attempt forced_again forced_reverted forced_resolution forced_retrying forced_revert forced_ignore forced_run forced_if_running is_active forced candidate_if_running choice calm_end end_of is_free is_still ends_task may_suspend reset
second_runs = turn refl refl

second_begins : Step reverted_in_reverse_plan (snapshot reverted_in_reverse_plan (runs ∷ [])) begins
unfolding is_before holds mark_after snapshot members symbol_value can_run can_revert refused ignores attempt answer resolution forced_attempt forced_again forced_reverted forced_resolution forced_retrying forced_revert forced_ignore forced_run forced_if_running is_active forced candidate_if_running choice calm_end end_of is_free is_still ends_task may_suspend reset
second_begins = take_up refl refl refl

-- a step of an outline is one of each plan that has it
of_plan : (plan : PlanValue) (outline : Outline) (past : List Entry) (e : Entry) → outline_of plan ≡ outline → Step outline (snapshot outline past) e → Step (outline_of plan) (snapshot (outline_of plan) past) e
of_plan plan outline past e is step = subst (λ (o : Outline). Step o (snapshot o past) e) (sym is) step

-- two details: the first of two tasks in a line, the second of three
module _ (p q : PlanValue) (first : MayBegin [] p) (second : MayBegin (detail p ∷ []) q) (is_p : outline_of p ≡ two_echoes_plan) (is_q : outline_of q ≡ reverted_in_reverse_plan) where
  abbrev pub two_runs : List Element
  two_runs = entry 1 begins ∷ entry 0 begins ∷ entry 1 runs ∷ entry 0 runs ∷ detail q ∷ detail p ∷ []

  -- their elements may stand among one another
  pub two_runs_legal : IsLegalBook two_runs
  two_runs_legal = (
    record { plan = q; of_detail = refl; step = of_plan q reverted_in_reverse_plan (runs ∷ []) begins is_q second_begins; form = begins_form },
    (
      record { plan = p; of_detail = refl; step = of_plan p two_echoes_plan (runs ∷ []) begins is_p first_begins; form = begins_form },
      (
        record { plan = q; of_detail = refl; step = of_plan q reverted_in_reverse_plan [] runs is_q second_runs; form = runs_form },
        (
          record { plan = p; of_detail = refl; step = of_plan p two_echoes_plan [] runs is_p first_runs; form = runs_form },
          (second, (first, tt)),
        ),
      ),
    ),
  )

  -- each has its own history
  pub two_histories : (history 0 two_runs ≡ begins ∷ runs ∷ []) × (history 1 two_runs ≡ begins ∷ runs ∷ [])
  two_histories = (refl, refl)

  -- an entry before its detail
  pub before_its_detail : (e : Entry) → MayStand [] (entry 0 e) → ⊥
  before_its_detail e may = let none : ◌≡◌ {A = Option PlanValue} None (Some may.plan) = may.of_detail in cc

  pub before_the_second : (e : Entry) → MayStand (detail p ∷ []) (entry 1 e) → ⊥
  before_the_second e may = let none : ◌≡◌ {A = Option PlanValue} None (Some may.plan) = may.of_detail in cc

  -- a second detail of one name
  pub named_again : (r : PlanValue) → detail_name p ≡ detail_name r → MayStand (detail q ∷ detail p ∷ []) (detail r) → ⊥
  named_again r same may = apart (detail q ∷ detail p ∷ []) r 0 p may refl same

  -- an entry that may follow in the second detail, but not in the first, whose number it has
  pub of_the_other : MayStand (entry 1 runs ∷ detail q ∷ detail p ∷ []) (entry 1 begins)
  of_the_other = record { plan = q; of_detail = refl; step = of_plan q reverted_in_reverse_plan (runs ∷ []) begins is_q second_begins; form = begins_form }

  pub not_of_this : MayStand (entry 1 runs ∷ detail q ∷ detail p ∷ []) (entry 0 begins) → ⊥
  not_of_this may =
      let both : Some p ≡ Some may.plan = may.of_detail in
      let same : may.plan ≡ p = cc in
      starts_before_running (subst (λ (o : Outline). Step o (snapshot o []) begins) (ap outline_of same ∙ is_p) may.step)
