-- The retry controllers around an atom, from the outermost one on.
use Rattle.std.proofs.Common.{◌≡◌, ℕ, ◌+◌, ◌<◌, ◌≤◌, List, [], ◌∷◌, ◌++◌, length, take, get_or, Bool, true, false, Some, None, refl, sym, ap, ◌∙◌, slice_get}
use Rattle.std.proofs.lemmas.Bool.{eq-eqb}
use Rattle.std.proofs.lemmas.List.{take_more}
use Rattle.std.proofs.lemmas.List.Folds.{list_any_at}
use Rattle.tf_flow.specs.declared.paths.Turn.{Turn}
use Rattle.tf_states.specs.declared.record.Kind.{Kind}
use Rattle.tf_model.specs.Before.{leads_into, passes_flow}
use Rattle.tf_model.specs.Plan.{Outline, path, holds, retry_of}
use Rattle.tf_model.specs.Retries.{Controlled, controlled, controlled_on, resolution_by, resolved, is_outermost, answer, resolution}
use Rattle.tf_model.specs.History.{Snapshot}
use Rattle.tf_numbers.proofs.ListLemmas.{nothing_after, append_chain, take_whole}
use Rattle.tf_rules.specs.declared.resolutions.Resolution.{Resolution}
use Rattle.tf_rules.specs.declared.resolutions.Controller.{Controller}
use Rattle.tf_rules.specs.Answers.{HasAnswers}
use Rattle.tf_rules.specs.Resolutions.{shown_resolution, shown_controller, controllers_in}

one_turn_more : (plan : Outline) (a : ℕ) (xs : List Turn) (turn : Turn) → controlled_on plan a (xs ++ turn ∷ []) ≡ controlled a turn.flow (retry_of plan turn.flow) ++ controlled_on plan a xs
one_turn_more plan a [] turn = sym (nothing_after (controlled a turn.flow (retry_of plan turn.flow)))
one_turn_more plan a (x ∷ xs) turn =
    ap (λ (list : List Controlled). list ++ controlled a x.flow (retry_of plan x.flow)) (one_turn_more plan a xs turn)
    ∙ append_chain (controlled a turn.flow (retry_of plan turn.flow)) (controlled_on plan a xs) (controlled a x.flow (retry_of plan x.flow))

-- the flow into which a turn of its path leads holds an atom
turn_held : (plan : Outline) (a : ℕ) (turns : List Turn) (k : ℕ) (d : Turn) → turns ≡ path plan a → k < length turns → holds plan (get_or turns k d).flow a ≡ true
unfolding holds
turn_held plan a turns k d is within =
    ap (passes_flow (get_or turns k d).flow) (sym is) ∙ list_any_at (leads_into (get_or turns k d).flow) turns k d within (eq-eqb (get_or turns k d).flow (get_or turns k d).flow refl)

-- what is found of the turns that were looked at
pub record Walked (plan : Outline) (answers : List Kind) (a : ℕ) (turns : List Turn) (last : Resolution) (outermost : Bool) : Type 0 where
  pub innermost : outermost ≡ is_outermost (controlled_on plan a turns)
  pub found : (s : Snapshot) → HasAnswers answers plan s a → shown_resolution last ≡ resolution_by plan s (controlled_on plan a turns)

pub walked_past : (plan : Outline) (answers : List Kind) (a : ℕ) (turns : List Turn) (k : ℕ) (d : Turn) (found : Resolution) (outermost : Bool) → Walked plan answers a (take k turns) found outermost → k < length turns
    → controllers_in None ≡ controlled a (get_or turns k d).flow (retry_of plan (get_or turns k d).flow) → Walked plan answers a (take (k + 1) turns) found outermost
walked_past plan answers a turns k d found outermost walked within none =
    let same : controlled_on plan a (take k turns) ≡ controlled_on plan a (take (k + 1) turns) =
    ap (λ (list : List Controlled). list ++ controlled_on plan a (take k turns)) none ∙ sym (ap (controlled_on plan a) (take_more turns k d within) ∙ one_turn_more plan a (take k turns) (get_or turns k d)) in
    record {
      innermost = walked.innermost ∙ ap is_outermost same;
      found = λ s has. walked.found s has ∙ ap (resolution_by plan s) same;
    }

pub walked_more : (plan : Outline) (answers : List Kind) (a : ℕ) (turns : List Turn) (k : ℕ) (d : Turn) (old new : Resolution) (outermost : Bool) (here : Controller) (given : Kind)
    → Walked plan answers a (take k turns) old outermost → k < length turns
    → turns ≡ path plan a → controllers_in (Some here) ≡ controlled a (get_or turns k d).flow (retry_of plan (get_or turns k d).flow)
    → retry_of plan (get_or turns k d).flow ≡ Some here.retry
    → ((how : Kind) → slice_get answers here.retry ≡ Some how → given ≡ how)
    → ((others : List Controlled) → outermost ≡ is_outermost others → shown_resolution new ≡ resolved plan.defer (shown_controller here) others (shown_resolution old) given)
    → Walked plan answers a (take (k + 1) turns) new false
walked_more plan answers a turns k d old new outermost here given walked within is some retry read step =
    let same : shown_controller here ∷ controlled_on plan a (take k turns) ≡ controlled_on plan a (take (k + 1) turns) =
    ap (λ (list : List Controlled). list ++ controlled_on plan a (take k turns)) some ∙ sym (ap (controlled_on plan a) (take_more turns k d within) ∙ one_turn_more plan a (take k turns) (get_or turns k d)) in
    record {
      innermost = ap is_outermost same;
      found = λ s has.
          step (controlled_on plan a (take k turns)) walked.innermost
          ∙ (ap (resolved plan.defer (shown_controller here) (controlled_on plan a (take k turns)) (shown_resolution old)) (read (answer plan s here.retry) (has.at (get_or turns k d).flow here.retry (turn_held plan a turns k d is within) retry))
          ∙ (ap (λ p. resolved plan.defer (shown_controller here) (controlled_on plan a (take k turns)) p (answer plan s here.retry)) (walked.found s has)
          ∙ ap (resolution_by plan s) same));
    }

pub walked_all : (plan : Outline) (answers : List Kind) (a : ℕ) (turns : List Turn) (k : ℕ) (found : Resolution) (outermost : Bool) → Walked plan answers a (take k turns) found outermost → length turns ≤ k → turns ≡ path plan a
    → (s : Snapshot) → HasAnswers answers plan s a → shown_resolution found ≡ resolution plan s a
unfolding resolution
walked_all plan answers a turns k found outermost walked whole is s has =
    walked.found s has ∙ ap (λ (w : List Turn). resolution_by plan s (controlled_on plan a w)) (take_whole turns k whole ∙ is)
