-- The entries of the cases, by what the retry controllers read.
use Rattle.std.proofs.Common.{◌≡◌, ℕ, ◌+◌, ◌<◌, ◌≤◌, ◌⊎◌, inl, inr, List, [], length, take, get_or, Bool, true, false, Option, Some, None, refl, sym, ap, ◌∙◌, subst, slice_get, arith, length-set, eqb-true, eq-eqb}
use Rattle.std.specs.Prelude.{if◌then◌else◌, nat_eq}
use Rattle.std.proofs.Math.ListN.{set}
use Rattle.std.proofs.lemmas.List.Folds.{list_any_more}
use Rattle.tf_flow.specs.declared.atoms.RetryKind.{RetryKind}
use Rattle.tf_flow.specs.declared.deciders.Depth.{Depth}
use Rattle.tf_flow.specs.declared.paths.Turn.{Turn}
use Rattle.tf_actions.specs.declared.orders.Given.{Given}
use Rattle.tf_actions.specs.declared.outcomes.Action.TheVariants as action
use Rattle.tf_states.specs.declared.record.AtomView.{AtomView}
use Rattle.tf_states.specs.declared.record.Kind.{Kind}
use Rattle.tf_states.specs.declared.record.Kind.TheVariants as kind
use Rattle.tf_states.specs.declared.record.Payload.TheVariants as payload
use Rattle.tf_states.specs.declared.record.What.TheVariants as what
use Rattle.tf_flow.specs.Plan.{PlanValue}
use Rattle.tf_numbers.specs.Numbers.{first_below}
use Rattle.tf_numbers.proofs.ListLemmas.{take_whole}
use Rattle.tf_numbers.proofs.TruthLemmas.{or_either, clash}
use Rattle.tf_model.specs.Before.{leads_into, passes_flow}
use Rattle.tf_model.specs.Plan.{Outline, outline_of, count, holds, retry_of, path}
use Rattle.tf_model.specs.History.{Snapshot, Shows, state_in, payload_in}
use Rattle.tf_model.specs.Readiness.{refused}
use Rattle.tf_model.specs.Retries.{retry_kind, attempt_by, attempt_of, attempt, answer_by, answer_of, answer, resolution}
use Rattle.tf_model.specs.Scope.{given_for}
use Rattle.tf_model.specs.Forced.{is_to_put_back, put_back_or_run, again_entry, is_to_ignore, ignore_or_self, ignore_by, ignore_entry, ignored_entry, resolve_entry, resolution_entry}
use Rattle.tf_rules.specs.declared.resolutions.Resolution.{Resolution}
use Rattle.tf_rules.specs.Answers.{HasAnswers}
use Rattle.tf_rules.specs.Resolutions.{shown_resolution}
use Rattle.tf_machine.specs.declared.tables.Tables.{Tables}
use Rattle.tf_machine.specs.Entries.{IsAsGiven}
use Rattle.tf_machine.specs.Tables.{shown_by}
use Rattle.tf_machine.proofs.ChangeLemmas.{set_told}

-- the views are those that the tables show
pub views_seen : (tables : Tables) (views : List AtomView) → views ≡ tables.views.items → Shows views (shown_by tables)
views_seen tables views same = record {
  state = λ a. ap (λ (xs : List AtomView). state_in (slice_get xs a)) (sym same);
  payload = λ a. ap (λ (xs : List AtomView). payload_in (slice_get xs a)) (sym same);
}

pub same_given : (how : RetryKind) (arguments others : Given) → arguments ≡ others → IsAsGiven how arguments others
same_given how arguments others same = record {
  attempts = λ k. ap (λ (g : Given). attempt_by how g k) same;
  answers = λ k. ap (λ (g : Given). answer_by how g k) same;
}

pub attempt_told : (plan : Outline) (s : Snapshot) (a : ℕ) (how : RetryKind) (given : Given) → Some how ≡ retry_kind plan a → IsAsGiven how given (given_for plan s a action.Execute)
    → attempt_by how given (s.attempts a) ≡ attempt plan s a
unfolding attempt
attempt_told plan s a how given is as_given = as_given.attempts (s.attempts a) ∙ ap (λ (o : Option RetryKind). attempt_of o (given_for plan s a action.Execute) (s.attempts a)) is

pub no_attempt : (plan : Outline) (s : Snapshot) (a : ℕ) → None ≡ retry_kind plan a → payload.Empty ≡ attempt plan s a
unfolding attempt
no_attempt plan s a is = ap (λ (o : Option RetryKind). attempt_of o (given_for plan s a action.Execute) (s.attempts a)) is

pub answer_told : (plan : Outline) (s : Snapshot) (a : ℕ) (how : RetryKind) (given : Given) → Some how ≡ retry_kind plan a → IsAsGiven how given (given_for plan s a action.Execute)
    → answer_by how given (s.attempts a) ≡ answer plan s a
unfolding answer
answer_told plan s a how given is as_given = as_given.answers (s.attempts a) ∙ ap (λ (o : Option RetryKind). answer_of o (given_for plan s a action.Execute) (s.attempts a)) is

pub no_answer : (plan : Outline) (s : Snapshot) (a : ℕ) → None ≡ retry_kind plan a → kind.Revert ≡ answer plan s a
unfolding answer
no_answer plan s a is = ap (λ (o : Option RetryKind). answer_of o (given_for plan s a action.Execute) (s.attempts a)) is

-- what is put back, or the RUNNING
pub again_by : (plan : Outline) (s : Snapshot) (r : ℕ) (o : Option ℕ) → o ≡ first_below (count plan) (is_to_put_back plan s r) → put_back_or_run r o ≡ again_entry plan s r
again_by plan s r o is = ap (put_back_or_run r) is

-- what is ignored with this depth
pub ignored_by : (plan : Outline) (s : Snapshot) (v : ℕ) (how : Depth) (o : Option ℕ) → Some how ≡ refused plan s v → o ≡ first_below (count plan) (is_to_ignore plan s v how)
    → ignore_or_self v o ≡ ignore_entry plan s v
ignored_by plan s v how o is found = ap (ignore_or_self v) found ∙ ap (ignore_by plan s v) is

pub not_refused : (plan : Outline) (s : Snapshot) (v : ℕ) → None ≡ refused plan s v → ignored_entry v ≡ ignore_entry plan s v
not_refused plan s v is = ap (ignore_by plan s v) is

-- ---- a failure is resolved by the answers of the retry controllers around it

-- at the number of the retry controller of each flow into which one of these turns leads stands its answer
pub record AreAsked (plan : Outline) (s : Snapshot) (turns : List Turn) (answers : List Kind) : Type 0 where
  pub room : count plan ≤ length answers
  pub at : (flow r : ℕ) → passes_flow flow turns ≡ true → retry_of plan flow ≡ Some r → slice_get answers r ≡ Some (answer plan s r)

pub asked_none : (plan : Outline) (s : Snapshot) (answers : List Kind) → count plan ≤ length answers → AreAsked plan s [] answers
asked_none plan s answers room = record { room = room; at = λ flow r passes is. absurd (cc) }

-- a turn more leads into a flow only where it did before, or where the turn does
passes_next : (flow : ℕ) (turns : List Turn) (k : ℕ) (d : Turn) → k < length turns → passes_flow flow (take (k + 1) turns) ≡ true
    → (passes_flow flow (take k turns) ≡ true) ⊎ ((get_or turns k d).flow ≡ flow)
passes_next flow turns k d within passes =
    elim (or_either (passes_flow flow (take k turns)) (leads_into flow (get_or turns k d)) (sym (list_any_more (leads_into flow) turns k d within) ∙ passes)) [
      | inl before ↦ inl before
      | inr here ↦ inr (eqb-true (get_or turns k d).flow flow here)
    ]

-- in a flow without a retry controller nobody is asked
pub asked_past : (plan : Outline) (s : Snapshot) (turns : List Turn) (k : ℕ) (d : Turn) (answers : List Kind) → AreAsked plan s (take k turns) answers → k < length turns
    → None ≡ retry_of plan (get_or turns k d).flow → AreAsked plan s (take (k + 1) turns) answers
asked_past plan s turns k d answers asked within none = record {
  room = asked.room;
  at = λ flow r passes is. by flow r is (passes_next flow turns k d within passes);
}
  where
    by : (flow r : ℕ) → retry_of plan flow ≡ Some r → (passes_flow flow (take k turns) ≡ true) ⊎ ((get_or turns k d).flow ≡ flow) → slice_get answers r ≡ Some (answer plan s r)
    by flow r is (inl before) = asked.at flow r before is
    by flow r is (inr here) = let no : None ≡ Some r = none ∙ (ap (retry_of plan) here ∙ is) in absurd (cc)

-- a retry controller is asked
pub asked_more : (plan : Outline) (s : Snapshot) (turns : List Turn) (k : ℕ) (d : Turn) (answers : List Kind) (retry : ℕ) (given : Kind) → AreAsked plan s (take k turns) answers → k < length turns
    → Some retry ≡ retry_of plan (get_or turns k d).flow → retry < count plan → given ≡ answer plan s retry → AreAsked plan s (take (k + 1) turns) (set answers retry given)
asked_more plan s turns k d answers retry given asked within some below is_answer = record {
  room = subst (λ (n : ℕ). count plan ≤ n) (sym (length-set answers retry given)) asked.room;
  at = λ flow r passes is. set_told answers retry r given inside ∙ by flow r is (nat_eq retry r) refl (passes_next flow turns k d within passes);
}
  where
    inside : retry < length answers
    inside = let room = asked.room in omega (arith, room, below)

    by : (flow r : ℕ) → retry_of plan flow ≡ Some r → (b : Bool) → nat_eq retry r ≡ b → (passes_flow flow (take k turns) ≡ true) ⊎ ((get_or turns k d).flow ≡ flow)
        → (if b then Some given else slice_get answers r) ≡ Some (answer plan s r)
    by flow r is true same passes = ap (λ (x : Kind). Some x) is_answer ∙ ap (λ (n : ℕ). Some (answer plan s n)) (eqb-true retry r same)
    by flow r is false apart (inl before) = asked.at flow r before is
    by flow r is false apart (inr here) =
        let both : Some retry ≡ Some r = some ∙ (ap (retry_of plan) here ∙ is) in
        let one : retry ≡ r = cc in
        absurd (clash (nat_eq retry r) (eq-eqb retry r one) apart)

pub asked_all : (plan : Outline) (s : Snapshot) (turns : List Turn) (k a : ℕ) (answers : List Kind) → AreAsked plan s (take k turns) answers → length turns ≤ k → turns ≡ path plan a → HasAnswers answers plan s a
unfolding holds
asked_all plan s turns k a answers asked whole is = record {
  at = λ flow r held of. asked.at flow r (ap (passes_flow flow) (take_whole turns k whole ∙ is) ∙ held) of;
}

pub resolved_told : (plan p : PlanValue) (s : Snapshot) (a : ℕ) (answers : List Kind) (found : Resolution) → p ≡ plan → HasAnswers answers (outline_of plan) s a
    → ((t : Snapshot) → HasAnswers answers (outline_of p) t a → shown_resolution found ≡ resolution (outline_of p) t a)
    → what.Resolve found.flow found.kind ≡ resolution_entry (outline_of plan) s a
resolved_told plan p s a answers found same has tells =
    ap resolve_entry (tells s (subst (λ (q : PlanValue). HasAnswers answers (outline_of q) s a) (sym same) has))
    ∙ ap (λ (q : PlanValue). resolution_entry (outline_of q) s a) same
