-- A resolution to run a flow again comes from its retry controller, which has attempts left then.
use Rattle.std.proofs.Common.{◌≡◌, ℕ, ◌<◌, List, [], ◌∷◌, ◌++◌, length, Bool, true, false, not, ◌&&◌, Option, Some, None, refl, ap, arith}
use Rattle.std.specs.Prelude.{if◌then◌else◌, codes, nat_eq, nat_lt}
use Rattle.std.proofs.lemmas.Bool.{ltb-true}
use Rattle.tf_values.specs.declared.value.Val.{Val}
use Rattle.tf_values.specs.declared.value.Val.TheVariants as value
use Rattle.tf_flow.specs.declared.atoms.RetryKind.{RetryKind}
use Rattle.tf_flow.specs.declared.atoms.RetryKind.TheVariants as retry
use Rattle.tf_actions.specs.declared.orders.Given.{Given}
use Rattle.tf_actions.specs.declared.orders.Given.TheVariants as given
use Rattle.tf_actions.specs.declared.outcomes.Action.TheVariants as action
use Rattle.tf_states.specs.declared.record.Kind.{Kind}
use Rattle.tf_states.specs.declared.record.Kind.TheVariants as kind
use Rattle.tf_flow.specs.declared.paths.Turn.{Turn}
use Rattle.tf_model.specs.Plan.{Outline, path, retry_of}
use Rattle.tf_model.specs.History.{Resolve, Snapshot, is_again}
use Rattle.tf_model.specs.Scope.{given_for}
use Rattle.tf_model.specs.Retries.{argument_named, give_up, try_again, answer_by_values, answer_by_given, answer_by, answer_of, answer, retry_kind, Controlled, controlled, controlled_on, enclosing, resolved, resolution_by, resolution, is_outermost, is_revert}
use Rattle.tf_bound.specs.Costs.{tries_of, tries_at}
use Rattle.tf_bound.specs.Short.{ShowsShort, IsWithinLimits}
use Rattle.tf_bound.proofs.ShortLemmas.{FoundShort, GivenShort, executes_short, named_short}

-- ---- an answer to run again means that attempts are left

gives_up : (all : Bool) → is_again (give_up all) ≡ true → ⊥
gives_up true is = cc
gives_up false is = cc

tries_again : (m limit : ℕ) (all : Bool) → is_again (try_again m limit all) ≡ true → m < limit
tries_again m limit all is = by (nat_lt m limit) refl is
  where
    by : (b : Bool) → nat_lt m limit ≡ b → is_again (if b then kind.Retry else give_up all) ≡ true → m < limit
    by true less again = ltb-true m limit less
    by false less again = absurd (gives_up all again)

values_again : (o : Option Val) (m : ℕ) (all : Bool) → FoundShort o → is_again (answer_by_values o m all) ≡ true → m < 1024
values_again (Some (value.List scalars)) m all short is = let less : m < length scalars = tries_again m (length scalars) all is in omega (arith, less, short)
values_again (Some value.Nothing) m all short is = absurd (gives_up all is)
values_again (Some (value.Truth truth)) m all short is = absurd (gives_up all is)
values_again (Some (value.Int number)) m all short is = absurd (gives_up all is)
values_again (Some (value.Text text)) m all short is = absurd (gives_up all is)
values_again None m all short is = absurd (gives_up all is)

given_again : (arguments : Given) (m : ℕ) (all : Bool) → GivenShort arguments → is_again (answer_by_given arguments m all) ≡ true → m < 1024
given_again (given.Missing symbol) m all short is = absurd (gives_up all is)
given_again (given.Found pairs) m all short is = values_again (argument_named pairs (codes "values")) m all (named_short pairs (codes "values") short) is

kind_again : (how : RetryKind) (arguments : Given) (m : ℕ) → GivenShort arguments → is_again (answer_by how arguments m) ≡ true → m < tries_of (Some how)
kind_again retry.AlwaysRevert arguments m short is = absurd (cc)
kind_again retry.AlwaysRevertAll arguments m short is = absurd (cc)
kind_again (retry.Times attempts all) arguments m short is = tries_again m attempts all is
kind_again (retry.ForEach values all) arguments m short is = let less : m < length values = tries_again m (length values) all is in omega (arith, less)
kind_again (retry.Parameterized all) arguments m short is = given_again arguments m all short is

answer_again : (o : Option RetryKind) (arguments : Given) (m : ℕ) → GivenShort arguments → is_again (answer_of o arguments m) ≡ true → m < tries_of o
answer_again None arguments m short is = absurd (cc)
answer_again (Some how) arguments m short is = kind_again how arguments m short is

-- a retry controller that answers RETRY has attempts left
pub again_fewer : (plan : Outline) (s : Snapshot) (r : ℕ) → IsWithinLimits plan → ShowsShort s → is_again (answer plan s r) ≡ true → s.attempts r < tries_at plan r
unfolding answer
again_fewer plan s r limits shows is = answer_again (retry_kind plan r) (given_for plan s r action.Execute) (s.attempts r) (executes_short plan s r limits shows) is

-- ---- a resolution to run again comes from such an answer

-- the retry controller of the flow answered so
pub record Answered (plan : Outline) (s : Snapshot) (g : ℕ) : Type 0 where
  pub number : ℕ
  pub controls : retry_of plan g ≡ Some number
  pub again : is_again (answer plan s number) ≡ true

abbrev ByAnswer : Outline → Snapshot → Resolve → Type 0
ByAnswer plan s p = is_again p.kind ≡ true → Answered plan s p.flow

-- each of these controls its flow
abbrev AllControl : Outline → List Controlled → Type 0
AllControl plan [] = Unit {0}
AllControl plan (c ∷ cs) = (retry_of plan c.flow ≡ Some c.retry) × AllControl plan cs

either_answered : (plan : Outline) (s : Snapshot) (b : Bool) (p q : Resolve) → ByAnswer plan s p → ByAnswer plan s q → ByAnswer plan s (if b then p else q)
either_answered plan s true p q one other = one
either_answered plan s false p q one other = other

resolved_answered : (plan : Outline) (s : Snapshot) (defer : Bool) (here : Controlled) (outer : List Controlled) (p : Resolve) (how : Kind) → answer plan s here.retry ≡ how → retry_of plan here.flow ≡ Some here.retry → ByAnswer plan s p
    → ByAnswer plan s (resolved defer here outer p how)
resolved_answered plan s defer here outer p kind.Retry gave controls inner = λ again. record { number = here.retry; controls = controls; again = ap is_again gave }
resolved_answered plan s defer here outer p kind.RevertAll gave controls inner = λ again. absurd (cc)
resolved_answered plan s defer here outer p kind.Revert gave controls inner =
    either_answered plan s defer p _ inner
    (either_answered plan s (not (is_outermost outer) && not (is_revert p.kind)) p (record { flow = here.flow; kind = kind.Revert }) inner (λ again. absurd (cc)))

by_answers : (plan : Outline) (s : Snapshot) (list : List Controlled) → AllControl plan list → ByAnswer plan s (resolution_by plan s list)
by_answers plan s [] each = λ again. absurd (cc)
by_answers plan s (here ∷ outer) each =
    resolved_answered plan s plan.defer here outer (resolution_by plan s outer) (answer plan s here.retry) refl each.0 (by_answers plan s outer each.1)

both_control : (plan : Outline) (xs ys : List Controlled) → AllControl plan xs → AllControl plan ys → AllControl plan (xs ++ ys)
both_control plan [] ys first second = second
both_control plan (x ∷ xs) ys first second = (first.0, both_control plan xs ys first.1 second)

one_controls : (plan : Outline) (a g : ℕ) (o : Option ℕ) → retry_of plan g ≡ o → AllControl plan (controlled a g o)
one_controls plan a g None is = tt
one_controls plan a g (Some r) is = by (nat_eq r a)
  where
    by : (b : Bool) → AllControl plan (if b then [] else record { flow = g; retry = r } ∷ [])
    by true = tt
    by false = (is, tt)

all_control : (plan : Outline) (a : ℕ) (turns : List Turn) → AllControl plan (controlled_on plan a turns)
all_control plan a [] = tt
all_control plan a (turn ∷ turns) = both_control plan (controlled_on plan a turns) (controlled a turn.flow (retry_of plan turn.flow)) (all_control plan a turns) (one_controls plan a turn.flow (retry_of plan turn.flow) refl)

pub resolution_answered : (plan : Outline) (s : Snapshot) (a : ℕ) → is_again (resolution plan s a).kind ≡ true → Answered plan s (resolution plan s a).flow
unfolding resolution
resolution_answered plan s a = by_answers plan s (enclosing plan a) (all_control plan a (path plan a))
