-- When a session's limit is reached, and what that allows.
use Rattle.std.proofs.Common.{◌≡◌, inl, inr, ◌⊎◌, ⊎_elim, ℕ, ◌+◌, Bool, true, false, ◌&&◌, List, [], ◌∷◌, Option, Some, None, refl, sym, subst, arith}
use Rattle.std.specs.Prelude.{suc, not, nat_le, IfSome}
use Rattle.std.proofs.lemmas.Bool.Decides.{nat_tests}
use Rattle.std.specs.List.{list_all}
use Rattle.tf_numbers.specs.Numbers.{Rises}
use Rattle.tf_hands.specs.Hands.{is_over, is_no_end}
use Rattle.tf_model.specs.Plan.{Outline, is_task}
use Rattle.tf_numbers.proofs.TruthLemmas.{clash, not_true, and_first, and_second, neither_second, or_either}
use Rattle.tf_actions.specs.declared.orders.Order.{Order}
use Rattle.tf_actions.specs.declared.outcomes.Outcome.{Outcome}
use Rattle.tf_states.specs.declared.record.Entry.{Entry}
use Rattle.tf_states.specs.declared.record.What.{What}
use Rattle.tf_states.specs.declared.record.What.TheVariants as what
use Rattle.tf_states.specs.declared.state.FlowState.{FlowState}
use Rattle.tf_states.specs.declared.state.FlowState.TheVariants as flow
use Rattle.tf_book.specs.Turns.{limit_from, is_reached, is_to_stop, IsAnswered}
use Rattle.tf_engines.specs.declared.engine.How.{How}
use Rattle.tf_engines.specs.declared.engine.How.TheVariants as how
use Rattle.tf_engines.specs.Runs.{suspends, is_unsuspended, winds_up, AreDue, IsSession, HasRun}

-- ---- numbers

le_more : (l n m : ℕ) → nat_le l n ≡ true → nat_le (m + l) (n + m) ≡ true
le_more l n m is = grind (arith, nat_tests)

le_less : (l n m : ℕ) → nat_le (m + l) (n + m) ≡ true → nat_le l n ≡ true
le_less l n m is = grind (arith, nat_tests)

le_next : (l n : ℕ) → nat_le l n ≡ true → nat_le l (suc n) ≡ true
le_next l n is = grind (arith, nat_tests)

-- where a session's entries reach its limit, the history has the length at which it is to stop
pub reaches : (limit kept : Option ℕ) (begun n total : ℕ) → kept ≡ limit_from limit begun → total ≡ n + begun → is_reached limit n ≡ true → is_reached kept total ≡ true
reaches limit kept begun n total from sum is =
    subst (λ (t : ℕ). is_reached kept t ≡ true) (sym sum) (subst (λ (k : Option ℕ). is_reached k (n + begun) ≡ true) (sym from) (by limit is))
  where
    by : (l : Option ℕ) → is_reached l n ≡ true → is_reached (limit_from l begun) (n + begun) ≡ true
    by None none = absurd (cc)
    by (Some l) le = le_more l n begun le

-- and the other way round
pub reached_by : (limit kept : Option ℕ) (begun n total : ℕ) → kept ≡ limit_from limit begun → total ≡ n + begun → is_reached kept total ≡ true → is_reached limit n ≡ true
reached_by limit kept begun n total from sum is =
    by limit (subst (λ (k : Option ℕ). is_reached k (n + begun) ≡ true) from (subst (λ (t : ℕ). is_reached kept t ≡ true) sum is))
  where
    by : (l : Option ℕ) → is_reached (limit_from l begun) (n + begun) ≡ true → is_reached l n ≡ true
    by None none = absurd (cc)
    by (Some l) le = le_less l n begun le

-- one entry more reaches it too
pub reached_more : (limit : Option ℕ) (n : ℕ) → is_reached limit n ≡ true → is_reached limit (suc n) ≡ true
reached_more None n is = absurd (cc)
reached_more (Some l) n is = le_next l n is

-- where the session isn't to stop, its limit isn't reached
pub unreached : (asked : Bool) (kept : Option ℕ) (n : ℕ) → is_to_stop asked kept n ≡ false → is_reached kept n ≡ true → ⊥
unreached asked kept n going reached = clash (is_reached kept n) reached (neither_second asked (is_reached kept n) going)

-- where it is, a stop was asked for, or its limit is reached
pub stopped_by : (stop : Bool) (asked : Type 0) (limit kept : Option ℕ) (begun n total : ℕ) → (stop ≡ true → asked) → kept ≡ limit_from limit begun → total ≡ n + begun
    → is_to_stop stop kept total ≡ true → asked ⊎ (is_reached limit n ≡ true)
stopped_by stop asked limit kept begun n total was from sum is =
    ⊎_elim (λ told. inl (was told)) (λ reached. inr (reached_by limit kept begun n total from sum reached)) (or_either stop (is_reached kept total) is)

-- an answer tells of a stop only where the count rose
pub answered_asked : (stop : Bool) (before after : ℕ) → IsAnswered stop before after → stop ≡ true → Rises before after
answered_asked true before after answered is = answered
answered_asked false before after answered is = absurd (cc)

-- ---- entries

-- the end of a task winds a session up
pub end_winds : (plan : Outline) (w : What) → is_no_end plan w ≡ false → winds_up plan w ≡ true
end_winds plan (what.Flow state) is = absurd (cc)
end_winds plan (what.Resolve named resolved) is = absurd (cc)
end_winds plan (what.Restart again) is = absurd (cc)
end_winds plan (what.Atom a state held) is = by (is_over state && is_task plan a) is
  where
    by : (b : Bool) → not b ≡ false → b ≡ true
    by true told = refl
    by false told = absurd (cc)

-- where nothing suspends the flow, every suspension is due
pub due_none : (asked : Type 0) (limit : Option ℕ) (entries : List Entry) → list_all is_unsuspended entries ≡ true → AreDue asked limit entries
due_none asked limit [] all = tt
due_none asked limit (e ∷ entries) all = (
  (λ is. absurd (clash (suspends e.what) is (not_true (suspends e.what) (and_first (is_unsuspended e) (list_all is_unsuspended entries) all)))),
  due_none asked limit entries (and_second (is_unsuspended e) (list_all is_unsuspended entries) all),
)

-- ---- a stop that was asked for still was later

pub due_later : (asked later : Type 0) (limit : Option ℕ) (entries : List Entry) → (asked → later) → AreDue asked limit entries → AreDue later limit entries
due_later asked later limit [] so due = tt
due_later asked later limit (e ∷ entries) so due = ((λ is. ⊎_elim (λ told. inl (so told)) (λ reached. inr reached) (due.0 is)), due_later asked later limit entries so due.1)

pub session_later : (gives : Order → Outcome → Type 0) (asked later : Type 0) (number : ℕ) (limit : Option ℕ) (plan : Outline) (before after : List Entry) (stop : Option FlowState) → (asked → later)
    → IsSession gives asked number limit plan before after stop → IsSession gives later number limit plan before after stop
session_later gives asked later number limit plan before after stop so s = record {
  entries = s.entries;
  recorded = s.recorded;
  session = s.session;
  given = s.given;
  hands = s.hands;
  due = due_later asked later limit s.entries so s.due;
  within = s.within;
  suspended = λ is. (let w = s.suspended is in record { cause = ⊎_elim (λ told. inl (so told)) (λ reached. inr reached) w.cause; hand = w.hand; before = w.before; last = w.last });
}

pub run_later : (gives : Order → Outcome → Type 0) (asked later : Type 0) (number : ℕ) (limit : Option ℕ) (plan : Outline) (before after : List Entry) (h : How) → (asked → later)
    → HasRun gives asked number limit plan before after h → HasRun gives later number limit plan before after h
run_later gives asked later number limit plan before after (how.Ended state) so ran = session_later gives asked later number limit plan before after (Some state) so ran
run_later gives asked later number limit plan before after how.Suspended so ran = session_later gives asked later number limit plan before after (Some flow.Suspended) so ran
run_later gives asked later number limit plan before after (how.Halted cause) so ran = (ran.0, session_later gives asked later number limit plan before after ran.0 so ran.1)

-- the same of an answer that may be missing
pub some_later : (gives : Order → Outcome → Type 0) (asked later : Type 0) (number : ℕ) (limit : Option ℕ) (plan : Outline) (before after : List Entry) (h : Option How) → (asked → later)
    → IfSome h (HasRun gives asked number limit plan before after) → IfSome h (HasRun gives later number limit plan before after)
some_later gives asked later number limit plan before after (Some h) so ran = run_later gives asked later number limit plan before after h so ran
some_later gives asked later number limit plan before after None so ran = tt
