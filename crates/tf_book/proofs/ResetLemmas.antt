-- How a reverted flow is put back, entry by entry.
use Rattle.std.proofs.Common.{◌≡◌, inl, inr, ◌⊎◌, ℕ, Bool, true, false, List, [], ◌∷◌, Option, Some, None, refl, ap, ◌∙◌, sym, subst}
use Rattle.std.specs.Prelude.{nat_eq, if◌then◌else◌}
use Rattle.tf_states.specs.declared.record.Entry.{Entry}
use Rattle.tf_states.specs.declared.record.What.{What}
use Rattle.tf_states.specs.declared.state.AtomState.{AtomState}
use Rattle.tf_states.specs.declared.state.AtomState.TheVariants as atom
use Rattle.tf_states.specs.declared.state.FlowState.TheVariants as flow
use Rattle.tf_numbers.proofs.BelowLemmas.{all_at, all_of}
use Rattle.tf_numbers.proofs.TruthLemmas.{true_both, and_first, and_second}
use Rattle.tf_hands.specs.Hands.{by_hand, is_of_flow}
use Rattle.tf_model.specs.History.{flow_of, snapshot, state_of, Snapshot, flow_is_reverted, is_settled}
use Rattle.tf_model.specs.Plan.{Outline, count}
use Rattle.tf_model.specs.Forced.{enters}
use Rattle.tf_model.specs.Steps.{Step, by_reset, reset, put_back_or_rest, is_settled_at}
use Rattle.tf_book.specs.Turns.{may_reset, IsPutBackOn, IsPutBackBy}

-- what puts the flow back may follow, by hand 0
pub reset_step : (plan : Outline) (s : Snapshot) (w : What) → reset plan s ≡ Some w → Step plan s (by_hand 0 w)
reset_step plan s w is = record { hand = refl; rule = by_reset is }

settled_kept : (b : Bool) (x : AtomState) → is_settled x ≡ true → is_settled (if b then atom.Pending else x) ≡ true
settled_kept true x is = refl
settled_kept false x is = is

-- after an atom was put back, the rest may be put back
pub resets_on : (plan : Outline) (past : List Entry) (a : ℕ) → may_reset plan (snapshot plan past) ≡ true → may_reset plan (snapshot plan (by_hand 0 (enters a atom.Pending) ∷ past)) ≡ true
unfolding snapshot
resets_on plan past a may =
    true_both (flow_is_reverted (flow_of past)) _ (and_first (flow_is_reverted (flow_of past)) _ may)
    (all_of (count plan) (is_settled_at (snapshot plan (by_hand 0 (enters a atom.Pending) ∷ past)))
    (λ k below. settled_kept (nat_eq a k) (state_of past k) (all_at (count plan) (is_settled_at (snapshot plan past)) k (and_second (flow_is_reverted (flow_of past)) _ may) below)))

-- nothing was put back yet
pub put_none : (plan : Outline) (past : List Entry) → IsPutBackOn plan past past
put_none plan past = record { entries = []; are = tt; is = refl }

-- one more
pub put_more : (plan p : Outline) (past mid after : List Entry) → p ≡ plan → IsPutBackOn plan past mid → IsPutBackBy p mid after → IsPutBackOn plan past after
put_more plan p past mid after same on one = record {
  entries = by_hand 0 one.event ∷ on.entries;
  are = (refl, subst (λ (m : List Entry). reset plan (snapshot plan m) ≡ Some one.event) on.is (subst (λ (x : Outline). reset x (snapshot x mid) ≡ Some one.event) same one.is_reset), on.are);
  is = one.is ∙ ap (λ (m : List Entry). by_hand 0 one.event ∷ m) on.is;
}

-- one more, or none
pub put_cut : (plan p : Outline) (past mid after : List Entry) → p ≡ plan → IsPutBackOn plan past mid → IsPutBackBy p mid after ⊎ (after ≡ mid) → IsPutBackOn plan past after
put_cut plan p past mid after same on (inl one) = put_more plan p past mid after same on one
put_cut plan p past mid after same on (inr same_past) = subst (λ (m : List Entry). IsPutBackOn plan past m) (sym same_past) on

-- what puts the flow back isn't of it: the rest may be put back after it
pub more_left : (plan : Outline) (past : List Entry) (o : Option ℕ) (w : What) → w ≡ put_back_or_rest o → is_of_flow w ≡ false → may_reset plan (snapshot plan past) ≡ true → may_reset plan (snapshot plan (by_hand 0 w ∷ past)) ≡ true
more_left plan past None w is within may = (let same : is_of_flow w ≡ true = ap is_of_flow is in absurd (cc))
more_left plan past (Some a) w is within may = subst (λ (x : What). may_reset plan (snapshot plan (by_hand 0 x ∷ past)) ≡ true) (sym is) (resets_on plan past a may)

-- it is of the flow, which is PENDING then
pub none_left : (past : List Entry) (o : Option ℕ) (w : What) → w ≡ put_back_or_rest o → is_of_flow w ≡ true → flow_of (by_hand 0 w ∷ past) ≡ flow.Pending
none_left past None w is of = subst (λ (x : What). flow_of (by_hand 0 x ∷ past) ≡ flow.Pending) (sym is) refl
none_left past (Some a) w is of = (let same : is_of_flow w ≡ false = ap is_of_flow is in absurd (cc))
