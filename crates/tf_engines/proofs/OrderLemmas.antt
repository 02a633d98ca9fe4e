-- How the orders that a hand was given go with the history.
use Rattle.std.proofs.Common.{◌≡◌, inl, inr, ◌⊎◌, ⊎_elim, ℕ, Bool, true, false, ◌&&◌, List, [], ◌∷◌, ◌++◌, Option, Some, None, refl, ap, ◌∙◌, sym, subst, append_assoc, append-nil, arith}
use Rattle.std.specs.Prelude.{IsSome, MatchBool, reverse}
use Rattle.std.specs.List.{list_all}
use Rattle.std.proofs.lemmas.List.Folds.{list_all-append}
use Rattle.std.proofs.lemmas.List.{reverse-append}
use Rattle.tf_numbers.proofs.TruthLemmas.{true_both, and_first, and_second}
use Rattle.tf_book.specs.declared.faults.Halt.{Halt}
use Rattle.tf_engines.specs.Runs.{HaltsAs, StandsAs}
use Rattle.tf_engines.specs.Shared.{entered_past}
use Rattle.tf_engines.specs.declared.engine.How.{How}
use Rattle.tf_actions.specs.Gives.{told_with}
use Rattle.tf_actions.specs.declared.orders.Order.{Order}
use Rattle.tf_actions.specs.declared.outcomes.Outcome.{Outcome}
use Rattle.tf_states.specs.declared.record.Entry.{Entry}
use Rattle.tf_states.specs.declared.record.What.TheVariants as what
use Rattle.tf_states.specs.declared.state.FlowState.{FlowState}
use Rattle.tf_states.specs.declared.state.FlowState.TheVariants as flow
use Rattle.tf_hands.specs.declared.starts.Start.{Start}
use Rattle.tf_hands.specs.Hands.{by_hand, is_of_flow, orders}
use Rattle.tf_hands.proofs.ForcedLemmas.{forced_takes_none}
use Rattle.tf_hands.proofs.ChoiceLemmas.{choice_orders}
use Rattle.tf_hands.proofs.EndLemmas.{end_orders}
use Rattle.tf_hands.proofs.EntryLemmas.{no_orders}
use Rattle.tf_model.specs.History.{flow_of, snapshot}
use Rattle.tf_model.specs.Plan.{Outline}
use Rattle.tf_model.specs.Steps.{entering, has_ended}
use Rattle.tf_book.specs.Turns.{AreForced, IsForcedOn, TakesUp, IsStarted, IsClosedOr, stays, ended, suspended, HandRests, nothing_to_take, at_end, to_suspend, suspending, HandRestsAs, IsHaltedTurn, forcing, starting, resting, IsTurnAsked, IsHaltedTurnAsked, IsFinished, IsEntering, entering_by}
use Rattle.tf_book.specs.declared.turn.Turn.TheVariants as turn
use Rattle.tf_engines.specs.Asked.{told_all, HasDone, HasDoneAllButOne, HasToDo, HasDoneBy}
use Rattle.tf_engines.specs.Working.{HasDoneSo}
use Rattle.tf_engines.proofs.EnterLemmas.{same_entering}
use Rattle.tf_engines.specs.declared.engine.How.TheVariants as how
use Rattle.tf_hands.proofs.KeptLemmas.{flow_takes}

-- ---- lists of orders

told_none : (told : Option (List Order)) → told ≡ told_all told []
told_none None = refl
told_none (Some xs) = ap Some (sym (append-nil xs))

told_more : (told : Option (List Order)) (done : List Order) (order : Order) → told_with (told_all told done) order ≡ told_all told (done ++ order ∷ [])
told_more None done order = refl
told_more (Some xs) done order = ap Some (append_assoc xs done (order ∷ []))

-- at the start
pub done_none : (told : Option (List Order)) (base : List Order) → HasDone told base told base
done_none told base = record { done = []; since = sym (append-nil base); is = told_none told }

-- where nothing is missing
pub done_whole : (told : Option (List Order)) (base : List Order) (did : Option (List Order)) (asked : List Order) → HasDone told base did asked → HasDoneAllButOne told base did asked
done_whole told base did asked is = record {
  done = is.done;
  missing = [];
  one = omega arith;
  since = is.since ∙ ap (λ (l : List Order). base ++ l) (sym (append-nil is.done));
  is = is.is;
}

-- where the last one is missing
pub done_but : (told : Option (List Order)) (base : List Order) (did : Option (List Order)) (asked : List Order) (next : Order) → HasToDo told base did asked next → HasDoneAllButOne told base did asked
done_but told base did asked next is = record { done = is.done; missing = next ∷ []; one = omega arith; since = is.since; is = is.is }

-- it is given
pub done_next : (told : Option (List Order)) (base : List Order) (did new : Option (List Order)) (asked : List Order) (next : Order) → HasToDo told base did asked next → new ≡ told_with did next → HasDone told base new asked
done_next told base did new asked next is given = record {
  done = is.done ++ next ∷ [];
  since = is.since;
  is = given ∙ ap (λ (d : Option (List Order)). told_with d next) is.is ∙ told_more told is.done next;
}

-- one more is asked for
to_do : (told : Option (List Order)) (base : List Order) (did : Option (List Order)) (asked now : List Order) (next : Order) → now ≡ asked ++ next ∷ [] → HasDone told base did asked → HasToDo told base did now next
to_do told base did asked now next more is = record {
  done = is.done;
  since = more ∙ ap (λ (l : List Order). l ++ next ∷ []) is.since ∙ append_assoc base is.done (next ∷ []);
  is = is.is;
}

pub same_done : (told : Option (List Order)) (base : List Order) (did : Option (List Order)) (asked now : List Order) → now ≡ asked → HasDone told base did asked → HasDone told base did now
same_done told base did asked now same is = subst (λ (l : List Order). HasDone told base did l) (sym same) is

-- ---- halts

-- an answer that tells a halt
pub halted_asks : (told : Option (List Order)) (base : List Order) (did : Option (List Order)) (asked : List Order) (cause : Option Halt) (answer : How) → HaltsAs cause answer → HasDoneAllButOne told base did asked → HasDoneBy told base did asked answer
halted_asks told base did asked cause answer is has = subst (λ (h : How). HasDoneBy told base did asked h) (sym is.told) has

-- the hand was told as before
pub same_to_do : (told : Option (List Order)) (base : List Order) (did new : Option (List Order)) (asked now : List Order) (next : Order) → new ≡ did → now ≡ asked → HasToDo told base did asked next → HasToDo told base new now next
same_to_do told base did new asked now next same lists is =
    subst (λ (d : Option (List Order)). HasToDo told base d now next) (sym same) (subst (λ (l : List Order). HasToDo told base did l next) (sym lists) is)

-- a hand that never began
pub never_done : (answer : How) (told : Option (List Order)) (base asked : List Order) → asked ≡ base → HasDoneBy told base told asked answer
never_done (how.Halted cause) told base asked same = done_whole told base told asked (same_done told base told base asked same (done_none told base))
never_done (how.Ended last) told base asked same = same_done told base told base asked same (done_none told base)
never_done how.Suspended told base asked same = same_done told base told base asked same (done_none told base)

-- a hand whose task has ended goes on, or fails
pub ended_either : (goes_on : Bool) (told : Option (List Order)) (base : List Order) (did : Option (List Order)) (asked : List Order) → HasDone told base did asked
    → MatchBool goes_on (HasDone told base did asked) (HasDoneAllButOne told base did asked)
ended_either true told base did asked has = has
ended_either false told base did asked has = done_whole told base did asked has

not_halted : (halt : Option Halt) → IsSome halt → halt ≡ None → ⊥
not_halted (Some cause) is none = absurd (cc)
not_halted None is none = absurd (cc)

-- a hand that failed or not, where the run says that some hand did
pub so_all : (failed this : Bool) (told : Option (List Order)) (base : List Order) (did : Option (List Order)) (asked : List Order) → (failed ≡ false → this ≡ false) → HasDoneSo this told base did asked
    → HasDoneSo failed told base did asked
so_all true true told base did asked none has = has
so_all true false told base did asked none has = done_whole told base did asked has
so_all false this told base did asked none has = subst (λ (b : Bool). HasDoneSo b told base did asked) (none refl) has

-- the orders by how the run stopped, where a failed hand halts the book
pub so_by : (failed : Bool) (halt : Option Halt) (state : FlowState) (answer : How) (told : Option (List Order)) (base : List Order) (did : Option (List Order)) (asked : List Order) → (failed ≡ true → IsSome halt)
    → StandsAs halt state answer → HasDoneSo failed told base did asked → HasDoneBy told base did asked answer
so_by true halt state (how.Halted cause) told base did asked halts stands has = has
so_by false halt state (how.Halted cause) told base did asked halts stands has = done_whole told base did asked has
so_by false halt state (how.Ended last) told base did asked halts stands has = has
so_by false halt state how.Suspended told base did asked halts stands has = has
so_by true halt state (how.Ended last) told base did asked halts stands has = absurd (not_halted halt (halts refl) stands.0)
so_by true halt state how.Suspended told base did asked halts stands has = absurd (not_halted halt (halts refl) stands.0)

-- what is true unless a hand failed is true of a book that isn't halted
pub last_unless : (P : Type 0) (failed : Bool) (halt : Option Halt) → (failed ≡ true → IsSome halt) → (failed ≡ false → P) → halt ≡ None → P
last_unless P true halt halts right none = absurd (not_halted halt (halts refl) none)
last_unless P false halt halts right none = right refl

-- ---- entering

is_flow_entry : Entry → Bool
is_flow_entry e = is_of_flow e.what

entering_flows : (f : FlowState) → list_all is_flow_entry (entering_by 0 f) ≡ true
unfolding is_flow_entry
entering_flows flow.Pending = refl
entering_flows flow.Suspended = refl
entering_flows flow.Running = refl
entering_flows flow.Suspending = refl
entering_flows flow.Resuming = refl
entering_flows flow.Success = refl
entering_flows flow.Failure = refl
entering_flows flow.Reverted = refl

all_turned : (p : Entry → Bool) (xs : List Entry) → list_all p xs ≡ true → list_all p (reverse xs) ≡ true
all_turned p [] all = refl
all_turned p (x ∷ xs) all =
    ap (list_all p) (reverse-append (x ∷ []) xs) ∙ list_all-append p (reverse xs) (x ∷ [])
    ∙ true_both (list_all p (reverse xs)) (p x && true) (all_turned p xs (and_second (p x) (list_all p xs) all)) (true_both (p x) true (and_first (p x) (list_all p xs) all) refl)

-- ---- what entries by a hand ask of it

module _ (hand : ℕ) where
  forced_asks : (plan : Outline) (past entries : List Entry) (stop : Bool) (kept : Option ℕ) → AreForced plan hand stop kept entries past → orders plan hand (entries ++ past) ≡ orders plan hand past
  forced_asks plan past [] stop kept are = refl
  forced_asks plan past (e ∷ entries) stop kept are =
      no_orders plan hand e (entries ++ past) (forced_takes_none plan (snapshot plan (entries ++ past)) e.what are.1) ∙ forced_asks plan past entries stop kept are.3

  on_asks : (plan : Outline) (past after : List Entry) (stop : Bool) (kept : Option ℕ) → IsForcedOn plan hand stop kept past after → orders plan hand after ≡ orders plan hand past
  on_asks plan past after stop kept is = ap (orders plan hand) is.is ∙ forced_asks plan past is.entries stop kept is.are

  up_asks : (plan : Outline) (past after : List Entry) (start : Start) (order : Order) → TakesUp plan hand past after start order → orders plan hand after ≡ orders plan hand past ++ order ∷ []
  up_asks plan past after start order takes = ap (orders plan hand) takes.is ∙ choice_orders plan past hand start order takes.chosen takes.action takes.asked

  started_asks : (plan : Outline) (past after : List Entry) (stop : Bool) (kept : Option ℕ) (order : Order) → IsStarted plan hand stop kept past after order → orders plan hand after ≡ orders plan hand past ++ order ∷ []
  started_asks plan past after stop kept order is =
      up_asks plan is.between after is.start order is.takes ∙ ap (λ (l : List Order). l ++ order ∷ []) (on_asks plan past is.between stop kept is.ran.on)

  flow_asks : (plan : Outline) (past after : List Entry) (state : FlowState) → after ≡ by_hand hand (what.Flow state) ∷ past → orders plan hand after ≡ orders plan hand past
  flow_asks plan past after state is = ap (orders plan hand) is ∙ no_orders plan hand (by_hand hand (what.Flow state)) past refl

  rests_asks : (plan : Outline) (past between : List Entry) (stop : Bool) (kept : Option ℕ) → HandRests plan hand stop kept past between → orders plan hand between ≡ orders plan hand past
  rests_asks plan past between stop kept (nothing_to_take nothing) = on_asks plan past between stop kept nothing.ran.on
  rests_asks plan past between stop kept (at_end ran ends) = on_asks plan past between stop kept ran.on
  rests_asks plan past between stop kept (to_suspend s) = flow_asks plan s.before between flow.Suspending s.is ∙ on_asks plan past s.before stop kept s.ran.on
  rests_asks plan past between stop kept (suspending winds same) = ap (orders plan hand) same

  -- ---- turns

  pub started_to_do : (told : Option (List Order)) (base : List Order) (did : Option (List Order)) (plan : Outline) (past after : List Entry) (stop : Bool) (kept : Option ℕ) (order : Order)
      → IsStarted plan hand stop kept past after order → HasDone told base did (orders plan hand past) → HasToDo told base did (orders plan hand after) order
  started_to_do told base did plan past after stop kept order is = to_do told base did (orders plan hand past) (orders plan hand after) order (started_asks plan past after stop kept order is)

  pub rested_done : (told : Option (List Order)) (base : List Order) (did : Option (List Order)) (plan : Outline) (past after : List Entry) (stop : Bool) (kept : Option ℕ)
      → HandRestsAs plan hand stop kept past after turn.Idle → HasDone told base did (orders plan hand past) → HasDone told base did (orders plan hand after)
  rested_done told base did plan past after stop kept is =
      same_done told base did (orders plan hand past) (orders plan hand after) (ap (orders plan hand) is.rested.1 ∙ rests_asks plan past is.between stop kept is.rests)

  pub ended_done : (told : Option (List Order)) (base : List Order) (did : Option (List Order)) (plan : Outline) (past after : List Entry) (kept : Option ℕ) (asks_then asks_now : ℕ) (state : FlowState)
      → IsTurnAsked plan hand kept asks_then asks_now past after (turn.Ended state) → HasDone told base did (orders plan hand past) → HasDone told base did (orders plan hand after)
  ended_done told base did plan past after kept asks_then asks_now state t =
      same_done told base did (orders plan hand past) (orders plan hand after)
      (⊎_elim (λ is. flow_asks plan is.between after state is.rested.is ∙ rests_asks plan past is.between t.stop kept is.rests) (λ over. ap (orders plan hand) over.2) t.is)

  pub suspended_done : (told : Option (List Order)) (base : List Order) (did : Option (List Order)) (plan : Outline) (past after : List Entry) (kept : Option ℕ) (asks_then asks_now : ℕ)
      → IsTurnAsked plan hand kept asks_then asks_now past after turn.Suspended → HasDone told base did (orders plan hand past) → HasDone told base did (orders plan hand after)
  suspended_done told base did plan past after kept asks_then asks_now t =
      same_done told base did (orders plan hand past) (orders plan hand after)
      (⊎_elim (λ is. flow_asks plan is.between after flow.Suspended is.rested.is ∙ rests_asks plan past is.between t.stop kept is.rests) (λ over. ap (orders plan hand) over.2) t.is)

  closed_asks : (plan : Outline) (past after : List Entry) → IsClosedOr plan hand past after → orders plan hand after ≡ orders plan hand past
  closed_asks plan past after (stays same) = ap (orders plan hand) same
  closed_asks plan past after (ended state is) = flow_asks plan past after state is.is
  closed_asks plan past after (suspended is) = flow_asks plan past after flow.Suspended is.is

  halted_turn_done : (told : Option (List Order)) (base : List Order) (did : Option (List Order)) (plan : Outline) (past after : List Entry) (stop : Bool) (kept : Option ℕ) → IsHaltedTurn plan hand stop kept past after
      → HasDone told base did (orders plan hand past) → HasDoneAllButOne told base did (orders plan hand after)
  halted_turn_done told base did plan past after stop kept (forcing is) has =
      done_whole told base did (orders plan hand after) (same_done told base did (orders plan hand past) (orders plan hand after) (on_asks plan past after stop kept is) has)
  halted_turn_done told base did plan past after stop kept (starting between start ran is) has =
      done_but told base did (orders plan hand after) is.order
      (to_do told base did (orders plan hand past) (orders plan hand after) is.order
      (up_asks plan between after start is.order is.takes ∙ ap (λ (l : List Order). l ++ is.order ∷ []) (on_asks plan past between stop kept ran.on)) has)
  halted_turn_done told base did plan past after stop kept (resting between rests closed) has =
      done_whole told base did (orders plan hand after)
      (same_done told base did (orders plan hand past) (orders plan hand after) (closed_asks plan between after closed ∙ rests_asks plan past between stop kept rests) has)

  pub halted_done : (told : Option (List Order)) (base : List Order) (did : Option (List Order)) (plan : Outline) (past after : List Entry) (kept : Option ℕ) (asks_then asks_now : ℕ)
      → IsHaltedTurnAsked plan hand kept asks_then asks_now past after → HasDone told base did (orders plan hand past) → HasDoneAllButOne told base did (orders plan hand after)
  halted_done told base did plan past after kept asks_then asks_now t has = halted_turn_done told base did plan past after t.stop kept t.is has

  pub finished_asks : (plan : Outline) (past after : List Entry) (came : Outcome) → IsFinished plan hand came past after → orders plan hand after ≡ orders plan hand past
  finished_asks plan past after came is = ap (orders plan hand) is.is ∙ end_orders plan past hand hand is.task came

  pub finished_or_asks : (plan : Outline) (past after : List Entry) (came : Outcome) → IsFinished plan hand came past after ⊎ (after ≡ past) → orders plan hand after ≡ orders plan hand past
  finished_or_asks plan past after came (inl is) = finished_asks plan past after came is
  finished_or_asks plan past after came (inr same) = ap (orders plan hand) same

  pub finished_done : (told : Option (List Order)) (base : List Order) (did : Option (List Order)) (plan : Outline) (past after : List Entry) (came : Outcome) → IsFinished plan hand came past after
      → HasDone told base did (orders plan hand past) → HasDone told base did (orders plan hand after)
  finished_done told base did plan past after came is = same_done told base did (orders plan hand past) (orders plan hand after) (finished_asks plan past after came is)

  pub finished_or_done : (told : Option (List Order)) (base : List Order) (did : Option (List Order)) (plan : Outline) (past after : List Entry) (came : Outcome) → IsFinished plan hand came past after ⊎ (after ≡ past)
      → HasDone told base did (orders plan hand past) → HasDone told base did (orders plan hand after)
  finished_or_done told base did plan past after came (inl is) = finished_done told base did plan past after came is
  finished_or_done told base did plan past after came (inr same) = same_done told base did (orders plan hand past) (orders plan hand after) (ap (orders plan hand) same)

  flows_ask : (plan : Outline) (past entries : List Entry) → list_all is_flow_entry entries ≡ true → orders plan hand (entries ++ past) ≡ orders plan hand past
  unfolding is_flow_entry
  flows_ask plan past [] all = refl
  flows_ask plan past (e ∷ entries) all =
      no_orders plan hand e (entries ++ past) (flow_takes plan e.what (and_first (is_of_flow e.what) (list_all is_flow_entry entries) all)) ∙ flows_ask plan past entries (and_second (is_of_flow e.what) (list_all is_flow_entry entries) all)

  pub entered_asks : (plan : Outline) (past : List Entry) → orders plan hand (entered_past past) ≡ orders plan hand past
  entered_asks plan past =
      flows_ask plan past (reverse (entering (flow_of past)))
      (all_turned is_flow_entry (entering (flow_of past)) (ap (list_all is_flow_entry) (sym (same_entering (flow_of past))) ∙ entering_flows (flow_of past)))

  pub cut_asks : (plan : Outline) (past after : List Entry) → IsEntering 0 past after → orders plan hand after ≡ orders plan hand past
  cut_asks plan past after is =
      let flows : list_all is_flow_entry is.some ≡ true =
      and_first (list_all is_flow_entry is.some) (list_all is_flow_entry is.others) (sym (list_all-append is_flow_entry is.some is.others) ∙ ap (list_all is_flow_entry) (sym is.prefix) ∙ entering_flows (flow_of past)) in
      ap (orders plan hand) is.is ∙ flows_ask plan past (reverse is.some) (all_turned is_flow_entry is.some flows)

  pub entered_done : (told : Option (List Order)) (base : List Order) (did : Option (List Order)) (plan : Outline) (past after : List Entry) → (has_ended (flow_of past) ≡ false) × (after ≡ reverse (entering_by 0 (flow_of past)) ++ past)
      → HasDone told base did (orders plan hand past) → HasDone told base did (orders plan hand after)
  entered_done told base did plan past after is =
      same_done told base did (orders plan hand past) (orders plan hand after) (ap (orders plan hand) is.1 ∙ flows_ask plan past (reverse (entering_by 0 (flow_of past))) (all_turned is_flow_entry (entering_by 0 (flow_of past)) (entering_flows (flow_of past))))

  pub cut_done : (told : Option (List Order)) (base : List Order) (did : Option (List Order)) (plan : Outline) (past after : List Entry) → IsEntering 0 past after
      → HasDone told base did (orders plan hand past) → HasDoneAllButOne told base did (orders plan hand after)
  cut_done told base did plan past after is has =
      done_whole told base did (orders plan hand after) (same_done told base did (orders plan hand past) (orders plan hand after) (cut_asks plan past after is) has)

  pub stays_done : (told : Option (List Order)) (base : List Order) (did : Option (List Order)) (plan : Outline) (past after : List Entry) → after ≡ past → HasDone told base did (orders plan hand past) → HasDone told base did (orders plan hand after)
  stays_done told base did plan past after same = same_done told base did (orders plan hand past) (orders plan hand after) (ap (orders plan hand) same)
