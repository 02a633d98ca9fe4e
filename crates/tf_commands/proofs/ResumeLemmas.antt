-- A run that goes on from the history which a book holds.
use Rattle.std.proofs.Common.{◌≡◌, ◌⊎◌, ℕ, List, [], true, false, Option, Some, None, refl, sym, ap, subst, inl, inr}
use Rattle.tf_desk.specs.State.{DeskState}
use Rattle.tf_actions.specs.declared.orders.Order.{Order}
use Rattle.tf_actions.specs.declared.outcomes.Outcome.{Outcome}
use Rattle.tf_states.specs.declared.state.FlowState.{FlowState}
use Rattle.tf_states.specs.declared.state.FlowState.TheVariants as flow
use Rattle.tf_model.specs.Steps.{already_ended, has_ended}
use Rattle.tf_bound.specs.Short.{AreShort, IsWithinLimits}
use Rattle.tf_details.specs.Elements.{IsHistoryOf, Contents}
use Rattle.tf_book.specs.Book.{BookValue, outline, flow_state}
use Rattle.tf_book.proofs.InvariantLemmas.{keeps_none}
use Rattle.tf_commands.specs.declared.running.Request.{Request}
use Rattle.tf_book.proofs.TriedLemmas.{unhalted_tried}
use Rattle.tf_flow.specs.Plan.{PlanValue}
use Rattle.tf_states.specs.declared.record.Entry.{Entry}
use Rattle.tf_commands.specs.Books.{MayRun, Promised}
use Rattle.tf_commands.proofs.OrderLemmas.{nobody_given}
use Rattle.tf_commands.specs.Runs.{IsHeld, HoldsBook, book_desk, IsRunTo, RunsOn, GoesFurther, went_on}
use Rattle.tf_journal.specs.Start.{Open}
use Rattle.tf_commands.proofs.PathLemmas.{ReadsPicked}
use Rattle.tf_commands.proofs.PromiseLemmas.{resumed_promised}
use Rattle.tf_ports.specs.Ports.{CrewTold}

-- a flow that has ended, in one of the three ways
pub ended_so : (last : FlowState) → (last ≡ flow.Success) ⊎ (last ≡ flow.Failure) ⊎ (last ≡ flow.Reverted) → has_ended last ≡ true
ended_so last (inl is) = ap has_ended is
ended_so last (inr (inl is)) = ap has_ended is
ended_so last (inr (inr is)) = ap has_ended is

-- the same, where nothing is told of hands
untold : {gives : Order → Outcome → Type 0} {request : Request} {asked : Type 0} {did : List (Option (List Order))} {name : List ℕ} {contents : Contents} {plan : PlanValue} {before : List Entry} {entry now : DeskState} {status : ℕ}
    → Promised gives request asked (Some did) name contents plan before entry now status → Promised gives request asked None name contents plan before entry now status
untold p = record { entries = p.entries; stop = p.stop; closing = p.closing; ran = p.ran; orders_given = tt; lasts = p.lasts }

-- a flow that has ended isn't suspended
ended_apart : (state : FlowState) → has_ended state ≡ true → Some state ≡ Some flow.Suspended → ⊥
ended_apart flow.Suspended ended is = cc
ended_apart flow.Pending ended is = cc
ended_apart flow.Running ended is = cc
ended_apart flow.Success ended is = cc
ended_apart flow.Failure ended is = cc
ended_apart flow.Reverted ended is = cc
ended_apart flow.Suspending ended is = cc
ended_apart flow.Resuming ended is = cc

module _ {K : Type 0} (state : K → DeskState) where
  -- the run of a book whose flow had ended: nothing was recorded
  pub ended_run : (gives : Order → Outcome → Type 0) (request : Request) (asked : Type 0) (book : BookValue K) → book.halt ≡ None → book.quiet ≡ request.quiet → has_ended (flow_state book) ≡ true → IsHistoryOf book.plan book.past → IsHeld book.plan book
      → IsWithinLimits (outline book) → AreShort book.past
      → IsRunTo state gives request asked [] book book (Some (flow_state book))
  ended_run gives request asked book sound speaks ended history held limits short = record {
    kept = keeps_none state book sound;
    session = record { entries = []; recorded = refl; session = already_ended ended history.legal; given = tt; hands = refl; due = tt; within = tt; suspended = λ is. absurd (ended_apart (flow_state book) ended is) };
    history = history;
    held = held;
    limits = limits;
    short_before = short;
    short = short;
    speaks = speaks;
    failed = unhalted_tried (MayRun gives request book.plan book.past) book.halt book.failed sound;
    orders_given = nobody_given (book.halt ≡ None) (outline book) book.past;
  }

  -- such a run, said with its report
  pub ended_on : (gives : Order → Outcome → Type 0) (request : Request) (asked : Type 0) (book : BookValue K) (now : DeskState) (status : ℕ) (last : FlowState)
      → book.halt ≡ None → book.quiet ≡ request.quiet → last ≡ flow_state book → has_ended last ≡ true → IsHistoryOf book.plan book.past → IsHeld book.plan book
      → IsWithinLimits (outline book) → AreShort book.past
      → (IsRunTo state gives request asked [] book book (Some last)
      → RunsOn state gives request asked [] book now status)
      → RunsOn state gives request asked [] book now status
  ended_on gives request asked book now status last sound speaks same ended history held limits short runs =
      runs (subst (λ (s : FlowState). IsRunTo state gives request asked [] book book (Some s)) (sym same)
      (ended_run gives request asked book sound speaks (subst (λ (s : FlowState). has_ended s ≡ true) same ended) history held limits short))

  -- a book whose flow had ended is reported, and no hand is hired
  pub ended_goes : (gives : Order → Outcome → Type 0) (request : Request) (asked : Type 0) (name : List ℕ) (wanted : Option (List ℕ)) (entry : DeskState) (book : BookValue K) (now : DeskState) (status : ℕ) (crew : CrewTold) (last : FlowState)
      → Open name entry (book_desk state book) → HoldsBook name wanted entry book
      → book.journal.volatile ≡ false → last ≡ flow_state book → has_ended last ≡ true
      → RunsOn state gives request asked [] book now status → ReadsPicked name now
      → book.quiet ≡ request.quiet
      → GoesFurther gives request asked name entry book crew crew now status
  ended_goes gives request asked name wanted entry book now status crew last opened holds kept same ended runs laws speaks =
      went_on None (inl (subst (λ (s : FlowState). has_ended s ≡ true) same ended, refl, refl))
      (untold (resumed_promised state gives request asked [] name wanted entry book now status opened kept holds runs laws speaks))
