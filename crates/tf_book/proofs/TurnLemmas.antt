-- Which entries of the flow may follow, and what a session enters with.
use Rattle.std.proofs.Common.{◌≡◌, ◌<◌, ℕ, Bool, true, false, List, [], ◌∷◌, ◌++◌, refl, ap, ◌∙◌, sym, append_assoc}
use Rattle.std.proofs.lemmas.Bool.{lt-ltb}
use Rattle.std.specs.Prelude.{Result, Ok, Err, reverse, OnErr, OnOk}
use Rattle.tf_states.specs.declared.record.Entry.{Entry}
use Rattle.tf_states.specs.declared.record.What.TheVariants as what
use Rattle.tf_states.specs.declared.state.FlowState.{FlowState}
use Rattle.tf_states.specs.declared.state.FlowState.TheVariants as flow
use Rattle.tf_hands.specs.Hands.{by_hand}
use Rattle.tf_model.specs.History.{flow_of, snapshot}
use Rattle.tf_model.specs.Plan.{Outline}
use Rattle.tf_model.specs.Steps.{Step, may_turn, by_turn, has_ended}
use Rattle.tf_book.specs.SessionInvariant.{is_logged}
use Rattle.tf_book.specs.Recording.{past_after}
use Rattle.tf_book.specs.Turns.{entering_by, IsEntering, IsEntered}
use Rattle.tf_book.specs.declared.faults.Halt.{Halt}
use Rattle.tf_book.specs.declared.turn.Entered.TheVariants as entered

-- a turn of the flow that nothing but its state allows may follow
pub turn_step : (plan : Outline) (past : List Entry) (hand : ℕ) (state : FlowState) → hand < 64 → may_turn (flow_of past) state ≡ true
    → Step plan (snapshot plan past) (by_hand hand (what.Flow state))
unfolding snapshot
turn_step plan past hand state below may = record { hand = lt-ltb hand 64 below; rule = by_turn may }

-- an entry of those with which a session enters was to be recorded after others of them
pub cut_entering : (hand : ℕ) (past mid after : List Entry) (done others : List Entry) (e : Entry) (r : Result (Unit {0}) Halt)
    → entering_by hand (flow_of past) ≡ done ++ e ∷ others → mid ≡ reverse done ++ past → reverse (done ++ e ∷ []) ++ past ≡ e ∷ (reverse done ++ past)
    → after ≡ past_after e mid r → IsEntering hand past after
cut_entering hand past mid after done others e r enters was turned is = by (is_logged r) refl
  where
    by : (b : Bool) → is_logged r ≡ b → IsEntering hand past after
    by true recorded = record {
      some = done ++ e ∷ [];
      others = others;
      prefix = enters ∙ sym (append_assoc done (e ∷ []) others);
      is = is ∙ (rw recorded (ap (λ (l : List Entry). e ∷ l) was ∙ sym turned));
    }
    by false unrecorded = record { some = done; others = e ∷ others; prefix = enters; is = is ∙ (rw unrecorded was) }

-- the last of them was to be recorded
pub last_entered : (hand : ℕ) (past mid after : List Entry) (done : List Entry) (e : Entry) (r : Result (Unit {0}) Halt)
    → has_ended (flow_of past) ≡ false → entering_by hand (flow_of past) ≡ done ++ e ∷ [] → mid ≡ reverse done ++ past → reverse (done ++ e ∷ []) ++ past ≡ e ∷ (reverse done ++ past)
    → after ≡ past_after e mid r → OnOk r (IsEntered hand past after entered.Running)
last_entered hand past mid after done e (Ok u) begun enters was turned is =
    (begun, is ∙ ap (λ (l : List Entry). e ∷ l) was ∙ sym turned ∙ ap (λ (l : List Entry). reverse l ++ past) (sym enters))
last_entered hand past mid after done e (Err h) begun enters was turned is = tt

pub last_cut : (hand : ℕ) (past mid after : List Entry) (done : List Entry) (e : Entry) (r : Result (Unit {0}) Halt)
    → entering_by hand (flow_of past) ≡ done ++ e ∷ [] → mid ≡ reverse done ++ past → reverse (done ++ e ∷ []) ++ past ≡ e ∷ (reverse done ++ past)
    → after ≡ past_after e mid r → OnErr r (IsEntering hand past after)
last_cut hand past mid after done e (Ok u) enters was turned is = tt
last_cut hand past mid after done e (Err h) enters was turned is = cut_entering hand past mid after done [] e (Err h) enters was turned is

-- the entries by a hand with which a session enters
abbrev pub to_running : ℕ → Entry
to_running hand = by_hand hand (what.Flow flow.Running)

abbrev pub to_suspended : ℕ → Entry
to_suspended hand = by_hand hand (what.Flow flow.Suspended)

abbrev pub to_resuming : ℕ → Entry
to_resuming hand = by_hand hand (what.Flow flow.Resuming)

-- from PENDING and SUSPENDED it enters with RUNNING
pub runs_from : (hand : ℕ) (f : FlowState) → may_turn f flow.Running ≡ true → (has_ended f ≡ false) × (entering_by hand f ≡ to_running hand ∷ [])
runs_from hand flow.Pending may = (refl, refl)
runs_from hand flow.Suspended may = (refl, refl)
runs_from hand f may = absurd (cc)

-- from RUNNING and SUSPENDING with all three
pub resumes_from : (hand : ℕ) (f : FlowState) → may_turn f flow.Resuming ≡ true
    → (has_ended f ≡ false) × (entering_by hand f ≡ to_resuming hand ∷ to_suspended hand ∷ to_running hand ∷ [])
resumes_from hand flow.Running may = (refl, refl)
resumes_from hand flow.Suspending may = (refl, refl)
resumes_from hand f may = absurd (cc)

-- from RESUMING with the last two
pub suspends_from : (hand : ℕ) (f : FlowState) → f ≡ flow.Resuming → (has_ended f ≡ false) × (entering_by hand f ≡ to_suspended hand ∷ to_running hand ∷ [])
suspends_from hand flow.Resuming is = (refl, refl)
suspends_from hand f is = absurd (cc)

-- what holds holds where a call failed
pub on_err : {A B : Type 0} (r : Result A B) (P : Type 0) → P → OnErr r P
on_err (Ok u) P is = tt
on_err (Err h) P is = is
