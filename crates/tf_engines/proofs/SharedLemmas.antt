-- What the type of a shared book keeps, from its entering to the end of its run.
use Rattle.std.proofs.Common.{◌≡◌, ◌<◌, ◌≤◌, ℕ, ◌⊎◌, inl, inr, Bool, true, false, not, List, [], ◌∷◌, ◌++◌, Option, Some, None, refl, ap, ◌∙◌, sym, subst, append_assoc, arith}
use Rattle.std.specs.Prelude.{nat_eq, IsSome}
use Rattle.std.specs.List.{list_all}
use Rattle.std.proofs.lemmas.Bool.{lt-ltb}
use Rattle.std.proofs.lemmas.List.Folds.{list_all-append}
use Rattle.tf_numbers.proofs.TruthLemmas.{clash, true_both, and_first, and_second}
use Rattle.tf_desk.specs.State.{DeskState}
use Rattle.tf_numbers.specs.Numbers.{Rises}
use Rattle.tf_actions.specs.Laws.{RevertsToNothing}
use Rattle.tf_actions.specs.declared.orders.Order.{Order}
use Rattle.tf_actions.specs.declared.outcomes.Outcome.{Outcome}
use Rattle.tf_states.specs.declared.record.Entry.{Entry}
use Rattle.tf_states.specs.declared.record.What.{What}
use Rattle.tf_states.specs.declared.record.What.TheVariants as what
use Rattle.tf_states.specs.declared.state.FlowState.{FlowState}
use Rattle.tf_states.specs.declared.state.FlowState.TheVariants as flow
use Rattle.tf_hands.specs.Hands.{is_resuming}
use Rattle.tf_model.specs.History.{flow_of}
use Rattle.tf_model.specs.Plan.{Outline, outline_of}
use Rattle.tf_model.specs.Steps.{has_ended, is_inner, is_inner_entry, is_last, LegalPast}
use Rattle.tf_book.specs.Book.{BookValue, outline}
use Rattle.tf_book.specs.SessionInvariant.{SessionInvariant}
use Rattle.tf_book.specs.Turns.{is_entered, IsTurnAsked, IsHaltedTurnAsked, IsFinished}
use Rattle.tf_book.specs.declared.faults.Halt.{Halt}
use Rattle.tf_book.specs.declared.turn.Turn.{Turn}
use Rattle.tf_flow.specs.Plan.{PlanValue}
use Rattle.tf_engines.specs.declared.engine.How.{How}
use Rattle.tf_engines.specs.declared.engine.How.TheVariants as how
use Rattle.tf_engines.specs.Runs.{IsSession, HasRun, StandsAs, StandsBetween, going_on, winding, stopped, MightRecord}
use Rattle.tf_engines.specs.Shared.{SharedValue, entered_past, is_unresumed, IsInside, IsShared}
use Rattle.tf_book.specs.declared.faults.Halt.TheVariants as halts
use Rattle.tf_engines.proofs.FailLemmas.{memory_might}
use Rattle.tf_engines.specs.Working.{is_by, IsAdded, HasOutcome, IsRun}
use Rattle.tf_engines.proofs.EnterLemmas.{entering_runs}
use Rattle.tf_engines.proofs.StandLemmas.{stands_stopped, stands_session, stands_later, finished_stands}
use Rattle.tf_engines.proofs.TurnLemmas.{turn_stands, halted_stands}
use Rattle.tf_desk.proofs.CountLemmas.{rises_later}

-- ---- turns, with the counts of stops

-- a count that rose has risen later too
rose_later : (a b c : ℕ) → b ≤ c → Rises a b → Rises a c
rose_later a b c le rose = omega (arith, le, rose)

module _ (hand number : ℕ) (below : hand < number) (gives : Order → Outcome → Type 0) (limit : Option ℕ) (plan : Outline) (before past after : List Entry) (kept later : Option ℕ) (asked asks_then asks_now : ℕ) (le : asked ≤ asks_then) (more : asks_then ≤ asks_now) (same : later ≡ kept) (legal : LegalPast plan after) where
  so_limited : StandsBetween gives (Rises asked asks_now) number limit plan before after kept → StandsBetween gives (Rises asked asks_now) number limit plan before after later
  so_limited s = subst (λ (k : Option ℕ). StandsBetween gives (Rises asked asks_now) number limit plan before after k) (sym same) s

  so_late : StandsBetween gives (Rises asked asks_then) number limit plan before past kept → StandsBetween gives (Rises asked asks_now) number limit plan before past kept
  so_late s = stands_later gives (Rises asked asks_then) (Rises asked asks_now) number limit plan before past kept (rose_later asked asks_then asks_now more) s

  pub turn_leaves : (answer : Turn) → IsTurnAsked plan hand kept asks_then asks_now past after answer → StandsBetween gives (Rises asked asks_then) number limit plan before past kept
      → StandsBetween gives (Rises asked asks_now) number limit plan before after later
  turn_leaves answer t s =
      so_limited (turn_stands hand number (lt-ltb hand number below) gives limit plan before (Rises asked asks_now) past after kept asks_then asks_now answer (rises_later asked asks_then asks_now le) legal t (so_late s))

  pub halted_leaves : IsHaltedTurnAsked plan hand kept asks_then asks_now past after → StandsBetween gives (Rises asked asks_then) number limit plan before past kept
      → StandsBetween gives (Rises asked asks_now) number limit plan before after later
  halted_leaves t s =
      so_limited (halted_stands hand number (lt-ltb hand number below) gives limit plan before (Rises asked asks_now) past after kept asks_then asks_now (rises_later asked asks_then asks_now le) legal t (so_late s))

-- the end of a task, after which the count of stops is the same
module _ (hand number : ℕ) (below : hand < number) (gives : Order → Outcome → Type 0) (limit : Option ℕ) (plan : Outline) (before past after : List Entry) (kept later : Option ℕ) (asked asks_then asks_now : ℕ) (stay : asks_now ≡ asks_then) (same : later ≡ kept) (came : Outcome) (law : RevertsToNothing gives) (legal : LegalPast plan past) (has : HasOutcome gives plan past hand came) where
  so_same : StandsBetween gives (Rises asked asks_then) number limit plan before after kept → StandsBetween gives (Rises asked asks_now) number limit plan before after later
  so_same s = subst (λ (k : Option ℕ). StandsBetween gives (Rises asked asks_now) number limit plan before after k) (sym same) (subst (λ (n : ℕ). StandsBetween gives (Rises asked n) number limit plan before after kept) (sym stay) s)

  pub finish_leaves : IsFinished plan hand came past after → StandsBetween gives (Rises asked asks_then) number limit plan before past kept → StandsBetween gives (Rises asked asks_now) number limit plan before after later
  finish_leaves is s = so_same (finished_stands gives (Rises asked asks_then) number limit plan before hand past after kept has.order came (lt-ltb hand number below) law legal has.has has.gave is s)

  pub finish_or_leaves : IsFinished plan hand came past after ⊎ (after ≡ past) → StandsBetween gives (Rises asked asks_then) number limit plan before past kept → StandsBetween gives (Rises asked asks_now) number limit plan before after later
  finish_or_leaves (inl is) s = finish_leaves is s
  finish_or_leaves (inr stays) s = so_same (subst (λ (l : List Entry). StandsBetween gives (Rises asked asks_then) number limit plan before l kept) (sym stays) s)

-- ---- a session stands in a state in which turns are taken

last_entered : (f : FlowState) → is_last f ≡ true → is_entered f ≡ true
last_entered flow.Pending is = absurd (cc)
last_entered flow.Resuming is = absurd (cc)
last_entered f is = refl

pub stands_entered : (gives : Order → Outcome → Type 0) (asked : Type 0) (number : ℕ) (limit : Option ℕ) (plan : Outline) (before past : List Entry) (kept : Option ℕ)
    → StandsBetween gives asked number limit plan before past kept → is_entered (flow_of past) ≡ true
stands_entered gives asked number limit plan before past kept (going_on is on) = ap is_entered is
stands_entered gives asked number limit plan before past kept (winding is w) = ap is_entered is
stands_entered gives asked number limit plan before past kept (stopped last s) = last_entered (flow_of past) last

ended_is_last : (f : FlowState) → has_ended f ≡ true → is_last f ≡ true
ended_is_last flow.Suspended is = refl
ended_is_last f is = is

-- ---- nobody resumes

quiet_more : (hand : ℕ) (more later : List Entry) → list_all (is_by hand) more ≡ true → list_all is_unresumed later ≡ true → list_all is_unresumed (more ++ later) ≡ true
quiet_more hand [] later by quiet = quiet
quiet_more hand (e ∷ more) later by quiet =
    true_both (is_unresumed e) (list_all is_unresumed (more ++ later))
    (and_second (nat_eq e.hand hand) (not (is_resuming e.what)) (and_first (is_by hand e) (list_all (is_by hand) more) by))
    (quiet_more hand more later (and_second (is_by hand e) (list_all (is_by hand) more) by) quiet)

inside_on : (hand : ℕ) (before past after : List Entry) → IsAdded hand past after → IsInside before past → IsInside before after
inside_on hand before past after added inside = record {
  later = added.more ++ inside.later;
  recorded = added.is ∙ ap (λ (l : List Entry). added.more ++ l) inside.recorded ∙ sym (append_assoc added.more inside.later (entered_past before));
  unresumed = quiet_more hand added.more inside.later added.by inside.unresumed;
}

-- ---- where the flow stood still stands

inner_not_last : (e : Entry) (past : List Entry) → is_inner_entry e ≡ true → is_last (flow_of past) ≡ false → is_last (flow_of (e ∷ past)) ≡ false
inner_not_last e past inner runs = by e.what refl inner
  where
    by : (w : What) → e.what ≡ w → is_inner w ≡ true → is_last (flow_of (record { hand = e.hand; what = w } ∷ past)) ≡ false
    by (what.Flow flow.Suspending) is so = refl
    by (what.Flow flow.Pending) is so = absurd (cc)
    by (what.Flow flow.Running) is so = absurd (cc)
    by (what.Flow flow.Suspended) is so = absurd (cc)
    by (what.Flow flow.Resuming) is so = absurd (cc)
    by (what.Flow flow.Success) is so = absurd (cc)
    by (what.Flow flow.Failure) is so = absurd (cc)
    by (what.Flow flow.Reverted) is so = absurd (cc)
    by (what.Atom a state held) is so = runs
    by (what.Resolve named resolved) is so = runs
    by (what.Restart again) is so = runs

-- inside a session the flow has no last state
inner_runs : (before inner : List Entry) → has_ended (flow_of before) ≡ false → list_all is_inner_entry inner ≡ true → is_last (flow_of (inner ++ entered_past before)) ≡ false
inner_runs before [] begun all = ap is_last (entering_runs before (flow_of before) begun)
inner_runs before (e ∷ inner) begun all =
    inner_not_last e (inner ++ entered_past before) (and_first (is_inner_entry e) (list_all is_inner_entry inner) all)
    (inner_runs before inner begun (and_second (is_inner_entry e) (list_all is_inner_entry inner) all))

second_all : (p : Entry → Bool) (xs ys : List Entry) → list_all p (xs ++ ys) ≡ true → list_all p ys ≡ true
second_all p xs ys all = and_second (list_all p xs) (list_all p ys) (sym (list_all-append p xs ys) ∙ all)

-- a last state in which the flow was is one in which it is
not_within : (before past newer seen inner : List Entry) → has_ended (flow_of before) ≡ false → list_all is_inner_entry inner ≡ true → inner ≡ newer ++ seen → is_last (flow_of (seen ++ entered_past before)) ≡ true → ⊥
not_within before past newer seen inner begun all is last =
    clash (is_last (flow_of (seen ++ entered_past before))) last (inner_runs before seen begun (second_all is_inner_entry newer seen (subst (λ (l : List Entry). list_all is_inner_entry l ≡ true) is all)))

pub stays_last : (gives : Order → Outcome → Type 0) (asked : Type 0) (number : ℕ) (limit : Option ℕ) (plan : Outline) (before past newer seen : List Entry) (kept : Option ℕ)
    → ((inner : List Entry) → past ≡ inner ++ entered_past before → inner ≡ newer ++ seen) → is_last (flow_of (seen ++ entered_past before)) ≡ true
    → StandsBetween gives asked number limit plan before past kept → is_last (flow_of past) ≡ true
stays_last gives asked number limit plan before past newer seen kept splits last (going_on is on) = absurd (not_within before past newer seen on.inner on.begun on.inside (splits on.inner on.recorded) last)
stays_last gives asked number limit plan before past newer seen kept splits last (winding is w) = absurd (not_within before past newer seen w.inner w.begun w.inside (splits w.inner w.recorded) last)
stays_last gives asked number limit plan before past newer seen kept splits last (stopped is s) = is

-- ---- what the type keeps

abbrev shared_of : {K : Type 0} → BookValue K → BookValue K → Option ℕ → ℕ → SharedValue K
shared_of start now limit number = record { start = start; now = now; limit = limit; number = number }

same_shared : {K : Type 0} (s new : SharedValue K) (now : BookValue K) → new.start ≡ s.start → new.now ≡ now → new.limit ≡ s.limit → new.number ≡ s.number → shared_of s.start now s.limit s.number ≡ new
same_shared {K} s new now start now_is limit number =
    ap (λ (b : BookValue K). shared_of b now s.limit s.number) (sym start) ∙ ap (λ (b : BookValue K). shared_of new.start b s.limit s.number) (sym now_is)
    ∙ ap (λ (l : Option ℕ). shared_of new.start new.now l s.number) (sym limit) ∙ ap (λ (n : ℕ). shared_of new.start new.now new.limit n) (sym number)

module _ {K : Type 0} (state : K → DeskState) (gives : Order → Outcome → Type 0) where
  -- a turn of a hand keeps it
  pub shared_after : (s new : SharedValue K) (hand : ℕ) → hand < s.number → IsShared state gives s
      → new.start ≡ s.start → new.limit ≡ s.limit → new.number ≡ s.number
      → ((earlier : BookValue K) → SessionInvariant state earlier s.now → SessionInvariant state earlier new.now)
      → new.now.plan ≡ s.now.plan → (state s.now.journal.desk).asks ≤ (state new.now.journal.desk).asks
      → ((number asked : ℕ) (limit : Option ℕ) (before : List Entry) → hand < number → asked ≤ (state s.now.journal.desk).asks
      → StandsBetween gives (Rises asked (state s.now.journal.desk).asks) number limit (outline s.now) before s.now.past s.now.limit
      → StandsBetween gives (Rises asked (state new.now.journal.desk).asks) number limit (outline s.now) before new.now.past new.now.limit)
      → ((number : ℕ) → hand < number → MightRecord gives number s.now → MightRecord gives number new.now)
      → IsAdded hand s.now.past new.now.past → IsShared state gives new
  shared_after s new hand below had start limit number keeps plan asks stands failed added =
      let again : shared_of s.start new.now s.limit s.number ≡ new = same_shared s new new.now start refl limit number in
      let then_stands : StandsBetween gives (Rises (state s.start.journal.desk).asks (state s.now.journal.desk).asks) s.number s.limit (outline s.now) s.start.past s.now.past s.now.limit =
      subst (λ (p : PlanValue). StandsBetween gives (Rises (state s.start.journal.desk).asks (state s.now.journal.desk).asks) s.number s.limit (outline_of p) s.start.past s.now.past s.now.limit) (sym had.plan) had.stands in
      subst (λ (x : SharedValue K). IsShared state gives x) again (record {
        keeps = λ earlier kept. keeps earlier (had.keeps earlier kept);
        plan = plan ∙ had.plan;
        failed = failed s.number below had.failed;
        asks = omega (arith, had.asks, asks);
        stands = subst (λ (p : PlanValue). StandsBetween gives (Rises (state s.start.journal.desk).asks (state new.now.journal.desk).asks) s.number s.limit (outline_of p) s.start.past new.now.past new.now.limit) had.plan
            (stands s.number (state s.start.journal.desk).asks s.limit s.start.past below had.asks then_stands);
        inside = inside_on hand s.start.past s.now.past new.now.past added had.inside;
        number = had.number;
      })

  -- so does a halt
  pub shared_halted : (s new : SharedValue K) (halt : Option Halt) → IsShared state gives s → new.start ≡ s.start → new.limit ≡ s.limit → new.number ≡ s.number
      → ((earlier : BookValue K) → SessionInvariant state earlier s.now → SessionInvariant state earlier new.now)
      → new.now ≡ record s.now { halt = halt } → (halt ≡ s.now.halt) ⊎ (halt ≡ Some halts.Memory) → IsShared state gives new
  shared_halted s new halt had start limit number keeps same memory =
      let again : shared_of s.start (record s.now { halt = halt }) s.limit s.number ≡ new = same_shared s new (record s.now { halt = halt }) start same limit number in
      let kept : (earlier : BookValue K) → SessionInvariant state earlier s.now → SessionInvariant state earlier (record s.now { halt = halt })
      = subst (λ (b : BookValue K). (earlier : BookValue K) → SessionInvariant state earlier s.now → SessionInvariant state earlier b) same keeps in
      subst (λ (x : SharedValue K). IsShared state gives x) again (record {
        keeps = λ earlier before. kept earlier (had.keeps earlier before);
        plan = had.plan;
        failed = memory_might gives s.number s.now (record s.now { halt = halt }) refl memory had.failed;
        asks = had.asks;
        stands = had.stands;
        inside = had.inside;
        number = had.number;
      })

  -- ---- the end of a run

  -- how a session stands is how its run has come out
  has_run : (asked : Type 0) (number : ℕ) (limit : Option ℕ) (plan : Outline) (before past : List Entry) (kept : Option ℕ) (halt : Option Halt) (answer : How) → LegalPast plan past
      → StandsAs halt (flow_of past) answer → StandsBetween gives asked number limit plan before past kept → HasRun gives asked number limit plan before past answer
  has_run asked number limit plan before past kept halt (how.Ended state) legal stands s =
      let last : is_last (flow_of past) ≡ true = ap is_last stands.1 ∙ ended_is_last state stands.2 in
      subst (λ (f : FlowState). IsSession gives asked number limit plan before past (Some f)) stands.1 (stands_stopped gives asked number limit plan before past kept last s)
  has_run asked number limit plan before past kept halt how.Suspended legal stands s =
      subst (λ (f : FlowState). IsSession gives asked number limit plan before past (Some f)) stands.1 (stands_stopped gives asked number limit plan before past kept (ap is_last stands.1) s)
  has_run asked number limit plan before past kept halt (how.Halted cause) legal stands s = stands_session gives asked number limit plan before past kept legal s

  pub shared_run : (s : SharedValue K) (answer : How) → IsShared state gives s → LegalPast (outline s.start) s.now.past
      → StandsAs s.now.halt (flow_of s.now.past) answer → IsRun state gives s.number s.limit s.start s.now answer
  shared_run s answer had legal stands = record {
    keeps = had.keeps;
    stops = stands;
    plan = had.plan;
    failed = λ sound. had.failed;
    ran = has_run (Rises (state s.start.journal.desk).asks (state s.now.journal.desk).asks) s.number s.limit (outline s.start) s.start.past s.now.past s.now.limit s.now.halt answer legal stands had.stands;
    asks = had.asks;
  }

  -- the flow has a last state, unless the book is halted, as it is where a hand couldn't go on
  pub lasts_unhalted : (s : SharedValue K) (book now : BookValue K) (failed : Bool) → book ≡ s.now → now ≡ record book { halt = now.halt } → (failed ≡ true → IsSome now.halt)
      → (failed ≡ false → is_last (flow_of s.now.past) ≡ true) → now.halt ≡ None → is_last (flow_of now.past) ≡ true
  lasts_unhalted s book now true is same halted last none = (let wrong : IsSome {T = Halt} None = subst (λ (h : Option Halt). IsSome h) none (halted refl) in absurd (cc))
  lasts_unhalted s book now false is same halted last none =
      ap (λ (b : BookValue K). is_last (flow_of b.past)) same ∙ ap (λ (b : BookValue K). is_last (flow_of b.past)) is ∙ last refl

  -- a hand that failed may have halted the book before
  pub concluded : (s : SharedValue K) (book now : BookValue K) (answer : How) → IsShared state gives s → LegalPast (outline s.start) s.now.past → book ≡ s.now
      → ((earlier : BookValue K) → SessionInvariant state earlier book → SessionInvariant state earlier now)
      → now ≡ record book { halt = now.halt } → (now.halt ≡ book.halt) ⊎ (now.halt ≡ Some halts.Memory) → StandsAs now.halt (flow_of now.past) answer
      → IsRun state gives s.number s.limit s.start now answer
  concluded s book now answer had legal is keeps same memory stands =
      let kept : (earlier : BookValue K) → SessionInvariant state earlier s.now → SessionInvariant state earlier now
      = subst (λ (b : BookValue K). (earlier : BookValue K) → SessionInvariant state earlier b → SessionInvariant state earlier now) is keeps in
      let again : now ≡ record s.now { halt = now.halt } = subst (λ (b : BookValue K). now ≡ record b { halt = now.halt }) is same in
      shared_run (shared_of s.start now s.limit s.number) answer (shared_halted s (shared_of s.start now s.limit s.number) now.halt had refl refl refl kept again (subst (λ (b : BookValue K). (now.halt ≡ b.halt) ⊎ (now.halt ≡ Some halts.Memory)) is memory))
      (subst (λ (l : List Entry). LegalPast (outline s.start) l) (sym (ap (λ (b : BookValue K). b.past) again)) legal) stands
