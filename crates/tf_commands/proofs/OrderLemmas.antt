-- The orders that hands were given in a run, by those that they had been given before and after.
use Rattle.std.proofs.Common.{◌≡◌, ◌<◌, ◌≤◌, ◌+◌, ℕ, zero, suc, List, [], ◌∷◌, ◌++◌, length, map, get_or, Option, Some, None, refl, sym, ap, ◌∙◌, subst, append-nil, length-append, arith, inl, inr}
use Rattle.std.specs.Prelude.{◌⊎◌, option_map}
use Rattle.std.specs.List.{AllByRecursion}
use Rattle.tf_actions.specs.declared.orders.Order.{Order}
use Rattle.tf_states.specs.declared.record.Entry.{Entry}
use Rattle.tf_states.specs.declared.state.FlowState.{FlowState}
use Rattle.tf_states.specs.declared.state.FlowState.TheVariants as flow
use Rattle.tf_model.specs.Plan.{Outline}
use Rattle.tf_hands.specs.Hands.{orders}
use Rattle.tf_ports.specs.Ports.{GivenBack, IsFresh}
use Rattle.tf_desk.specs.State.{DeskState}
use Rattle.tf_book.specs.declared.faults.Halt.{Halt}
use Rattle.tf_book.specs.declared.faults.Halt.TheVariants as halt
use Rattle.tf_report.specs.Closing.{disk_fault_text, book_full}
use Rattle.tf_report.proofs.ClosingLemmas.{closes_status}
use Rattle.tf_commands.specs.Runs.{SaysHalt, HasSaidHalt}
use Rattle.tf_engines.specs.declared.engine.How.{How}
use Rattle.tf_engines.specs.declared.engine.How.TheVariants as how
use Rattle.tf_engines.specs.Asked.{HasDone, HasDoneAllButOne, HasDoneBy}
use Rattle.tf_engines.specs.Runs.{StandsAs}
use Rattle.tf_commands.specs.Books.{stop_status, WasGivenIfTold, WereGiven, WereGivenBack, HasStopped}

-- ---- no order so far

fresh_at : (dids : List (Option (List Order))) (hand : ℕ) → AllByRecursion IsFresh dids → IsFresh (get_or dids hand None)
fresh_at [] hand all = tt
fresh_at (did ∷ dids) zero all = all.0
fresh_at (did ∷ dids) (suc hand) all = fresh_at dids hand all.1

given_none : (whole : Type 0) (plan : Outline) (past : List Entry) (hand : ℕ) (did : Option (List Order)) → IsFresh did → WasGivenIfTold whole plan past past hand did
given_none whole plan past hand None fresh = tt
given_none whole plan past hand (Some did) fresh = record {
  missing = [];
  few = omega arith;
  none = λ so. refl;
  since = sym (ap (λ (given : List Order). orders plan hand past ++ (given ++ [])) fresh ∙ append-nil (orders plan hand past));
}

-- hands that were given no order, where nothing was recorded
pub none_given : (whole : Type 0) (plan : Outline) (past : List Entry) (dids : List (Option (List Order))) → AllByRecursion IsFresh dids → WereGiven whole plan past past dids
none_given whole plan past dids all hand = given_none whole plan past hand (get_or dids hand None) (fresh_at dids hand all)

-- no hands
pub nobody_given : (whole : Type 0) (plan : Outline) (past : List Entry) → WereGiven whole plan past past []
nobody_given whole plan past = none_given whole plan past [] tt

-- ---- the same, said of less

given_where : (whole more : Type 0) (plan : Outline) (before past : List Entry) (hand : ℕ) (did : Option (List Order)) → (more → whole) → WasGivenIfTold whole plan before past hand did
    → WasGivenIfTold more plan before past hand did
given_where whole more plan before past hand None narrows given = tt
given_where whole more plan before past hand (Some did) narrows given = record { missing = given.missing; few = given.few; none = λ so. given.none (narrows so); since = given.since }

pub given_so : {whole : Type 0} (more : Type 0) (plan : Outline) (before : List Entry) {past : List Entry} (later : List Entry) (dids : List (Option (List Order))) → past ≡ later → (more → whole)
    → WereGiven whole plan before past dids → WereGiven more plan before later dids
given_so {whole} more plan before {past} later dids same narrows given hand =
    given_where whole more plan before later hand (get_or dids hand None) narrows (subst (λ (p : List Entry). WasGivenIfTold whole plan before p hand (get_or dids hand None)) same (given hand))

-- those that were given back, where they are told
pub given_back : (whole : Type 0) (plan : Outline) (before past : List Entry) (told : GivenBack) (dids : List (Option (List Order))) → WereGivenBack whole plan before past (Some dids)
    → WereGivenBack whole plan before past (option_map (λ (earlier : List (Option (List Order))). dids) told)
given_back whole plan before past None dids given = tt
given_back whole plan before past (Some earlier) dids given = given

-- ---- by how the run stopped

given_exactly : (whole : Type 0) (plan : Outline) (before past : List Entry) (hand : ℕ) (told did : Option (List Order)) → IsFresh told
    → HasDone told (orders plan hand before) did (orders plan hand past) → WasGivenIfTold whole plan before past hand did
given_exactly whole plan before past hand None did fresh done = subst (WasGivenIfTold whole plan before past hand) (sym done.is) tt
given_exactly whole plan before past hand (Some had) did fresh done =
    subst (WasGivenIfTold whole plan before past hand) (sym (done.is ∙ ap (λ (first : List Order). Some (first ++ done.done)) fresh)) (record {
      missing = [];
      few = omega arith;
      none = λ so. refl;
      since = done.since ∙ ap (λ (given : List Order). orders plan hand before ++ given) (sym (append-nil done.done));
    })

given_but_one : (whole : Type 0) (plan : Outline) (before past : List Entry) (hand : ℕ) (told did : Option (List Order)) → (whole → ⊥) → IsFresh told
    → HasDoneAllButOne told (orders plan hand before) did (orders plan hand past) → WasGivenIfTold whole plan before past hand did
given_but_one whole plan before past hand None did never fresh done = subst (WasGivenIfTold whole plan before past hand) (sym done.is) tt
given_but_one whole plan before past hand (Some had) did never fresh done =
    subst (WasGivenIfTold whole plan before past hand) (sym (done.is ∙ ap (λ (first : List Order). Some (first ++ done.done)) fresh))
    (record { missing = done.missing; few = done.one; none = λ so. absurd (never so); since = done.since })

given_by : (halt : Option Halt) (at : FlowState) (plan : Outline) (before past : List Entry) (hand : ℕ) (told did : Option (List Order)) (stopped : How) → StandsAs halt at stopped → IsFresh told
    → HasDoneBy told (orders plan hand before) did (orders plan hand past) stopped → WasGivenIfTold (halt ≡ None) plan before past hand did
given_by halt at plan before past hand told did (how.Ended last) stands fresh done = given_exactly (halt ≡ None) plan before past hand told did fresh done
given_by halt at plan before past hand told did how.Suspended stands fresh done = given_exactly (halt ≡ None) plan before past hand told did fresh done
given_by halt at plan before past hand told did (how.Halted cause) stands fresh done =
    given_but_one (halt ≡ None) plan before past hand told did (λ unhalted. (let clash : None ≡ Some cause = sym unhalted ∙ stands in cc)) fresh done

module _ {P : Type 0} (did : P → Option (List Order)) where
  -- what the hand of a number was given; a number that is none's has nothing
  by_number : (hands : List P) (hand : ℕ) → ((d : P) × (hand < length hands) × (get_or (map did hands) hand None ≡ did (get_or hands hand d))) ⊎ (get_or (map did hands) hand None ≡ None)
  by_number [] hand = inr refl
  by_number (first ∷ hands) zero = inl (first, omega arith, refl)
  by_number (first ∷ hands) (suc hand) = more (by_number hands hand)
    where
      more : ((d : P) × (hand < length hands) × (get_or (map did hands) hand None ≡ did (get_or hands hand d))) ⊎ (get_or (map did hands) hand None ≡ None)
          → ((d : P) × (suc hand < length (first ∷ hands)) × (get_or (map did (first ∷ hands)) (suc hand) None ≡ did (get_or (first ∷ hands) (suc hand) d))) ⊎ (get_or (map did (first ∷ hands)) (suc hand) None ≡ None)
      more (inl is) = (let below = is.1 in inl (is.0, omega (arith, below), is.2))
      more (inr none) = inr none

  fresh_by : (hands : List P) (hand : ℕ) (d : P) → hand < length hands → AllByRecursion IsFresh (map did hands) → IsFresh (did (get_or hands hand d))
  fresh_by [] hand d below all = absurd (omega (arith, below))
  fresh_by (first ∷ hands) zero d below all = all.0
  fresh_by (first ∷ hands) (suc hand) d below all = fresh_by hands hand d (omega (arith, below)) all.1

  -- the hands of a run, which were given no order before it
  pub given_in_run : (halt : Option Halt) (at : FlowState) (plan : Outline) (before past : List Entry) (hands back : List P) (stopped : How) → StandsAs halt at stopped
      → AllByRecursion IsFresh (map did hands) → length back ≡ length hands
      → ((i : ℕ) (d : P) → i < length hands
      → HasDoneBy (did (get_or hands i d)) (orders plan i before) (did (get_or back i d)) (orders plan i past) stopped)
      → WereGiven (halt ≡ None) plan before past (map did back)
  given_in_run halt at plan before past hands back stopped stands fresh long done hand = at_number (by_number back hand)
    where
      at_number : ((d : P) × (hand < length back) × (get_or (map did back) hand None ≡ did (get_or back hand d))) ⊎ (get_or (map did back) hand None ≡ None)
          → WasGivenIfTold (halt ≡ None) plan before past hand (get_or (map did back) hand None)
      at_number (inl is) =
          let d = is.0 in
          let among = is.1 in
          let below : hand < length hands = omega (arith, among, long) in
          subst (WasGivenIfTold (halt ≡ None) plan before past hand) (sym is.2)
          (given_by halt at plan before past hand (did (get_or hands hand d)) (did (get_or back hand d)) stopped stands (fresh_by hands hand d below fresh) (done hand d below))
      at_number (inr none) = subst (WasGivenIfTold (halt ≡ None) plan before past hand) (sym none) tt

-- ---- statuses

-- the statuses of a run that stopped in a state
stop_range : (last : FlowState) → (stop_status last ≡ 0) ⊎ ((10 ≤ stop_status last) × (stop_status last ≤ 12))
stop_range flow.Pending = inr (omega arith, omega arith)
stop_range flow.Running = inr (omega arith, omega arith)
stop_range flow.Success = inl refl
stop_range flow.Failure = inr (omega arith, omega arith)
stop_range flow.Reverted = inr (omega arith, omega arith)
stop_range flow.Suspending = inr (omega arith, omega arith)
stop_range flow.Suspended = inr (omega arith, omega arith)
stop_range flow.Resuming = inr (omega arith, omega arith)

-- those of a run whose book was halted
halt_range : (before now : Option (List ℕ)) (why : Halt) (closing : List ℕ) (status : ℕ) → SaysHalt before now why closing status → ((5 ≤ status) × (status ≤ 9)) ⊎ (status ≡ 13)
halt_range before now halt.Disk closing status says = failed (closes_status before now disk_fault_text 5 status says.1)
  where
    failed : (status ≡ 5) ⊎ (status ≡ 7) → ((5 ≤ status) × (status ≤ 9)) ⊎ (status ≡ 13)
    failed (inl is) = inl (omega (arith, is), omega (arith, is))
    failed (inr is) = inl (omega (arith, is), omega (arith, is))
halt_range before now halt.Out closing status says = let is = says.1 in inl (omega (arith, is), omega (arith, is))
halt_range before now (halt.Full size need) closing status (inl out) = let is = out.1 in inl (omega (arith, is), omega (arith, is))
halt_range before now (halt.Full size need) closing status (inr says) = filled (closes_status before now (book_full size need) 13 status says.1)
  where
    filled : (status ≡ 13) ⊎ (status ≡ 7) → ((5 ≤ status) × (status ≤ 9)) ⊎ (status ≡ 13)
    filled (inl is) = inr is
    filled (inr is) = inl (omega (arith, is), omega (arith, is))
halt_range before now halt.Memory closing status says = let is = says.1 in inl (omega (arith, is), omega (arith, is))

apart : (status stop : ℕ) → status ≡ stop → (stop ≡ 0) ⊎ ((10 ≤ stop) × (stop ≤ 12)) → ((5 ≤ status) × (status ≤ 9)) ⊎ (status ≡ 13) → ⊥
apart status stop is (inl none) (inl range) = omega (arith, is, none, range.0)
apart status stop is (inl none) (inr full) = omega (arith, is, none, full)
apart status stop is (inr some) (inl range) = omega (arith, is, some.0, range.1)
apart status stop is (inr some) (inr full) = omega (arith, is, some.1, full)

-- no halt is said with the status of a run that stopped
pub halt_unstopped : {why : Halt} {old new : DeskState} {status : ℕ} → HasSaidHalt why old new status → HasStopped status → ⊥
halt_unstopped {why} {old} {new} {status} s stopped = apart status (stop_status stopped.0) stopped.1 (stop_range stopped.0) (halt_range old.shown new.shown why s.closing status s.ends)

-- ---- one hand alone

-- what is so of the one hand, which was taken from the others and put back to them, is so of each
pub done_alone : {P : Type 0} (Done : ℕ → P → P → Type 0) (hands rest back : List P) (before after : P) → hands ≡ rest ++ before ∷ [] → length hands ≡ 1 → back ≡ rest ++ after ∷ [] → Done 0 before after
    → (i : ℕ) (d : P) → i < length hands → Done i (get_or hands i d) (get_or back i d)
done_alone {P} Done hands [] back before after is one same done zero d below =
    subst (λ (l : List P). Done 0 (get_or l 0 d) (get_or back 0 d)) (sym is) (subst (λ (l : List P). Done 0 before (get_or l 0 d)) (sym same) done)
done_alone {P} Done hands [] back before after is one same done (suc i) d below = absurd (omega (arith, below, one))
done_alone {P} Done hands (other ∷ rest) back before after is one same done i d below =
    let long : length hands ≡ length ((other ∷ rest) ++ before ∷ []) = ap length is in
    let parts : length (rest ++ before ∷ []) ≡ length rest + 1 = length-append rest (before ∷ []) in
    absurd (omega (arith, long, parts, one))
