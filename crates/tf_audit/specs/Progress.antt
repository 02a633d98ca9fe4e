-- How far an audit has come.
use Rattle.std.specs.Prelude.{◌≡◌, ℕ, List, [], ◌∷◌, ◌++◌, length, true, Option, Some, None, slice_get, slice_set}
use Rattle.tf_flow.specs.Plan as numbering
use Rattle.tf_states.specs.declared.record.Entry.{Entry}
use Rattle.tf_states.specs.declared.state.FlowState.{FlowState}
use Rattle.tf_actions.specs.declared.orders.Order.{Order}
use Rattle.tf_actions.specs.Gives.{GivesFar, IsWhole}
use Rattle.tf_model.specs.History.{snapshot, flow_of}
use Rattle.tf_model.specs.Scope.{IsGiven}
use Rattle.tf_model.specs.Plan.{Outline, count}
use Rattle.tf_model.specs.Steps.{Step}
use Rattle.tf_machine.specs.Machine.{outline, StandsFor}
use Rattle.tf_audit.specs.declared.progress.Progress.{Progress}
use Rattle.tf_audit.specs.declared.verdicts.Verdict.{Verdict}
use Rattle.tf_audit.specs.declared.verdicts.Verdict.TheVariants as verdict
use Rattle.tf_audit.specs.declared.verdicts.Why.{Why}
use Rattle.tf_audit.specs.Kept.{KeepsOrders}
use Rattle.tf_audit.specs.Verdicts.{log_lines, is_examined, AreOfRun, MayNot, IsFaulty}
use Rattle.tf_audit.specs.Names.{AreNamed}

-- the orders that are kept are those that a performer can be asked for
abbrev pub AreWhole : List (Option Order) → Type 0
AreWhole orders = (a : ℕ) (order : Order) → slice_get orders a ≡ Some (Some order) → IsWhole order

-- what an audit rests on: the plan's names, the index of its flows, and a place for an order of each atom
pub record CanGoOn (progress : Progress) : Type 0 where
  pub named : AreNamed (outline progress.machine)
  pub flows : progress.flows.keys ≡ numbering.flows progress.machine.plan
  pub places : length progress.orders.items ≡ count (outline progress.machine)
  pub whole : AreWhole progress.orders.items

-- the orders with that of a task that is taken up
abbrev pub orders_with : List (Option Order) → Option (ℕ × Order) → List (Option Order)
orders_with orders None = orders
orders_with orders (Some asked) = slice_set orders asked.0 (Some asked.1)

-- what is kept is that of this history
pub record IsKeptOf (progress : Progress) (past : List Entry) : Type 0 where
  pub stands : StandsFor progress.machine past
  pub keeps : KeepsOrders (outline progress.machine) progress.orders.items past
  pub as_many : progress.entries ≡ length past

-- the entry may follow the history, with an outcome that it may carry, and then what is kept is that of both
pub record HasTaken (old new : Progress) (past : List Entry) (e : Entry) : Type 0 where
  pub plan : new.machine.plan ≡ old.machine.plan
  pub step : Step (outline old.machine) (snapshot (outline old.machine) past) e
  pub given : IsGiven GivesFar (outline old.machine) past e.what
  pub kept : IsKeptOf new (e ∷ past)

-- what comes of an entry: it is taken, or why it can't stand there
abbrev pub TakesEntry : Progress → Progress → Entry → Option Why → Type 0
TakesEntry old new e None = (past : List Entry) → IsKeptOf old past → HasTaken old new past e
TakesEntry old new e (Some because) =
    (past : List Entry) → IsKeptOf old past → MayNot (outline old.machine) past e because

-- an audit of the plan has come over these lines: they are those of a legal run, and what is kept is that of its
-- history
pub record HasCome (plan : Outline) (texts : List (List ℕ)) (progress : Progress) : Type 0 where
  pub plan_is : outline progress.machine ≡ plan
  pub past : List Entry
  pub run : AreOfRun plan texts past
  pub kept : IsKeptOf progress past

-- behind these lines of a legal run the line can't be
pub record CannotBe (plan : Outline) (before : List (List ℕ)) (text : List ℕ) (because : Why) : Type 0 where
  pub past : List Entry
  pub run : AreOfRun plan before past
  pub examined : is_examined text ≡ true
  pub faulty : IsFaulty plan past text because

-- what comes of a line: the audit comes over it, or why it can't be
abbrev pub TakesLine : Progress → Progress → List ℕ → Option Why → Type 0
TakesLine old new text None =
    (plan : Outline) (texts : List (List ℕ)) → HasCome plan texts old → HasCome plan (texts ++ text ∷ []) new
TakesLine old new text (Some because) =
    (plan : Outline) (texts : List (List ℕ)) → HasCome plan texts old → CannotBe plan texts text because

-- so many lines of the log were followed, and this is left of it
pub record HasFollowed (plan : Outline) (log rest : List ℕ) (line : ℕ) (progress : Progress) : Type 0 where
  pub texts : List (List ℕ)
  pub lines : log_lines log ≡ texts ++ log_lines rest
  pub as_many : line ≡ length texts
  pub come : HasCome plan texts progress

-- where these are all lines, the verdict is that they are those of a legal run
pub record IsLegalEnd (plan : Outline) (texts : List (List ℕ)) (entries : ℕ) (state : FlowState) : Type 0 where
  pub past : List Entry
  pub run : AreOfRun plan texts past
  pub as_many : entries ≡ length past
  pub stands : state ≡ flow_of past

abbrev pub IsLegalSoFar : Outline → List (List ℕ) → Verdict → Type 0
IsLegalSoFar plan texts (verdict.Legal entries state) = IsLegalEnd plan texts entries state
IsLegalSoFar plan texts (verdict.Bad number because) = ⊥
