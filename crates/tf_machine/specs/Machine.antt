-- What a machine is, and for which histories it stands.
use Rattle.std.specs.Prelude.{◌≡◌, List, length, None}
use Rattle.tf_flow.specs.Plan.{PlanValue}
use Rattle.tf_states.specs.declared.record.AtomView.{AtomView}
use Rattle.tf_states.specs.declared.record.Entry.{Entry}
use Rattle.tf_states.specs.declared.state.FlowState.{FlowState}
use Rattle.tf_machine.specs.declared.tables.Place.{Place}
use Rattle.tf_model.specs.Plan.{compile_refusal, Outline, outline_of, count}
use Rattle.tf_model.specs.Scope.{missing_symbol}
use Rattle.tf_model.specs.History.{Snapshot, snapshot}
use Rattle.tf_model.specs.Steps.{LegalPast}
use Rattle.tf_bound.specs.Kept.{IsBounded}
use Rattle.tf_machine.specs.Counts.{AreCounted}
use Rattle.tf_machine.specs.declared.counters.Counters.{Counters}
use Rattle.tf_machine.specs.declared.worklists.Worklist.{Worklist}
use Rattle.tf_machine.specs.Worklists.{IsListed}
use Rattle.tf_machine.specs.Tries.{HasTries, HasFewTries}
use Rattle.tf_machine.specs.Tables.{shown_of}

-- a machine: its plan, and of each atom its view and what else is kept; and the flow's state
pub record MachineValue : Type 0 where
  pub plan : PlanValue
  pub views : List AtomView
  pub places : List Place
  pub flow : FlowState

-- the outline of its plan
abbrev pub outline : MachineValue → Outline
outline m = outline_of m.plan

-- what it shows
abbrev pub shown : MachineValue → Snapshot
shown m = shown_of m.views m.places m.flow

-- it stands for a history: this is legal, and what the machine shows is what the rules read of it
pub record StandsFor (m : MachineValue) (past : List Entry) : Type 0 where
  pub legal : LegalPast (outline m) past
  pub shows : shown m ≡ snapshot (outline m) past

-- it stands for some history
abbrev pub HasHistory : MachineValue → Type 0
HasHistory m = (past : List Entry) × StandsFor m past

-- the plan of every machine compiles, lacks no symbol and has tries that a number of 16 bits counts; the machine has a
-- view and a place for each atom, stands for some history, and what bounds a run and its attempts holds of what it
-- shows
pub record IsSoundMachine (m : MachineValue) : Type 0 where
  pub compiles : compile_refusal m.plan ≡ None
  pub complete : missing_symbol (outline m) ≡ None
  pub few : HasFewTries (outline m)
  pub views : length m.views ≡ count (outline m)
  pub places : length m.places ≡ count (outline m)
  pub some : HasHistory m
  pub bounded : IsBounded (outline m) (shown m)
  pub tries : HasTries (outline m) (shown m)

-- what every machine keeps: it is sound, its counters are those of what it shows, and what is to be looked at then is
-- listed
pub record IsSoundWith (m : MachineValue) (counters : Counters) (list : Worklist) : Type 0 where
  pub sound : IsSoundMachine m
  pub counted : AreCounted (outline m) (shown m) counters
  pub listed : IsListed (outline m) (shown m) list
