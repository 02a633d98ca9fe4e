-- What a machine does leaves less of a run.
use Rattle.std.proofs.Common.{◌≡◌, ◌≢◌, ℕ, ◌<◌, true, ◌||◌, Option, Some, None, refl, sym, subst}
use Rattle.std.specs.Option.{option_map}
use Rattle.std.specs.Prelude.{IfSome}
use Rattle.tf_flow.specs.Plan.{PlanValue}
use Rattle.tf_states.specs.declared.record.Entry.{Entry}
use Rattle.tf_states.specs.declared.record.What.{What}
use Rattle.tf_states.specs.declared.record.What.TheVariants as what
use Rattle.tf_states.specs.declared.state.FlowState.TheVariants as flow
use Rattle.tf_actions.specs.declared.outcomes.Outcome.{Outcome}
use Rattle.tf_model.specs.Plan.{count}
use Rattle.tf_model.specs.History.{Snapshot, later, flow_runs, flow_suspends}
use Rattle.tf_model.specs.Forced.{forced, choice}
use Rattle.tf_model.specs.Steps.{Step}
use Rattle.tf_numbers.proofs.BelowLemmas.{found_passes}
use Rattle.tf_bound.specs.Owed.{left, left_later}
use Rattle.tf_bound.proofs.SessionLemmas.{falls, forced_less, chosen_less, ended_less}
use Rattle.tf_hands.specs.declared.starts.Start.{Start}
use Rattle.tf_hands.specs.Hands.{start_entry, is_with, task_of, end_by, ended_from}
use Rattle.tf_machine.specs.Machine.{MachineValue, IsSoundMachine, outline, shown}
use Rattle.tf_numbers.proofs.OptionLemmas.{is_this_number}
use Rattle.tf_machine.proofs.MachineLemmas.{sound_facts, sound_kept, ended_as}

pub machine_forced : (m : MachineValue) (hand : ℕ) (w : What) → IsSoundMachine m → forced (outline m) (shown m) ≡ Some w → left_later m.plan hand w (shown m) < left m.plan (shown m)
machine_forced m hand w sound is = forced_less m.plan (shown m) hand w sound.bounded.limits.attempts (sound_kept m sound) is

pub machine_chosen : (m : MachineValue) (o : Option Start) → IsSoundMachine m → option_map start_entry o ≡ choice (outline m) (shown m)
    → IfSome o (λ start. (hand : ℕ) → left_later m.plan hand (start_entry start) (shown m) < left m.plan (shown m))
machine_chosen m None sound is = tt
machine_chosen m (Some start) sound is = λ hand. chosen_less m.plan (shown m) hand (start_entry start) sound.bounded.limits.attempts (sound_kept m sound) (sym is)

pub machine_ended : (m : MachineValue) (hand a : ℕ) (outcome : Outcome) → IsSoundMachine m → task_of (outline m) (shown m) hand ≡ Some a
    → left m.plan (later (outline m) (end_by (shown m) hand outcome a) (shown m)) < left m.plan (shown m)
machine_ended m hand a outcome sound is =
    let has = found_passes (count (outline m)) (is_with (shown m) hand) a is in
    let busy = (sound_facts m sound).busy a hand (is_this_number ((shown m).hand a) hand has) in
    ended_less m.plan (shown m) hand (ended_from a ((shown m).state a) outcome) sound.bounded.limits.attempts (sound_kept m sound)
    (ended_as (outline m) (shown m) hand a ((shown m).state a) outcome refl busy.at_work busy.goes has)

-- a machine that shows what comes after a step has less to come
pub moved_less : (old new : MachineValue) (e : Entry) → IsSoundMachine old → new.plan ≡ old.plan → shown new ≡ later (outline old) e (shown old) → Step (outline old) (shown old) e
    → flow_runs (shown old).flow || flow_suspends (shown old).flow ≡ true → e.what ≢ what.Flow flow.Resuming → left new.plan (shown new) < left old.plan (shown old)
moved_less old new e sound plan moved step going isnt =
    subst (λ (p : PlanValue). left p (shown new) < left old.plan (shown old)) (sym plan)
    (subst (λ (s : Snapshot). left old.plan s < left old.plan (shown old)) (sym moved)
    (falls old.plan (shown old) e sound.bounded.limits.attempts (sound_kept old sound) going isnt step))

-- the same of the end of a task
pub settled_less : (old new : MachineValue) (hand : ℕ) (w v : What) → new.plan ≡ old.plan → shown new ≡ later (outline old) (record { hand = hand; what = w }) (shown old) → w ≡ v
    → left_later old.plan hand v (shown old) < left old.plan (shown old) → left new.plan (shown new) < left old.plan (shown old)
settled_less old new hand w v plan moved same less =
    subst (λ (p : PlanValue). left p (shown new) < left old.plan (shown old)) (sym plan)
    (subst (λ (s : Snapshot). left old.plan s < left old.plan (shown old)) (sym moved)
    (subst (λ (x : What). left_later old.plan hand x (shown old) < left old.plan (shown old)) (sym same) less))
