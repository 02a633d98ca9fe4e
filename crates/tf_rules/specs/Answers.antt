-- The answers of the retry controllers around an atom at a moment of a run.
use Rattle.std.specs.Prelude.{◌≡◌, ℕ, List, true, Some, slice_get}
use Rattle.tf_states.specs.declared.record.Kind.{Kind}
use Rattle.tf_model.specs.Plan.{Outline, holds, retry_of}
use Rattle.tf_model.specs.Retries.{answer}
use Rattle.tf_model.specs.History.{Snapshot}

-- at the atom number of the retry controller of each flow that holds an atom stands its answer; other places may hold
-- anything
pub record HasAnswers (answers : List Kind) (plan : Outline) (s : Snapshot) (a : ℕ) : Type 0 where
  pub at : (flow r : ℕ) → holds plan flow a ≡ true → retry_of plan flow ≡ Some r
      → slice_get answers r ≡ Some (answer plan s r)
