-- What a retry controller reads of its arguments.
use Rattle.std.specs.Prelude.{◌≡◌, ℕ}
use Rattle.tf_flow.specs.declared.atoms.RetryKind.{RetryKind}
use Rattle.tf_actions.specs.declared.orders.Given.{Given}
use Rattle.tf_model.specs.Retries.{attempt_by, answer_by}

-- for a retry controller of this kind what is given is as good as the other: its attempts and its answers are the same
pub record IsAsGiven (how : RetryKind) (arguments others : Given) : Type 0 where
  pub attempts : (k : ℕ) → attempt_by how arguments k ≡ attempt_by how others k
  pub answers : (k : ℕ) → answer_by how arguments k ≡ answer_by how others k
