use Rattle.std.proofs.Common.{◌≡◌, ℕ, ◌<◌, false}
use Rattle.tf_model.specs.Plan.{outline_of}
use Rattle.tf_machine.specs.Cases.{applies, case_of}
use Rattle.tf_machine.specs.Tables.{shown_by}
use Rattle.tf_machine.proofs.cases.case_at.Given as goal

abbrev pub invariant-loop-place : goal.invariant-loop-place
invariant-loop-place l = (j : ℕ) → j < l.place → applies (outline_of l.compiled) (shown_by l.tables) (case_of j) l.atom ≡ false
