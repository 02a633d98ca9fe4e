use Rattle.std.proofs.Common.{ℕ, ap, ◌∙◌}
use Rattle.tf_model.specs.Plan.{outline_of}
use Rattle.tf_model.specs.Retries.{attempt_by}
use Rattle.tf_machine.specs.Tables.{shown_by}
use Rattle.tf_machine.proofs.EntryLemmas.{attempt_told, no_attempt}
use Rattle.tf_machine.proofs.entries.attempt.Goals as goal

pub returns-in-None : goal.returns-in-None
returns-in-None c = no_attempt (outline_of c.args.compiled.now) (shown_by c.args.tables.now) c.args.atom c.in-None.ensures

pub returns-in_ok-payload-in-Some : goal.returns-in_ok-payload-in-Some
returns-in_ok-payload-in-Some c =
    c.in_ok-payload-in-Some.ensures
    ∙ (ap (λ (k : ℕ). attempt_by c.in-Some.retry.now.kind c.in_ok-given-in-Some.given k) c.attempts.ensures
    ∙ attempt_told (outline_of c.args.compiled.now) (shown_by c.args.tables.now) c.args.atom c.in-Some.retry.now.kind c.in_ok-given-in-Some.given c.in-Some.ensures c.in_ok-given-in-Some.ensures)
