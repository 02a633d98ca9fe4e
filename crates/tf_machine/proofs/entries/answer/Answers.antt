use Rattle.std.proofs.Common.{ℕ, ap, ◌∙◌}
use Rattle.tf_model.specs.Plan.{outline_of}
use Rattle.tf_model.specs.Retries.{answer_by}
use Rattle.tf_machine.specs.Tables.{shown_by}
use Rattle.tf_machine.proofs.EntryLemmas.{answer_told, no_answer}
use Rattle.tf_machine.proofs.entries.answer.Goals as goal

pub returns-in-None : goal.returns-in-None
returns-in-None c = no_answer (outline_of c.args.compiled.now) (shown_by c.args.tables.now) c.args.atom c.in-None.ensures

pub returns-in_ok-given-in-Some : goal.returns-in_ok-given-in-Some
returns-in_ok-given-in-Some c =
    c.strategy.ensures
    ∙ (ap (λ (k : ℕ). answer_by c.in-Some.retry.now.kind c.in_ok-given-in-Some.given k) c.attempts.ensures
    ∙ answer_told (outline_of c.args.compiled.now) (shown_by c.args.tables.now) c.args.atom c.in-Some.retry.now.kind c.in_ok-given-in-Some.given c.in-Some.ensures c.in_ok-given-in-Some.ensures)
