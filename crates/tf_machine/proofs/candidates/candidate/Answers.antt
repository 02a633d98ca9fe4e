use Rattle.std.proofs.Common.{◌∙◌, ap, sym, Some}
use Rattle.tf_states.specs.declared.record.What.{What}
use Rattle.tf_states.specs.declared.state.AtomState.{AtomState}
use Rattle.tf_model.specs.Forced.{taken_up}
use Rattle.tf_model.specs.Plan.{outline_of, is_task}
use Rattle.tf_machine.specs.Tables.{shown_by}
use Rattle.tf_machine.proofs.BestLemmas.{choice_forced, choice_found, best_task}
use Rattle.tf_machine.proofs.candidates.candidate.Goals as goal

pub returns-then-something_forced-clause-entry : goal.returns-then-something_forced-clause-entry
returns-then-something_forced-clause-entry c =
    choice_forced (outline_of c.args.compiled.now) (shown_by c.args.tables.now) (sym c.is_active.ensures ∙ c.if-not-is_active.false) (sym c.something_forced.ensures ∙ c.if-something_forced.true)

pub returns-in-Some-clause-entry : goal.returns-in-Some-clause-entry
returns-in-Some-clause-entry c =
    ap (λ (w : What). Some w) (c.start_of.ensures.entry ∙ ap (λ (state : AtomState). taken_up state c.in-Some.atom) c.state.ensures)
    ∙ choice_found (outline_of c.args.compiled.now) (shown_by c.args.tables.now) (Some c.in-Some.atom) (sym c.is_active.ensures ∙ c.if-not-is_active.false) (sym c.something_forced.ensures ∙ c.if-something_forced.false) (sym c.in-Some.is ∙ c.best.ensures)

pub returns-in-None-clause-entry : goal.returns-in-None-clause-entry
returns-in-None-clause-entry c =
    choice_found (outline_of c.args.compiled.now) (shown_by c.args.tables.now) _ (sym c.is_active.ensures ∙ c.if-not-is_active.false) (sym c.something_forced.ensures ∙ c.if-something_forced.false) (sym c.in-None.is ∙ c.best.ensures)

pub returns-in-Some-clause-task : goal.returns-in-Some-clause-task
returns-in-Some-clause-task c =
    ap (is_task (outline_of c.args.compiled.now)) c.start_of.ensures.atom
    ∙ best_task (outline_of c.args.compiled.now) (shown_by c.args.tables.now) c.in-Some.atom (sym c.in-Some.is ∙ c.best.ensures)
