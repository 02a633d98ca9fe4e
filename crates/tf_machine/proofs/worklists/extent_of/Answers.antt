use Rattle.std.proofs.Common.{◌∙◌, sym, subst}
use Rattle.tf_states.specs.declared.record.What.{What}
use Rattle.tf_model.specs.Plan.{outline_of}
use Rattle.tf_model.specs.History.{later}
use Rattle.tf_machine.specs.declared.worklists.Extent.TheVariants as extent
use Rattle.tf_machine.specs.Worklists.{AreMoved, event}
use Rattle.tf_machine.proofs.ExtentLemmas.{entered_around, entered_begun, resolved_flow, restarted_around}
use Rattle.tf_machine.proofs.worklists.extent_of.Goals as goal

pub returns-then-begins_attempt : goal.returns-then-begins_attempt
returns-then-begins_attempt c = λ s hand marked.
    subst (λ (w : What). AreMoved (outline_of c.args.compiled.now) s (extent.Begin c.in-Atom.atom) (later (outline_of c.args.compiled.now) (event hand w) s)) (sym c.in-Atom.is)
    (entered_begun (outline_of c.args.compiled.now) s hand c.in-Atom.atom c.in-Atom.state c.in-Atom.payload marked (sym c.begins_attempt.ensures ∙ c.if-begins_attempt.true))

pub returns-else-begins_attempt : goal.returns-else-begins_attempt
returns-else-begins_attempt c = λ s hand marked.
    subst (λ (w : What). AreMoved (outline_of c.args.compiled.now) s (extent.Around c.in-Atom.atom) (later (outline_of c.args.compiled.now) (event hand w) s)) (sym c.in-Atom.is)
    (entered_around (outline_of c.args.compiled.now) s hand c.in-Atom.atom c.in-Atom.state c.in-Atom.payload (sym c.begins_attempt.ensures ∙ c.if-begins_attempt.false))

pub returns-in-Flow : goal.returns-in-Flow
returns-in-Flow c = λ s hand marked. tt

pub returns-in-Resolve : goal.returns-in-Resolve
returns-in-Resolve c = λ s hand marked.
    subst (λ (w : What). AreMoved (outline_of c.args.compiled.now) s (extent.Flow c.in-Resolve.flow) (later (outline_of c.args.compiled.now) (event hand w) s)) (sym c.in-Resolve.is)
    (resolved_flow (outline_of c.args.compiled.now) s hand c.in-Resolve.flow c.in-Resolve.kind)

pub returns-in-Restart : goal.returns-in-Restart
returns-in-Restart c = λ s hand marked.
    subst (λ (w : What). AreMoved (outline_of c.args.compiled.now) s (extent.Around c.in-Restart.atom) (later (outline_of c.args.compiled.now) (event hand w) s)) (sym c.in-Restart.is) (restarted_around (outline_of c.args.compiled.now) s hand c.in-Restart.atom)
