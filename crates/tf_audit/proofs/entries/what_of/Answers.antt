use Rattle.std.proofs.Common.{Option, ap, ◌∙◌}
use Rattle.tf_states.specs.declared.record.What.{What}
use Rattle.tf_states.specs.declared.state.FlowState.{FlowState}
use Rattle.tf_audit.specs.Events.{event_with}
use Rattle.tf_audit.specs.Words.{flow_state_named}
use Rattle.tf_audit.proofs.EventLemmas.{event_read}
use Rattle.tf_audit.proofs.entries.what_of.Goals as goal

pub returns : goal.returns
returns c = λ w among good is.
    c.event_with.ensures
    ∙ (ap (λ (t : Option FlowState). event_with c.cut.result.0.now c.in_ok-entered.entered t c.resolved-resolved.result c.atom_of-atom.result) c.flow_state_of.ensures
    ∙ (ap (λ (r : Option What). event_with c.cut.result.0.now c.in_ok-entered.entered (flow_state_named c.cut-3.result.0.now) r c.atom_of-atom.result) c.resolved-resolved.ensures
    ∙ event_read c.args.plan.now c.requires.named w among good c.args.bytes.now c.cut.result.0.now c.cut.result.1.now c.cut-2.result.0.now c.cut-2.result.1.now c.cut-3.result.0.now c.cut-3.result.1.now
    c.atom_of-atom.result c.flow_of.result c.in_ok-entered.entered c.cut.ensures c.cut-2.ensures c.cut-3.ensures (record { is = c.atom_of-atom.ensures }) (record { is = c.flow_of.ensures }) (record { is = c.in_ok-entered.ensures }) is))
