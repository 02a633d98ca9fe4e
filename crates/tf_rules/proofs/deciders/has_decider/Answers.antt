use Rattle.std.proofs.Common.{sym, ap, ◌∙◌}
use Rattle.tf_model.specs.Plan.{outline_of}
use Rattle.tf_rules.specs.Deciders.{has_any}
use Rattle.tf_rules.specs.Seen.{deciding}
use Rattle.tf_rules.proofs.DepthLemmas.{any_here, any_none_left, deciding_told, never_refused}
use Rattle.tf_model.proofs.PlanLemmas.{name_told}
use Rattle.tf_rules.proofs.deciders.has_decider.Goals as goal

pub returns-then-decides_on-clause-is : goal.returns-then-decides_on-clause-is
returns-then-decides_on-clause-is c =
    let name = c.atom_name-name.result.now in
    let links = c.links_around-link-items.result.now in
    let same = deciding_told (outline_of c.args.plan.now) c.args.atom name links c.links_around-link-items.ensures (name_told c.args.plan.now c.args.atom name c.atom_name-name.ensures) in
    sym (sym (ap has_any same) ∙ (c.loop-link.invariant ∙ any_here name links c.loop-link.link-index c.link-item.result c.loop-link-test.true c.link-item.is (sym c.decides_on.ensures ∙ c.if-decides_on.true)))

pub returns-clause-is : goal.returns-clause-is
returns-clause-is c =
    let name = c.atom_name-name.result.now in
    let links = c.links_around-link-items.result.now in
    let same = deciding_told (outline_of c.args.plan.now) c.args.atom name links c.links_around-link-items.ensures (name_told c.args.plan.now c.args.atom name c.atom_name-name.ensures) in
    sym (sym (ap has_any same) ∙ (c.loop-link.invariant ∙ any_none_left name links c.loop-link.link-index c.loop-link-test.false))

pub returns-clause-never : goal.returns-clause-never
returns-clause-never c = λ none s.
    let name = c.atom_name-name.result.now in
    let links = c.links_around-link-items.result.now in
    let same = deciding_told (outline_of c.args.plan.now) c.args.atom name links c.links_around-link-items.ensures (name_told c.args.plan.now c.args.atom name c.atom_name-name.ensures) in
    never_refused (outline_of c.args.plan.now) s c.args.atom (deciding name links) (sym same) (c.loop-link.invariant ∙ any_none_left name links c.loop-link.link-index c.loop-link-test.false)
