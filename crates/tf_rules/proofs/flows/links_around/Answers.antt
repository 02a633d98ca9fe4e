use Rattle.std.proofs.Common.{sym, ap, map, ◌∙◌}
use Rattle.tf_flow.specs.Outline.{connection_of}
use Rattle.tf_rules.proofs.HomeLemmas.{no_links, links_told}
use Rattle.tf_rules.proofs.flows.links_around.Goals as goal

pub returns-in-None : goal.returns-in-None
returns-in-None c = sym (no_links c.args.plan.now c.args.atom (sym c.in-None.ensures))

pub returns-in-Some : goal.returns-in-Some
returns-in-Some c = ap (map connection_of) c.items.ensures ∙ sym (links_told c.args.plan.now c.args.atom c.in-Some.flow.now (sym c.in-Some.ensures))
