use Rattle.std.proofs.Common.{◌∙◌, ap, List, ℕ}
use Rattle.tf_flow.specs.Tree.{is_among}
use Rattle.tf_flow.specs.Rules as rule
use Rattle.tf_flow.specs.Shown.{members}
use Rattle.tf_flow.proofs.LinkLemmas.{stray_same}
use Rattle.tf_flow.proofs.link_rules.stray_among.Goals as goal

pub returns : goal.returns
returns c =
    c.first_stray.ensures ∙ stray_same c.in_ok-set.set.keys (rule.member_names (members c.args.items.now))
    (λ name. c.in_ok-set.ensures name ∙ ap (λ (all : List (List ℕ)). is_among all name) (c.deref.ensures.value ∙ c.in_ok-names.ensures)) c.args.links.now
