use Rattle.std.proofs.Common.{◌≡◌, ◌∙◌, List, map, filter, ◌&&◌, refl, ap, sym}
use Rattle.std.specs.List.{list_any}
use Rattle.indexmap.specs.IndexSet.{contains}
use Rattle.tf_flow.specs.Tree.{same_name}
use Rattle.tf_flow.specs.Rules.{member_names}
use Rattle.tf_flow.specs.Shown.{members}
use Rattle.tf_flow.specs.Plan.{item_as_written}
use Rattle.tf_flow.specs.Outline.{connection_of}
use Rattle.tf_flow.specs.declared.deciders.Link.{Link}
use Rattle.tf_flow.specs.declared.nested.Item.{Item}
use Rattle.tf_target.specs.Target.{is_marked, elements_kept}
use Rattle.tf_target.proofs.KeepingLemmas.{flow_kept}
use Rattle.tf_target.proofs.keeping.kept_flow.Goals as goal

pub returns : goal.returns
returns c =
    let had : List Item = c.args.flow.now.items.items.items in
    let made : c.make.result.items.items ≡ c.in_ok-items.items.items = c.make.ensures in
    let named : c.in_ok-names.names.items ≡ member_names (members c.in_ok-items.items.items) = c.in_ok-names.ensures ∙ ap (λ (xs : List Item). member_names (members xs)) c.deref.ensures.value in
    flow_kept c.args.flow.now _ (is_marked c.args.marks.now) (contains same_name c.in_ok-set.set) refl refl c.in_ok-retry.ensures
    (ap (λ (xs : List Item). map item_as_written xs) made ∙ (c.in_ok-items.ensures ∙ ap (λ (xs : List Item). map item_as_written (elements_kept (is_marked c.args.marks.now) xs)) c.items.ensures))
    (λ name. c.in_ok-set.ensures name ∙ ap (list_any (same_name name)) (c.deref-2.ensures.value ∙ (named ∙ ap (λ (xs : List Item). member_names (members xs)) (sym made))))
    (ap (map connection_of) c.make-2.ensures ∙ (c.in_ok-links.ensures
    ∙ ap (λ (xs : List Link). map connection_of (filter (λ (link : Link). contains same_name c.in_ok-set.set link.from && contains same_name c.in_ok-set.set link.to) xs)) c.items-2.ensures))
