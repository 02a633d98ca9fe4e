use Rattle.std.proofs.Common.{◌∙◌, ℕ, List, ap}
use Rattle.tf_links.specs.Links.{leads}
use Rattle.tf_order.proofs.LookLemmas.{reach_kept}
use Rattle.tf_order.proofs.looking.reach_of.Goals as goal

pub returns-then-are_same : goal.returns-then-are_same
returns-then-are_same c = reach_kept c.args.links.now c.args.written.now c.args.explicit_reach.now c.in_ok-rows.rows.items c.requires.reach
    (λ u v. c.are_same.ensures c.if-are_same.true u v ∙ ap (λ (rows : List (List ℕ)). leads rows u v) c.rows.ensures.rows)
    c.in_ok-rows.ensures
