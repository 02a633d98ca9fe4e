use Rattle.std.proofs.Common.{◌+◌, ◌∙◌, refl}
use Rattle.tf_model.specs.Plan.{is_before}
use Rattle.tf_order.specs.Tables.{plan_seen}
use Rattle.tf_order.proofs.PathLemmas.{path_there}
use Rattle.tf_order.proofs.IntervalLemmas.{interval_alone, interval_along, before_seen}
use Rattle.tf_order.proofs.intervals.interval_from.Goals as goal

pub returns-in-None-clause-same : goal.returns-in-None-clause-same
returns-in-None-clause-same c =
    interval_alone (is_before (plan_seen c.args.outline.now) c.args.a) c.is_path_before-is_after.result c.args.b (c.args.b + 1)
    (before_seen c.args.outline.now c.args.a c.args.b c.turns-first.result.now c.turns-second.result.now c.is_path_before-is_after.result
    (c.turns-first.ensures ∙ path_there c.args.outline.now.atoms.items c.args.a c.index.result.now c.requires.first c.index.ensures)
    (c.turns-second.ensures ∙ path_there c.args.outline.now.atoms.items c.args.b c.index-2.result.now c.requires.second c.index-2.ensures)
    (c.is_path_before-is_after.ensures (plan_seen c.args.outline.now).flows c.requires.shows)) refl

pub returns-in-Some-clause-same : goal.returns-in-Some-clause-same
returns-in-Some-clause-same c =
    let first_is = c.turns-first.ensures ∙ path_there c.args.outline.now.atoms.items c.args.a c.index.result.now c.requires.first c.index.ensures in
    let second_is = c.turns-second.ensures ∙ path_there c.args.outline.now.atoms.items c.args.b c.index-2.result.now c.requires.second c.index-2.ensures in
    interval_along c.args.outline.now c.args.a c.args.b c.turns_shared-turns.result c.in-Some.most c.end_along.result c.is_path_before-is_after.result c.turns-first.result.now c.turns-second.result.now
    c.requires.ascending c.end_along.ensures.along c.end_along.ensures.ends
    (before_seen c.args.outline.now c.args.a c.args.b c.turns-first.result.now c.turns-second.result.now c.is_path_before-is_after.result first_is second_is
    (c.is_path_before-is_after.ensures (plan_seen c.args.outline.now).flows c.requires.shows))
    first_is second_is
    (c.in-Some.ensures (plan_seen c.args.outline.now).flows c.requires.shows)
