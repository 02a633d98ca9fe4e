use Rattle.std.proofs.Common.{arith, Bool, None, ap, ◌∙◌}
use Rattle.tf_flow.specs.declared.paths.Turn.{Turn}
use Rattle.tf_model.specs.Plan.{outline_of}
use Rattle.tf_model.specs.Retries.{resolved}
use Rattle.tf_rules.specs.Resolutions.{shown_resolution, shown_controller}
use Rattle.tf_model.proofs.PlanLemmas.{atoms_counted, path_told}
use Rattle.tf_rules.proofs.ResolutionLemmas.{walked_past, walked_more, walked_all}
use Rattle.tf_rules.proofs.resolutions.resolve.Goals as goal
use Rattle.tf_rules.proofs.resolutions.resolve.Goals.{in-Some, in_default}

pub path-turn-items-requires : goal.path-turn-items-requires
path-turn-items-requires c = let counted = atoms_counted c.args.plan.now in omega (arith, counted)

pub loop-turn-preserved : goal.loop-turn-preserved
loop-turn-preserved c =
    let d : Turn = record { flow = 0; item = None } in
    elim c.match-controller_of.branch [
      | in-Some w ↦ rw (w.found-is, w.is_outermost-is)
          (walked_more (outline_of c.args.plan.now) c.args.answers.now c.args.atom c.path-turn-items.result.now c.loop-turn.turn-index d c.loop-turn.found w.resolved-found.result c.loop-turn.is_outermost w.in-Some.here w.answer_of-answer.result
          c.loop-turn.invariant c.loop-turn-test.true (path_told c.args.plan.now c.args.atom c.path-turn-items.result.now c.path-turn-items.ensures) w.in-Some.ensures.found w.in-Some.ensures.retry w.answer_of-answer.ensures
          (λ others same. w.resolved-found.ensures others same
          ∙ ap (λ (b : Bool). resolved b (shown_controller w.in-Some.here) others (shown_resolution c.loop-turn.found) w.answer_of-answer.result) w.defer.ensures))
      | in_default w ↦ rw (w.found-is, w.is_outermost-is)
          (walked_past (outline_of c.args.plan.now) c.args.answers.now c.args.atom c.path-turn-items.result.now c.loop-turn.turn-index d c.loop-turn.found c.loop-turn.is_outermost
          c.loop-turn.invariant c.loop-turn-test.true w.in_default.ensures.found)
    ]

pub returns : goal.returns
returns c =
    walked_all (outline_of c.args.plan.now) c.args.answers.now c.args.atom c.path-turn-items.result.now c.loop-turn.turn-index c.loop-turn.found c.loop-turn.is_outermost c.loop-turn.invariant c.loop-turn-test.false
    (path_told c.args.plan.now c.args.atom c.path-turn-items.result.now c.path-turn-items.ensures)
