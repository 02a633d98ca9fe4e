use Rattle.tf_flow.specs.Paths.{shown_part}
use Rattle.tf_model.specs.Plan.{outline_of}
use Rattle.tf_scopes.proofs.TableLemmas.{arg_read, missing_here, present_here, source_more}
use Rattle.tf_scopes.proofs.providers.find_sources.Goals as goal

pub returns-then-gives_nothing-clause-missing : goal.returns-then-gives_nothing-clause-missing
returns-then-gives_nothing-clause-missing c =
    let there = arg_read c.args.plan.now c.args.scope.now.atom c.loop-arg.arg-index (shown_part c.part-part.result) c.args-arg-items.result.now c.arg-item.result c.part-part.ensures c.args-arg-items.ensures c.loop-arg-test.true c.arg-item.is in
    missing_here c.args.plan.now c.args.scope.now.atom c.loop-arg.arg-index (shown_part c.part-part.result) c.arg-item.result c.in_ok-source.source c.gives_nothing.result c.name.result c.part-part.ensures there c.in_ok-source.ensures
    c.gives_nothing.ensures c.if-gives_nothing.true c.name.ensures c.loop-arg.invariant.1

pub loop-arg-preserved : goal.loop-arg-preserved
loop-arg-preserved c =
    let there = arg_read c.args.plan.now c.args.scope.now.atom c.loop-arg.arg-index (shown_part c.part-part.result) c.args-arg-items.result.now c.arg-item.result c.part-part.ensures c.args-arg-items.ensures c.loop-arg-test.true c.arg-item.is in (
      source_more (outline_of c.args.plan.now) c.args.scope.now.atom c.loop-arg.arg-index c.arg-item.result c.in_ok-source.source c.loop-arg.sources c.push.new.self there c.in_ok-source.ensures c.loop-arg.invariant.0 c.in_ok-push.ensures,
      present_here (outline_of c.args.plan.now) c.args.scope.now.atom c.loop-arg.arg-index c.arg-item.result c.in_ok-source.source c.gives_nothing.result there c.in_ok-source.ensures c.gives_nothing.ensures c.if-gives_nothing.false c.loop-arg.invariant.1,
    )
