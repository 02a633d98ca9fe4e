use Rattle.std.proofs.Common.{sym, ◌∙◌}
use Rattle.tf_flow.specs.Paths.{shown_part}
use Rattle.tf_model.specs.Plan.{outline_of}
use Rattle.tf_scopes.specs.Found.{shown_in}
use Rattle.tf_scopes.proofs.GivenLemmas.{given_stop, given_next}
use Rattle.tf_scopes.proofs.TableLemmas.{arg_read}
use Rattle.tf_scopes.proofs.providers.Providers.arguments.Goals as goal

pub returns-then-is_missed : goal.returns-then-is_missed
returns-then-is_missed c = λ s shows.
    let there = arg_read c.args.plan.now c.args.atom c.loop-place.place (shown_part c.part.result) c.args-args.result.now c.index-args-place.result c.part.ensures c.args-args.ensures c.loop-place-test.true c.index-args-place.is in
    sym (given_stop (outline_of c.args.plan.now) s c.args.atom c.args.action c.loop-place.place c.index-args-place.result (shown_in c.value-found.result) c.loop-place.pairs.items (c.loop-place.invariant s shows) there
    (c.value-found.ensures s c.index-args-place.result shows there) (sym c.is_missed.ensures ∙ c.if-is_missed.true))

pub loop-place-preserved : goal.loop-place-preserved
loop-place-preserved c = λ s shows.
    let there = arg_read c.args.plan.now c.args.atom c.loop-place.place (shown_part c.part.result) c.args-args.result.now c.index-args-place.result c.part.ensures c.args-args.ensures c.loop-place-test.true c.index-args-place.is in
    given_next (outline_of c.args.plan.now) s c.args.atom c.args.action c.loop-place.place c.index-args-place.result (shown_in c.value-found.result) c.in_ok-value.value c.loop-place.pairs.items c.push.new.self.items
    (c.loop-place.invariant s shows) there (c.value-found.ensures s c.index-args-place.result shows there) (sym c.is_missed.ensures ∙ c.if-is_missed.false) c.in_ok-value.ensures c.in_ok-push.ensures.items
