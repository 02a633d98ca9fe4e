use Rattle.std.proofs.Common.{Some, None, subst}
use Rattle.tf_model.specs.Plan.{outline_of, own_flow}
use Rattle.tf_machine.specs.declared.worklists.Extent.{Extent}
use Rattle.tf_machine.specs.Tables.{shown_by}
use Rattle.tf_machine.specs.Worklists.{AreMoved}
use Rattle.tf_machine.proofs.SpanLemmas.{named_span}
use Rattle.tf_machine.proofs.WorkLemmas.{within_none, flow_listed}
use Rattle.tf_machine.proofs.worklists.Worklist.follow.Goals as goal

pub list_around-requires-in-Begin-clause-room : goal.list_around-requires-in-Begin-clause-room
list_around-requires-in-Begin-clause-room c =
    let listed = c.list_span-in-Begin.ensures (own_flow (outline_of c.args.compiled.now) c.in-Begin.atom) c.span_around.ensures in
    listed.room

pub returns-in-Around : goal.returns-in-Around
returns-in-Around c = λ s listed moved.
    c.list_around.ensures s None c.args.self.now listed (within_none (outline_of c.args.compiled.now) (shown_by c.args.tables.now) c.args.self.now c.requires.room)
    (subst (λ (e : Extent). AreMoved (outline_of c.args.compiled.now) s e (shown_by c.args.tables.now)) c.in-Around.is moved)

pub returns-in-Flow : goal.returns-in-Flow
returns-in-Flow c = λ s listed moved.
    flow_listed (outline_of c.args.compiled.now) s (shown_by c.args.tables.now) c.in-Flow.flow c.args.self.now c.list_span.new.self
    (subst (λ (e : Extent). AreMoved (outline_of c.args.compiled.now) s e (shown_by c.args.tables.now)) c.in-Flow.is moved) listed
    (c.list_span.ensures (Some c.in-Flow.flow) (named_span (outline_of c.args.compiled.now) c.in-Flow.flow c.span.result c.span.ensures))

pub returns-in-Begin : goal.returns-in-Begin
returns-in-Begin c = λ s listed moved.
    c.list_around-in-Begin.ensures s (own_flow (outline_of c.args.compiled.now) c.in-Begin.atom) c.args.self.now listed (c.list_span-in-Begin.ensures _ c.span_around.ensures)
    (subst (λ (e : Extent). AreMoved (outline_of c.args.compiled.now) s e (shown_by c.args.tables.now)) c.in-Begin.is moved)
