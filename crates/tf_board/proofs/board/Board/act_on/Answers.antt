use Rattle.std.proofs.Common.{ℕ, List, suc, sym, ap, subst, ◌∙◌}
use Rattle.std.specs.Prelude.{option_map}
use Rattle.tf_board.specs.Board.{BoardValue, IsSound, place_of}
use Rattle.tf_board.specs.declared.jobs.Job.{Job}
use Rattle.tf_board.proofs.BoardLemmas.{named_there, allowed_there, refused_there, refused_none, applied_there, acts_refused, acts_allowed}
use Rattle.tf_board.proofs.board.Board.act_on.Goals as goal

pub returns-in_default : goal.returns-in_default
returns-in_default g c =
    let D = g.K.Desk in
    let s = subst (λ (b : BoardValue _). IsSound D.state c.self.inside.kept b) c.self.view_is c.self.invariant in
    acts_refused D.state _ _ c.args.self.now c.args.action c.args.id.now c.args.owner.now _
    (refused_none c.args.self.now.past c.self.inside.kept.jobs.items c.args.id.now c.args.action c.args.owner.now s.true_to.jobs c.in_default.ensures.is) c.fault_of.ensures

pub record-requires-clause-allowed : goal.record-requires-clause-allowed
record-requires-clause-allowed g c =
    let s = subst (λ (b : BoardValue _). IsSound g.K.Desk.state c.self.inside.kept b) c.self.view_is c.self.invariant in
    let t = named_there c.args.self.now.past c.self.inside.kept.jobs.items c.args.id.now c.in-Some.place c.index.result.now s.true_to.jobs c.in-Some.ensures.is c.in-Some.ensures.within c.index.ensures in
    allowed_there c.args.self.now.past c.in-Some.place c.index.result.now c.args.action c.args.owner.now t.1 (sym c.in-None.ensures)

pub returns-in-Some-refusal_at : goal.returns-in-Some-refusal_at
returns-in-Some-refusal_at g c =
    let D = g.K.Desk in
    let s = subst (λ (b : BoardValue _). IsSound D.state c.self.inside.kept b) c.self.view_is c.self.invariant in
    let t = named_there c.args.self.now.past c.self.inside.kept.jobs.items c.args.id.now c.in-Some.place c.index.result.now s.true_to.jobs c.in-Some.ensures.is c.in-Some.ensures.within c.index.ensures in
    acts_refused D.state _ c.in-Some-refusal_at.refusal c.args.self.now c.args.action c.args.id.now c.args.owner.now _
    (refused_there c.args.self.now.past c.args.id.now c.index.result.now c.args.action c.args.owner.now _ t.0 (sym c.in-Some-refusal_at.ensures)) c.fault_of-in-Some-refusal_at.ensures

pub returns-in-None : goal.returns-in-None
returns-in-None g c =
    let D = g.K.Desk in
    let s = subst (λ (b : BoardValue _). IsSound D.state c.self.inside.kept b) c.self.view_is c.self.invariant in
    let t = named_there c.args.self.now.past c.self.inside.kept.jobs.items c.args.id.now c.in-Some.place c.index.result.now s.true_to.jobs c.in-Some.ensures.is c.in-Some.ensures.within c.index.ensures in
    acts_allowed D.state _ c.args.self.now c.record.new.self c.args.action c.args.id.now c.args.owner.now _ _
    (refused_there c.args.self.now.past c.args.id.now c.index.result.now c.args.action c.args.owner.now _ t.0 (sym c.in-None.ensures))
    (applied_there c.args.self.now.past c.self.inside.kept.jobs.items c.args.id.now c.in-Some.place c.args.action c.args.owner.now s.true_to.jobs c.in-Some.ensures.is) c.record.ensures

pub place_numbered-requires : goal.place_numbered-requires
place_numbered-requires g c =
    let s = subst (λ (b : BoardValue _). IsSound g.K.Desk.state c.self.inside.kept b) c.self.view_is c.self.invariant in
    c.requires ∙ ap (λ (jobs : List Job). option_map (λ (place : ℕ). suc place) (place_of jobs c.args.id.now)) (sym s.true_to.jobs)
