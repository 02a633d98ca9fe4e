use Rattle.std.proofs.Common.{inl, inr, subst}
use Rattle.tf_board.specs.Board.{BoardValue, IsSound}
use Rattle.tf_board.proofs.BoardLemmas.{owner_none, named_there, owner_there}
use Rattle.tf_board.proofs.board.Board.owner.Goals as goal

pub returns-in_default-clause-is : goal.returns-in_default-clause-is
returns-in_default-clause-is g c =
    let s = subst (λ (b : BoardValue _). IsSound g.K.Desk.state c.self.inside.kept b) c.self.view_is c.self.invariant in
    owner_none c.args.self.now.past c.self.inside.kept.jobs.items c.args.id.now s.true_to.jobs c.in_default.ensures.is

pub returns-in-Free-clause-is : goal.returns-in-Free-clause-is
returns-in-Free-clause-is g c =
    let s = subst (λ (b : BoardValue _). IsSound g.K.Desk.state c.self.inside.kept b) c.self.view_is c.self.invariant in
    let t = named_there c.args.self.now.past c.self.inside.kept.jobs.items c.args.id.now c.in-Some.place c.index.result.now s.true_to.jobs c.in-Some.ensures.is c.in-Some.ensures.within c.index.ensures in
    owner_there c.args.self.now.past c.args.id.now c.index.result.now _ t.0 c.in-Free.is

pub returns-in-Held-clause-is : goal.returns-in-Held-clause-is
returns-in-Held-clause-is g c =
    let s = subst (λ (b : BoardValue _). IsSound g.K.Desk.state c.self.inside.kept b) c.self.view_is c.self.invariant in
    let t = named_there c.args.self.now.past c.self.inside.kept.jobs.items c.args.id.now c.in-Some.place c.index.result.now s.true_to.jobs c.in-Some.ensures.is c.in-Some.ensures.within c.index.ensures in
    owner_there c.args.self.now.past c.args.id.now c.index.result.now _ t.0 c.in-Held.is

pub returns-in-Consumed-clause-is : goal.returns-in-Consumed-clause-is
returns-in-Consumed-clause-is g c =
    let s = subst (λ (b : BoardValue _). IsSound g.K.Desk.state c.self.inside.kept b) c.self.view_is c.self.invariant in
    let t = named_there c.args.self.now.past c.self.inside.kept.jobs.items c.args.id.now c.in-Some.place c.index.result.now s.true_to.jobs c.in-Some.ensures.is c.in-Some.ensures.within c.index.ensures in
    elim c.in-Consumed.is [
      | inl is ↦ owner_there c.args.self.now.past c.args.id.now c.index.result.now _ t.0 is
      | inr is ↦ owner_there c.args.self.now.past c.args.id.now c.index.result.now _ t.0 is
    ]
