use Rattle.std.proofs.Common.{◌∙◌, sym}
use Rattle.tf_shared_board.proofs.ShareLemmas.{kept_for_memory}
use Rattle.tf_shared_board.proofs.shared.SharedBoard.halt_for_memory.Goals as goal

pub invariant_of-self : goal.invariant_of-self
invariant_of-self g c =
    let inside = c.self.inside in
    kept_for_memory g.K.Desk.state inside.start.value inside.board inside.made.items inside.halt (sym c.is_some.ensures ∙ c.if-is_some.false) c.self.invariant
