use Rattle.std.proofs.Common.{◌∙◌, ap}
use Rattle.tf_book.specs.Book.{BookValue, flow_state}
use Rattle.tf_book.proofs.book.Book.flow.Goals as goal
use Rattle.tf_bound.proofs.SessionLemmas.{flow_shown}

pub returns : goal.returns
returns g c = c.flow_state.ensures.after _ c.self.invariant.3.stands ∙ flow_shown _ _ ∙ ap (λ (b : BookValue _). flow_state b) c.self.view_is
