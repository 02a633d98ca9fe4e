use Rattle.std.proofs.Common.{◌≡◌, ◌≤◌, ◌-◌, None}
use Rattle.tf_states.specs.declared.state.FlowState.TheVariants as flow
use Rattle.tf_book.specs.Book.{outline, flow_state}
use Rattle.tf_book.specs.SessionInvariant.{Proceeds}
use Rattle.tf_book.specs.Turns.{IsForcedOn}
use Rattle.tf_book.proofs.book.Book.force.Given as goal

abbrev pub invariant-forcing : goal.invariant-forcing
invariant-forcing g l = record {
  proceeds : Proceeds g.K.Desk.state l.fn.self l.self;
  on : IsForcedOn (outline l.fn.self) l.hand l.asked l.fn.self.limit l.fn.self.past l.self.past;
  sound : l.self.halt ≡ None;
  running : flow_state l.self ≡ flow.Running;
  no_more : 67108864 - l.self.journal.size ≤ 67108864 - l.fn.self.journal.size;
}

abbrev pub decreases-forcing : goal.decreases-forcing
decreases-forcing g l = 67108864 - l.self.journal.size
