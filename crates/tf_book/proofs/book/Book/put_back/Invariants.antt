use Rattle.std.proofs.Common.{◌≡◌, ◌-◌, None, true}
use Rattle.tf_book.specs.Book.{outline, moment}
use Rattle.tf_book.specs.SessionInvariant.{Proceeds}
use Rattle.tf_book.specs.Turns.{may_reset, IsPutBackOn}
use Rattle.tf_book.proofs.book.Book.put_back.Given as goal

abbrev pub invariant-putting : goal.invariant-putting
invariant-putting g l = record {
  proceeds : Proceeds g.K.Desk.state l.fn.self l.self;
  on : IsPutBackOn (outline l.fn.self) l.fn.self.past l.self.past;
  sound : l.self.halt ≡ None;
  may : may_reset (outline l.self) (moment l.self) ≡ true;
}

abbrev pub decreases-putting : goal.decreases-putting
decreases-putting g l = 67108864 - l.self.journal.size
