-- What a link in memory keeps.
use Rattle.std.specs.Prelude.{ℕ, List}
use Rattle.tf_ports.specs.Transcript.{Passed}

-- the bytes that it has left, those that it was sent, what passed over it both ways, and how many faults and ends there
-- were
pub record HeldByLink : Type 0 where
  pub left : List ℕ
  pub sent : List ℕ
  pub transcript : List Passed
  pub faults : ℕ
  pub ends : ℕ
