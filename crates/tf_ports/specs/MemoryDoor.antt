-- What a door in memory keeps.
use Rattle.std.specs.Prelude.{ℕ, List}
use Rattle.tf_ports.specs.declared.crews.Address.{Address}

-- the addresses at which it was opened, the links as it gave them, those that were given back, and how many faults
-- there were
pub record HeldByDoor (L : Type 0) : Type 0 where
  pub opened : List Address
  pub given : List L
  pub returned : List L
  pub faults : ℕ
