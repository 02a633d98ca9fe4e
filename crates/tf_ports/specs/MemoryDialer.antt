-- What a dialer in memory keeps.
use Rattle.std.specs.Prelude.{ℕ, List}
use Rattle.tf_ports.specs.declared.crews.Address.{Address}

-- the addresses to which links were made, and how many faults there were
pub record HeldByDialer : Type 0 where
  pub dialled : List Address
  pub faults : ℕ
