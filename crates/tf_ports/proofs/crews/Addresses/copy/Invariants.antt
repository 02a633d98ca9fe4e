use Rattle.std.proofs.Common.{◌≡◌, take}
use Rattle.tf_ports.proofs.crews.Addresses.copy.Given as goal

abbrev pub invariant-loop-address : goal.invariant-loop-address
invariant-loop-address l = l.items.items ≡ take l.address-index l.address-items
