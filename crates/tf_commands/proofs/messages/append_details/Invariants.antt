use Rattle.std.proofs.Common.{◌≡◌, ◌++◌, take}
use Rattle.tf_commands.specs.Messages.{detail_lines}
use Rattle.tf_commands.proofs.messages.append_details.Given as goal

abbrev pub invariant-listing : goal.invariant-listing
invariant-listing l = (l.out.items ≡ l.initial.out.items ++ detail_lines 0 (take l.found-index l.list)) × (l.number ≡ l.found-index)
