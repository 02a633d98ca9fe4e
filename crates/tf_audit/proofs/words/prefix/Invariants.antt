use Rattle.std.proofs.Common.{◌≡◌, true, take}
use Rattle.tf_audit.specs.Words.{is_unbroken}
use Rattle.tf_audit.proofs.words.prefix.Given as goal

abbrev pub invariant-loop-len : goal.invariant-loop-len
invariant-loop-len l = is_unbroken (take l.len l.bytes) ≡ true
