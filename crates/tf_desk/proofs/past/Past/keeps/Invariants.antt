use Rattle.std.proofs.Common.{◌≡◌, reverse, take}
use Rattle.tf_desk.specs.Crashed.{acts_keeping}
use Rattle.tf_desk.proofs.past.Past.keeps.Given as goal

abbrev pub invariant-loop-file : goal.invariant-loop-file
invariant-loop-file l = l.past ≡ acts_keeping (reverse (take l.file-index l.others)) l.text
