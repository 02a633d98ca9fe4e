use Rattle.std.proofs.Common.{◌≡◌, map, drop}
use Rattle.tf_flow.specs.Tree.{is_among}
use Rattle.tf_files.proofs.document.fields.is_known.Given as goal

abbrev pub invariant-loop-other : goal.invariant-loop-other
invariant-loop-other l = is_among (map (λ known. known.now) (drop l.other-index l.known)) l.word ≡ is_among (map (λ known. known.now) l.known) l.word
