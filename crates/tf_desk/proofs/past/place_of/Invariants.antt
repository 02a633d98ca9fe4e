use Rattle.tf_desk.proofs.FileLemmas.{OthersBefore}
use Rattle.tf_desk.proofs.past.place_of.Given as goal

abbrev pub invariant-loop-place : goal.invariant-loop-place
invariant-loop-place l = OthersBefore l.files l.name l.place
