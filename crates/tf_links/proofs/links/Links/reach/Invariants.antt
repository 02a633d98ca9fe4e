use Rattle.std.proofs.Common.{◌≡◌, length, take, reverse, true}
use Rattle.tf_links.specs.Bits.{words_for}
use Rattle.tf_links.proofs.ReachLemmas.{Reaching, IsKept}
use Rattle.tf_links.proofs.links.Links.reach.Given as goal

abbrev pub invariant-loop-pivot : goal.invariant-loop-pivot
invariant-loop-pivot l = record {
  reaching : Reaching l.self l.rows.items (reverse (take l.pivot-index l.pivot-items));
  width : length l.passed ≡ words_for l.self.count;
  kept : l.is_kept ≡ true → IsKept l.self.rows l.rows.items l.passed;
}
