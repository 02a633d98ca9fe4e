use Rattle.std.proofs.Common.{◌≡◌, ℕ, ◌<◌, length, true}
use Rattle.tf_links.specs.Bits.{has, words_for}
use Rattle.tf_model.specs.Plan.{outline_of, count}
use Rattle.tf_machine.proofs.worklists.Worklist.make.Given as goal

abbrev pub invariant-loop-atom : goal.invariant-loop-atom
invariant-loop-atom l = record {
  forcing_room : length l.forcing ≡ words_for (count (outline_of l.compiled));
  ready_room : length l.ready ≡ words_for (count (outline_of l.compiled));
  busy_room : length l.busy ≡ words_for (count (outline_of l.compiled));
  forcing : (a : ℕ) → a < l.atom → has l.forcing a ≡ true;
  ready : (a : ℕ) → a < l.atom → has l.ready a ≡ true;
  busy : (a : ℕ) → a < l.atom → has l.busy a ≡ true;
}
