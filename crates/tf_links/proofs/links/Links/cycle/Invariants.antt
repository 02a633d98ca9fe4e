use Rattle.std.proofs.Common.{◌≡◌, ℕ, suc, ◌+◌, ◌<◌, false}
use Rattle.tf_links.specs.Layers.{AreLayers, in_layer}
use Rattle.tf_links.proofs.links.Links.cycle.Given as goal

abbrev pub invariant-loop-length : goal.invariant-loop-length
invariant-loop-length l = record {
  layers : AreLayers l.self l.item l.layers.items (l.length + 1);
  never : (j : ℕ) → j < l.length → in_layer l.self l.item (suc j) l.item ≡ false;
}
