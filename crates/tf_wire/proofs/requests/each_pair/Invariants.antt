use Rattle.std.proofs.Common.{◌≡◌, ◌++◌, drop, option_map}
use Rattle.serde_json.specs.View.{items_view}
use Rattle.tf_wire.specs.Grammar.{each_of, pair_of}
use Rattle.tf_wire.proofs.requests.each_pair.Given as goal

-- those made, followed by those of what is left, are those of all
abbrev pub invariant-loop-item : goal.invariant-loop-item
invariant-loop-item l = option_map (λ rest. l.args.items ++ rest) (each_of pair_of (items_view (drop l.item-index l.items))) ≡ each_of pair_of (items_view l.items)
