use Rattle.std.proofs.Common.{◌≡◌, ◌++◌, take}
use Rattle.std.specs.List.{flat_map, AllByRecursion}
use Rattle.tf_entries.proofs.atom_writing.append_items.Given as goal

abbrev pub invariant-loop-item : goal.invariant-loop-item
invariant-loop-item g l = record {
  appended : l.out.items ≡ l.initial.out.items ++ flat_map g.T.Form.form (take l.item-index l.items);
  good : AllByRecursion g.T.Form.is_good (take l.item-index l.items);
}
