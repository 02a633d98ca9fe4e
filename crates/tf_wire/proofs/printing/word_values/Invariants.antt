use Rattle.std.proofs.Common.{◌≡◌, map, take}
use Rattle.std.specs.List.{AllByRecursion}
use Rattle.serde_json.specs.View.{view}
use Rattle.tf_wire.specs.Limits.{IsWord}
use Rattle.serde_json.specs.Data.{string}
use Rattle.tf_wire.proofs.printing.word_values.Given as goal

abbrev pub invariant-loop-word : goal.invariant-loop-word
invariant-loop-word l = record {
  made : map view l.made.items ≡ map string (take l.word-index l.words);
  good : AllByRecursion IsWord (take l.word-index l.words);
}
