use Rattle.std.proofs.Common.{◌≡◌, map, take}
use Rattle.clap.specs.Words.{app_of}
use Rattle.tf_words.specs.Table.{with_rules, option_rule}
use Rattle.tf_words.specs.Verbs.{form_of}
use Rattle.tf_words.proofs.parsing.command_with.Given as goal

abbrev pub invariant-loop-key : goal.invariant-loop-key
invariant-loop-key l = app_of l.command ≡ with_rules (map option_rule (map form_of (take l.key-index l.keys)))
