use Rattle.std.proofs.Common.{arith}
use Rattle.tf_words.proofs.TableLemmas.{option_added, words_added}
use Rattle.tf_words.proofs.parsing.command_with.Goals as goal

pub loop-key-preserved : goal.loop-key-preserved
loop-key-preserved c =
    option_added _ _ _ c.args.keys.now c.loop-key.key-index _ (omega arith) c.loop-key.invariant c.option_with.ensures.rule (c.in_ok-command.ensures.shape c.option_with.ensures.local)

pub returns : goal.returns
returns c =
    words_added _ _ _ c.args.keys.now c.loop-key.key-index (omega arith) c.loop-key.invariant c.positional.ensures.rule (c.in_ok-command-2.ensures.shape c.positional.ensures.local)
