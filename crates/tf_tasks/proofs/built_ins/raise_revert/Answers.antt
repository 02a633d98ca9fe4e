use Rattle.std.proofs.Common.{rules}
use Rattle.tf_tasks.proofs.ShownLemmas.{revert_is_text}
use Rattle.tf_tasks.proofs.built_ins.raise_revert.Goals as goal

pub returns : goal.returns
returns c = search (rules, revert_is_text)
