-- A retry controller is before every other atom of its flow.
use Rattle.tf_model.specs.Plan.{outline_of}
use Rattle.tf_facts.proofs.LayoutLemmas.{laid_out}
use Rattle.tf_bound.proofs.PastLemmas.{past_guarded, order_guards}
use Rattle.tf_bound.proofs.laws.flows_of_retries_are_guarded.Goals as goal

pub returns-clause-history : goal.returns-clause-history
returns-clause-history c = past_guarded

pub returns-clause-ordered : goal.returns-clause-ordered
returns-clause-ordered c = λ plan s compiles order. order_guards (outline_of plan) s (laid_out plan compiles) order
