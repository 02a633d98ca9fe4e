-- What the contract says is the lemma.
use Rattle.tf_facts.proofs.PastLemmas.{facts_hold}
use Rattle.tf_facts.proofs.laws.facts_are_kept.Goals as goal

pub returns : goal.returns
returns c = facts_hold
