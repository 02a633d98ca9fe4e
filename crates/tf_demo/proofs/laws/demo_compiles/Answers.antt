-- What the contract says is the lemma.
use Rattle.tf_demo.proofs.CompileLemmas.{compiles}
use Rattle.tf_demo.proofs.laws.demo_compiles.Goals as goal

pub returns : goal.returns
returns c = compiles
