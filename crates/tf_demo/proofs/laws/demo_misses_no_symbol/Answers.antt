-- What the contract says is the lemma.
use Rattle.tf_demo.proofs.SymbolLemmas.{complete}
use Rattle.tf_demo.proofs.laws.demo_misses_no_symbol.Goals as goal

pub returns : goal.returns
returns c = complete
