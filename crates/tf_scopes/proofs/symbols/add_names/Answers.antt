use Rattle.tf_order.proofs.IndexLemmas.{among_more}
use Rattle.tf_scopes.specs.Symbols.{told}
use Rattle.tf_scopes.proofs.symbols.add_names.Goals as goal

pub loop-name-preserved : goal.loop-name-preserved
loop-name-preserved c = λ symbol.
    among_more c.args.names.now c.loop-name.name-index c.args.place c.name-item.result symbol (told c.args.symbols.now symbol) (told c.loop-name.symbols symbol) (told c.add.new.self symbol)
    c.loop-name-test.true c.name-item.is (c.loop-name.invariant symbol) (c.in_ok-add.ensures symbol)
