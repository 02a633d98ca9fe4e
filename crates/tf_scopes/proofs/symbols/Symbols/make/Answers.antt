use Rattle.std.proofs.Common.{slice_index_or, refl}
use Rattle.tf_model.specs.Plan.{outline_of}
use Rattle.tf_scopes.specs.Symbols.{told}
use Rattle.tf_scopes.proofs.SymbolLemmas.{places_more}
use Rattle.tf_scopes.proofs.symbols.Symbols.make.Goals as goal

pub loop-place-preserved : goal.loop-place-preserved
loop-place-preserved c = λ symbol.
    places_more (outline_of c.args.plan.now) symbol c.standing-atom-items.result.now c.loop-place.place (slice_index_or c.standing-atom-items.result.now c.loop-place.place 0) (told c.loop-place.symbols symbol) (told c.add_atom.new.symbols symbol)
    (c.standing-atom-items.ensures c.args.plan.now c.requires) c.loop-place-test.true refl (c.loop-place.invariant symbol) (c.in_ok-add_atom.ensures symbol)
