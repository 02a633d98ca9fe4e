use Rattle.std.proofs.Common.{Bool, sym, ap, arith, ◌≤◌, length}
use Rattle.std.specs.Prelude.{if◌then◌else◌}
use Rattle.tf_flow.specs.Plan as numbering
use Rattle.tf_order.specs.Index.{add_once}
use Rattle.tf_scopes.specs.Symbols.{told}
use Rattle.tf_scopes.proofs.SymbolLemmas.{lists_nothing}
use Rattle.tf_scopes.proofs.symbols.add_atom.Goals as goal

pub returns-then-atom-atoms : goal.returns-then-atom-atoms
returns-then-atom-atoms c = λ symbol.
    let past : length (numbering.atoms c.args.plan.now) ≤ c.args.atom = omega (arith, c.if-atom-atoms.true, c.atoms.ensures.count) in
    sym (ap (λ (b : Bool). if b then add_once (told c.args.symbols.now symbol) c.args.place else told c.args.symbols.now symbol) (lists_nothing c.args.plan.now c.args.atom symbol past))
