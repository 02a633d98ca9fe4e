use Rattle.std.proofs.Common.{◌≡◌, ◌∙◌, ◌<◌, List, Some, length, sym, ap, arith, slice_index_or}
use Rattle.tf_flow.specs.Paths.{shown_part}
use Rattle.tf_flow.specs.declared.atoms.Arg.{Arg}
use Rattle.tf_model.specs.Plan.{outline_of, count, arguments}
use Rattle.tf_model.specs.Scope.{symbol_value}
use Rattle.tf_scopes.specs.Sources.{source_of}
use Rattle.tf_scopes.specs.declared.sources.Source.{Source}
use Rattle.tf_model.proofs.PlanLemmas.{arguments_are}
use Rattle.tf_scopes.proofs.TableLemmas.{arg_read, rows_counted, row_is, row_counted, source_is}
use Rattle.tf_scopes.proofs.providers.Providers.value.Goals as goal

pub index-requires : goal.index-requires
index-requires c =
    let counted : length c.self.inside.rows.items ≡ count (outline_of c.args.plan.now) = ap length c.self.view_is ∙ rows_counted c.args.self.now c.args.plan.now c.requires.providers in
    let below = c.requires.atom in
    omega (arith, counted, below)

pub bounds-items-argument : goal.bounds-items-argument
bounds-items-argument c =
    let row = row_is c.args.self.now c.args.plan.now c.args.atom c.index.result.now c.requires.providers c.requires.atom (c.index.ensures ∙ ap (λ (rows : List (List Source)). slice_index_or rows c.args.atom c.index.result.now) c.self.view_is) in
    let counted : length c.items.result.now ≡ length (arguments (outline_of c.args.plan.now) c.args.atom) = ap length c.items.ensures ∙ row_counted (outline_of c.args.plan.now) c.args.atom c.index.result.now row in
    let below = c.requires.argument in
    omega (arith, counted, below)

pub found_in-requires-clause-source : goal.found_in-requires-clause-source
found_in-requires-clause-source c =
    let row = row_is c.args.self.now c.args.plan.now c.args.atom c.index.result.now c.requires.providers c.requires.atom (c.index.ensures ∙ ap (λ (rows : List (List Source)). slice_index_or rows c.args.atom c.index.result.now) c.self.view_is) in
    let counted : length (arguments (outline_of c.args.plan.now) c.args.atom) ≡ length c.args-2.result.now = ap length (arguments_are c.args.plan.now c.args.atom (shown_part c.part.result) c.part.ensures ∙ sym c.args-2.ensures) in
    let below = c.requires.argument in
    let within : c.args.argument < length c.args-2.result.now = omega (arith, counted, below) in
    let there = arg_read c.args.plan.now c.args.atom c.args.argument (shown_part c.part.result) c.args-2.result.now c.index-args-argument.result c.part.ensures c.args-2.ensures within c.index-args-argument.is in
    source_is (outline_of c.args.plan.now) c.args.atom c.args.argument c.index-args-argument.result c.index.result.now c.index-items-argument.result row there
    (c.index-items-argument.is ∙ ap (λ (xs : List Source). slice_index_or xs c.args.argument c.index-items-argument.result) c.items.ensures)
    ∙ ap (λ (x : Arg). source_of (outline_of c.args.plan.now) c.args.atom x.symbol) c.index-args-argument.is

pub returns : goal.returns
returns c = λ s arg shows there.
    let counted : length (arguments (outline_of c.args.plan.now) c.args.atom) ≡ length c.args-2.result.now = ap length (arguments_are c.args.plan.now c.args.atom (shown_part c.part.result) c.part.ensures ∙ sym c.args-2.ensures) in
    let below = c.requires.argument in
    let within : c.args.argument < length c.args-2.result.now = omega (arith, counted, below) in
    let read = arg_read c.args.plan.now c.args.atom c.args.argument (shown_part c.part.result) c.args-2.result.now c.index-args-argument.result c.part.ensures c.args-2.ensures within c.index-args-argument.is in
    let both : Some c.index-args-argument.result ≡ Some arg = sym read ∙ there in
    let same : c.index-args-argument.result ≡ arg = cc in
    c.found_in.ensures s shows ∙ ap (λ (x : Arg). symbol_value (outline_of c.args.plan.now) s c.args.atom x.symbol) (sym c.index-args-argument.is ∙ same)
