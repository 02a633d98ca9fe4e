use Rattle.std.proofs.Common.{◌≡◌, ◌∙◌, ◌<◌, ℕ, map, sym, ap, arith}
use Rattle.std.proofs.lemmas.Result.{err_from_is_err_and}
use Rattle.tf_flow.specs.Tree.{first_some}
use Rattle.tf_numbers.specs.Numbers.{numbers_below}
use Rattle.tf_model.specs.Plan.{outline_of, count}
use Rattle.tf_model.specs.Scope.{missing_of}
use Rattle.tf_scopes.specs.Sources.{sources_of}
use Rattle.tf_model.proofs.PlanLemmas.{atoms_counted}
use Rattle.tf_scopes.proofs.SourceLemmas.{missing_first}
use Rattle.tf_scopes.proofs.TableLemmas.{row_more, none_more}
use Rattle.tf_scopes.proofs.providers.find_providers.Goals as goal

pub returns-in_err-row-clause-missing : goal.returns-in_err-row-clause-missing
returns-in_err-row-clause-missing c =
    let counted = atoms_counted c.args.plan.now in
    let ends = c.atoms-atom-end.ensures.count in
    let test = c.loop-atom-test.true in
    let below : c.loop-atom.atom < count (outline_of c.args.plan.now) = omega (arith, counted, ends, test) in
    let p = err_from_is_err_and c.from_residual-in_err-row.result c.from_residual-in_err-row.ensures.1 in
    rw (p.1, p.2)
    (missing_first (outline_of c.args.plan.now) c.loop-atom.atom c.in_err-row.field-0.0 below c.loop-atom.invariant.1 c.in_err-row.ensures.missing)

pub loop-atom-preserved : goal.loop-atom-preserved
loop-atom-preserved c = (
  row_more (outline_of c.args.plan.now) c.loop-atom.atom c.in_ok-row.row c.loop-atom.providers c.push.new.self c.loop-atom.invariant.0 c.in_ok-row.ensures.found c.in_ok-push.ensures,
  none_more (outline_of c.args.plan.now) c.loop-atom.atom c.loop-atom.invariant.1 c.in_ok-row.ensures.complete,
)

pub returns-clause-found : goal.returns-clause-found
returns-clause-found c =
    let counted = atoms_counted c.args.plan.now in
    let ends = c.atoms-atom-end.ensures.count in
    let test = c.loop-atom-test.false in
    let most = c.loop-atom.auto.atom-end in
    let whole : c.loop-atom.atom ≡ count (outline_of c.args.plan.now) = omega (arith, counted, ends, test, most) in
    record { rows = c.loop-atom.invariant.0 ∙ ap (λ (n : ℕ). map (sources_of (outline_of c.args.plan.now)) (numbers_below n)) whole }

pub returns-clause-complete : goal.returns-clause-complete
returns-clause-complete c =
    let counted = atoms_counted c.args.plan.now in
    let ends = c.atoms-atom-end.ensures.count in
    let test = c.loop-atom-test.false in
    let most = c.loop-atom.auto.atom-end in
    let whole : c.loop-atom.atom ≡ count (outline_of c.args.plan.now) = omega (arith, counted, ends, test, most) in
    ap (λ (n : ℕ). first_some (missing_of (outline_of c.args.plan.now)) (numbers_below n)) (sym whole) ∙ c.loop-atom.invariant.1
