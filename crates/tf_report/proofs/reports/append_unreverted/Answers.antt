use Rattle.std.proofs.Common.{◌≡◌, ◌∙◌, ◌++◌, ap, subst, List, ℕ, arith}
use Rattle.tf_values.specs.Growth.{KeepsPrefix}
use Rattle.tf_values.proofs.GrowthLemmas.{keeps_shorter}
use Rattle.tf_model.specs.Plan.{outline_of, count}
use Rattle.tf_report.specs.Lines.{unreverted, unreverted_below, state_shown, payload_shown}
use Rattle.tf_model.proofs.PlanLemmas.{atoms_counted}
use Rattle.tf_report.proofs.ReportLemmas.{lines_next, on_err_always}
use Rattle.tf_report.proofs.reports.append_unreverted.Goals as goal

pub loop-atom-preserved : goal.loop-atom-preserved
loop-atom-preserved c =
    let line : ℕ → List ℕ = λ n. unreverted (outline_of c.args.plan.now) n (state_shown c.args.views.now n) (payload_shown c.args.views.now n) in
    c.in_ok-append_atom.ensures.ok
    ∙ ap (λ (text : List ℕ). text ++ line c.loop-atom.atom) c.loop-atom.invariant
    ∙ lines_next line c.args.out.now.items c.loop-atom.atom

pub returns-clause-ok : goal.returns-clause-ok
returns-clause-ok c =
    let end : c.loop-atom.atom ≡ count (outline_of c.args.plan.now) = omega (arith, c.loop-atom-test.false, c.loop-atom.auto.atom-end, c.atoms-atom-end.ensures.count, atoms_counted c.args.plan.now) in
    rw end at c.loop-atom.invariant

pub returns-in_err-append_atom-clause-err : goal.returns-in_err-append_atom-clause-err
returns-in_err-append_atom-clause-err c =
    let more : List ℕ = unreverted_below (outline_of c.args.plan.now) (state_shown c.args.views.now) (payload_shown c.args.views.now) c.loop-atom.atom in
    let kept : KeepsPrefix (c.args.out.now.items ++ more) c.append_atom.new.out.items = subst (λ (old : List ℕ). KeepsPrefix old c.append_atom.new.out.items) c.loop-atom.invariant c.in_err-append_atom.ensures.err in
    on_err_always c.from_residual.result (keeps_shorter c.args.out.now.items more c.append_atom.new.out.items kept)
