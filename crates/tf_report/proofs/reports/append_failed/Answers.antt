use Rattle.std.proofs.Common.{◌∙◌}
use Rattle.std.proofs.lemmas.Result.{on_ok_weaker}
use Rattle.tf_model.specs.Plan.{outline_of}
use Rattle.tf_report.proofs.ReportLemmas.{failed_told}
use Rattle.tf_report.proofs.reports.append_failed.Goals as goal

pub returns-clause-ok : goal.returns-clause-ok
returns-clause-ok c = on_ok_weaker c.append-3.result
    (λ said. said ∙ failed_told (outline_of c.args.plan.now) c.args.atom c.args.held.now c.args.out.now.items c.append.new.out.items c.append-2.new.out.items c.append_payload.new.out.items c.atom_name.result.now
    c.in_ok-append.ensures.ok c.in_ok-append-2.ensures.ok c.atom_name.ensures.name c.in_ok-append_payload.ensures.ok)
    c.append-3.ensures.ok
