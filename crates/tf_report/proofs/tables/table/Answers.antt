use Rattle.std.proofs.Common.{◌∙◌, ◌++◌, ap, List, ℕ}
use Rattle.tf_report.proofs.ReportLemmas.{table_told}
use Rattle.tf_model.specs.Plan.{outline_of}
use Rattle.tf_report.proofs.tables.table.Goals as goal

pub returns-in-Ok-clause-ok : goal.returns-in-Ok-clause-ok
returns-in-Ok-clause-ok c = λ s shows flow.
    c.in-Ok.ensures.ok ∙ ap (λ (text : List ℕ). c.args.out.now.items ++ text) (table_told (outline_of c.args.plan.now) c.args.views.now c.args.state s shows flow)
