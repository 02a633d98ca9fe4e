use Rattle.std.proofs.Common.{◌∙◌, ap, ◌++◌, List, ℕ, codes}
use Rattle.std.specs.Fmt.{decimal}
use Rattle.std.proofs.lemmas.Result.{on_ok_weaker}
use Rattle.tf_report.proofs.FaultLemmas.{full_told}
use Rattle.tf_report.proofs.faults.append_book_full.Goals as goal

pub returns : goal.returns
returns c = on_ok_weaker c.append.result
    (λ said. said
    ∙ (ap (λ (text : List ℕ). text ++ codes "\n")
    (c.in_ok-append_counted-2.ensures.ok
    ∙ ap (λ (text : List ℕ). text ++ (codes " + " ++ decimal c.args.need))
    c.in_ok-append_counted.ensures.ok)
    ∙ full_told c.args.out.now.items c.args.size c.args.need))
    c.append.ensures.ok
