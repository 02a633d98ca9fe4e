use Rattle.std.proofs.Common.{◌∙◌, ap, ◌++◌, List, ℕ, codes}
use Rattle.std.proofs.lemmas.Result.{on_ok_weaker}
use Rattle.tf_report.specs.Closing.{byte_or_end}
use Rattle.tf_report.proofs.FaultLemmas.{no_book_told}
use Rattle.tf_report.proofs.faults.append_not_a_book.Goals as goal

pub returns : goal.returns
returns c = on_ok_weaker c.append-2.result
    (λ said. said
    ∙ (ap (λ (text : List ℕ). text ++ codes "\n")
    (c.in_ok-append_byte.ensures
    ∙ ap (λ (text : List ℕ). text ++ byte_or_end c.args.byte)
    (c.in_ok-append.ensures.ok
    ∙ ap (λ (text : List ℕ). text ++ codes ", ")
    c.in_ok-append_counted.ensures.ok))
    ∙ no_book_told c.args.out.now.items c.args.offset c.args.byte))
    c.append-2.ensures.ok
