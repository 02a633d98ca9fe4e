use Rattle.std.proofs.Common.{ap, ◌∙◌, ◌++◌, List, ℕ, arith, take}
use Rattle.std.proofs.lemmas.List.{append_assoc}
use Rattle.tf_report.specs.Lines.{detail_line}
use Rattle.tf_commands.specs.Messages.{detail_lines}
use Rattle.tf_commands.proofs.MessageLemmas.{lines_taken}
use Rattle.tf_commands.proofs.messages.append_details.Goals as goal

pub listing-preserved : goal.listing-preserved
listing-preserved c =
    let i = c.listing.found-index in
    let at = c.listing.invariant.1 in (
      c.in_ok-detail.ensures.ok
          ∙ ap (λ (text : List ℕ). text ++ detail_line c.listing.number c.found-item.result.name c.found-item.result.state) c.listing.invariant.0
          ∙ append_assoc c.args.out.now.items (detail_lines 0 (take i c.args.list.now)) (detail_line c.listing.number c.found-item.result.name c.found-item.result.state)
          ∙ ap (λ (text : List ℕ). c.args.out.now.items ++ text) (lines_taken c.args.list.now i c.listing.number c.found-item.result at (omega (arith, c.listing-test.true, c.listing.auto.found-index-end)) c.found-item.is),
      omega (arith, at),
    )
