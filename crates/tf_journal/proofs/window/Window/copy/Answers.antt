use Rattle.std.proofs.Common.{ℕ, ◌+◌, ◌-◌, ◌++◌, List, take, drop, ◌∙◌, ap, arith}
use Rattle.tf_journal.proofs.WindowLemmas.{covered}
use Rattle.tf_journal.proofs.window.Window.copy.Goals as goal

pub returns : goal.returns
returns c = λ is file shows.
    let w = c.args.self.now in
    let n = c.args.count in
    let from = c.args.place - w.start in
    let lies = c.covers.ensures c.if-not-covers.false in
    c.in_ok-extend_from_slice.ensures.items
    ∙ ap (λ (l : List ℕ). l ++ take (from + n - from) (drop from w.bytes)) c.clear.ensures.items
    ∙ ap (λ (k : ℕ). take k (drop from w.bytes)) (omega arith)
    ∙ covered n file w.bytes w.start w.count c.args.place shows.part lies.0 lies.1
