use Rattle.std.proofs.Common.{◌≡◌, ℕ, ◌+◌, ◌-◌, length, take, drop, ◌∙◌, ap, arith}
use Rattle.std.proofs.lemmas.List.{take-take, take_at}
use Rattle.tf_desk.specs.State.{bytes_now}
use Rattle.tf_journal.proofs.WindowLemmas.{covered, first_read}
use Rattle.tf_journal.proofs.window.Window.read.Goals as goal

pub returns-then-covers-clause-bytes : goal.returns-then-covers-clause-bytes
returns-then-covers-clause-bytes g c = λ told shows.
    let w = c.args.self.now in
    let from = c.args.place - w.start in
    let lies = c.covers.ensures c.if-covers.true in
    ap (take 5) c.copy_from_slice.ensures.after
    ∙ take-take 5 (from + 5 - from) (drop from w.bytes) (omega arith)
    ∙ covered 5 (bytes_now (g.K.Desk.state c.args.desk.now)) w.bytes w.start w.count c.args.place shows.part lies.0 lies.1

pub returns-clause-bytes : goal.returns-clause-bytes
returns-clause-bytes g c = λ told shows.
    let w = c.fill.new.self in
    let file = bytes_now (g.K.Desk.state c.args.desk.now) in
    let width = c.in_ok-fill.ensures.within in
    let all : length c.copy_from_slice-2.new.self ≡ c.min-count.result = omega (arith, c.copy_from_slice-2.ensures.len) in
    take_at c.copy_from_slice-2.new.self _ c.min-count.result all
    ∙ c.copy_from_slice-2.ensures.after
    ∙ ap (λ (k : ℕ). take k w.bytes) c.min-count.ensures
    ∙ first_read w.bytes (drop c.args.place file) w.count width.1 width.0 (c.in_ok-fill.ensures.all told)
