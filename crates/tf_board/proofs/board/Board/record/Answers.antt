use Rattle.std.proofs.Common.{rules, inl, ◌≡◌, ◌∙◌, ◌++◌, List, ℕ, length, subst, ap, refl, arith}
use Rattle.tf_board.specs.Board.{past_of, BoardValue, IsSound, command_bytes}
use Rattle.tf_board.specs.declared.faults.BoardFault.TheVariants as fault
use Rattle.tf_journal.proofs.FoundLemmas.{body_fits}
use Rattle.tf_board.proofs.FormLemmas.{command_long}
use Rattle.tf_board.proofs.BoardLemmas.{records_same}
use Rattle.tf_board.proofs.board.Board.record.Goals as goal

pub returns-in_default : goal.returns-in_default
returns-in_default g c =
    let D = g.K.Desk in
    let s = subst (λ (b : BoardValue _). IsSound D.state c.self.inside.kept b) c.self.view_is c.self.invariant in
    records_same D.state c.self.inside.kept c.args.self.now c.args.self.now c.args.command fault.Memory s refl refl

pub returns-in_default-reserve : goal.returns-in_default-reserve
returns-in_default-reserve g c =
    let D = g.K.Desk in
    let s = subst (λ (b : BoardValue _). IsSound D.state c.self.inside.kept b) c.self.view_is c.self.invariant in
    let same = ap (λ items. record { past = past_of items; journal = c.self.inside.journal }) c.reserve.ensures.commands ∙ c.self.view_is in
    records_same D.state c.self.inside.kept c.args.self.now _ c.args.command fault.Memory s same same

pub append-requires-clause-ready : goal.append-requires-clause-ready
append-requires-clause-ready g c = inl (search rules)

pub append-requires-clause-body : goal.append-requires-clause-body
append-requires-clause-body g c =
    let long = command_long c.args.command c.in-Ok.ensures.is in
    let same : c.deref.result.now ≡ command_bytes c.args.command =
    c.deref.ensures.value ∙ c.in-Ok.ensures.ok ∙ ap (λ (t : List ℕ). t ++ command_bytes c.args.command) c.new-body.ensures.items in
    body_fits _ _ (omega (arith, long.0, ap length same), omega (arith, long.1, ap length same))
