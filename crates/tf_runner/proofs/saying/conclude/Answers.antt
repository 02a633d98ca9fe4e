use Rattle.std.proofs.Common.{◌≡◌, List, refl, sym, ap, subst, ◌∙◌}
use Rattle.tf_desk.specs.State.{told_as}
use Rattle.tf_board.specs.Board.{BoardValue}
use Rattle.tf_board.specs.Does.{Concludes}
use Rattle.tf_board.proofs.EndLemmas.{concludes_none}
use Rattle.tf_shared_board.specs.declared.calls.Made.{Made}
use Rattle.tf_runner.specs.Conducts.{closing_text}
use Rattle.tf_runner.specs.Working.{HasCalled}
use Rattle.tf_runner.proofs.CallLemmas.{called_stops}
use Rattle.tf_runner.proofs.saying.conclude.Goals as goal

pub returns-in-Ok-clause-ends : goal.returns-in-Ok-clause-ends
returns-in-Ok-clause-ends g c = λ name word count past entry seen h.
    let D = g.K.Desk in
    let shared = c.args.ended.shared in
    let halted = c.args.ended.halt in
    let desk : c.close-desk.result ≡ shared.board.journal.desk = c.close-desk.ensures ∙ ap (λ (b : BoardValue g.row.K.Denot). b.journal.desk) c.close.ensures.board in
    c.say_all.ensures.ends name word count past shared.made halted entry seen (c.deref.ensures.value ∙ c.in-Ok.ensures.0 ∙ ap (λ (made : List Made). closing_text made halted) c.made.ensures.made) c.in-Ok.ensures.1
    (subst (λ (k : g.row.K.Denot). HasCalled name word count past shared.made halted (told_as (g.K.Desk.state seen) (g.K.Desk.state entry)) (D.state k)) (sym desk) h)

pub returns-in-Ok-clause-concludes : goal.returns-in-Ok-clause-concludes
returns-in-Ok-clause-concludes g c =
    let D = g.K.Desk in
    let desk : c.close-desk.result ≡ c.args.ended.shared.board.journal.desk = c.close-desk.ensures ∙ ap (λ (b : BoardValue g.row.K.Denot). b.journal.desk) c.close.ensures.board in
    subst (λ (k : g.row.K.Denot). Concludes (D.state k) (D.state c.say_all.result.0) c.say_all.result.1) desk c.say_all.ensures.concludes

pub returns-in-Err-clause-ends : goal.returns-in-Err-clause-ends
returns-in-Err-clause-ends g c = λ name word count past entry seen h.
    let D = g.K.Desk in
    let shared = c.args.ended.shared in
    let desk : c.close-desk.result ≡ shared.board.journal.desk = c.close-desk.ensures ∙ ap (λ (b : BoardValue g.row.K.Denot). b.journal.desk) c.close.ensures.board in
    called_stops (subst (λ (k : g.row.K.Denot). HasCalled name word count past shared.made c.args.ended.halt (told_as (g.K.Desk.state seen) (g.K.Desk.state entry)) (D.state k)) (sym desk) h) 9 refl

pub returns-in-Err-clause-concludes : goal.returns-in-Err-clause-concludes
returns-in-Err-clause-concludes g c =
    let D = g.K.Desk in
    let desk : c.close-desk.result ≡ c.args.ended.shared.board.journal.desk = c.close-desk.ensures ∙ ap (λ (b : BoardValue g.row.K.Denot). b.journal.desk) c.close.ensures.board in
    subst (λ (k : g.row.K.Denot). Concludes (D.state k) (D.state c.close-desk.result) 9) desk (concludes_none 9 (λ is. cc))
