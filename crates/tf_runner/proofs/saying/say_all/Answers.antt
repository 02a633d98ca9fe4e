use Rattle.std.proofs.Common.{ℕ, List, sym, subst, ◌∙◌}
use Rattle.tf_desk.specs.State.{Says}
use Rattle.tf_report.specs.Closing.{ClosesWith}
use Rattle.tf_board.proofs.EndLemmas.{concludes_none, concludes_said}
use Rattle.tf_runner.specs.Conducts.{closing_text}
use Rattle.tf_runner.proofs.CallLemmas.{called_ends, called_silent, empty_so}
use Rattle.tf_runner.proofs.saying.say_all.Goals as goal

pub returns-clause-ends : goal.returns-clause-ends
returns-clause-ends g c = λ name word count past made halted entry seen text status h.
    let D = g.K.Desk in
    let shown = (D.state c.args.desk).shown in
    let now = D.state c.close-status.new.desk in
    called_ends h c.close-status.result
    (subst (λ (n : ℕ). ClosesWith shown (closing_text made halted) n now.shown c.close-status.result) status (subst (λ (l : List ℕ). ClosesWith shown l c.args.status now.shown c.close-status.result) text c.close-status.ensures.closes))
    (subst (λ (l : List ℕ). Says l (D.state c.args.desk) now) text c.close-status.ensures.says)

pub returns-clause-concludes : goal.returns-clause-concludes
returns-clause-concludes g c =
    concludes_said c.close-status.result c.close-status.ensures.says (λ is. c.close-status.ensures.unsaid is c.requires.apart)

pub returns-then-is_empty-clause-ends : goal.returns-then-is_empty-clause-ends
returns-then-is_empty-clause-ends g c = λ name word count past made halted entry seen text status h.
    called_silent h c.args.status (sym text ∙ empty_so c.args.text.now (sym c.is_empty.ensures ∙ c.if-is_empty.true)) status

pub returns-then-is_empty-clause-concludes : goal.returns-then-is_empty-clause-concludes
returns-then-is_empty-clause-concludes g c = concludes_none c.args.status c.requires.apart
