use Rattle.std.proofs.Common.{ap, ◌∙◌, sym}
use Rattle.tf_book.proofs.ClosingLemmas.{sound_on, book_closes}
use Rattle.tf_book.specs.Book.{BookValue}
use Rattle.tf_book.specs.Recording.{halt_after}
use Rattle.tf_book.proofs.book.Book.say_closing.Goals as goal

pub invariant_of-self : goal.invariant_of-self
invariant_of-self g c =
    let s = c.say_line.ensures in (
      c.self.invariant.0,
      c.self.invariant.1,
      c.self.invariant.2,
      sound_on g.K.Desk.state _ _ _ c.say_line.new.journal _ c.self.invariant.3
          (ap (λ (b : BookValue _). b.halt) c.self.view_is ∙ c.requires.sound) s.same s.says.tells s.says.files,
    )

pub invariant_of-self-in-Err : goal.invariant_of-self-in-Err
invariant_of-self-in-Err g c =
    let s = c.say_line.ensures in (
      c.self.invariant.0,
      c.self.invariant.1,
      c.self.invariant.2,
      sound_on g.K.Desk.state _ _ _ c.say_line.new.journal _ c.self.invariant.3
          (ap (λ (b : BookValue _). b.halt) c.self.view_is ∙ c.requires.sound) s.same s.says.tells s.says.files,
    )

pub returns-in-Ok-clause-closes : goal.returns-in-Ok-clause-closes
returns-in-Ok-clause-closes g c = λ start k.
    let s = c.say_line.ensures in
    book_closes g.K.Desk.state start _ _ _ _ _ _ _ _ c.self.view_is c.requires.sound c.self.invariant.3
    (ap (λ (b : BookValue _). b.halt) c.self.view_is ∙ c.requires.sound ∙ sym (ap halt_after c.in-Ok.is)) s.same s.text s.says s.fails k

pub returns-in-Err-clause-closes : goal.returns-in-Err-clause-closes
returns-in-Err-clause-closes g c = λ start k.
    let s = c.say_line.ensures in
    book_closes g.K.Desk.state start _ _ _ _ _ _ _ _ c.self.view_is c.requires.sound c.self.invariant.3 (sym (ap halt_after c.in-Err.is)) s.same s.text s.says s.fails k
