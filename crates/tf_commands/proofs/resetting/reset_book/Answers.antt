use Rattle.tf_desk.proofs.StateLemmas.{told_through}
use Rattle.tf_commands.specs.Books.{unfound_reset, ResetsBook}
use Rattle.tf_commands.proofs.CountLemmas.{open_reaches, causes_from}
use Rattle.tf_commands.proofs.resetting.reset_book.Goals as goal

pub returns-in-Ok-clause-resets : goal.returns-in-Ok-clause-resets
returns-in-Ok-clause-resets g c =
    let D = g.K.Desk in
    told_through (λ before. ResetsBook c.args.name.now c.args.wanted.now before (D.state c.put_back.result.desk) c.put_back.result.status) (D.state c.args.desk) c.put_back.ensures.tells
    (c.put_back.ensures.goes c.args.name.now c.args.wanted.now c.args.desk c.in-Ok.book.journal.desk c.in-Ok.ensures.opened.does c.in-Ok.ensures.holds)

pub returns-in-Ok-clause-causes : goal.returns-in-Ok-clause-causes
returns-in-Ok-clause-causes g c = causes_from (g.K.Desk.state c.put_back.result.desk) (open_reaches c.in-Ok.ensures.opened c.in-Ok.ensures.asks) c.put_back.ensures.causes

pub returns-in-Err-clause-resets : goal.returns-in-Err-clause-resets
returns-in-Err-clause-resets g c = unfound_reset c.in-Err.ensures.unfound
