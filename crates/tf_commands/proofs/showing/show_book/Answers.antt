use Rattle.std.proofs.Common.{arith}
use Rattle.tf_desk.proofs.StateLemmas.{told_through}
use Rattle.tf_commands.specs.Books.{unfound_show, ShowsBook}
use Rattle.tf_commands.proofs.CountLemmas.{open_reaches, said_causes}
use Rattle.tf_commands.proofs.OpenLemmas.{shows_whole, whole_apart}
use Rattle.tf_commands.proofs.showing.show_book.Goals as goal

pub returns-in-Ok-clause-shows : goal.returns-in-Ok-clause-shows
returns-in-Ok-clause-shows g c =
    let D = g.K.Desk in
    let mid = D.state c.in-Ok.book.journal.desk in
    told_through (λ before. ShowsBook c.args.name.now c.args.wanted.now before (D.state c.say_whole.result.desk) c.say_whole.result.status) (D.state c.args.desk) c.say_whole.ensures.said.says.tells
    (shows_whole D.state c.args.name.now c.args.wanted.now c.args.desk c.in-Ok.book.journal.desk c.say_whole.result.desk c.say_whole.result.status c.in-Ok.book c.say_whole.ensures.shows c.in-Ok.ensures.opened.does.untouched c.in-Ok.ensures.holds)

pub returns-in-Ok-clause-causes : goal.returns-in-Ok-clause-causes
returns-in-Ok-clause-causes g c =
    let apart = whole_apart c.say_whole.result.status c.say_whole.ensures.status in
    said_causes (open_reaches c.in-Ok.ensures.opened c.in-Ok.ensures.asks) c.say_whole.ensures.said (omega arith) (λ is. absurd (apart.0 is)) (λ is. absurd (apart.1 is))

pub returns-in-Err-clause-shows : goal.returns-in-Err-clause-shows
returns-in-Err-clause-shows g c = unfound_show c.in-Err.ensures.unfound
