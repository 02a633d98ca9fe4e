use Rattle.tf_desk.proofs.StateLemmas.{told_through}
use Rattle.tf_book.specs.Shelf.{desk_of}
use Rattle.tf_commands.specs.Books.{unopened_list, ListsDetails}
use Rattle.tf_commands.proofs.CountLemmas.{untouched_reaches, refused_causes}
use Rattle.tf_commands.proofs.detailing.list_details.Goals as goal

pub returns-in-Ok-clause-lists : goal.returns-in-Ok-clause-lists
returns-in-Ok-clause-lists g c =
    let D = g.K.Desk in
    told_through (λ before. ListsDetails c.args.name.now before (D.state c.say_details.result.desk) c.say_details.result.status) (D.state c.args.desk) c.say_details.ensures.tells
    (c.say_details.ensures.lists c.args.name.now c.args.desk (desk_of c.in-Ok.shelf) (record { opened = c.in-Ok.ensures.opened.does; found = c.in-Ok.ensures.loads }))

pub returns-in-Err-clause-lists : goal.returns-in-Err-clause-lists
returns-in-Err-clause-lists g c =
    let D = g.K.Desk in
    let r = c.refuse_book in
    told_through (λ before. ListsDetails c.args.name.now before (D.state r.result.desk) r.result.status) (D.state c.args.desk) r.ensures.said.says.tells
    (unopened_list (r.ensures.unopened c.args.name.now c.args.desk c.in-Err.desk c.in-Err.ensures.unopened.does c.in-Err.ensures.refused))

pub returns-in-Err-clause-causes : goal.returns-in-Err-clause-causes
returns-in-Err-clause-causes g c =
    let e = c.in-Err.ensures in
    let r = c.refuse_book in
    refused_causes (untouched_reaches e.unopened e.asks) r.ensures.said (λ is. e.cause (r.ensures.failed is))
    (r.ensures.unopened c.args.name.now c.args.desk c.in-Err.desk e.unopened.does e.refused)
