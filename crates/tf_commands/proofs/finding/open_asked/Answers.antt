use Rattle.std.proofs.Common.{◌∙◌}
use Rattle.tf_desk.specs.State.{told_as}
use Rattle.tf_desk.proofs.StateLemmas.{told_through}
use Rattle.tf_commands.specs.Books.{Unfound}
use Rattle.tf_commands.proofs.FindLemmas.{asked_below, ok_on, err_on}
use Rattle.tf_commands.proofs.finding.open_asked.Goals as goal

pub open_number-requires-clause-within : goal.open_number-requires-clause-within
open_number-requires-clause-within g c = asked_below c.args.wanted.now c.args.shelf.elements c.in-Some.number (c.in-Some.ensures c.args.shelf.elements c.details.ensures.list)

pub returns-in-Some-clause-holds : goal.returns-in-Some-clause-holds
returns-in-Some-clause-holds g c =
    ok_on c.open_number.result _ _ c.open_number.ensures.holds
    (λ book holds name entry seen so. holds name c.args.wanted.now entry seen so (c.in-Some.ensures c.args.shelf.elements c.details.ensures.list))

pub returns-in-Some-clause-unfound : goal.returns-in-Some-clause-unfound
returns-in-Some-clause-unfound g c =
    err_on c.open_number.result _ _ c.open_number.ensures.unfound (λ over unfound name entry seen so. unfound name c.args.wanted.now entry seen so)

pub returns-in-None-clause-unfound : goal.returns-in-None-clause-unfound
returns-in-None-clause-unfound g c = λ name entry seen so.
    let D = g.K.Desk in
    let r = c.say_none in
    told_through (λ before. Unfound name c.args.wanted.now before (D.state r.result.desk) r.result.status) (told_as (D.state seen) (D.state entry)) (r.ensures.tells ∙ so.opened.untouched.told)
    (r.ensures.unfound name entry seen so)
