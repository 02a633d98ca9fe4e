use Rattle.tf_desk.specs.State.{told_as}
use Rattle.tf_commands.proofs.PromiseLemmas.{unbegun_anew}
use Rattle.tf_commands.proofs.books.say_unbegun.Goals as goal

pub returns-clause-anew : goal.returns-clause-anew
returns-clause-anew g c = λ request asks did name entry seen opened elements plan is_open unbegun fails fresh.
    let D = g.K.Desk in
    let now = c.say_cause-status.new.desk in
    unbegun_anew D.state g.P.Performer.gives request _ did name elements plan c.args.fault (told_as (g.K.Desk.state seen) (g.K.Desk.state entry)) opened c.args.desk now c.say_cause-status.result is_open unbegun fails
    (rw c.cause_of.ensures at c.say_cause-status.ensures.says)
    (record { there = g.met.K.Desk.picked_is_there now name; reads = λ told bytes has. g.met.K.Desk.reads_left now name bytes told has }) fresh
