use Rattle.std.proofs.Common.{[], refl, arith}
use Rattle.std.proofs.lemmas.List.{length-map}
use Rattle.tf_desk.specs.State.{told_as}
use Rattle.tf_report.specs.declared.statuses.TheConstants.{DISK_FAILED, UNREAD}
use Rattle.tf_board.proofs.ActLemmas.{reached_back, said_causes}
use Rattle.tf_board.proofs.EndLemmas.{opened_reached, reached_stops, never_said}
use Rattle.tf_runner.specs.Conducts.{conducted, unhired, unready}
use Rattle.tf_runner.proofs.CallLemmas.{hires_so}
use Rattle.tf_runner.proofs.commanding.hire_and_conduct.Goals as goal

pub returns-in-Ok-Local-clause-conducts : goal.returns-in-Ok-Local-clause-conducts
returns-in-Ok-Local-clause-conducts g c = λ contents read name entry seen o.
    let ended = c.conduct_with-ended.result in
    conducted
    (hires_so c.args.hands (g.W.Crew.told c.args.crew.now) (g.W.Crew.told c.hire.new.self) (g.W.Crew.told c.dismiss.new.self) _ c.in-Ok-Local.ensures.hired c.dismiss.ensures.back
    (omega (arith, length-map ended.hands.items g.W.Hand.Performer.did, c.conduct_with-ended.ensures.back, ended.hands.ok.0)))
    (c.conduct_with-ended.ensures.works contents read name entry seen o)

pub returns-in-Ok-Local-clause-apart : goal.returns-in-Ok-Local-clause-apart
returns-in-Ok-Local-clause-apart g c = c.conduct_with-ended.ensures.apart.0

pub returns-in-Ok-Local-clause-unhired : goal.returns-in-Ok-Local-clause-unhired
returns-in-Ok-Local-clause-unhired g c = λ is. absurd (c.conduct_with-ended.ensures.apart.1 is)

pub returns-in-Err-Failed-clause-conducts : goal.returns-in-Err-Failed-clause-conducts
returns-in-Err-Failed-clause-conducts g c = λ contents read name entry seen o.
    let D = g.K.Desk in
    unhired c.in-Err-Failed.ensures.not_hired c.args.board.past o.fresh.legal o.found
    (c.end_with.ensures.reached name c.args.board.past [] c.args.board.past entry seen (reached_back D.state name (told_as (g.K.Desk.state seen) (g.K.Desk.state entry)) c.close.ensures (opened_reached D.state name (told_as (g.K.Desk.state seen) (g.K.Desk.state entry)) c.args.board o)))

pub returns-in-Err-Failed-clause-causes : goal.returns-in-Err-Failed-clause-causes
returns-in-Err-Failed-clause-causes g c = λ name entry seen o.
    let D = g.K.Desk in
    said_causes D.state name (told_as (g.K.Desk.state seen) (g.K.Desk.state entry)) c.close.result (D.state c.end_with.result.0) c.args.board c.end_with.result.1 o c.close.ensures c.end_with.ensures.concludes
    (never_said DISK_FAILED c.end_with.ensures.status (λ no. cc) (λ no. cc))

pub returns-in-Err-Failed-clause-apart : goal.returns-in-Err-Failed-clause-apart
returns-in-Err-Failed-clause-apart g c = never_said UNREAD c.end_with.ensures.status (λ no. cc) (λ no. cc)

pub returns-clause-conducts : goal.returns-clause-conducts
returns-clause-conducts g c = λ contents read name entry seen o.
    let D = g.K.Desk in
    unready c.in-Err-Memory.ensures.not_hired c.args.board.past o.fresh.legal o.found refl
    (reached_stops (reached_back D.state name (told_as (g.K.Desk.state seen) (g.K.Desk.state entry)) c.close-in-Err-Memory.ensures (opened_reached D.state name (told_as (g.K.Desk.state seen) (g.K.Desk.state entry)) c.args.board o)) refl)
