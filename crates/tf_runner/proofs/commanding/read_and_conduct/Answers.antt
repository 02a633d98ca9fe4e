use Rattle.std.proofs.Common.{[], refl}
use Rattle.tf_desk.specs.State.{told_as}
use Rattle.tf_report.specs.declared.statuses.TheConstants.{DISK_FAILED, UNHIRED}
use Rattle.tf_board.proofs.ActLemmas.{reached_back, said_causes}
use Rattle.tf_board.proofs.EndLemmas.{concludes_none, opened_reached, reached_stops, never_said}
use Rattle.tf_runner.specs.Conducts.{unread, unready}
use Rattle.tf_runner.proofs.commanding.read_and_conduct.Goals as goal

pub returns-in-Ok-clause-conducts : goal.returns-in-Ok-clause-conducts
returns-in-Ok-clause-conducts g c = λ name entry seen o. c.prepare_and_conduct.ensures.conducts _ c.in-Ok.ensures.read name entry seen o

pub returns-in-Ok-clause-unread : goal.returns-in-Ok-clause-unread
returns-in-Ok-clause-unread g c = λ is. absurd (c.prepare_and_conduct.ensures.apart is)

pub returns-in-Err-Read-clause-conducts : goal.returns-in-Err-Read-clause-conducts
returns-in-Err-Read-clause-conducts g c = λ name entry seen o.
    let D = g.K.Desk in
    unread refl c.args.board.past o.fresh.legal o.found
    (c.end_with.ensures.reached name c.args.board.past [] c.args.board.past entry seen (reached_back D.state name (told_as (g.K.Desk.state seen) (g.K.Desk.state entry)) c.close.ensures (opened_reached D.state name (told_as (g.K.Desk.state seen) (g.K.Desk.state entry)) c.args.board o)))

pub returns-in-Err-Read-clause-causes : goal.returns-in-Err-Read-clause-causes
returns-in-Err-Read-clause-causes g c = λ name entry seen o.
    let D = g.K.Desk in
    said_causes D.state name (told_as (g.K.Desk.state seen) (g.K.Desk.state entry)) c.close.result (D.state c.end_with.result.0) c.args.board c.end_with.result.1 o c.close.ensures c.end_with.ensures.concludes
    (never_said DISK_FAILED c.end_with.ensures.status (λ no. cc) (λ no. cc))

pub returns-in-Err-Read-clause-unhired : goal.returns-in-Err-Read-clause-unhired
returns-in-Err-Read-clause-unhired g c = λ is. absurd (never_said UNHIRED c.end_with.ensures.status (λ no. cc) (λ no. cc) is)

pub returns-in-Err-TooLong-clause-conducts : goal.returns-in-Err-TooLong-clause-conducts
returns-in-Err-TooLong-clause-conducts g c = λ name entry seen o.
    let D = g.K.Desk in
    unready refl c.args.board.past o.fresh.legal o.found refl
    (reached_stops (reached_back D.state name (told_as (g.K.Desk.state seen) (g.K.Desk.state entry)) c.close-in-Err-TooLong.ensures (opened_reached D.state name (told_as (g.K.Desk.state seen) (g.K.Desk.state entry)) c.args.board o)) refl)

pub returns-in-Err-TooLong-clause-causes : goal.returns-in-Err-TooLong-clause-causes
returns-in-Err-TooLong-clause-causes g c = λ name entry seen o.
    let D = g.K.Desk in
    said_causes D.state name (told_as (g.K.Desk.state seen) (g.K.Desk.state entry)) c.close-in-Err-TooLong.result (D.state c.close-in-Err-TooLong.result) c.args.board 9 o c.close-in-Err-TooLong.ensures (concludes_none 9 (λ is. cc)) (λ is. cc)

pub returns-in-Err-Memory-clause-conducts : goal.returns-in-Err-Memory-clause-conducts
returns-in-Err-Memory-clause-conducts g c = λ name entry seen o.
    let D = g.K.Desk in
    unready refl c.args.board.past o.fresh.legal o.found refl
    (reached_stops (reached_back D.state name (told_as (g.K.Desk.state seen) (g.K.Desk.state entry)) c.close-in-Err-Memory.ensures (opened_reached D.state name (told_as (g.K.Desk.state seen) (g.K.Desk.state entry)) c.args.board o)) refl)

pub returns-in-Err-Memory-clause-causes : goal.returns-in-Err-Memory-clause-causes
returns-in-Err-Memory-clause-causes g c = λ name entry seen o.
    let D = g.K.Desk in
    said_causes D.state name (told_as (g.K.Desk.state seen) (g.K.Desk.state entry)) c.close-in-Err-Memory.result (D.state c.close-in-Err-Memory.result) c.args.board 9 o c.close-in-Err-Memory.ensures (concludes_none 9 (λ is. cc)) (λ is. cc)
