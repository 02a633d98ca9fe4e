use mir.Syntax.{of_param, named}
use denote.Exit.{yes, unseen}
use denote.Param.{param}
use denote.Param.Send.{Quiet-if, shr_sync}
use denote.Ref.{ShrRef}
use Rattle.std.specs.Prelude.{[]}
use Rattle.std.specs.contracts.alloc.Global as global
use Rattle.std.proofs.alloc.Global.TheSendSync as heap
use Rattle.tf_shared_board.specs.contracts.calls.Made as made
use Rattle.tf_shared_board.specs.contracts.shared.SharedBoard as shared
use Rattle.tf_turnstile.specs.contracts.passes.Turnstile as turnstile
use Rattle.tf_board_service.specs.contracts.turns.Serving as serving
use Rattle.tf_board_service.specs.contracts.turns.ServingKept.TheImpl as kept
use Rattle.tf_board_service.proofs.SendLemmas.{server_send, turnstile_sync, three_sync}
use Rattle.tf_board_service.proofs.hiring.serve_all.Lts as lts
use Rattle.tf_board_service.proofs.hiring.serve_all.Goals as goal

pub for_each_mut-requires-send-T : goal.for_each_mut-requires-send-T
for_each_mut-requires-send-T g c κs within =
    let s = server_send (param 0 g.row.K) (param 1 g.row.L) g.K.Desk c.type_bounds.send-K c.type_bounds.send-L in
    record { owned = s.owned; leaving = λ k. Quiet-if (k (of_param 1)) ((lts.arg-0-1 g.row.K g.row.L g.row.T g.K.laws g.L.laws g.T.laws g.K.Desk g.K.Desk-dict g.L.Link g.L.Link-dict g.T.Threads g.T.Threads-dict g.T.Wait g.T.Wait-dict g.K.Destruct-dict g.L.Destruct-dict κs).exit yes) unseen (λ x w. (tt, (tt, (tt, tt)))) (λ x w. tt) }

pub for_each_mut-requires-sync-F : goal.for_each_mut-requires-sync-F
for_each_mut-requires-sync-F g c κs within =
    let K = param 0 g.row.K in
    let T = param 2 g.row.T in
    let O = shared.the_row K g.K.Desk in
    let k = kept.ghosts K g.K.Desk kept.no_dict kept.no_dict in
    let turnstiles = turnstile.the_row (serving.the_row K g.K.Desk) O made.the_row k in
    let t = turnstile_sync K O made.the_row g.K.Desk k c.type_bounds.send-K in
    let s = three_sync [] (ShrRef (named 6) κs.1.1.1.1.1.1.0 T) (ShrRef (named 7) κs.1.1.1.1.1.1.1.0 global.the_row) (ShrRef (named 8) κs.1.1.1.1.1.1.1.1.0 turnstiles)
    (shr_sync (named 6) κs.1.1.1.1.1.1.0 T c.type_bounds.sync-T)
    (shr_sync (named 7) κs.1.1.1.1.1.1.1.0 global.the_row heap.the_sync)
    (shr_sync (named 8) κs.1.1.1.1.1.1.1.1.0 turnstiles t) in
    record { shared = s.shared }

pub returns : goal.returns
returns g c = λ i d near. let t = (c.for_each_mut.ensures i d near).1 in rw (← t.argument_is, ← t.left) t.call
