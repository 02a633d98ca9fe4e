use mir.Syntax.{of_param, named}
use denote.Exit.{yes, unseen}
use denote.Param.{param}
use denote.Param.Send.{Quiet-if, shr_sync}
use denote.Ref.{ShrRef}
use denote.Struct.Field.{u8-field, u32-field}
use denote.Struct.Tuple.{Tuple}
use Rattle.std.specs.Prelude.{[], ◌∷◌}
use Rattle.std.specs.contracts.alloc.Global as global
use Rattle.std.specs.contracts.option.Option as option
use Rattle.std.proofs.alloc.Global.TheSendSync as heap
use Rattle.tf_book.specs.contracts.book.Book as book
use Rattle.tf_states.specs.contracts.record.Entry as entry
use Rattle.tf_turnstile.specs.contracts.passes.Turnstile as turnstile
use Rattle.tf_engines.specs.contracts.shared.Shared as shared
use Rattle.tf_engines.specs.contracts.shared.SharedKept.TheImpl as kept
use Rattle.tf_engines.proofs.SendLemmas.{worker_send, turnstile_sync, three_sync}
use Rattle.tf_engines.proofs.hiring.work_all.Lts as lts
use Rattle.tf_engines.proofs.hiring.work_all.Goals as goal

pub for_each_mut-requires-send-T : goal.for_each_mut-requires-send-T
for_each_mut-requires-send-T g c κs within =
    let s = worker_send (param 0 g.row.K) (param 1 g.row.P) g.K.Desk g.P.Performer c.type_bounds.send-K c.type_bounds.send-P in
    record { owned = s.owned; leaving = λ k. Quiet-if (k (of_param 1)) ((lts.arg-0-1 g.row.K g.row.P g.row.R g.K.laws g.P.laws g.R.laws g.K.Desk g.K.Desk-dict g.P.Performer g.P.Performer-dict g.R.Threads g.R.Threads-dict g.R.Wait g.R.Wait-dict g.K.Destruct-dict g.P.Destruct-dict κs).exit yes) unseen (λ x w. (tt, (tt, tt))) (λ x w. tt) }

pub for_each_mut-requires-sync-F : goal.for_each_mut-requires-sync-F
for_each_mut-requires-sync-F g c κs within =
    let K = param 0 g.row.K in
    let P = param 1 g.row.P in
    let R = param 2 g.row.R in
    let O = Tuple (book.the_row K g.K.Desk ∷ option.the_row u32-field.row ∷ u8-field.row ∷ []) in
    let k = kept.ghosts K P g.K.Desk kept.no_dict g.P.Performer kept.no_dict kept.no_dict kept.no_dict in
    let turnstiles = turnstile.the_row (shared.the_row K P g.K.Desk g.P.Performer) O entry.the_row k in
    let t = turnstile_sync K P O entry.the_row g.K.Desk g.P.Performer k c.type_bounds.send-K c.type_bounds.send-P in
    let s = three_sync [] (ShrRef (named 6) κs.1.1.1.1.1.1.0 R) (ShrRef (named 7) κs.1.1.1.1.1.1.1.0 global.the_row) (ShrRef (named 8) κs.1.1.1.1.1.1.1.1.0 turnstiles)
    (shr_sync (named 6) κs.1.1.1.1.1.1.0 R c.type_bounds.sync-R)
    (shr_sync (named 7) κs.1.1.1.1.1.1.1.0 global.the_row heap.the_sync)
    (shr_sync (named 8) κs.1.1.1.1.1.1.1.1.0 turnstiles t) in
    record { shared = s.shared }
