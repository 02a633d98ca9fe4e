use Rattle.std.proofs.Common.{◌≡◌, ◌<◌, ◌++◌, ℕ, List, length, take, drop, arith, ap, sym, subst, slice_index_or}
use Rattle.tf_engines.specs.Working.{IsOpenedFor, IsReadyToTurn, HasWorked}
use Rattle.tf_engines.specs.declared.hand_loop.Worker.{Worker}
use Rattle.tf_engines.proofs.CloseLemmas.{take_prefix}
use Rattle.tf_engines.proofs.hiring.work_through.Goals as goal

pub work_all-requires-clause-each : goal.work_all-requires-clause-each
work_all-requires-clause-each g c κs within = λ i d below.
    let same = c.as_mut_slice.ensures.value in
    subst (λ (l : List (Worker g.row.K.Denot g.row.P.Denot)). IsOpenedFor c.args.turnstile.now i × IsReadyToTurn c.args.turnstile.now i (slice_index_or l i d).pass) (sym same) (c.requires.each i d (subst (λ (l : List (Worker g.row.K.Denot g.row.P.Denot)). i < length l) same below))

pub returns-clause-worked : goal.returns-clause-worked
returns-clause-worked g c = λ i d below.
    let same = c.as_mut_slice.ensures.value in
    let new : List (Worker g.row.K.Denot g.row.P.Denot) = c.work_all.new.workers in
    let long : c.args.workers.len ≡ length new = omega (arith, c.work_all.auto.workers, c.as_mut_slice.ensures.len, ap length same, c.args.workers.ok.0) in
    let prefix : take c.args.workers.len (new ++ drop (length new) c.args.workers.items) ≡ new
    = subst (λ (n : ℕ). take n (new ++ drop (length new) c.args.workers.items) ≡ new) (sym long) (take_prefix new (drop (length new) c.args.workers.items)) in
    subst (λ (l : List (Worker g.row.K.Denot g.row.P.Denot)). HasWorked c.args.turnstile.now i (slice_index_or c.args.workers.items i d).pass (slice_index_or l i d).pass (g.P.Performer.did (slice_index_or c.args.workers.items i d).hand) (g.P.Performer.did (slice_index_or l i d).hand) (slice_index_or l i d).failed)
    (sym prefix)
    (subst (λ (l : List (Worker g.row.K.Denot g.row.P.Denot)). HasWorked c.args.turnstile.now i (slice_index_or l i d).pass (slice_index_or new i d).pass (g.P.Performer.did (slice_index_or l i d).hand) (g.P.Performer.did (slice_index_or new i d).hand) (slice_index_or new i d).failed)
    same (c.work_all.ensures i d (subst (λ (l : List (Worker g.row.K.Denot g.row.P.Denot)). i < length l) (sym same) below)))
