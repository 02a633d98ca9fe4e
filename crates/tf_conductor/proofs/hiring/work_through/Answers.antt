use Rattle.std.proofs.Common.{◌≡◌, ◌<◌, ◌++◌, ℕ, List, length, take, drop, arith, ap, sym, subst, slice_index_or}
use Rattle.tf_conductor.specs.Working.{HasWorkedAs, IsAppointed}
use Rattle.tf_conductor.specs.declared.conductors.Conductor.{Conductor}
use Rattle.tf_conductor.proofs.EndLemmas.{take_prefix}
use Rattle.tf_conductor.proofs.hiring.work_through.Goals as goal

pub work_all-requires-clause-each : goal.work_all-requires-clause-each
work_all-requires-clause-each g c κs within = λ i d below.
    let same = c.as_mut_slice.ensures.value in
    subst (λ (l : List (Conductor g.row.K.Denot g.row.P.Denot)). IsAppointed c.args.turnstile.now c.args.owners.now i (slice_index_or l i d).pass) (sym same) (c.requires.each i d (subst (λ (l : List (Conductor g.row.K.Denot g.row.P.Denot)). i < length l) same below))

pub returns-clause-worked : goal.returns-clause-worked
returns-clause-worked g c = λ i d below.
    let same = c.as_mut_slice.ensures.value in
    let gives = g.P.Runner.gives in
    let did = g.P.Runner.did in
    let new : List (Conductor g.row.K.Denot g.row.P.Denot) = c.work_all.new.conductors in
    let long : c.args.conductors.len ≡ length new = omega (arith, c.work_all.auto.conductors, c.as_mut_slice.ensures.len, ap length same, c.args.conductors.ok.0) in
    let front : take c.args.conductors.len (new ++ drop (length new) c.args.conductors.items) ≡ new
    = subst (λ (n : ℕ). take n (new ++ drop (length new) c.args.conductors.items) ≡ new) (sym long) (take_prefix new (drop (length new) c.args.conductors.items)) in
    subst (λ (l : List (Conductor g.row.K.Denot g.row.P.Denot)). HasWorkedAs c.args.turnstile.now i (gives (slice_index_or c.args.conductors.items i d).runner) (gives (slice_index_or l i d).runner) (did (slice_index_or c.args.conductors.items i d).runner) (did (slice_index_or l i d).runner) (slice_index_or l i d).pass (slice_index_or l i d).halted)
    (sym front)
    (subst (λ (l : List (Conductor g.row.K.Denot g.row.P.Denot)). HasWorkedAs c.args.turnstile.now i (gives (slice_index_or l i d).runner) (gives (slice_index_or new i d).runner) (did (slice_index_or l i d).runner) (did (slice_index_or new i d).runner) (slice_index_or new i d).pass (slice_index_or new i d).halted)
    same (c.work_all.ensures i d (subst (λ (l : List (Conductor g.row.K.Denot g.row.P.Denot)). i < length l) (sym same) below)))
