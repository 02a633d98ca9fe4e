use Rattle.std.proofs.Common.{◌≡◌, List, Some, ap, sym, subst, map}
use Rattle.std.specs.List.{flat_map, AllByRecursion}
use Rattle.tf_ports.specs.Ports.{addresses_wanted, AreFresh, IsFresh}
use Rattle.tf_ports.specs.declared.crews.Hands.{Hands}
use Rattle.tf_ports.proofs.CrewLemmas.{dials_none, fresh_first, fresh_others}
use Rattle.tf_ports.proofs.memory_crew.MemoryCrewCrew.hire.Goals.{in-Local, in-Remote}
use Rattle.tf_ports.proofs.memory_crew.MemoryCrewCrew.hire.Goals as goal

pub returns-in-Err-clause-dialled_some : goal.returns-in-Err-clause-dialled_some
returns-in-Err-clause-dialled_some g c =
    let same : c.push.new.self.items ≡ c.args.self.now.hired = cc in
    dials_none (addresses_wanted c.args.want.now) (Some (flat_map addresses_wanted c.args.self.now.hired)) (Some (flat_map addresses_wanted c.push.new.self.items)) (ap (λ hired. Some (flat_map addresses_wanted hired)) same)

pub invariant_of-self-in-Err : goal.invariant_of-self-in-Err
invariant_of-self-in-Err g c =
    let P = g.row.P.Denot in
    let did = g.P.Performer.did in
    subst (λ (hands : List P). AllByRecursion IsFresh (map did hands)) (sym c.in-Ok-split_off.ensures.items) (fresh_first did _ c.self.inside.hands.items c.self.invariant)

pub invariant_of-self-2 : goal.invariant_of-self-2
invariant_of-self-2 g c =
    let P = g.row.P.Denot in
    let did = g.P.Performer.did in
    subst (λ (hands : List P). AllByRecursion IsFresh (map did hands)) (sym c.in-Ok-split_off.ensures.items) (fresh_first did _ c.self.inside.hands.items c.self.invariant)

pub returns-clause-fresh : goal.returns-clause-fresh
returns-clause-fresh g c =
    let P = g.row.P.Denot in
    let did = g.P.Performer.did in
    let others : AllByRecursion IsFresh (map did c.in-Ok-split_off.hands.items) =
    subst (λ (hands : List P). AllByRecursion IsFresh (map did hands)) (sym c.in-Ok-split_off.ensures.tail) (fresh_others did _ c.self.inside.hands.items c.self.invariant) in
    elim c.match-want.branch [
      | in-Local w ↦ subst (λ (hands : Hands P P). AreFresh did did hands) (sym w.result-is) others
      | in-Remote w ↦ subst (λ (hands : Hands P P). AreFresh did did hands) (sym w.result-is) others
    ]
