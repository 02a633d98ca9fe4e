use Rattle.std.proofs.Common.{◌≡◌, ℕ, List, Ok, Err, Result, OnErr, string_bytes, arith, sym, ◌∙◌, subst}
use Rattle.tf_desk.specs.State.{LeftNow, OnDisk, Trusts, Picks, PicksNone}
use Rattle.tf_desk.specs.Replay.{replay, with_counts}
use Rattle.tf_desk.proofs.files.FileDeskDesk.pick.Goals as goal

on_err : {T E : Type 0} (result : Result T E) (P : Type 0) → P → OnErr result P
on_err (Ok value) P holds = tt
on_err (Err error) P holds = holds

pub returns-in-Ok-pick-clause-picked : goal.returns-in-Ok-pick-clause-picked
returns-in-Ok-pick-clause-picked g c told =
    let first = g.W.World.first in
    let mid = c.take_streams.new.self in
    let new = with_counts mid.disk_faults mid.out_faults mid.asks mid.turns (replay first c.pick.new.self) in
    let old = c.args.self.now in
    let was = with_counts old.disk_faults old.out_faults old.asks old.turns (replay first old.opened) in
    let named : string_bytes c.in_ok-kept.kept ≡ c.args.name.now = c.in_ok-kept.ensures.same ∙ c.in-Ok.ensures.cases.0 ∙ c.bytes.ensures.value in
    subst (λ (name : List ℕ). Picks name was new) named
    (subst (λ desk. Picks (string_bytes c.in_ok-kept.kept) (with_counts desk.disk_faults desk.out_faults desk.asks desk.turns (replay first desk.opened)) new)
    c.take_streams.ensures.same
    (c.in-Ok-pick.ensures.picked first mid.disk_faults mid.disk_faults mid.out_faults mid.asks mid.turns (omega arith)))

pub returns-in-Ok-pick-clause-on_disk : goal.returns-in-Ok-pick-clause-on_disk
returns-in-Ok-pick-clause-on_disk g c =
    let first = g.W.World.first in
    let mid = c.take_streams.new.self in
    let new = with_counts mid.disk_faults mid.out_faults mid.asks mid.turns (replay first c.pick.new.self) in
    subst (λ desk. Trusts (OnDisk (LeftNow new)) (with_counts desk.disk_faults desk.out_faults desk.asks desk.turns (replay first desk.opened)) new)
    c.take_streams.ensures.same
    (c.pick.ensures.on_disk first mid.disk_faults mid.disk_faults mid.out_faults mid.asks mid.turns (omega arith))

pub returns-in-Err-pick-clause-unpicked : goal.returns-in-Err-pick-clause-unpicked
returns-in-Err-pick-clause-unpicked g c = on_err c.pick_fault-in-Err-pick.result _ (λ told.
    let first = g.W.World.first in
    let mid = c.take_streams.new.self in
    let end = c.pick_fault-in-Err-pick.new.self in
    let new = with_counts end.disk_faults mid.out_faults mid.asks mid.turns (replay first c.pick.new.self) in
    let old = c.args.self.now in
    let was = with_counts old.disk_faults old.out_faults old.asks old.turns (replay first old.opened) in
    let named : string_bytes c.in_ok-kept.kept ≡ c.args.name.now = c.in_ok-kept.ensures.same ∙ c.in-Ok.ensures.cases.0 ∙ c.bytes.ensures.value in
    subst (λ desk. PicksNone c.args.name.now was (with_counts desk.disk_faults desk.out_faults desk.asks desk.turns (replay first desk.opened)))
    (sym c.pick_fault-in-Err-pick.ensures.same)
    (subst (λ (name : List ℕ). PicksNone name was new) named
    (subst (λ desk. PicksNone (string_bytes c.in_ok-kept.kept) (with_counts desk.disk_faults desk.out_faults desk.asks desk.turns (replay first desk.opened)) new)
    c.take_streams.ensures.same
    (c.in-Err-pick.ensures.unpicked first mid.disk_faults end.disk_faults mid.out_faults mid.asks mid.turns c.pick_fault-in-Err-pick.ensures.no_fall))))

pub returns-in-Err-pick-clause-on_disk : goal.returns-in-Err-pick-clause-on_disk
returns-in-Err-pick-clause-on_disk g c =
    let first = g.W.World.first in
    let mid = c.take_streams.new.self in
    let end = c.pick_fault-in-Err-pick.new.self in
    let new = with_counts end.disk_faults mid.out_faults mid.asks mid.turns (replay first c.pick.new.self) in
    let old = c.args.self.now in
    let was = with_counts old.disk_faults old.out_faults old.asks old.turns (replay first old.opened) in
    subst (λ desk. Trusts (OnDisk (LeftNow (with_counts desk.disk_faults desk.out_faults desk.asks desk.turns (replay first desk.opened)))) was
    (with_counts desk.disk_faults desk.out_faults desk.asks desk.turns (replay first desk.opened)))
    (sym c.pick_fault-in-Err-pick.ensures.same)
    (subst (λ desk. Trusts (OnDisk (LeftNow new)) (with_counts desk.disk_faults desk.out_faults desk.asks desk.turns (replay first desk.opened)) new)
    c.take_streams.ensures.same
    (c.pick.ensures.on_disk first mid.disk_faults end.disk_faults mid.out_faults mid.asks mid.turns c.pick_fault-in-Err-pick.ensures.no_fall))
