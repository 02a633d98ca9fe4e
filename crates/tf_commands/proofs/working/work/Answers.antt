use Rattle.std.proofs.Common.{◌≡◌, ◌+◌, length, map, vec_len, refl, inr, arith}
use Rattle.std.specs.List.{AllByRecursion}
use Rattle.tf_ports.specs.Ports.{IsFresh}
use Rattle.tf_ports.specs.declared.crews.Want.TheVariants as want
use Rattle.tf_commands.specs.Messages.{unhired, unhired_memory}
use Rattle.tf_commands.proofs.WantLemmas.{near_count, near_fresh}
use Rattle.tf_commands.proofs.WorkLemmas.{fresh_alone, back_alone, here_hires}
use Rattle.tf_commands.proofs.working.work.Goals as goal

pub returns-in-Some-clause-works : goal.returns-in-Some-clause-works
returns-in-Some-clause-works g c =
    let hands = c.in-Ok-Local.hands in
    let hand = c.in-Some.hand in
    let fresh : AllByRecursion IsFresh (map g.W.Hand.Performer.did hands.items) =
    near_fresh g.W.Hand.Performer.did g.W.Far.Performer.did c.in-Ok-Local.field-0 hands c.in-Ok-Local.field-0-is c.in-Ok-Local.ensures.fresh in
    let one : vec_len hands ≡ 1 = near_count (want.Local 1) c.in-Ok-Local.field-0 hands c.in-Ok-Local.field-0-is c.in-Ok-Local.ensures.all in
    let less : vec_len c.pop.new.self + 1 ≡ vec_len hands = c.in-Some.ensures.cases in
    let none : length c.pop.new.self.items ≡ 0 = omega (arith, one, less, c.pop.new.self.ok.0) in
    c.listen_and_serve-status.ensures.works (g.W.Crew.told c.args.crew.now) (g.W.Crew.told c.dismiss.new.self)
    (fresh_alone g.W.Hand.Performer.did hands.items c.pop.new.self.items hand c.in-Some.ensures.items fresh)
    (back_alone g.W.Hand.Performer.did (g.W.Crew.told c.args.crew.now) (g.W.Crew.told c.hire.new.self) (g.W.Crew.told c.dismiss.new.self) c.pop.new.self.items c.push_reserved.new.self.items c.listen_and_serve-status.new.hand
    c.in-Ok-Local.ensures.hired c.dismiss.ensures.back none c.push_reserved.ensures.items)

pub returns-in-Some-clause-hires : goal.returns-in-Some-clause-hires
returns-in-Some-clause-hires g c =
    let hands = c.in-Ok-Local.hands in
    let one : vec_len hands ≡ 1 = near_count (want.Local 1) c.in-Ok-Local.field-0 hands c.in-Ok-Local.field-0-is c.in-Ok-Local.ensures.all in
    let less : vec_len c.pop.new.self + 1 ≡ vec_len hands = c.in-Some.ensures.cases in
    let none : length c.pop.new.self.items ≡ 0 = omega (arith, one, less, c.pop.new.self.ok.0) in
    inr (here_hires
    (back_alone g.W.Hand.Performer.did (g.W.Crew.told c.args.crew.now) (g.W.Crew.told c.hire.new.self) (g.W.Crew.told c.dismiss.new.self) c.pop.new.self.items c.push_reserved.new.self.items c.listen_and_serve-status.new.hand
    c.in-Ok-Local.ensures.hired c.dismiss.ensures.back none c.push_reserved.ensures.items))

pub returns-in-Err-Failed-clause-works : goal.returns-in-Err-Failed-clause-works
returns-in-Err-Failed-clause-works g c = unhired c.in-Err-Failed.ensures.not_hired refl c.close.ensures.closes

pub returns-in-Err-Memory-clause-works : goal.returns-in-Err-Memory-clause-works
returns-in-Err-Memory-clause-works g c = unhired_memory c.in-Err-Memory.ensures.not_hired refl refl refl
