use Rattle.std.proofs.Common.{◌≡◌, ℕ, ◌/◌, List, ◌∷◌, length, take, IsSome, ◌∙◌, ap, subst, arith, length-take}
use Rattle.tf_desk.specs.MemoryDesk.{Held}
use Rattle.tf_desk.specs.Acts.{Act, wrote, picked_after}
use Rattle.tf_desk.specs.contracts.memory.MemoryDesk.{the_view}
use Rattle.tf_desk.proofs.ActSteps.{wrote_tears}
use Rattle.tf_desk.proofs.memory.MemoryDeskDesk.write_at.Goals as goal

pub returns-then-fails-clause-tears : goal.returns-then-fails-clause-tears
returns-then-fails-clause-tears c =
    let before : c.self.inside.past ≡ c.args.self.now.past = ap (λ (h : Held). h.past) (c.self.view_is ∙ c.fails-fails.ensures.same) in
    let after : c.disk_fault-then-fails.new.self.past ≡ c.write.new.self = ap (λ (h : Held). h.past) c.disk_fault-then-fails.ensures.same in
    let half : List ℕ = take (length c.args.bytes.now / 2) c.args.bytes.now in
    λ told. wrote_tears c.args.self.now c.disk_fault-then-fails.new.self c.args.at (length c.args.bytes.now) half c.write.result (omega (arith, length-take {A = ℕ}))
    (λ noted. after ∙ c.write.ensures.noted noted ∙ ap (λ (p : List Act). wrote c.args.at half ∷ p) before)
    (λ noted. subst (λ (p : List Act). IsSome (picked_after p)) before (c.write.ensures.has_file noted))
    (λ noted. after ∙ c.write.ensures.unchanged noted ∙ before)

pub returns-clause-tears : goal.returns-clause-tears
returns-clause-tears c =
    let before : c.self.inside.past ≡ c.args.self.now.past = ap (λ (h : Held). h.past) (c.self.view_is ∙ c.fails-fails.ensures.same) in
    let all : List ℕ = c.args.bytes.now in
    λ told. wrote_tears c.args.self.now (record (the_view c.self.inside) { past = c.write-2.new.self }) c.args.at (length all) all c.write-2.result (omega arith)
    (λ noted. c.write-2.ensures.noted noted ∙ ap (λ (p : List Act). wrote c.args.at all ∷ p) before)
    (λ noted. subst (λ (p : List Act). IsSome (picked_after p)) before (c.write-2.ensures.has_file noted))
    (λ noted. c.write-2.ensures.unchanged noted ∙ before)
