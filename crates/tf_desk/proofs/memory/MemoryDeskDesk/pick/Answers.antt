use Rattle.std.proofs.Common.{refl, ◌∙◌}
use Rattle.tf_desk.specs.contracts.memory.MemoryDesk.{the_view}
use Rattle.tf_desk.proofs.StateLemmas.{trusts_of}
use Rattle.tf_desk.proofs.ActSteps.{picked_on_disk, unpicked_on_disk}
use Rattle.tf_desk.proofs.memory.MemoryDeskDesk.pick.Goals as goal
use Rattle.tf_desk.proofs.memory.MemoryDeskDesk.pick.Goals.{in-Ok, in-Err}

pub returns-clause-on_disk : goal.returns-clause-on_disk
returns-clause-on_disk c =
    let same = c.self.view_is ∙ c.fails.ensures.same in
    elim c.match-pick.branch [
      | in-Ok w ↦ trusts_of refl (picked_on_disk c.args.self.now (the_view c.self.inside) c.pick.new.self c.fails.new.self.began c.args.name.now same w.in-Ok.ensures.ok)
      | in-Err w ↦ trusts_of refl (unpicked_on_disk c.args.self.now (the_view c.self.inside) c.pick.new.self c.fails.new.self.began same w.in-Err.ensures.err)
    ]
