use Rattle.std.proofs.Common.{◌∙◌}
use Rattle.tf_desk.proofs.ActSteps.{synced_rests}
use Rattle.tf_desk.specs.contracts.memory.MemoryDesk.{the_view}
use Rattle.tf_desk.proofs.memory.MemoryDeskDesk.sync.Goals as goal

pub returns-clause-rests : goal.returns-clause-rests
returns-clause-rests c =
    synced_rests c.args.self.now (the_view c.self.inside) c.sync.new.self c.fails.new.self.began (c.self.view_is ∙ c.fails.ensures.same) (c.sync.ensures.noted c.if-not-sync.false)
