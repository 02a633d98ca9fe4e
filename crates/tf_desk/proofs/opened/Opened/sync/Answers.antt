use Rattle.std.proofs.Common.{List, ◌∷◌, sym, ◌∙◌, ap, subst}
use Rattle.tf_trace.specs.Calls.{Call, synced}
use Rattle.tf_desk.specs.State.{Rests}
use Rattle.tf_desk.specs.Replay.{replay, WithCounts}
use Rattle.tf_desk.proofs.ReplaySteps.{synced_rests}
use Rattle.tf_desk.proofs.opened.Opened.sync.Goals as goal

pub returns-clause-rests : goal.returns-clause-rests
returns-clause-rests c first =
    let old = c.args.self.now in
    let calls = c.synced.ensures ∙ ap (λ (past : List Call). synced ∷ past) c.self.view_is in
    subst (λ (new : List Call). WithCounts Rests (replay first old) (replay first new)) (sym calls) (synced_rests first old)
