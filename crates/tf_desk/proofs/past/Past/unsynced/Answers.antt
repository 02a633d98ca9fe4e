use Rattle.std.proofs.Common.{◌≤◌, List, length, reverse, sym, ◌∙◌, ap, arith}
use Rattle.std.proofs.lemmas.List.{length-reverse}
use Rattle.tf_desk.specs.Acts.{Act}
use Rattle.tf_desk.specs.Crashed.{acts_at, ends_in_sync, notes_sync}
use Rattle.tf_desk.proofs.LogLemmas.{length-acts_of, sync_last, unsynced_yes, unsynced_no, unsynced_none}
use Rattle.tf_desk.proofs.past.Past.unsynced.Goals as goal
use Rattle.tf_desk.proofs.past.Past.unsynced.Goals.{else-began-ended-via-then-began-ended+else-is_sync, else-began-ended-via-else-began-ended}

pub index-requires : goal.index-requires
index-requires c =
    let p = c.self.inside in
    omega (arith, c.requires, ap length (sym c.self.view_is), length-acts_of (reverse p.log.items) p.written.items p.shown.items, length-reverse p.log.items, p.log.ok.0)

pub returns-then-is_sync : goal.returns-then-is_sync
returns-then-is_sync c =
    let p = c.self.inside in
    let within : c.args.ended ≤ length p.log.items = omega (arith, c.requires, ap length (sym c.self.view_is), length-acts_of (reverse p.log.items) p.written.items p.shown.items, length-reverse p.log.items) in
    let last = ap (λ (past : List Act). ends_in_sync (acts_at past c.args.ended)) (sym c.self.view_is)
    ∙ sync_last p.log.items p.written.items p.shown.items c.args.ended c.index.result.now c.self.invariant.wrote c.self.invariant.said (omega arith) within in
    let told = ap notes_sync (sym c.index.ensures) ∙ sym c.is_sync.ensures ∙ c.if-is_sync.true in
    sym (unsynced_yes c.args.self.now c.args.began c.args.ended (omega arith) (last ∙ told))

pub returns : goal.returns
returns c =
    let p = c.self.inside in
    let within : c.args.ended ≤ length p.log.items = omega (arith, c.requires, ap length (sym c.self.view_is), length-acts_of (reverse p.log.items) p.written.items p.shown.items, length-reverse p.log.items) in
    elim c.else-began-ended.branch [
      | else-began-ended-via-then-began-ended+else-is_sync w ↦
          let some = w.if-began-ended.true in
          let last = ap (λ (past : List Act). ends_in_sync (acts_at past c.args.ended)) (sym c.self.view_is)
          ∙ sync_last p.log.items p.written.items p.shown.items c.args.ended w.index.result.now c.self.invariant.wrote c.self.invariant.said (omega (arith, some)) within in
          sym (unsynced_no c.args.self.now c.args.began c.args.ended (last ∙ ap notes_sync (sym w.index.ensures) ∙ sym w.is_sync.ensures ∙ w.if-is_sync.false))
      | else-began-ended-via-else-began-ended w ↦ sym (unsynced_none c.args.self.now c.args.began c.args.ended w.if-began-ended.false)
    ]
