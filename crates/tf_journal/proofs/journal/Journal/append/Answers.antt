use Rattle.std.proofs.Common.{◌+◌, true, inl, length, IsTrue, sym, ◌∙◌, subst, arith}
use Rattle.tf_desk.specs.State.{passes_none}
use Rattle.tf_desk.proofs.StateLemmas.{on_disk_told}
use Rattle.tf_journal.specs.Adding.{Adds, AddsAtMost, AddsToDraft, StaysDraft}
use Rattle.tf_journal.specs.Format.{Held, IsBody, IsAtRest, IsDrafted}
use Rattle.tf_journal.proofs.AppendLemmas.{appended_adds, appended_at_most, rest_leaves}
use Rattle.tf_journal.proofs.DraftLemmas.{draft_adds, draft_at_most, draft_stays}
use Rattle.tf_journal.proofs.journal.Journal.append.Goals as goal

pub returns-in-Ok-clause-adds : goal.returns-in-Ok-clause-adds
returns-in-Ok-clause-adds g c =
    let S = g.K.Desk.state in
    let p = c.self.inside in
    let view : Held g.row.K.Denot = record { desk = p.desk; title = p.title; size = p.size; halted = p.halted; volatile = p.volatile } in
    let new = c.write_gated.new.desk in
    let body = c.args.body.now in
    λ ready held rest.
    let told : IsTrue (S p.desk).tells = subst (λ (j : Held g.row.K.Denot). IsTrue (S j.desk).tells) (sym c.self.view_is) ready.told in
    let fit = subst (λ (j : Held g.row.K.Denot). IsBody j.title body) (sym c.self.view_is) c.requires.body in
    let before = subst (λ (j : Held g.row.K.Denot). IsAtRest {K = g.row.K.Denot} S j held) (sym c.self.view_is) rest in
    subst (λ (j : Held g.row.K.Denot). Adds {K = g.row.K.Denot} S body j (record view { desk = new; size = p.size + (5 + length body) }) held) c.self.view_is
    (appended_adds S view new held body c.deref.result.now before fit (omega arith) (c.deref.ensures.value ∙ c.fill.ensures.items)
    (c.in-Ok.ensures.written told) (c.in-Ok.ensures.durable told)
    (λ image text left. g.met.K.Desk.only_now new image text (on_disk_told c.write_gated.ensures.goes.on_disk told) left))

pub returns-in-Ok-clause-at_most : goal.returns-in-Ok-clause-at_most
returns-in-Ok-clause-at_most g c =
    let S = g.K.Desk.state in
    let p = c.self.inside in
    let view : Held g.row.K.Denot = record { desk = p.desk; title = p.title; size = p.size; halted = p.halted; volatile = p.volatile } in
    let new = c.write_gated.new.desk in
    let body = c.args.body.now in
    let next : Held g.row.K.Denot = record view { desk = new; size = p.size + (5 + length body) } in
    λ ready held rest.
    let told : IsTrue (S p.desk).tells = subst (λ (j : Held g.row.K.Denot). IsTrue (S j.desk).tells) (sym c.self.view_is) ready.told in
    let still : IsTrue (S new).tells = on_disk_told c.write_gated.ensures.goes.on_disk told in
    let fit = subst (λ (j : Held g.row.K.Denot). IsBody j.title body) (sym c.self.view_is) c.requires.body in
    let before = subst (λ (j : Held g.row.K.Denot). IsAtRest {K = g.row.K.Denot} S j held) (sym c.self.view_is) rest in
    subst (λ (j : Held g.row.K.Denot). AddsAtMost {K = g.row.K.Denot} S body j next held) c.self.view_is
    (appended_at_most S view next held body c.deref.result.now before fit (omega arith) (c.deref.ensures.value ∙ c.fill.ensures.items)
    (c.write_gated.ensures.goes.on_disk.crash told) (g.met.K.Desk.tells_shown new still)
    (λ start image text le now. g.met.K.Desk.counts_now new start image text still le now)
    (λ image text was. g.met.K.Desk.only_now p.desk image text told was))

pub returns-in-Err-clause-at_most : goal.returns-in-Err-clause-at_most
returns-in-Err-clause-at_most g c =
    let S = g.K.Desk.state in
    let p = c.self.inside in
    let view : Held g.row.K.Denot = record { desk = p.desk; title = p.title; size = p.size; halted = p.halted; volatile = p.volatile } in
    let new = c.write_gated.new.desk in
    let body = c.args.body.now in
    let next : Held g.row.K.Denot = record view { desk = new; halted = true } in
    λ ready held rest.
    let told : IsTrue (S p.desk).tells = subst (λ (j : Held g.row.K.Denot). IsTrue (S j.desk).tells) (sym c.self.view_is) ready.told in
    let still : IsTrue (S new).tells = on_disk_told c.write_gated.ensures.goes.on_disk told in
    let fit = subst (λ (j : Held g.row.K.Denot). IsBody j.title body) (sym c.self.view_is) c.requires.body in
    let before = subst (λ (j : Held g.row.K.Denot). IsAtRest {K = g.row.K.Denot} S j held) (sym c.self.view_is) rest in
    subst (λ (j : Held g.row.K.Denot). AddsAtMost {K = g.row.K.Denot} S body c.args.self.now j held) (sym c.halt.ensures.halted)
    (subst (λ (j : Held g.row.K.Denot). AddsAtMost {K = g.row.K.Denot} S body j next held) c.self.view_is
    (appended_at_most S view next held body c.deref.result.now before fit (omega arith) (c.deref.ensures.value ∙ c.fill.ensures.items)
    (c.write_gated.ensures.goes.on_disk.crash told) (g.met.K.Desk.tells_shown new still)
    (λ start image text le now. g.met.K.Desk.counts_now new start image text still le now)
    (λ image text was. g.met.K.Desk.only_now p.desk image text told was)))

pub returns-then-size-need-gt-SIZE_LIMIT-clause-at_most : goal.returns-then-size-need-gt-SIZE_LIMIT-clause-at_most
returns-then-size-need-gt-SIZE_LIMIT-clause-at_most g c =
    λ ready held rest. record { crash = passes_none; leaves = λ image left. inl (rest_leaves g.K.Desk.state c.args.self.now held rest image left) }

-- ---- a draft

pub returns-in-Ok-clause-drafts : goal.returns-in-Ok-clause-drafts
returns-in-Ok-clause-drafts g c =
    let S = g.K.Desk.state in
    let p = c.self.inside in
    let view : Held g.row.K.Denot = record { desk = p.desk; title = p.title; size = p.size; halted = p.halted; volatile = p.volatile } in
    let new = c.write_gated.new.desk in
    let body = c.args.body.now in
    λ ready held rest.
    let told : IsTrue (S p.desk).tells = subst (λ (j : Held g.row.K.Denot). IsTrue (S j.desk).tells) (sym c.self.view_is) ready.told in
    let fit = subst (λ (j : Held g.row.K.Denot). IsBody j.title body) (sym c.self.view_is) c.requires.body in
    let before = subst (λ (j : Held g.row.K.Denot). IsDrafted {K = g.row.K.Denot} S j held) (sym c.self.view_is) rest in
    subst (λ (j : Held g.row.K.Denot). AddsToDraft {K = g.row.K.Denot} S body j (record view { desk = new; size = p.size + (5 + length body) }) held) c.self.view_is
    (draft_adds S view new held body c.deref.result.now before fit (omega arith) (c.deref.ensures.value ∙ c.fill.ensures.items)
    (c.in-Ok.ensures.written told) (c.in-Ok.ensures.durable told))

pub returns-in-Ok-clause-unborn : goal.returns-in-Ok-clause-unborn
returns-in-Ok-clause-unborn g c =
    let S = g.K.Desk.state in
    let p = c.self.inside in
    let view : Held g.row.K.Denot = record { desk = p.desk; title = p.title; size = p.size; halted = p.halted; volatile = p.volatile } in
    let new = c.write_gated.new.desk in
    let body = c.args.body.now in
    let next : Held g.row.K.Denot = record view { desk = new; size = p.size + (5 + length body) } in
    λ ready held rest.
    let told : IsTrue (S p.desk).tells = subst (λ (j : Held g.row.K.Denot). IsTrue (S j.desk).tells) (sym c.self.view_is) ready.told in
    let still : IsTrue (S new).tells = on_disk_told c.write_gated.ensures.goes.on_disk told in
    let fit = subst (λ (j : Held g.row.K.Denot). IsBody j.title body) (sym c.self.view_is) c.requires.body in
    let before = subst (λ (j : Held g.row.K.Denot). IsDrafted {K = g.row.K.Denot} S j held) (sym c.self.view_is) rest in
    subst (λ (j : Held g.row.K.Denot). StaysDraft {K = g.row.K.Denot} S j next) c.self.view_is
    (draft_at_most S view next held body c.deref.result.now before fit (omega arith) (c.deref.ensures.value ∙ c.fill.ensures.items)
    (c.write_gated.ensures.goes.on_disk.crash told) (g.met.K.Desk.tells_shown new still)
    (λ start image text le now. g.met.K.Desk.counts_now new start image text still le now)
    (λ image text was. g.met.K.Desk.only_now p.desk image text told was))

pub returns-in-Err-clause-unborn : goal.returns-in-Err-clause-unborn
returns-in-Err-clause-unborn g c =
    let S = g.K.Desk.state in
    let p = c.self.inside in
    let view : Held g.row.K.Denot = record { desk = p.desk; title = p.title; size = p.size; halted = p.halted; volatile = p.volatile } in
    let new = c.write_gated.new.desk in
    let body = c.args.body.now in
    let next : Held g.row.K.Denot = record view { desk = new; halted = true } in
    λ ready held rest.
    let told : IsTrue (S p.desk).tells = subst (λ (j : Held g.row.K.Denot). IsTrue (S j.desk).tells) (sym c.self.view_is) ready.told in
    let still : IsTrue (S new).tells = on_disk_told c.write_gated.ensures.goes.on_disk told in
    let fit = subst (λ (j : Held g.row.K.Denot). IsBody j.title body) (sym c.self.view_is) c.requires.body in
    let before = subst (λ (j : Held g.row.K.Denot). IsDrafted {K = g.row.K.Denot} S j held) (sym c.self.view_is) rest in
    subst (λ (j : Held g.row.K.Denot). StaysDraft {K = g.row.K.Denot} S c.args.self.now j) (sym c.halt.ensures.halted)
    (subst (λ (j : Held g.row.K.Denot). StaysDraft {K = g.row.K.Denot} S j next) c.self.view_is
    (draft_at_most S view next held body c.deref.result.now before fit (omega arith) (c.deref.ensures.value ∙ c.fill.ensures.items)
    (c.write_gated.ensures.goes.on_disk.crash told) (g.met.K.Desk.tells_shown new still)
    (λ start image text le now. g.met.K.Desk.counts_now new start image text still le now)
    (λ image text was. g.met.K.Desk.only_now p.desk image text told was)))

pub returns-then-size-need-gt-SIZE_LIMIT-clause-unborn : goal.returns-then-size-need-gt-SIZE_LIMIT-clause-unborn
returns-then-size-need-gt-SIZE_LIMIT-clause-unborn g c =
    λ ready held rest. record { crash = passes_none; leaves = draft_stays g.K.Desk.state c.args.self.now held rest }
