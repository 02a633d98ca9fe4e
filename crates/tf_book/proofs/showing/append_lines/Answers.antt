use Rattle.std.proofs.Common.{◌≡◌, ◌<◌, ◌≤◌, length, sym, ◌∙◌, ap, arith, List, ℕ}
use Rattle.tf_entries.specs.Entries.{entry_bytes}
use Rattle.tf_book.specs.Histories.{past_shown}
use Rattle.tf_book.proofs.ShowLemmas.{next_entry, begins_within, lines_none, lines_more, lines_all}
use Rattle.tf_book.proofs.showing.append_lines.Goals as goal

pub lines-init : goal.lines-init
lines-init c = lines_none c.args.plan.now (past_shown c.args.history.now.entries.items) c.args.out.now.items

pub body_at-body-requires : goal.body_at-body-requires
body_at-body-requires c =
    let more : c.lines.at < length c.deref.result.now = omega arith in
    let next = next_entry c.args.plan.now (past_shown c.args.history.now.entries.items) c.args.out.now.items c.lines.out.items c.deref.result.now c.lines.at c.lines.number (c.deref.ensures.value ∙ c.requires.bodies) c.requires.entries c.lines.invariant more in
    (entry_bytes next.entry, next.begins)

pub append_line-requires : goal.append_line-requires
append_line-requires c =
    let more : c.lines.at < length c.deref.result.now = omega arith in
    let next = next_entry c.args.plan.now (past_shown c.args.history.now.entries.items) c.args.out.now.items c.lines.out.items c.deref.result.now c.lines.at c.lines.number (c.deref.ensures.value ∙ c.requires.bodies) c.requires.entries c.lines.invariant more in
    (next.entry, next.is_entry, sym (c.body_at-body.ensures (entry_bytes next.entry) next.begins))

pub overflow_add-at-in-lines : goal.overflow_add-at-in-lines
overflow_add-at-in-lines c =
    let more : c.lines.at < length c.deref.result.now = omega arith in
    let next = next_entry c.args.plan.now (past_shown c.args.history.now.entries.items) c.args.out.now.items c.lines.out.items c.deref.result.now c.lines.at c.lines.number (c.deref.ensures.value ∙ c.requires.bodies) c.requires.entries c.lines.invariant more in
    let same : c.body_at-body.result.now ≡ entry_bytes next.entry = c.body_at-body.ensures (entry_bytes next.entry) next.begins in
    let within = begins_within c.deref.result.now (entry_bytes next.entry) c.lines.at next.begins in
    omega (arith, within, ap (λ (l : List ℕ). length l) same)

pub lines-preserved : goal.lines-preserved
lines-preserved c =
    let more : c.lines.at < length c.deref.result.now = omega arith in
    let next = next_entry c.args.plan.now (past_shown c.args.history.now.entries.items) c.args.out.now.items c.lines.out.items c.deref.result.now c.lines.at c.lines.number (c.deref.ensures.value ∙ c.requires.bodies) c.requires.entries c.lines.invariant more in
    let same : c.body_at-body.result.now ≡ entry_bytes next.entry = c.body_at-body.ensures (entry_bytes next.entry) next.begins in
    lines_more c.args.plan.now (past_shown c.args.history.now.entries.items) c.args.out.now.items c.lines.out.items c.deref.result.now c.body_at-body.result.now c.append_line.new.out.items c.lines.at c.lines.number c.lines.invariant next same
    (c.in_ok-append_line.ensures next.entry next.is_entry (sym same))

pub returns : goal.returns
returns c =
    let done : length c.args.history.now.bodies.items ≤ c.lines.at = omega (arith, c.args.history.now.bodies.ok) in
    lines_all c.args.plan.now (past_shown c.args.history.now.entries.items) c.args.out.now.items c.lines.out.items c.args.history.now.bodies.items c.lines.at c.lines.number c.requires.bodies c.lines.invariant done
