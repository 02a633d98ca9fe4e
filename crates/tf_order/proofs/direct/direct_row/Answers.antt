use Rattle.std.proofs.Common.{◌≡◌, ◌∙◌, ◌<◌, ℕ, List, sym, ap, arith}
use Rattle.tf_links.specs.Bits.{has}
use Rattle.tf_model.specs.Readiness.{last_item}
use Rattle.tf_model.specs.Plan.{last_flow}
use Rattle.tf_numbers.specs.Numbers.{which_below, has_number}
use Rattle.tf_order.specs.Tables.{plan_seen, atoms_found}
use Rattle.tf_order.proofs.DirectLemmas.{found_all, nothing_found, found_within}
use Rattle.tf_order.proofs.direct.direct_row.Goals as goal

pub returns-in_default : goal.returns-in_default
returns-in_default c = nothing_found c.args.outline.now c.args.a c.index.result.now c.new.result c.requires.atom c.index.ensures
    (ap last_flow (sym c.turns.ensures) ∙ c.in_default.ensures.flow) (ap last_item (sym c.turns.ensures) ∙ c.in_default.ensures.item) c.new.ensures

pub row_of-requires-clause-below : goal.row_of-requires-clause-below
row_of-requires-clause-below c k on =
    let within : k < atoms_found c.args.outline.now = found_within c.args.outline.now c.in-Some.from.flow c.args.tasks.now c.deref.result.now c.in_ok-found.found c.requires.tasks c.in_ok-found.ensures.found k on in
    omega (arith, within, c.len.ensures)

pub returns : goal.returns
returns c =
    let count : c.len.result ≡ atoms_found c.args.outline.now = omega (arith, c.len.ensures) in
    found_all c.args.outline.now c.args.a c.in-Some.from c.index.result.now c.args.tasks.now c.deref.result.now c.in_ok-found.found c.in_ok-row.row c.requires.atom c.index.ensures
    (ap last_flow (sym c.turns.ensures) ∙ c.in-Some.ensures.flow) (ap last_item (sym c.turns.ensures) ∙ c.in-Some.ensures.item) c.requires.tasks
    (λ v below. ap (λ (xs : List ℕ). has_number xs v) c.deref.ensures.value ∙ c.in_ok-items.ensures (plan_seen c.args.outline.now).flows c.requires.shows v below)
    c.in_ok-found.ensures.found (c.in_ok-row.ensures ∙ ap (λ (n : ℕ). which_below n (has c.in_ok-found.found)) count)
