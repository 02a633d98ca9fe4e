use Rattle.std.proofs.Common.{◌≡◌, ℕ, List, [], ap, subst}
use Rattle.tf_desk.specs.Crashed.{acts_at, struck_at, IsTornDesk}
use Rattle.tf_desk.specs.MemoryDesk.{Held}
use Rattle.tf_desk.proofs.LeavesLemmas.{crashed_desk}
use Rattle.tf_desk.proofs.memory.MemoryDesk.crashed.Goals as goal

pub returns : goal.returns
returns c =
    let past = c.in_ok-crashed.field-0 in
    let old = c.args.self.now in
    let new : Held = record { past = past; began = c.in_ok-with_capacity.field-0.items; disk_faults = 0; out_faults = 0; asks = 0; turns = 0 } in
    let fresh : new ≡ record { past = past; began = []; disk_faults = 0; out_faults = 0; asks = 0; turns = 0 } =
    ap (λ (began : List ℕ). record { past = past; began = began; disk_faults = 0; out_faults = 0; asks = 0; turns = 0 }) c.in_ok-with_capacity.ensures.items in
    crashed_desk c.args.torn c.args.call old new
    (subst (λ (held : Held). IsTornDesk c.args.torn (acts_at held.past (struck_at c.args.torn old c.args.call)) past) c.self.view_is
    (subst (λ (moment : ℕ). IsTornDesk c.args.torn (acts_at c.self.inside.past moment) past) c.struck-moment.ensures c.in_ok-crashed.ensures))
    fresh
