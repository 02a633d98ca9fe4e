use Rattle.std.proofs.Common.{◌≡◌, ℕ, ◌<◌, List, length, sym, ap, ◌∙◌, subst, arith}
use Rattle.tf_numbers.specs.Numbers.{has_number}
use Rattle.tf_model.specs.Plan.{outline_of, count}
use Rattle.tf_machine.specs.Counts.{AreDistinct, AreNumbers, after_turn, waiting_of, holding_of}
use Rattle.tf_machine.specs.Intervals.{AreApart}
use Rattle.tf_machine.proofs.CountLemmas.{waiting_moved, holding_moved, successors_distinct, predecessors_distinct, successors_below, predecessors_below}
use Rattle.tf_machine.proofs.RecordLemmas.{written_back}
use Rattle.tf_machine.proofs.IntervalLemmas.{successors_apart, predecessors_apart}
use Rattle.tf_machine.proofs.counters.Counters.follow.Goals as goal

pub turn_each-requires-clause-distinct : goal.turn_each-requires-clause-distinct
turn_each-requires-clause-distinct c = subst AreDistinct (sym c.successors.ensures.atoms) (successors_distinct (outline_of c.args.compiled.now) c.args.atom)

pub turn_each-requires-clause-apart : goal.turn_each-requires-clause-apart
turn_each-requires-clause-apart c = subst AreApart (sym c.successors.ensures.atoms) (successors_apart (outline_of c.args.compiled.now) c.args.atom)

pub turn_each-requires-clause-within : goal.turn_each-requires-clause-within
turn_each-requires-clause-within c = λ a is.
    subst (λ (n : ℕ). a < n) (sym (ap (λ (xs : List ℕ). length xs) c.deref_mut.ensures.value ∙ c.requires.waiting))
    (successors_below (outline_of c.args.compiled.now) c.args.atom a (ap (λ (atoms : List ℕ). has_number atoms a) (sym c.successors.ensures.atoms) ∙ is))

pub turn_each-requires-2-clause-distinct : goal.turn_each-requires-2-clause-distinct
turn_each-requires-2-clause-distinct c = subst AreDistinct (sym c.predecessors.ensures) (predecessors_distinct (outline_of c.args.compiled.now) c.args.atom)

pub turn_each-requires-2-clause-apart : goal.turn_each-requires-2-clause-apart
turn_each-requires-2-clause-apart c = subst AreApart (sym c.predecessors.ensures) (predecessors_apart (outline_of c.args.compiled.now) c.args.atom)

pub turn_each-requires-2-clause-within : goal.turn_each-requires-2-clause-within
turn_each-requires-2-clause-within c = λ a is.
    subst (λ (n : ℕ). a < n) (sym (ap (λ (xs : List ℕ). length xs) c.deref_mut-2.ensures.value ∙ c.requires.holding))
    (predecessors_below (outline_of c.args.compiled.now) c.args.atom a (ap (λ (atoms : List ℕ). has_number atoms a) (sym c.predecessors.ensures) ∙ is))

pub returns : goal.returns
returns c = λ s t counted was each.
    let before : List ℕ = c.args.self.now.waiting.items in
    let after : List ℕ = c.args.self.now.holding.items in
    let new_before : List ℕ = c.turn_each.new.counts in
    let new_after : List ℕ = c.turn_each-2.new.counts in
    let first_many : length new_before ≡ length before = c.turn_each.ensures.as_many ∙ ap (λ (xs : List ℕ). length xs) c.deref_mut.ensures.value in
    let second_many : length new_after ≡ length after = c.turn_each-2.ensures.as_many ∙ ap (λ (xs : List ℕ). length xs) c.deref_mut-2.ensures.value in
    let first_back = written_back c.args.self.now.waiting.len before new_before (ap (λ (xs : List ℕ). length xs) (sym c.deref_mut.ensures.value) ∙ c.deref_mut.ensures.len) first_many in
    let second_back = written_back c.args.self.now.holding.len after new_after (ap (λ (xs : List ℕ). length xs) (sym c.deref_mut-2.ensures.value) ∙ c.deref_mut-2.ensures.len) second_many in
    record {
      waiting = subst (AreNumbers (count (outline_of c.args.compiled.now)) (waiting_of (outline_of c.args.compiled.now) t)) (sym first_back)
          (waiting_moved (outline_of c.args.compiled.now) s t c.args.atom c.args.from c.args.to c.is_done.result c.is_done-2.result c.successors.result.now before new_before
          (omega (arith, c.atoms.ensures.count, c.atoms.ensures.few)) c.is_done.ensures c.is_done-2.ensures c.successors.ensures.atoms was each first_many
          (λ b. c.turn_each.ensures.each b ∙ ap (λ (xs : List ℕ). after_turn c.is_done.result c.is_done-2.result c.successors.result.now xs b) c.deref_mut.ensures.value) counted.waiting);
      holding = subst (AreNumbers (count (outline_of c.args.compiled.now)) (holding_of (outline_of c.args.compiled.now) t)) (sym second_back)
          (holding_moved (outline_of c.args.compiled.now) s t c.args.atom c.args.from c.args.to c.is_settled.result c.is_settled-2.result c.predecessors.result.now after new_after
          (omega (arith, c.atoms.ensures.count, c.atoms.ensures.few)) c.is_settled.ensures c.is_settled-2.ensures c.predecessors.ensures was each second_many
          (λ b. c.turn_each-2.ensures.each b ∙ ap (λ (xs : List ℕ). after_turn c.is_settled.result c.is_settled-2.result c.predecessors.result.now xs b) c.deref_mut-2.ensures.value) counted.holding);
    }
