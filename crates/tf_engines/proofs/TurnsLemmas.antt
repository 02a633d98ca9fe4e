-- Turns of hands, one after another: whose turn it is, and what a turn more makes of them.
use Rattle.std.proofs.Common.{◌≡◌, ℕ, suc, ◌<◌, ◌≤◌, ◌+◌, ◌-◌, ◌*◌, ◌/◌, ◌%◌, Bool, true, if◌then◌else◌, List, length, slice_index_or, refl, sym, ◌∙◌, ap, subst, arith}
use Rattle.std.proofs.lemmas.Bool.{lt-ltb, le-ltb}
use Rattle.std.proofs.lemmas.Nat.{mod-mul-add, div-add-mod'}
use Rattle.std.proofs.Math.Nat.{add-mod_right, zero-mod}
use Rattle.tf_states.specs.declared.record.Entry.{Entry}
use Rattle.tf_model.specs.Plan.{Outline}
use Rattle.tf_engines.specs.Shared.{entered_past}
use Rattle.tf_engines.specs.Taking.{hand_at, AreTurns, IsRoundAt, IsTurnBy, RanByTurns, took_turns, TakesTurns}
use Rattle.tf_engines.specs.Working.{IsAdded}
use Rattle.tf_engines.proofs.NextLemmas.{add_same}

-- ---- whose turn it is

picked_at : (picks : List ℕ) (count turn : ℕ) → turn < length picks → hand_at picks count turn ≡ slice_index_or picks turn 0 % count
picked_at picks count turn below = ap (λ (b : Bool). if b then slice_index_or picks turn 0 % count else (turn - length picks) % count) (lt-ltb turn (length picks) below)

behind_at : (picks : List ℕ) (count turn : ℕ) → length picks ≤ turn → hand_at picks count turn ≡ (turn - length picks) % count
behind_at picks count turn behind = ap (λ (b : Bool). if b then slice_index_or picks turn 0 % count else (turn - length picks) % count) (le-ltb turn (length picks) behind)

whole_rounds : (n count : ℕ) → n % count ≡ 0 → n ≡ n / count * count
whole_rounds n count even = sym (div-add-mod' n count) ∙ ap (λ (r : ℕ). n / count * count + r) even ∙ omega arith

round_at : (picks : List ℕ) (count turns number : ℕ) → length picks ≤ turns → (turns - length picks) % count ≡ 0 → number < count → hand_at picks count (turns + number) ≡ number
round_at picks count turns number behind even below =
    let n : ℕ = turns - length picks in
    let same : turns + number - length picks ≡ n + number = omega (arith, behind) in
    behind_at picks count (turns + number) (omega (arith, behind)) ∙ ap (λ (k : ℕ). k % count) (same ∙ ap (λ (k : ℕ). k + number) (whole_rounds n count even))
    ∙ mod-mul-add (n / count) count number below

next_round : (picks : List ℕ) (count turns : ℕ) → length picks ≤ turns → (turns - length picks) % count ≡ 0 → (turns + count - length picks) % count ≡ 0
next_round picks count turns behind even =
    let same : turns + count - length picks ≡ turns - length picks + count = omega (arith, behind) in
    ap (λ (k : ℕ). k % count) same ∙ add-mod_right (turns - length picks) count ∙ even

-- ---- a turn more

module _ (plan : Outline) (picks : List ℕ) (count : ℕ) where
  one_more : (turns : ℕ) (past between after : List Entry) → AreTurns plan picks count turns past between → IsTurnBy plan (hand_at picks count turns) between after
      → AreTurns plan picks count (turns + 1) past after
  one_more turns past between after are this =
      let more : suc turns ≡ turns + 1 = omega arith in
      subst (λ (n : ℕ). AreTurns plan picks count n past after) more (between, are, this)

  -- by the hand that is picked
  pub picked_more : (turn hand : ℕ) (past between after : List Entry) → turn < length picks → hand ≡ slice_index_or picks turn 0 % count → AreTurns plan picks count turn past between → IsTurnBy plan hand between after
      → AreTurns plan picks count (turn + 1) past after
  picked_more turn hand past between after below is are this =
      one_more turn past between after are (subst (λ (h : ℕ). IsTurnBy plan h between after) (is ∙ sym (picked_at picks count turn below)) this)

  pub picked_last : (turn hand : ℕ) (past between after : List Entry) → turn < length picks → hand ≡ slice_index_or picks turn 0 % count → AreTurns plan picks count turn past between → IsAdded hand between after
      → TakesTurns plan picks count past after
  picked_last turn hand past between after below is are this =
      record { turns = turn; between = between; are = are; last = subst (λ (h : ℕ). IsAdded h between after) (is ∙ sym (picked_at picks count turn below)) this }

  -- in a round
  pub round_more : (number : ℕ) (first past between after : List Entry) (r : IsRoundAt plan picks count first past) → number < count → AreTurns plan picks count (r.turns + number) first between → IsTurnBy plan number between after
      → AreTurns plan picks count (r.turns + (number + 1)) first after
  round_more number first past between after r below are this =
      let more : r.turns + number + 1 ≡ r.turns + (number + 1) = omega arith in
      subst (λ (n : ℕ). AreTurns plan picks count n first after) more
      (one_more (r.turns + number) first between after are (subst (λ (h : ℕ). IsTurnBy plan h between after) (sym (round_at picks count r.turns number r.behind r.even below)) this))

  pub round_last : (number : ℕ) (first past between after : List Entry) (r : IsRoundAt plan picks count first past) → number < count → AreTurns plan picks count (r.turns + number) first between → IsAdded number between after
      → TakesTurns plan picks count first after
  round_last number first past between after r below are this =
      record { turns = r.turns + number; between = between; are = are; last = subst (λ (h : ℕ). IsAdded h between after) (sym (round_at picks count r.turns number r.behind r.even below)) this }

  pub round_over : (first past after : List Entry) (r : IsRoundAt plan picks count first past) → AreTurns plan picks count (r.turns + count) first after → IsRoundAt plan picks count first after
  round_over first past after r are = record { turns = r.turns + count; behind = omega (arith, r.behind); even = next_round picks count r.turns r.behind r.even; are = are }

  -- before a round's first turn
  pub round_begun : (first past : List Entry) (r : IsRoundAt plan picks count first past) → AreTurns plan picks count (r.turns + 0) first past
  round_begun first past r =
      let same : r.turns ≡ r.turns + 0 = omega arith in
      subst (λ (n : ℕ). AreTurns plan picks count n first past) same r.are

  pub rounds_begin : (first after : List Entry) → AreTurns plan picks count (length picks) first after → IsRoundAt plan picks count first after
  rounds_begin first after are = record { turns = length picks; behind = omega arith; even = ap (λ (k : ℕ). k % count) (omega arith) ∙ zero-mod count; are = are }

  -- ---- a run

  -- no turn was taken
  pub no_turn : (past after : List Entry) → after ≡ past → TakesTurns plan picks count past after
  no_turn past after same = record { turns = 0; between = past; are = refl; last = add_same (hand_at picks count 0) past after same }

  pub ran_so : (before past after : List Entry) → past ≡ entered_past before → TakesTurns plan picks count past after → RanByTurns plan picks count before after
  ran_so before past after fresh taken = took_turns (subst (λ (l : List Entry). TakesTurns plan picks count l after) fresh taken)
