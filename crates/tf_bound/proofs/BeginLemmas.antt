-- Where a retry controller begins another attempt, what its flow owes anew is less than what it owes no more.
use Rattle.std.proofs.Common.{◌≡◌, ◌≢◌, ℕ, ◌+◌, ◌-◌, ◌*◌, ◌<◌, ◌≤◌, Bool, true, false, ◌&&◌, refl, sym, ap, ◌∙◌, inl, inr, subst, eq-eqb, arith}
use Rattle.std.specs.Prelude.{is_none, nat_eq}
use Rattle.std.proofs.Math.Nat.{mul-le-mul_right}
use Rattle.tf_states.specs.declared.state.AtomState.{AtomState}
use Rattle.tf_states.specs.declared.state.AtomState.TheVariants as atom
use Rattle.tf_model.specs.Plan.{Outline, count, is_retry, is_task, own_flow}
use Rattle.tf_model.specs.History.{Snapshot, is_at_work, is_pending, is_success, is_retrying, is_settled}
use Rattle.tf_model.specs.Readiness.{is_unmarked}
use Rattle.tf_model.specs.Forced.{holds_with, is_of_its_flow, is_interrupted}
use Rattle.tf_numbers.proofs.TruthLemmas.{and_second, clash, not_true}
use Rattle.tf_numbers.proofs.NumberLemmas.{same_or_other}
use Rattle.tf_bound.specs.Costs.{tries_at, most_with, sum_below, where_passes}
use Rattle.tf_bound.specs.Owed.{held, owed_with, turn, left_with}
use Rattle.tf_bound.specs.Kept.{IsGuarded, IsCounted}
use Rattle.tf_bound.proofs.SumLemmas.{where_fails, sum_at_most, sum_falls, sum_splits}
use Rattle.tf_bound.proofs.RoomLemmas.{IsWeighed}
use Rattle.tf_bound.proofs.OwedLemmas.{free_in, free, owed_if_free, owed_at_most, Moves, stays_held, unsettled_free, others_stay}

-- ---- no atom owes more than its life

life_in : (x : AtomState) (unmarked interrupted : Bool) (tries made attempt : ℕ) → (is_pending x ≡ true → interrupted ≡ false) → (is_success x ≡ true → 1 ≤ made) → (is_retrying x ≡ true → 1 ≤ made)
    → free_in x unmarked interrupted tries made attempt ≤ (tries - 1) * attempt + 6
life_in atom.Pending unmarked true tries made attempt stopped success retrying = let no : true ≡ false = stopped refl in absurd (cc)
life_in atom.Pending unmarked false tries made attempt stopped success retrying = omega arith
life_in atom.Running unmarked true tries made attempt stopped success retrying = let fewer : (tries - 1 - made) * attempt ≤ (tries - 1) * attempt = mul-le-mul_right attempt (omega arith) in omega (arith, fewer)
life_in atom.Running unmarked false tries made attempt stopped success retrying = let fewer : (tries - 1 - made) * attempt ≤ (tries - 1) * attempt = mul-le-mul_right attempt (omega arith) in omega (arith, fewer)
life_in atom.Success unmarked true tries made attempt stopped success retrying =
    let some : 1 ≤ made = success refl in let fewer : (tries - made) * attempt ≤ (tries - 1) * attempt = mul-le-mul_right attempt (omega (arith, some)) in omega (arith, fewer)
life_in atom.Success unmarked false tries made attempt stopped success retrying =
    let some : 1 ≤ made = success refl in let fewer : (tries - made) * attempt ≤ (tries - 1) * attempt = mul-le-mul_right attempt (omega (arith, some)) in omega (arith, fewer)
life_in atom.Retrying unmarked true tries made attempt stopped success retrying =
    let some : 1 ≤ made = retrying refl in let fewer : (tries - made) * attempt ≤ (tries - 1) * attempt = mul-le-mul_right attempt (omega (arith, some)) in omega (arith, fewer)
life_in atom.Retrying unmarked false tries made attempt stopped success retrying =
    let some : 1 ≤ made = retrying refl in let fewer : (tries - made) * attempt ≤ (tries - 1) * attempt = mul-le-mul_right attempt (omega (arith, some)) in omega (arith, fewer)
life_in atom.Failure true true tries made attempt stopped success retrying = omega arith
life_in atom.Failure true false tries made attempt stopped success retrying = omega arith
life_in atom.Failure false true tries made attempt stopped success retrying = omega arith
life_in atom.Failure false false tries made attempt stopped success retrying = omega arith
life_in x unmarked true tries made attempt stopped success retrying = omega arith
life_in x unmarked false tries made attempt stopped success retrying = omega arith

-- a PENDING atom isn't interrupted
pending_flying : (x : AtomState) (task idle : Bool) → is_pending x ≡ true → task && (is_at_work x && idle) ≡ false
pending_flying atom.Pending true idle is = refl
pending_flying atom.Pending false idle is = refl
pending_flying x task idle is = absurd (cc)

-- an atom owes at most its life
pub life_at_most : (plan : Outline) (attempt : ℕ → ℕ) (s : Snapshot) (a : ℕ) → (is_success (s.state a) ≡ true → 1 ≤ s.attempts a) → (is_retrying (s.state a) ≡ true → 1 ≤ s.attempts a)
    → owed_with plan attempt s a ≤ most_with plan attempt a
life_at_most plan attempt s a success retrying =
    let less : owed_with plan attempt s a ≤ free plan attempt s a = owed_at_most plan attempt s a in
    let most : free plan attempt s a ≤ most_with plan attempt a
    = life_in (s.state a) (is_unmarked s a) (is_interrupted plan s a) (tries_at plan a) (s.attempts a) (attempt a) (λ pending. pending_flying (s.state a) (is_task plan a) (is_none (s.hand a)) pending) success retrying in
    omega (arith, less, most)

-- the same of every atom where what is SUCCESS or RETRYING made an attempt
pub owed_capped : (plan : Outline) (attempt : ℕ → ℕ) (s : Snapshot) (a : ℕ) → IsCounted plan s → owed_with plan attempt s a ≤ most_with plan attempt a
owed_capped plan attempt s a counted = life_at_most plan attempt s a (counted.success a) (λ retrying. (counted.retrying a retrying).made)

-- ---- RETRYING to RUNNING

-- of its flow is another atom than the retry controller itself
pub not_itself : (plan : Outline) (r a : ℕ) → is_of_its_flow plan r a ≡ true → a ≢ r
not_itself plan r a is same = clash (nat_eq a r) (eq-eqb a r same) (not_true (nat_eq a r) (and_second (holds_with plan (own_flow plan r) a) _ is))

passes_at_most : (b : Bool) (x y : ℕ) → (b ≡ true → x ≤ y) → where_passes b x ≤ where_passes b y
passes_at_most true x y is = is refl
passes_at_most false x y is = omega arith

fails_at_most : (b : Bool) (x y : ℕ) → (b ≡ false → x ≤ y) → where_fails b x ≤ y
fails_at_most true x y is = omega arith
fails_at_most false x y is = is refl

-- in the retry controller's own number, one attempt is begun
begun_falls : (tries made attempt : ℕ) (was now : ℕ) → made < tries → was ≡ 2 + (tries - made) * attempt → now ≤ 5 + (tries - 1 - made) * attempt → now + attempt ≤ was + 3
begun_falls tries made attempt was now fewer is less =
    let one : tries - made ≡ (tries - 1 - made) + 1 = omega (arith, fewer) in
    let all : (tries - made) * attempt ≡ ((tries - 1 - made) + 1) * attempt = ap (λ (n : ℕ). n * attempt) one in
    omega (arith, all, is, less)

own_begins : (plan : Outline) (attempt : ℕ → ℕ) (s t : Snapshot) (r : ℕ) → Moves plan s t r atom.Running → s.state r ≡ atom.Retrying → held plan s r ≡ false → is_interrupted plan s r ≡ false → s.attempts r < tries_at plan r
    → owed_with plan attempt t r + attempt r ≤ owed_with plan attempt s r + 3
own_begins plan attempt s t r move was isnt flying fewer =
    let before : owed_with plan attempt s r ≡ free plan attempt s r = owed_if_free plan attempt s r isnt in
    let state : free plan attempt s r ≡ free_in atom.Retrying (is_unmarked s r) (is_interrupted plan s r) (tries_at plan r) (s.attempts r) (attempt r)
    = ap (λ (x : AtomState). free_in x (is_unmarked s r) (is_interrupted plan s r) (tries_at plan r) (s.attempts r) (attempt r)) was in
    let quiet : free_in atom.Retrying (is_unmarked s r) (is_interrupted plan s r) (tries_at plan r) (s.attempts r) (attempt r) ≡ free_in atom.Retrying (is_unmarked s r) false (tries_at plan r) (s.attempts r) (attempt r)
    = ap (λ (i : Bool). free_in atom.Retrying (is_unmarked s r) i (tries_at plan r) (s.attempts r) (attempt r)) flying in
    let now : owed_with plan attempt t r ≤ free plan attempt t r = owed_at_most plan attempt t r in
    let running : free plan attempt t r ≡ free_in atom.Running (is_unmarked t r) (is_interrupted plan t r) (tries_at plan r) (t.attempts r) (attempt r)
    = ap (λ (x : AtomState). free_in x (is_unmarked t r) (is_interrupted plan t r) (tries_at plan r) (t.attempts r) (attempt r)) move.state in
    let flown : free_in atom.Running (is_unmarked t r) (is_interrupted plan t r) (tries_at plan r) (t.attempts r) (attempt r) ≡ free_in atom.Running (is_unmarked t r) false (tries_at plan r) (t.attempts r) (attempt r)
    = ap (λ (i : Bool). free_in atom.Running (is_unmarked t r) i (tries_at plan r) (t.attempts r) (attempt r)) move.flying in
    let made : free_in atom.Running (is_unmarked t r) false (tries_at plan r) (t.attempts r) (attempt r) ≡ free_in atom.Running (is_unmarked t r) false (tries_at plan r) (s.attempts r) (attempt r)
    = ap (λ (m : ℕ). free_in atom.Running (is_unmarked t r) false (tries_at plan r) m (attempt r)) move.attempts in
    begun_falls (tries_at plan r) (s.attempts r) (attempt r) (owed_with plan attempt s r) (owed_with plan attempt t r) fewer (omega (arith, before, state, quiet)) (omega (arith, now, running, flown, made))

not_at_work : (x : AtomState) (task idle : Bool) → x ≡ atom.Retrying → task && (is_at_work x && idle) ≡ false
not_at_work atom.Retrying true idle is = refl
not_at_work atom.Retrying false idle is = refl
not_at_work x task idle is = absurd (cc)

pub begins_falls : (plan : Outline) (attempt : ℕ → ℕ) (s t : Snapshot) (r : ℕ) → IsWeighed plan attempt → IsGuarded plan s → IsCounted plan s → r < count plan → is_retry plan r ≡ true → s.state r ≡ atom.Retrying
    → Moves plan s t r atom.Running → ((b : ℕ) → b ≢ r → is_of_its_flow plan r b ≡ false → is_unmarked t b ≡ true → is_unmarked s b ≡ true)
    → left_with plan attempt t < left_with plan attempt s
begins_falls plan attempt s t r weighed guarded counted below retry was move marks =
    let inside : ℕ → Bool = is_of_its_flow plan r in
    let isnt : held plan s r ≡ false = unsettled_free plan s r guarded (ap is_settled was) in
    let own : owed_with plan attempt t r + attempt r ≤ owed_with plan attempt s r + 3
    = own_begins plan attempt s t r move was isnt (not_at_work (s.state r) (is_task plan r) (is_none (s.hand r)) was) (counted.retrying r (ap is_retrying was)).fewer in
    let parts : sum_below (count plan) (owed_with plan attempt t) ≡ sum_below (count plan) (λ a. where_passes (inside a) (owed_with plan attempt t a)) + sum_below (count plan) (λ a. where_fails (inside a) (owed_with plan attempt t a))
    = sum_splits (count plan) inside (owed_with plan attempt t) in
    let capped : sum_below (count plan) (λ a. where_passes (inside a) (owed_with plan attempt t a)) ≤ sum_below (count plan) (λ a. where_passes (inside a) (most_with plan attempt a))
    = sum_at_most (count plan) (λ a. where_passes (inside a) (owed_with plan attempt t a)) (λ a. where_passes (inside a) (most_with plan attempt a))
    (λ a low. passes_at_most (inside a) (owed_with plan attempt t a) (most_with plan attempt a) (λ is.
    let same = move.others a (not_itself plan r a is) in
    life_at_most plan attempt t a
    (λ success. subst (λ (m : ℕ). 1 ≤ m) (sym same.attempts) (counted.success a (ap is_success (sym same.state) ∙ success)))
    (λ retrying. subst (λ (m : ℕ). 1 ≤ m) (sym same.attempts) (counted.retrying a (ap is_retrying (sym same.state) ∙ retrying)).made))) in
    let room : sum_below (count plan) (λ a. where_passes (inside a) (most_with plan attempt a)) + 6 ≤ attempt r = weighed.room r retry below in
    let itself : where_fails (inside r) (owed_with plan attempt t r) ≤ owed_with plan attempt t r = fails_at_most (inside r) (owed_with plan attempt t r) (owed_with plan attempt t r) (λ is. omega arith) in
    let outside : sum_below (count plan) (λ a. where_fails (inside a) (owed_with plan attempt t a)) + (sum_below (count plan) (λ a. where_passes (inside a) (owed_with plan attempt t a)) + 1) ≤ sum_below (count plan) (owed_with plan attempt s)
    = sum_falls (count plan) (λ a. where_fails (inside a) (owed_with plan attempt t a)) (owed_with plan attempt s) r (sum_below (count plan) (λ a. where_passes (inside a) (owed_with plan attempt t a)) + 1) below
    (λ b low other. fails_at_most (inside b) (owed_with plan attempt t b) (owed_with plan attempt s b) (λ out.
    others_stay plan attempt s t b (move.others b other) (λ failed. marks b other out)
    (stays_held plan s t b (λ h of_h retrying. elim (same_or_other h r) [
      | inl same ↦ absurd (clash (is_of_its_flow plan r b) (ap (λ (n : ℕ). is_of_its_flow plan n b) (sym same) ∙ of_h) out)
      | inr apart ↦ ap is_retrying (move.others h apart).state ∙ retrying
    ]))))
    (omega (arith, own, itself, capped, room)) in
    let same : turn t.flow ≡ turn s.flow = ap turn move.flow in
    omega (arith, parts, outside, same)
