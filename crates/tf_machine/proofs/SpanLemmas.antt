-- Among which atoms side by side are those that a flow holds.
use Rattle.std.proofs.Common.{◌≡◌, ℕ, zero, suc, ◌+◌, ◌<◌, ◌≤◌, ◌⊎◌, List, [], ◌∷◌, ◌++◌, length, Bool, true, false, not, ◌||◌, Some, None, refl, sym, ap, ◌∙◌, subst, inl, inr, arith, slice_get}
use Rattle.std.proofs.lemmas.Bool.{cases_lt}
use Rattle.tf_numbers.specs.Numbers.{all_below, first_below}
use Rattle.tf_numbers.proofs.BelowLemmas.{all_of, first_none}
use Rattle.tf_numbers.proofs.TruthLemmas.{clash, first_false, never_true}
use Rattle.tf_model.specs.History.{Snapshot, is_settled}
use Rattle.tf_model.specs.Forced.{holds_with, is_of_its_flow, is_settled_beside, is_to_put_back}
use Rattle.tf_model.specs.Plan.{Outline, count, holds, own_flow}
use Rattle.tf_machine.specs.declared.compiled.Span.{Span}
use Rattle.tf_machine.specs.Compiled.{IsInSpan, IsSpanOf, IsSpanAround, AreSpans}
use Rattle.tf_machine.proofs.PlanLemmas.{never_held}

-- so far: among the atoms of a span are those below n that a flow holds
pub record IsSpanBelow (plan : Outline) (flow n : ℕ) (span : Span) : Type 0 where
  pub within : span.end ≤ n
  pub each : (a : ℕ) → a < n → holds plan flow a ≡ true → IsInSpan span a

pub no_atom : (plan : Outline) (flow first : ℕ) → IsSpanBelow plan flow 0 (record { first = first; end = 0 })
no_atom plan flow first = record { within = omega arith; each = λ a below. absurd (omega (arith, below)) }

pub atom_out : (plan : Outline) (flow n : ℕ) (span : Span) → IsSpanBelow plan flow n span → holds plan flow n ≡ false → IsSpanBelow plan flow (n + 1) span
atom_out plan flow n span are out = record {
  within = let as_was = are.within in omega (arith, as_was);
  each = λ a below held. elim (cases_lt a n) [
    | inl before ↦ are.each a before held
    | inr from ↦ let same : a ≡ n = omega (arith, below, from) in absurd (clash (holds plan flow a) held (ap (holds plan flow) same ∙ out))
  ];
}

pub atom_in : (plan : Outline) (flow n first : ℕ) (span : Span) → IsSpanBelow plan flow n span → first ≤ span.first → first ≤ n → IsSpanBelow plan flow (n + 1) (record { first = first; end = n + 1 })
atom_in plan flow n first span are less here = record {
  within = omega arith;
  each = λ a below held. elim (cases_lt a n) [
    | inl before ↦ let old = are.each a before held in (let low = old.0 in omega (arith, low, less), omega (arith, before))
    | inr from ↦ (omega (arith, from, here), below)
  ];
}

pub all_atoms : (plan : Outline) (flow n : ℕ) (span : Span) → n ≡ count plan → IsSpanBelow plan flow n span → IsSpanOf plan flow span
all_atoms plan flow n span all are = record {
  within = subst (λ (m : ℕ). span.end ≤ m) all are.within;
  each = λ a held. elim (cases_lt a (count plan)) [
    | inl below ↦ are.each a (subst (λ (m : ℕ). a < m) (sym all) below) held
    | inr past ↦ absurd (clash (holds plan flow a) held (never_held plan flow a past))
  ];
}

-- the same of a flow that is named, and of none
pub named_span : (plan : Outline) (flow : ℕ) (span : Span) → IsSpanOf plan flow span → IsSpanAround plan (Some flow) span
named_span plan flow span is = record { within = is.within; each = is.each }

pub unnamed_span : (plan : Outline) (span : Span) → span.end ≡ 0 → IsSpanAround plan None span
unnamed_span plan span none = record { within = omega (arith, none); each = λ a never. absurd (cc) }

-- all atoms are a span of each flow
pub whole_span : (plan : Outline) (flow : ℕ) (span : Span) → span.first ≡ 0 → span.end ≡ count plan → IsSpanOf plan flow span
whole_span plan flow span first end = record {
  within = omega (arith, end);
  each = λ a held. (omega (arith, first), elim (cases_lt a (count plan)) [ inl below ↦ omega (arith, below, end) | inr past ↦ absurd (clash (holds plan flow a) held (never_held plan flow a past)) ]);
}

-- ---- a span for each flow

more_told : {X : Type 0} (xs : List X) (x y : X) (k : ℕ) → slice_get (xs ++ x ∷ []) k ≡ Some y → (slice_get xs k ≡ Some y) ⊎ ((k ≡ length xs) × (x ≡ y))
more_told [] x y zero is = inr (refl, let same : Some x ≡ Some y = is in cc)
more_told [] x y (suc k) is = absurd (cc)
more_told (z ∷ xs) x y zero is = inl is
more_told (z ∷ xs) x y (suc k) is = elim (more_told xs x y k is) [
  | inl before ↦ inl before
  | inr last ↦ inr (ap suc last.0, last.1)
]

pub no_span : (plan : Outline) → AreSpans plan []
no_span plan = λ flow span is. absurd (cc)

pub one_span : (plan : Outline) (spans : List Span) (span : Span) (n : ℕ) → length spans ≡ n → AreSpans plan spans → IsSpanOf plan n span → AreSpans plan (spans ++ span ∷ [])
one_span plan spans span n many are here = λ flow other is. elim (more_told spans span other flow is) [
  | inl before ↦ are flow other before
  | inr last ↦ subst (λ (x : Span). IsSpanOf plan flow x) last.1 (subst (λ (k : ℕ). IsSpanOf plan k span) (sym (last.0 ∙ many)) here)
]

-- ---- what a retry controller looks for in its flow

-- a test that says the same of each below n, and of n
pub one_more_so : (test : ℕ → Bool) (b : Bool) (n : ℕ) → ((a : ℕ) → a < n → test a ≡ b) → test n ≡ b → (a : ℕ) → a < n + 1 → test a ≡ b
one_more_so test b n before here a below = elim (cases_lt a n) [
  | inl earlier ↦ before a earlier
  | inr from ↦ let same : a ≡ n = omega (arith, below, from) in ap test same ∙ here
]

outside_flow : (plan : Outline) (r a : ℕ) (span : Span) → IsSpanAround plan (own_flow plan r) span → (IsInSpan span a → ⊥) → is_of_its_flow plan r a ≡ false
outside_flow plan r a span around out = first_false (holds_with plan (own_flow plan r) a) _ (never_true (holds_with plan (own_flow plan r) a) (λ held. out (around.each a held)))

pub settled_outside : (plan : Outline) (s : Snapshot) (r a : ℕ) (span : Span) → IsSpanAround plan (own_flow plan r) span → (a < span.first) ⊎ (span.end ≤ a) → is_settled_beside plan s r a ≡ true
settled_outside plan s r a span around out = ap (λ (x : Bool). not x || is_settled (s.state a)) (outside_flow plan r a span around (λ inside. elim out [
  | inl low ↦ let from = inside.0 in omega (arith, low, from)
  | inr high ↦ let below = inside.1 in omega (arith, high, below)
]))

pub put_outside : (plan : Outline) (s : Snapshot) (r a : ℕ) (span : Span) → IsSpanAround plan (own_flow plan r) span → (a < span.first) ⊎ (span.end ≤ a) → is_to_put_back plan s r a ≡ false
put_outside plan s r a span around out = first_false (is_of_its_flow plan r a) _ (outside_flow plan r a span around (λ inside. elim out [
  | inl low ↦ let from = inside.0 in omega (arith, low, from)
  | inr high ↦ let below = inside.1 in omega (arith, high, below)
]))

pub all_beside : (plan : Outline) (s : Snapshot) (r n : ℕ) (span : Span) → IsSpanAround plan (own_flow plan r) span → span.end ≤ n → ((a : ℕ) → a < n → is_settled_beside plan s r a ≡ true) → all_below (count plan) (is_settled_beside plan s r) ≡ true
all_beside plan s r n span around end each = all_of (count plan) (is_settled_beside plan s r) (λ a below. elim (cases_lt a n) [
  | inl before ↦ each a before
  | inr from ↦ settled_outside plan s r a span around (inr (omega (arith, end, from)))
])

pub none_to_put : (plan : Outline) (s : Snapshot) (r n : ℕ) (span : Span) → IsSpanAround plan (own_flow plan r) span → span.end ≤ n → ((a : ℕ) → a < n → is_to_put_back plan s r a ≡ false) → first_below (count plan) (is_to_put_back plan s r) ≡ None
none_to_put plan s r n span around end each = first_none (count plan) (is_to_put_back plan s r) (λ a below. elim (cases_lt a n) [
  | inl before ↦ each a before
  | inr from ↦ put_outside plan s r a span around (inr (omega (arith, end, from)))
])
