-- Bytes that come over a link one after the other.
use Rattle.std.proofs.Common.{◌≡◌, ℕ, ◌≤◌, List, [], ◌∷◌, ◌++◌, Option, Some, None, inl, inr, refl, sym, ap, ◌∙◌, arith, append_assoc, append-nil}
use Rattle.tf_ports.specs.Ports.{SeenLink, left_before}
use Rattle.tf_ports.specs.Transcript.{Passed, received_with, received_in, sent_in}
use Rattle.tf_ports.specs.Transcript.Passed.{received}
use Rattle.tf_ports.proofs.TranscriptLemmas.{received_append, sent_append}
use Rattle.tf_remote.specs.Received.{Brings, BringsAny, IsGone}

came_on : (left : Option (List ℕ)) (first second : List ℕ) → left_before first (left_before second left) ≡ left_before (first ++ second) left
came_on None first second = refl
came_on (Some bytes) first second = ap Some (sym (append_assoc first second bytes))

-- some bytes came, and then others
pub brings_more : (first second : List ℕ) (before now after : SeenLink) → Brings first before now → Brings second now after → Brings (first ++ second) before after
brings_more first second before now after one two = record {
  came = one.came ∙ ap (left_before first) two.came ∙ came_on after.left first second;
  passed = one.passed ++ two.passed;
  went = two.went ∙ ap (λ (passed : List Passed). passed ++ two.passed) one.went ∙ append_assoc before.transcript one.passed two.passed;
  none_sent = sent_append one.passed two.passed ∙ ap (λ (bytes : List ℕ). bytes ++ sent_in two.passed) one.none_sent ∙ two.none_sent;
  given = received_append one.passed two.passed ∙ ap (λ (bytes : List ℕ). bytes ++ received_in two.passed) one.given ∙ ap (λ (bytes : List ℕ). first ++ bytes) two.given;
  faults = omega (arith, one.faults, two.faults);
  ends = omega (arith, one.ends, two.ends);
}

nothing_came : (left : Option (List ℕ)) → left ≡ left_before [] left
nothing_came None = refl
nothing_came (Some bytes) = refl

-- nothing came where nothing was taken from the link
pub brings_none : (before now : SeenLink) → now.left ≡ before.left → now.transcript ≡ before.transcript → before.faults ≤ now.faults → before.ends ≤ now.ends → Brings [] before now
brings_none before now same passed faults ends = record {
  came = sym same ∙ nothing_came now.left;
  passed = [];
  went = passed ∙ sym (append-nil before.transcript);
  none_sent = refl;
  given = refl;
  faults = faults;
  ends = ends;
}

-- a piece came
pub brings_piece : (piece : List ℕ) (before now : SeenLink) → before.left ≡ left_before piece now.left → now.transcript ≡ received_with before.transcript piece → before.faults ≤ now.faults → before.ends ≤ now.ends → Brings piece before now
brings_piece piece before now came passed faults ends = record {
  came = came;
  passed = received piece ∷ [];
  went = passed;
  none_sent = refl;
  given = append-nil piece;
  faults = faults;
  ends = ends;
}

-- some bytes came, and then a piece
pub brings_piece_more : (bytes piece : List ℕ) (before now after : SeenLink) → Brings bytes before now → now.left ≡ left_before piece after.left → after.transcript ≡ received_with now.transcript piece → now.faults ≤ after.faults → now.ends ≤ after.ends
    → Brings (bytes ++ piece) before after
brings_piece_more bytes piece before now after brings came passed faults ends = brings_more bytes piece before now after brings (brings_piece piece now after came passed faults ends)

-- some bytes came behind what had passed before; nothing had come before that
pub brings_behind : (bytes : List ℕ) (before now after : SeenLink) → now.left ≡ before.left → before.faults ≤ now.faults → before.ends ≤ now.ends → Brings bytes now after → Brings bytes (record before { transcript = now.transcript }) after
brings_behind bytes before now after same faults ends brings =
    brings_more [] bytes (record before { transcript = now.transcript }) now after (brings_none (record before { transcript = now.transcript }) now same refl faults ends) brings

-- some bytes came, of which nothing is said
pub brings_any : (bytes : List ℕ) (before now : SeenLink) → Brings bytes before now → BringsAny before now
brings_any bytes before now brings = record { bytes = bytes; brings = brings; is = tt }

-- a link that is gone at last is gone
pub gone_later : (before now after : SeenLink) → before.faults ≤ now.faults → before.ends ≤ now.ends → IsGone now after → IsGone before after
gone_later before now after faults ends gone = elim gone [
  | inl rose ↦ inl (omega (arith, faults, rose))
  | inr ended ↦ inr (omega (arith, ends, ended.0), ended.1)
]
