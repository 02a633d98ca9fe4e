-- What passed over a link, and then more.
use Rattle.std.proofs.Common.{◌≡◌, ℕ, ◌+◌, List, [], ◌∷◌, ◌++◌, length, take, map, refl, sym, ap, subst, ◌∙◌, arith, append_assoc, append-nil}
use Rattle.std.proofs.lemmas.List.{take_all, map-append}
use Rattle.std.proofs.Math.Seq.{take-append-add}
use Rattle.tf_ports.specs.Transcript.{Passed, sent_with, received_with, SendsPrefix, received_in, sent_in, HeldBefore}
use Rattle.tf_ports.specs.Transcript.Passed.{received, sent_byte}

-- ---- bytes that were sent

-- some bytes, and then others
pub sent_on : (passed : List Passed) (first second : List ℕ) → sent_with (sent_with passed first) second ≡ sent_with passed (first ++ second)
sent_on passed first second = append_assoc passed (map sent_byte first) (map sent_byte second) ∙ ap (λ (more : List Passed). passed ++ more) (sym (map-append sent_byte first second))

pub sent_more : (before now after : List Passed) (first second : List ℕ) → now ≡ sent_with before first → after ≡ sent_with now second → after ≡ sent_with before (first ++ second)
sent_more before now after first second is more = more ∙ ap (λ (passed : List Passed). sent_with passed second) is ∙ sent_on before first second

pub sent_none : (passed : List Passed) → passed ≡ sent_with passed []
sent_none passed = sym (append-nil passed)

-- some bytes, and then a prefix of others
abbrev pub prefix_more_sent : (before now after : List Passed) (first second : List ℕ) → now ≡ sent_with before first → SendsPrefix now second after → SendsPrefix before (first ++ second) after
prefix_more_sent before now after first second is more = record {
  count = length first + more.count;
  prefix = sent_more before now after first (take more.count second) is more.prefix ∙ ap (sent_with before) (sym (take-append-add first second more.count));
}

-- a prefix of the same bytes, written otherwise
abbrev pub prefix_of : (before after : List Passed) (bytes more : List ℕ) → bytes ≡ more → SendsPrefix before bytes after → SendsPrefix before more after
prefix_of before after bytes more same sent = record { count = sent.count; prefix = sent.prefix ∙ ap (λ (all : List ℕ). sent_with before (take sent.count all)) same }

-- all of the bytes are a prefix of them
abbrev pub whole_prefix : (before after : List Passed) (bytes : List ℕ) → after ≡ sent_with before bytes → SendsPrefix before bytes after
whole_prefix before after bytes is = record {
  count = length bytes;
  prefix = is ∙ ap (sent_with before) (sym (take_all (length bytes) bytes (omega arith)));
}

-- nothing is a prefix of any bytes
pub no_prefix : (before after : List Passed) (bytes : List ℕ) → after ≡ before → SendsPrefix before bytes after
no_prefix before after bytes same = record { count = 0; prefix = same ∙ sent_none before }

-- ---- what came of a transcript, and what was sent

pub received_append : (first second : List Passed) → received_in (first ++ second) ≡ received_in first ++ received_in second
received_append [] second = refl
received_append (received bytes ∷ first) second = ap (λ (rest : List ℕ). bytes ++ rest) (received_append first second) ∙ sym (append_assoc bytes (received_in first) (received_in second))
received_append (sent_byte byte ∷ first) second = received_append first second

pub sent_append : (first second : List Passed) → sent_in (first ++ second) ≡ sent_in first ++ sent_in second
sent_append [] second = refl
sent_append (received bytes ∷ first) second = sent_append first second
sent_append (sent_byte byte ∷ first) second = ap (λ (rest : List ℕ). byte ∷ rest) (sent_append first second)

received_of_sent : (bytes : List ℕ) → received_in (map sent_byte bytes) ≡ []
received_of_sent [] = refl
received_of_sent (byte ∷ bytes) = received_of_sent bytes

sent_of_sent : (bytes : List ℕ) → sent_in (map sent_byte bytes) ≡ bytes
sent_of_sent [] = refl
sent_of_sent (byte ∷ bytes) = ap (λ (rest : List ℕ). byte ∷ rest) (sent_of_sent bytes)

-- bytes that are sent are no bytes that came
pub received_with_sent : (passed : List Passed) (bytes : List ℕ) → received_in (sent_with passed bytes) ≡ received_in passed
received_with_sent passed bytes = received_append passed (map sent_byte bytes) ∙ ap (λ (more : List ℕ). received_in passed ++ more) (received_of_sent bytes) ∙ append-nil (received_in passed)

pub sent_with_sent : (passed : List Passed) (bytes : List ℕ) → sent_in (sent_with passed bytes) ≡ sent_in passed ++ bytes
sent_with_sent passed bytes = sent_append passed (map sent_byte bytes) ∙ ap (λ (more : List ℕ). sent_in passed ++ more) (sent_of_sent bytes)

-- and the other way round
pub received_with_received : (passed : List Passed) (bytes : List ℕ) → received_in (received_with passed bytes) ≡ received_in passed ++ bytes
received_with_received passed bytes = received_append passed (received bytes ∷ []) ∙ ap (λ (more : List ℕ). received_in passed ++ more) (append-nil bytes)

pub sent_with_received : (passed : List Passed) (bytes : List ℕ) → sent_in (received_with passed bytes) ≡ sent_in passed
sent_with_received passed bytes = sent_append passed (received bytes ∷ []) ∙ append-nil (sent_in passed)

-- ---- what held each time something came

pub held_append : (P : List Passed → Type 0) (first passed more : List Passed) → HeldBefore P first passed → HeldBefore P (first ++ passed) more → HeldBefore P first (passed ++ more)
held_append P first [] more held later = subst (λ (before : List Passed). HeldBefore P before more) (append-nil first) later
held_append P first (received bytes ∷ passed) more held later =
    (held.0, held_append P (first ++ received bytes ∷ []) passed more held.1 (subst (λ (before : List Passed). HeldBefore P before more) (sym (append_assoc first (received bytes ∷ []) passed)) later))
held_append P first (sent_byte byte ∷ passed) more held later =
    held_append P (first ++ sent_byte byte ∷ []) passed more held (subst (λ (before : List Passed). HeldBefore P before more) (sym (append_assoc first (sent_byte byte ∷ []) passed)) later)

-- where bytes are sent nothing comes
held_of_sent : (P : List Passed → Type 0) (first : List Passed) (bytes : List ℕ) → HeldBefore P first (map sent_byte bytes)
held_of_sent P first [] = tt
held_of_sent P first (byte ∷ bytes) = held_of_sent P (first ++ sent_byte byte ∷ []) bytes

pub held_with_sent : (P : List Passed → Type 0) (passed : List Passed) (bytes : List ℕ) → HeldBefore P [] passed → HeldBefore P [] (sent_with passed bytes)
held_with_sent P passed bytes held = held_append P [] passed (map sent_byte bytes) held (held_of_sent P passed bytes)

pub held_with_received : (P : List Passed → Type 0) (passed : List Passed) (bytes : List ℕ) → HeldBefore P [] passed → P passed → HeldBefore P [] (received_with passed bytes)
held_with_received P passed bytes held now = held_append P [] passed (received bytes ∷ []) held (now, tt)

-- what follows of it held then too
pub held_so : (P Q : List Passed → Type 0) → ((passed : List Passed) → P passed → Q passed) → (first passed : List Passed) → HeldBefore P first passed → HeldBefore Q first passed
held_so P Q so first [] held = tt
held_so P Q so first (received bytes ∷ passed) held = (so first held.0, held_so P Q so (first ++ received bytes ∷ []) passed held.1)
held_so P Q so first (sent_byte byte ∷ passed) held = held_so P Q so (first ++ sent_byte byte ∷ []) passed held
