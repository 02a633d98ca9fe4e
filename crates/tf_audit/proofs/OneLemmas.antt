-- A line has one reading: failures, payloads and events by their texts.
use Rattle.std.proofs.Common.{◌≡◌, ℕ, ℤ, ◌<◌, ◌^◌, List, [], ◌∷◌, ◌++◌, true, Option, Some, refl, sym, ap, subst, ◌∙◌, arith}
use Rattle.std.specs.Prelude.{codes, FitsSigned, if◌then◌else◌}
use Rattle.std.specs.Int.{w32}
use Rattle.std.specs.Str.{bytes_eq}
use Rattle.std.specs.Fmt.{decimal, signed_decimal}
use Rattle.std.proofs.lemmas.Fmt.{decimal_injective, signed_decimal_injective}
use lib.Signed.{mag}
use Rattle.tf_values.specs.Text.{is_text}
use Rattle.tf_values.specs.Value.{quoted, text_form}
use Rattle.tf_values.specs.declared.value.Val.{Val}
use Rattle.tf_values.specs.declared.value.Val.TheVariants as value
use Rattle.tf_values.proofs.ValueLemmas.{value_text_one}
use Rattle.tf_states.specs.declared.record.Failure.{Failure}
use Rattle.tf_states.specs.declared.record.Failure.TheVariants as failure
use Rattle.tf_states.specs.declared.record.Payload.{Payload}
use Rattle.tf_states.specs.declared.record.Payload.TheVariants as payload
use Rattle.tf_states.specs.declared.state.AtomState.{AtomState}
use Rattle.tf_states.specs.declared.state.AtomState.TheVariants as atom
use Rattle.tf_entries.specs.Entries.{IsFailure, IsPayload, is_payload_of}
use Rattle.tf_report.specs.Lines.{failure_text, payload_text}
use Rattle.tf_audit.specs.Words.{is_blank, is_unbroken, breaks_here}
use Rattle.tf_audit.specs.Events.{failure_alone}
use Rattle.tf_audit.proofs.WordLemmas.{word_one}

-- ---- a list that ends with one item

pub nothing_snoc : {A : Type 0} (xs : List A) (x : A) → [] ≡ xs ++ x ∷ [] → ⊥
nothing_snoc [] x is = cc
nothing_snoc (y ∷ xs) x is = cc

pub snoc_one : {A : Type 0} (xs ys : List A) (x y : A) → xs ++ x ∷ [] ≡ ys ++ y ∷ [] → (xs ≡ ys) × (x ≡ y)
snoc_one [] [] x y is = let heads : x ≡ y = cc in (refl, heads)
snoc_one [] (b ∷ ys) x y is = absurd (let tails : [] ≡ ys ++ y ∷ [] = cc in nothing_snoc ys y tails)
snoc_one (a ∷ xs) [] x y is = absurd (let tails : [] ≡ xs ++ x ∷ [] = cc in nothing_snoc xs x tails)
snoc_one (a ∷ xs) (b ∷ ys) x y is =
    let heads : a ≡ b = cc in
    let tails : xs ++ x ∷ [] ≡ ys ++ y ∷ [] = cc in
    let rest = snoc_one xs ys x y tails in
    ((λ i. heads i ∷ rest.0 i), rest.1)

-- ---- failures

-- what stands behind the word of a failure
data Part : Type 0 where
  no_part : Part
  text_part : List ℕ → Part
  name_part : List ℕ → Part
  status_part : ℤ → Part
  place_part : ℕ → Part

abbrev word_of : Failure → List ℕ
word_of (failure.Raised text) = codes "raised"
word_of (failure.WrongKind name) = codes "type"
word_of failure.Overflow = codes "overflow"
word_of failure.Range = codes "range"
word_of failure.TooLong = codes "too-long"
word_of (failure.Lookup name) = codes "lookup"
word_of (failure.Exit status) = codes "exit"
word_of failure.Spawn = codes "spawn"
word_of failure.NotText = codes "not-text"
word_of failure.Lost = codes "lost"
word_of (failure.BadReply place) = codes "bad-reply"
word_of failure.Exhausted = codes "exhausted"

abbrev part_of : Failure → Part
part_of (failure.Raised text) = text_part text
part_of (failure.WrongKind name) = name_part name
part_of (failure.Lookup name) = name_part name
part_of (failure.Exit status) = status_part status
part_of (failure.BadReply place) = place_part place
part_of failure.Overflow = no_part
part_of failure.Range = no_part
part_of failure.TooLong = no_part
part_of failure.Spawn = no_part
part_of failure.NotText = no_part
part_of failure.Lost = no_part
part_of failure.Exhausted = no_part

abbrev blank_of : Part → ℕ
blank_of no_part = 10
blank_of (text_part text) = 32
blank_of (name_part name) = 32
blank_of (status_part status) = 32
blank_of (place_part place) = 32

abbrev rest_of : Part → List ℕ
rest_of no_part = []
rest_of (text_part text) = quoted text ++ 10 ∷ []
rest_of (name_part name) = name ++ 10 ∷ []
rest_of (status_part status) = signed_decimal status ++ 10 ∷ []
rest_of (place_part place) = decimal place ++ 10 ∷ []

abbrev tag_of : Part → ℕ
tag_of no_part = 0
tag_of (text_part text) = 1
tag_of (name_part name) = 2
tag_of (status_part status) = 3
tag_of (place_part place) = 4

-- the tag that the word of a failure tells
abbrev word_tag : List ℕ → ℕ
word_tag word =
    if bytes_eq word (codes "raised") then 1
    else if bytes_eq word (codes "type") then 2
    else if bytes_eq word (codes "lookup") then 2
    else if bytes_eq word (codes "exit") then 3
    else if bytes_eq word (codes "bad-reply") then 4
    else 0

abbrev IsPart : Part → Type 0
IsPart no_part = Unit {0}
IsPart (text_part text) = is_text text ≡ true
IsPart (name_part name) = Unit {0}
IsPart (status_part status) = FitsSigned w32 status
IsPart (place_part place) = place < 2 ^ 32

-- the failure of a word and of what stands behind it
abbrev made : List ℕ → Part → Option Failure
made word no_part = failure_alone word
made word (text_part text) = Some (failure.Raised text)
made word (name_part name) = if bytes_eq word (codes "type") then Some (failure.WrongKind name) else Some (failure.Lookup name)
made word (status_part status) = Some (failure.Exit status)
made word (place_part place) = Some (failure.BadReply place)

-- what a failure is in these words
record IsSplit (f : Failure) : Type 0 where
  shape : failure_text f ++ 10 ∷ [] ≡ word_of f ++ blank_of (part_of f) ∷ rest_of (part_of f)
  unbroken : is_unbroken (word_of f) ≡ true
  tagged : word_tag (word_of f) ≡ tag_of (part_of f)
  whole : made (word_of f) (part_of f) ≡ Some f

split : (f : Failure) → IsSplit f
split (failure.Raised text) = record { shape = refl; unbroken = refl; tagged = refl; whole = refl }
split (failure.WrongKind name) = record { shape = refl; unbroken = refl; tagged = refl; whole = refl }
split failure.Overflow = record { shape = refl; unbroken = refl; tagged = refl; whole = refl }
split failure.Range = record { shape = refl; unbroken = refl; tagged = refl; whole = refl }
split failure.TooLong = record { shape = refl; unbroken = refl; tagged = refl; whole = refl }
split (failure.Lookup name) = record { shape = refl; unbroken = refl; tagged = refl; whole = refl }
split (failure.Exit status) = record { shape = refl; unbroken = refl; tagged = refl; whole = refl }
split failure.Spawn = record { shape = refl; unbroken = refl; tagged = refl; whole = refl }
split failure.NotText = record { shape = refl; unbroken = refl; tagged = refl; whole = refl }
split failure.Lost = record { shape = refl; unbroken = refl; tagged = refl; whole = refl }
split (failure.BadReply place) = record { shape = refl; unbroken = refl; tagged = refl; whole = refl }
split failure.Exhausted = record { shape = refl; unbroken = refl; tagged = refl; whole = refl }

good_part : (f : Failure) → IsFailure f → IsPart (part_of f)
good_part (failure.Raised text) good = good
good_part (failure.WrongKind name) good = tt
good_part (failure.Lookup name) good = tt
good_part (failure.Exit status) good = good
good_part (failure.BadReply place) good = good
good_part failure.Overflow good = tt
good_part failure.Range good = tt
good_part failure.TooLong good = tt
good_part failure.Spawn good = tt
good_part failure.NotText good = tt
good_part failure.Lost good = tt
good_part failure.Exhausted good = tt

text_one : (t u : List ℕ) → is_text t ≡ true → is_text u ≡ true → quoted t ≡ quoted u → t ≡ u
text_one t u gt gu is = let same : value.Text t ≡ value.Text u = value_text_one (value.Text t) (value.Text u) gt gu is in cc

status_one : (y z : ℤ) → FitsSigned w32 y → FitsSigned w32 z → signed_decimal y ≡ signed_decimal z → y ≡ z
status_one y z gy gz is =
    let small = gy.sfits in
    let small_too = gz.sfits in
    let fits : mag y < 2 ^ 63 = omega arith in
    let fits_too : mag z < 2 ^ 63 = omega arith in
    signed_decimal_injective y z fits fits_too is

place_one : (m n : ℕ) → m < 2 ^ 32 → n < 2 ^ 32 → decimal m ≡ decimal n → m ≡ n
place_one m n gm gn is = decimal_injective m n (omega arith) (omega arith) is

part_one : (p q : Part) → IsPart p → IsPart q → tag_of p ≡ tag_of q → rest_of p ≡ rest_of q → p ≡ q
part_one no_part no_part gp gq same is = refl
part_one (text_part t) (text_part u) gp gq same is = ap text_part (text_one t u gp gq (snoc_one (quoted t) (quoted u) 10 10 is).0)
part_one (name_part n) (name_part m) gp gq same is = ap name_part (snoc_one n m 10 10 is).0
part_one (status_part y) (status_part z) gp gq same is = ap status_part (status_one y z gp gq (snoc_one (signed_decimal y) (signed_decimal z) 10 10 is).0)
part_one (place_part m) (place_part n) gp gq same is = ap place_part (place_one m n gp gq (snoc_one (decimal m) (decimal n) 10 10 is).0)
part_one no_part (text_part u) gp gq same is = absurd (omega (arith, same))
part_one no_part (name_part m) gp gq same is = absurd (omega (arith, same))
part_one no_part (status_part z) gp gq same is = absurd (omega (arith, same))
part_one no_part (place_part n) gp gq same is = absurd (omega (arith, same))
part_one (text_part t) no_part gp gq same is = absurd (omega (arith, same))
part_one (text_part t) (name_part m) gp gq same is = absurd (omega (arith, same))
part_one (text_part t) (status_part z) gp gq same is = absurd (omega (arith, same))
part_one (text_part t) (place_part n) gp gq same is = absurd (omega (arith, same))
part_one (name_part m) no_part gp gq same is = absurd (omega (arith, same))
part_one (name_part m) (text_part u) gp gq same is = absurd (omega (arith, same))
part_one (name_part m) (status_part z) gp gq same is = absurd (omega (arith, same))
part_one (name_part m) (place_part n) gp gq same is = absurd (omega (arith, same))
part_one (status_part y) no_part gp gq same is = absurd (omega (arith, same))
part_one (status_part y) (text_part u) gp gq same is = absurd (omega (arith, same))
part_one (status_part y) (name_part m) gp gq same is = absurd (omega (arith, same))
part_one (status_part y) (place_part n) gp gq same is = absurd (omega (arith, same))
part_one (place_part n) no_part gp gq same is = absurd (omega (arith, same))
part_one (place_part n) (text_part u) gp gq same is = absurd (omega (arith, same))
part_one (place_part n) (name_part m) gp gq same is = absurd (omega (arith, same))
part_one (place_part n) (status_part z) gp gq same is = absurd (omega (arith, same))

part_breaks : (p : Part) → is_blank (blank_of p) ≡ true
part_breaks no_part = refl
part_breaks (text_part text) = refl
part_breaks (name_part name) = refl
part_breaks (status_part status) = refl
part_breaks (place_part place) = refl

failure_one : (f g : Failure) → IsFailure f → IsFailure g → failure_text f ++ 10 ∷ [] ≡ failure_text g ++ 10 ∷ [] → f ≡ g
failure_one f g gf gg is =
    let sf = split f in
    let sg = split g in
    let p = word_one (word_of f) (word_of g) (blank_of (part_of f) ∷ rest_of (part_of f)) (blank_of (part_of g) ∷ rest_of (part_of g)) sf.unbroken sg.unbroken (part_breaks (part_of f)) (part_breaks (part_of g))
    (sym sf.shape ∙ is ∙ sg.shape) in
    let behind : blank_of (part_of f) ∷ rest_of (part_of f) ≡ blank_of (part_of g) ∷ rest_of (part_of g) = p.1 in
    let rests : rest_of (part_of f) ≡ rest_of (part_of g) = cc in
    let parts : part_of f ≡ part_of g = part_one (part_of f) (part_of g) (good_part f gf) (good_part g gg) (sym sf.tagged ∙ ap word_tag p.0 ∙ sg.tagged) rests in
    let both : Some f ≡ Some g = sym sf.whole ∙ (λ i. made (p.0 i) (parts i)) ∙ sg.whole in
    cc

-- ---- payloads

-- a value stands behind SUCCESS alone
value_state : (s : AtomState) (v : Val) → is_payload_of s (payload.Value v) ≡ true → s ≡ atom.Success
value_state atom.Success v is = refl
value_state atom.Pending v is = absurd (cc)
value_state atom.Running v is = absurd (cc)
value_state atom.Failure v is = absurd (cc)
value_state atom.Reverting v is = absurd (cc)
value_state atom.Reverted v is = absurd (cc)
value_state atom.RevertFailure v is = absurd (cc)
value_state atom.Ignore v is = absurd (cc)
value_state atom.Retrying v is = absurd (cc)

no_value : (s : AtomState) (v : Val) (f : Failure) → is_payload_of s (payload.Value v) ≡ true → is_payload_of s (payload.Fault f) ≡ true → ⊥
no_value s v f held failed =
    let both : is_payload_of atom.Success (payload.Fault f) ≡ true = subst (λ (t : AtomState). is_payload_of t (payload.Fault f) ≡ true) (value_state s v held) failed in
    cc

pub payload_breaks : (held : Payload) → breaks_here (payload_text held ++ 10 ∷ []) ≡ true
payload_breaks payload.Empty = refl
payload_breaks (payload.Value v) = refl
payload_breaks (payload.Fault f) = refl

apart : (a b : ℕ) (xs ys : List ℕ) → a ∷ xs ≡ b ∷ ys → a ≡ b
apart a b xs ys is = cc

pub payload_one : (s : AtomState) (h k : Payload) → is_payload_of s h ≡ true → is_payload_of s k ≡ true → IsPayload h → IsPayload k → payload_text h ++ 10 ∷ [] ≡ payload_text k ++ 10 ∷ [] → h ≡ k
payload_one s payload.Empty payload.Empty ph pk gh gk is = refl
payload_one s (payload.Value v) (payload.Value w) ph pk gh gk is =
    let behind : text_form v ++ 10 ∷ [] ≡ text_form w ++ 10 ∷ [] = cc in
    ap payload.Value (value_text_one v w gh gk (snoc_one (text_form v) (text_form w) 10 10 behind).0)
payload_one s (payload.Fault f) (payload.Fault g) ph pk gh gk is =
    let behind : failure_text f ++ 10 ∷ [] ≡ failure_text g ++ 10 ∷ [] = cc in
    ap payload.Fault (failure_one f g gh gk behind)
payload_one s payload.Empty (payload.Value w) ph pk gh gk is = absurd (omega (arith, apart 10 32 [] (text_form w ++ 10 ∷ []) is))
payload_one s payload.Empty (payload.Fault g) ph pk gh gk is = absurd (omega (arith, apart 10 32 [] (failure_text g ++ 10 ∷ []) is))
payload_one s (payload.Value v) payload.Empty ph pk gh gk is = absurd (omega (arith, apart 32 10 (text_form v ++ 10 ∷ []) [] is))
payload_one s (payload.Fault f) payload.Empty ph pk gh gk is = absurd (omega (arith, apart 32 10 (failure_text f ++ 10 ∷ []) [] is))
payload_one s (payload.Value v) (payload.Fault g) ph pk gh gk is = absurd (no_value s v g ph pk)
payload_one s (payload.Fault f) (payload.Value w) ph pk gh gk is = absurd (no_value s w f pk ph)
