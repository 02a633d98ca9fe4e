-- How the lines of a history are made from its bodies in memory.
use Rattle.std.proofs.Common.{◌≡◌, ◌<◌, ◌≤◌, ◌⊎◌, inl, inr, ℕ, ◌+◌, ◌*◌, ◌/◌, ◌%◌, false, List, [], ◌∷◌, ◌++◌, length, get_or, take, drop, refl, sym, ◌∙◌, ap, subst, arith, append_assoc, append-nil, length-append, length-drop}
use Rattle.std.proofs.lemmas.List.{take_at, drop_at, get_or-drop, drop-drop}
use Rattle.tf_flow.specs.Plan.{PlanValue}
use Rattle.tf_states.specs.declared.record.Entry.{Entry}
use Rattle.tf_entries.specs.Entries.{entry_bytes}
use Rattle.tf_entries.proofs.SizeLemmas.{entry_long}
use Rattle.tf_journal.specs.Format.{length_bytes, length_at}
use Rattle.tf_journal.proofs.FoundLemmas.{length_read}
use Rattle.tf_model.specs.Plan.{outline_of}
use Rattle.tf_report.specs.Lines.{line}
use Rattle.tf_details.specs.Elements.{IsEntryOf, AreEntriesOf}
use Rattle.tf_book.specs.Histories.{framed_bodies, BeginsWithBody, HasLines}
use Rattle.tf_book.specs.SessionInvariant.{said}

-- an entry's body behind its length
abbrev frame : Entry → List ℕ
frame e = length_bytes (length (entry_bytes e)) ++ entry_bytes e

-- the bodies of a history begin with those of an older one
framed_on : (newer older : List Entry) → (rest : List ℕ) × (framed_bodies (newer ++ older) ≡ framed_bodies older ++ rest)
framed_on [] older = ([], sym (append-nil (framed_bodies older)))
framed_on (x ∷ newer) older =
    let more = framed_on newer older in
    (more.0 ++ frame x, ap (λ (l : List ℕ). l ++ frame x) more.1 ∙ append_assoc (framed_bodies older) more.0 (frame x))

-- each takes a byte at least
pub framed_long : (past : List Entry) → length past ≤ length (framed_bodies past)
framed_long [] = omega arith
framed_long (e ∷ past) = omega (arith, framed_long past, length-append (framed_bodies past) (frame e), length-append (length_bytes (length (entry_bytes e))) (entry_bytes e))

-- the oldest entry of some, if there is one
oldest : (l : List Entry) → (l ≡ []) ⊎ ((newer : List Entry) × (e : Entry) × (l ≡ newer ++ e ∷ []))
oldest [] = inl refl
oldest (x ∷ l) = elim (oldest l) [
  | inl none ↦ inr ([], x, ap (λ (m : List Entry). x ∷ m) none)
  | inr some ↦ inr (x ∷ some.0, some.1, ap (λ (m : List Entry). x ∷ m) some.2)
]

entry_among : (plan : PlanValue) (newer older : List Entry) (e : Entry) → AreEntriesOf plan (newer ++ (e ∷ older)) → IsEntryOf plan e
entry_among plan [] older e are = are.0
entry_among plan (x ∷ newer) older e are = entry_among plan newer older e are.1

-- the next entry whose line is to be made, and where its body stands
pub record Next (plan : PlanValue) (past older : List Entry) (at : ℕ) (bodies : List ℕ) : Type 0 where
  pub newer : List Entry
  pub entry : Entry
  pub splits : past ≡ newer ++ (entry ∷ older)
  pub begins : BeginsWithBody (drop at bodies) (entry_bytes entry)
  pub is_entry : IsEntryOf plan entry

pub next_entry : (plan : PlanValue) (past : List Entry) (before made bodies : List ℕ) (at number : ℕ) → bodies ≡ framed_bodies past → AreEntriesOf plan past → (has : HasLines plan past before made at number) → at < length bodies
    → Next plan past has.older at bodies
next_entry plan past before made bodies at number are entries has more = of (oldest has.newer)
  where
    of : (has.newer ≡ []) ⊎ ((newer : List Entry) × (e : Entry) × (has.newer ≡ newer ++ e ∷ [])) → Next plan past has.older at bodies
    of (inl none) =
        let same : past ≡ has.older = has.splits ∙ ap (λ (l : List Entry). l ++ has.older) none in
        absurd (omega (arith, more, has.place, ap length are, ap (λ (l : List Entry). length (framed_bodies l)) same))
    of (inr some) =
        let e : Entry = some.1 in
        let splits : past ≡ some.0 ++ (e ∷ has.older) = has.splits ∙ ap (λ (l : List Entry). l ++ has.older) some.2 ∙ append_assoc some.0 (e ∷ []) has.older in
        let rest = framed_on some.0 (e ∷ has.older) in
        let whole : bodies ≡ framed_bodies has.older ++ (frame e ++ rest.0) = are ∙ ap framed_bodies splits ∙ rest.1 ∙ append_assoc (framed_bodies has.older) (frame e) rest.0 in
        let is_entry : IsEntryOf plan e = entry_among plan some.0 has.older e (subst (AreEntriesOf plan) splits entries) in
        record {
          newer = some.0;
          entry = e;
          splits = splits;
          begins = record {
            rest = rest.0;
            is = ap (drop at) whole ∙ drop_at (framed_bodies has.older) (frame e ++ rest.0) at (sym has.place) ∙ append_assoc (length_bytes (length (entry_bytes e))) (entry_bytes e) rest.0;
            is_body = (let long = entry_long e is_entry.payload in (long.0, omega (arith, long.1)));
          };
          is_entry = is_entry;
        }

-- its line is made
pub lines_more : (plan : PlanValue) (past : List Entry) (before made bodies body new : List ℕ) (at number : ℕ) (has : HasLines plan past before made at number) → (next : Next plan past has.older at bodies) → body ≡ entry_bytes next.entry
    → new ≡ made ++ line (outline_of plan) (number + 1) next.entry → HasLines plan past before new (at + (4 + length body)) (number + 1)
lines_more plan past before made bodies body new at number has next same is = record {
  newer = next.newer;
  older = next.entry ∷ has.older;
  splits = next.splits;
  place = omega (arith, has.place, ap length same, length-append (framed_bodies has.older) (frame next.entry), length-append (length_bytes (length (entry_bytes next.entry))) (entry_bytes next.entry));
  counted = omega (arith, has.counted);
  lines = is ∙ ap (λ (l : List ℕ). l ++ line (outline_of plan) (number + 1) next.entry) has.lines
      ∙ append_assoc before (said false (outline_of plan) [] has.older) (line (outline_of plan) (number + 1) next.entry)
      ∙ ap (λ (n : ℕ). before ++ (said false (outline_of plan) [] has.older ++ line (outline_of plan) (n + 1) next.entry)) (has.counted ∙ ap length (sym (append-nil has.older)));
}

-- all lines were made
pub lines_all : (plan : PlanValue) (past : List Entry) (before made bodies : List ℕ) (at number : ℕ) → bodies ≡ framed_bodies past → (has : HasLines plan past before made at number) → length bodies ≤ at
    → made ≡ before ++ said false (outline_of plan) [] past
lines_all plan past before made bodies at number are has done = of (oldest has.newer)
  where
    of : (has.newer ≡ []) ⊎ ((newer : List Entry) × (e : Entry) × (has.newer ≡ newer ++ e ∷ [])) → made ≡ before ++ said false (outline_of plan) [] past
    of (inl none) = has.lines ∙ ap (λ (l : List Entry). before ++ said false (outline_of plan) [] l) (sym (has.splits ∙ ap (λ (l : List Entry). l ++ has.older) none))
    of (inr some) =
        let e : Entry = some.1 in
        let splits : past ≡ some.0 ++ (e ∷ has.older) = has.splits ∙ ap (λ (l : List Entry). l ++ has.older) some.2 ∙ append_assoc some.0 (e ∷ []) has.older in
        let rest = framed_on some.0 (e ∷ has.older) in
        absurd (omega (arith, done, has.place, ap length (are ∙ ap framed_bodies splits ∙ rest.1), length-append (framed_bodies (e ∷ has.older)) rest.0, length-append (framed_bodies has.older) (frame e), length-append (length_bytes (length (entry_bytes e))) (entry_bytes e)))

-- at the start
pub lines_none : (plan : PlanValue) (past : List Entry) (before : List ℕ) → HasLines plan past before before 0 0
lines_none plan past before = record { newer = past; older = []; splits = sym (append-nil past); place = refl; counted = refl; lines = sym (append-nil before) }

-- ---- one body

-- the length at a place, and the body behind it
pub begins_length : (bytes body : List ℕ) (at : ℕ) → BeginsWithBody (drop at bytes) body → length_at bytes at ≡ length body
begins_length bytes body at begins =
    let one : get_or bytes (at + 0) 0 ≡ length body / 256 / 256 / 256 = sym (get_or-drop at bytes 0 0) ∙ ap (λ (l : List ℕ). get_or l 0 0) begins.is in
    let first : get_or bytes at 0 ≡ length body / 256 / 256 / 256 = (let k : at ≡ at + 0 = omega arith in ap (λ (k : ℕ). get_or bytes k 0) k) ∙ one in
    let second : get_or bytes (at + 1) 0 ≡ length body / 256 / 256 % 256 = sym (get_or-drop at bytes 1 0) ∙ ap (λ (l : List ℕ). get_or l 1 0) begins.is in
    let third : get_or bytes (at + 2) 0 ≡ length body / 256 % 256 = sym (get_or-drop at bytes 2 0) ∙ ap (λ (l : List ℕ). get_or l 2 0) begins.is in
    let fourth : get_or bytes (at + 3) 0 ≡ length body % 256 = sym (get_or-drop at bytes 3 0) ∙ ap (λ (l : List ℕ). get_or l 3 0) begins.is in
    spelled (get_or bytes at 0) (get_or bytes (at + 1) 0) (get_or bytes (at + 2) 0) (get_or bytes (at + 3) 0) (length body) first second third fourth begins.is_body.1
  where
    spelled : (w x y z n : ℕ) → w ≡ n / 256 / 256 / 256 → x ≡ n / 256 / 256 % 256 → y ≡ n / 256 % 256 → z ≡ n % 256 → n ≤ 1048577 → 256 * (256 * (256 * w + x) + y) + z ≡ n
    spelled w x y z n e f g h short = omega (arith, e, f, g, h, length_read n (omega (arith, short)))

-- there are so many bytes
pub begins_within : (bytes body : List ℕ) (at : ℕ) → BeginsWithBody (drop at bytes) body → at + 4 + length body ≤ length bytes
begins_within bytes body at begins =
    omega (arith, ap length begins.is, length-drop at bytes, length-append (length_bytes (length body)) (body ++ begins.rest), length-append body begins.rest, begins.is_body.0)

pub begins_body : (bytes body : List ℕ) (at n : ℕ) → BeginsWithBody (drop at bytes) body → n ≡ length body → take n (drop (at + 4) bytes) ≡ body
begins_body bytes body at n begins is =
    ap (take n) (sym (drop-drop 4 at bytes) ∙ ap (drop 4) begins.is) ∙ take_at body begins.rest n (sym is)
