-- Lemmas on bytes that are read in parts.
use Rattle.std.proofs.Common.{◌≡◌, ℕ, ◌+◌, ◌-◌, ◌≤◌, List, ◌++◌, length, take, drop, Option, None, Some, sym, ◌∙◌, ap, subst, arith, rules, append_assoc, length-take}
use Rattle.std.proofs.lemmas.List.{take-append-le, drop_at, places}
use Rattle.std.proofs.Math.Seq.{take-add}
use Rattle.std.proofs.lemmas.Slice.{take-put_mid_below}
use borrow.Rule.Slice.PartMut.{put_mid, post_of}
use Rattle.std.specs.Io.KnownBytes.{Consumes, Keeps}

consumes_on : (a b c : Option (List ℕ)) (bs cs : List ℕ) → Consumes a b bs → Consumes b c cs → Consumes a c (bs ++ cs)
consumes_on None b c bs cs p q = tt
consumes_on (Some x) None c bs cs p q = absurd p
consumes_on (Some x) (Some y) None bs cs p q = absurd q
consumes_on (Some x) (Some y) (Some z) bs cs p q = p ∙ ap (λ (l : List ℕ). bs ++ l) q ∙ sym (append_assoc bs cs z)

consumes_kept : (a b c : Option (List ℕ)) (bs : List ℕ) → Consumes a b bs → Keeps b c → Consumes a c bs
consumes_kept None b c bs p q = tt
consumes_kept (Some x) None c bs p q = absurd p
consumes_kept (Some x) (Some y) None bs p q = absurd q
consumes_kept (Some x) (Some y) (Some z) bs p q = p ∙ ap (λ (l : List ℕ). bs ++ l) (sym q)

-- what stands first in a buffer stays there when what is behind it is filled
pub prefix_stays : (buf new : List ℕ) (done : ℕ) → done ≤ length buf → take done (put_mid done (length buf - done) buf new) ≡ take done buf
prefix_stays buf new done le = take-put_mid_below done (length buf - done) buf new done (omega arith) le

-- a buffer keeps its length when what is behind its prefix is filled
pub room_stays : (buf new : List ℕ) (done : ℕ) → done ≤ length buf → length new ≡ length buf - done → length (put_mid done (length buf - done) buf new) ≡ length buf
room_stays buf new done le room =
    search (rules, places)

-- n bytes more were read into the buffer behind those that are there
pub taken_more : (a b c : Option (List ℕ)) (buf new : List ℕ) (done n : ℕ) → done ≤ length buf → n ≤ length new
    → Consumes a b (take done buf) → Consumes b c (take n new) → Consumes a c (take (done + n) (put_mid done (length buf - done) buf new))
taken_more a b c buf new done n le fits first second =
    let prefix : take done (put_mid done (length buf - done) buf new) ≡ take done buf = prefix_stays buf new done le in
    let rest : drop done (put_mid done (length buf - done) buf new) ≡ new ++ post_of done (length buf - done) buf = drop_at (take done buf) (new ++ post_of done (length buf - done) buf) done (omega (arith, length-take done buf)) in
    let part : take n (drop done (put_mid done (length buf - done) buf new)) ≡ take n new = ap (take n) rest ∙ take-append-le n new (post_of done (length buf - done) buf) fits in
    let whole : take done buf ++ take n new ≡ take (done + n) (put_mid done (length buf - done) buf new) =
    sym (take-add done n (put_mid done (length buf - done) buf new) ∙ ap (λ (l : List ℕ). l ++ take n (drop done (put_mid done (length buf - done) buf new))) prefix ∙ ap (λ (l : List ℕ). take done buf ++ l) part) in
    subst (Consumes a c) whole (consumes_on a b c (take done buf) (take n new) first second)

-- nothing was read
pub taken_same : (a b c : Option (List ℕ)) (buf new : List ℕ) (done : ℕ) → done ≤ length buf
    → Consumes a b (take done buf) → Keeps b c → Consumes a c (take done (put_mid done (length buf - done) buf new))
taken_same a b c buf new done le first kept = subst (Consumes a c) (sym (prefix_stays buf new done le)) (consumes_kept a b c (take done buf) first kept)
