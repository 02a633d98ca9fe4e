-- Reads that gave nothing before one that did; writes one after the other.
use Rattle.std.proofs.Common.{ℕ, List, [], ◌++◌, Option, None, Some, refl, sym, ap, ◌∙◌, append_assoc, append-nil}
use Rattle.std.specs.Io.KnownBytes.{Appends, Consumes, IsAtEnd, Keeps}

pub keeps_itself : (a : Option (List ℕ)) → Keeps a a
keeps_itself None = tt
keeps_itself (Some x) = refl

pub keeps_on : (a b c : Option (List ℕ)) → Keeps a b → Keeps b c → Keeps a c
keeps_on None b c p q = tt
keeps_on (Some x) None c p q = absurd p
keeps_on (Some x) (Some y) None p q = absurd q
keeps_on (Some x) (Some y) (Some z) p q = q ∙ p

pub consumes_after : (a b c : Option (List ℕ)) (bytes : List ℕ) → Keeps a b → Consumes b c bytes → Consumes a c bytes
consumes_after None b c bytes p q = tt
consumes_after (Some x) None c bytes p q = absurd p
consumes_after (Some x) (Some y) None bytes p q = absurd q
consumes_after (Some x) (Some y) (Some z) bytes p q = sym p ∙ q

-- a read of nothing, at the end
pub at_end : (a b c : Option (List ℕ)) → Keeps a b → Consumes b c [] → IsAtEnd c → IsAtEnd a × Keeps a c
at_end None b c p q e = (tt, tt)
at_end (Some x) None c p q e = absurd p
at_end (Some x) (Some y) None p q e = absurd q
at_end (Some x) (Some y) (Some z) p q e = (sym p ∙ q ∙ e, sym q ∙ p)

-- ---- writes

pub appends_none : (a : Option (List ℕ)) → Appends a a []
appends_none None = tt
appends_none (Some x) = sym (append-nil x)

-- some bytes, and then others
pub appends_on : (a b c : Option (List ℕ)) (first second : List ℕ) → Appends a b first → Appends b c second → Appends a c (first ++ second)
appends_on None b c first second p q = tt
appends_on (Some x) None c first second p q = absurd p
appends_on (Some x) (Some y) None first second p q = absurd q
appends_on (Some x) (Some y) (Some z) first second p q = q ∙ ap (λ (l : List ℕ). l ++ second) p ∙ append_assoc x first second

-- some bytes, and then a write that took nothing
pub appends_still : (a b c : Option (List ℕ)) (bytes : List ℕ) → Appends a b bytes → Keeps b c → Appends a c bytes
appends_still None b c bytes p q = tt
appends_still (Some x) None c bytes p q = absurd p
appends_still (Some x) (Some y) None bytes p q = absurd q
appends_still (Some x) (Some y) (Some z) bytes p q = q ∙ p
