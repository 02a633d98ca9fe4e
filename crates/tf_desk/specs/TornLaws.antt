-- What a write leaves that is cut short.
use Rattle.std.proofs.Common.{◌≡◌, ℕ, ◌+◌, ◌-◌, ◌≤◌, List, length, take, drop, sym, ◌∙◌, ap, arith}
use Rattle.std.proofs.lemmas.List.{take_all, drop-drop}
use Rattle.tf_desk.specs.Crash.{Torn}

-- nothing written is among what a write leaves that is cut short
pub torn_none : (at n : ℕ) (old : List ℕ) → Torn at n old old
torn_none at n old = record {
  no_shorter = omega arith;
  no_longer = omega arith;
  before = ap (take at) (take_all (length old) old (omega arith));
  after = ap (drop (at + n)) (take_all (length old) old (omega arith));
}

-- what a short write leaves, a longer one may leave
pub torn_wider : (at n m : ℕ) (old new : List ℕ) → n ≤ m → Torn at n old new → Torn at m old new
torn_wider at n m old new le torn = record {
  no_shorter = torn.no_shorter;
  no_longer = omega (arith, le, torn.no_longer);
  before = torn.before;
  after = further (take (length old) new) ∙ ap (drop (m - n)) torn.after ∙ sym (further old);
}
  where
    further : (l : List ℕ) → drop (at + m) l ≡ drop (m - n) (drop (at + n) l)
    further l =
        let sum : at + m ≡ (at + n) + (m - n) = omega (arith, le) in
        ap (λ (k : ℕ). drop k l) sum ∙ sym (drop-drop (m - n) (at + n) l)
