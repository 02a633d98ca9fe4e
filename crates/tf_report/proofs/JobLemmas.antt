-- The parts of a job's line.
use Rattle.std.proofs.Common.{◌≡◌, List, ◌++◌, ℕ, Result, Ok, Err, OnOk, append_assoc}

-- what holds of an answer that is Ok
pub on_ok : {T E P Q : Type 0} (r : Result T E) → OnOk r P → (P → Q) → OnOk r Q
on_ok (Ok x) p more = more p
on_ok (Err e) p more = tt

-- the parts of a line behind a text, one after another
pub by_seven : (old p n i m w o e : List ℕ) → ((((old ++ p) ++ n) ++ i) ++ (m ++ w)) ++ (o ++ e) ≡ old ++ (p ++ n ++ i ++ m ++ w ++ o ++ e)
by_seven old p n i m w o e = simp append_assoc
