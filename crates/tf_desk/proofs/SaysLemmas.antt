-- A loop of writes to standard output.
use Rattle.std.proofs.Common.{◌≡◌, ◌⊎◌, ℕ, ◌+◌, ◌-◌, ◌≤◌, List, ◌++◌, [], length, take, drop, Option, Some, None, inl, inr, refl, sym, ◌∙◌, ap, arith, ⊎_elim, length-take}
use Rattle.std.proofs.lemmas.List.{take_all, take-take, append_assoc, append-nil}
use Rattle.std.proofs.Math.Seq.{take-add}
use Rattle.tf_desk.specs.Crash.{shown_with}
use Rattle.tf_desk.specs.State.{DeskState, MayLeave, SaysPrefix, passes_none}
use Rattle.tf_desk.specs.Replay.{after_said}
use Rattle.tf_desk.specs.Loops.{SaysFront}
use Rattle.tf_desk.proofs.WrittenLemmas.{cases_le}
use Rattle.tf_desk.proofs.StateLemmas.{files_none, left_stays}

shown_none : (shown : Option (List ℕ)) → shown ≡ shown_with shown []
shown_none None = refl
shown_none (Some text) = ap (λ (l : List ℕ). Some l) (sym (append-nil text))

shown_on : (shown : Option (List ℕ)) (a b : List ℕ) → shown_with (shown_with shown a) b ≡ shown_with shown (a ++ b)
shown_on None a b = refl
shown_on (Some text) a b = ap (λ (l : List ℕ). Some l) (append_assoc text a b)

pub says_none : (bytes : List ℕ) (s : DeskState) → SaysFront bytes 0 s s
says_none bytes s = record { tells = refl; shown = shown_none s.shown; marks = refl; files = files_none; crash = passes_none }

-- a front of a part that follows a front is a front
front_on : (bytes : List ℕ) (done n count : ℕ) → (k : ℕ) × (take done bytes ++ take count (take n (drop done bytes)) ≡ take k bytes)
front_on bytes done n count = elim (cases_le count n) [
  | inl less ↦ (done + count, ap (λ (l : List ℕ). take done bytes ++ l) (take-take count n (drop done bytes) less) ∙ sym (take-add done count bytes))
  | inr more ↦ (done + n, ap (λ (l : List ℕ). take done bytes ++ l) (take_all count (take n (drop done bytes)) (omega (arith, more, length-take n (drop done bytes)))) ∙ sym (take-add done n bytes))
]

module _ (bytes part : List ℕ) (done n : ℕ) (old mid : DeskState) (is : part ≡ take n (drop done bytes)) (says : SaysFront bytes done old mid) where
  abbrev new : DeskState
  new = after_said part mid

  whole : shown_with mid.shown part ≡ shown_with old.shown (take (done + n) bytes)
  whole = ap (λ (s : Option (List ℕ)). shown_with s part) says.shown ∙ shown_on old.shown (take done bytes) part
      ∙ ap (λ (l : List ℕ). shown_with old.shown l) (ap (λ (l : List ℕ). take done bytes ++ l) is ∙ sym (take-add done n bytes))

  may : (image : List ℕ) → MayLeave mid image → MayLeave old image
  may image left = left_stays says.files image left

  inside : (image text : List ℕ) → SaysPrefix mid part image text → SaysPrefix old bytes image text
  inside image text within =
      let front = front_on bytes done n within.1.count in (
        may image within.0,
        record {
          count = front.0;
          prefix = within.1.prefix ∙ ap (λ (s : Option (List ℕ)). shown_with s (take within.1.count part)) says.shown ∙ shown_on old.shown (take done bytes) (take within.1.count part)
              ∙ ap (λ (l : List ℕ). shown_with old.shown l) (ap (λ (l : List ℕ). take done bytes ++ take within.1.count l) is ∙ front.1);
        },
      )

  since : (start : ℕ) (image text : List ℕ) → start ≤ old.content.clock → new.crashes start image text → old.crashes start image text ⊎ SaysPrefix old bytes image text
  since start image text le (inl before) = ⊎_elim
      (λ crashed. says.crash.since start image text le crashed)
      (λ within. inr (inside image text within)) before.1
  since start image text le (inr here) = inr (may image here.1.0, record { count = done + n; prefix = sym here.1.1 ∙ whole })

  pub says_on : SaysFront bytes (done + n) old (after_said part mid)
  says_on = record {
    tells = says.tells;
    shown = whole;
    marks = says.marks;
    files = record { files = says.files.files; picked = says.files.picked; leaves = says.files.leaves };
    crash = record {
      later = omega (arith, says.crash.later);
      since = since;
      keeps = λ start image text le left. inl (omega (arith, le, says.crash.later), inl (says.crash.keeps start image text le left));
    };
  }

-- ---- in the loop

-- what is still to be said is a part of the bytes
pub part_of : (bytes : List ℕ) (done n : ℕ) → n ≤ length (take (length bytes - done) (drop done bytes)) → take n (take (length bytes - done) (drop done bytes)) ≡ take n (drop done bytes)
part_of bytes done n fits = take-take n (length bytes - done) (drop done bytes) (omega (arith, fits, length-take (length bytes - done) (drop done bytes)))
