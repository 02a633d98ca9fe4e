-- A loop of reads.
use Rattle.std.proofs.Common.{◌≡◌, ℕ, ◌+◌, ◌-◌, ◌≤◌, ◌<◌, Bool, true, List, ◌++◌, [], ◌∷◌, length, take, drop, refl, sym, ◌∙◌, ap, arith, length-take, length-drop}
use Rattle.std.proofs.lemmas.List.{take-append-le, drop_at, drop-drop}
use Rattle.std.proofs.Math.Seq.{take-add}
use Rattle.std.proofs.lemmas.Bool.{and_parts, leb-true}
use Rattle.std.specs.Cmp.Lexicographic.{bytes_decides}
use borrow.Rule.Slice.PartMut.{put_mid, post_of}
use Rattle.tf_desk.specs.Crash.{Reads}
use Rattle.tf_desk.specs.State.{DeskState, Trusts, Rests}
use Rattle.tf_desk.specs.Replay.{agrees, after_answer}
use Rattle.tf_desk.specs.Loops.{Answers, ReadsFront}
use Rattle.tf_desk.proofs.StateLemmas.{rests_none, trusts_rests_none, trusts_rests_on}
use Rattle.tf_desk.proofs.StreamLemmas.{prefix_stays, room_stays}

pub answers_none : (s : DeskState) → Answers s s
answers_none s = record { rests = trusts_rests_none; content = refl }

-- an answer changes no file
pub answers_one : (agreed : Bool) (s : DeskState) → Trusts Rests s (after_answer agreed s)
answers_one agreed s = record { falls = λ told. (and_parts s.tells agreed told).0; does = rests_none }

pub answers_on : (agreed : Bool) (old mid : DeskState) → Answers old mid → Answers old (after_answer agreed mid)
answers_on agreed old mid a = record { rests = trusts_rests_on a.rests (answers_one agreed mid); content = a.content }

agrees_part : (file part : List ℕ) (from : ℕ) → agrees file from part ≡ true → 0 < length part → take (length part) (drop from file) ≡ part
agrees_part file [] from is some = absurd (omega (arith, some))
agrees_part file (b ∷ part) from is some = (bytes_decides (take (length (b ∷ part)) (drop from file)) (b ∷ part)).0 is

agrees_end : (file part : List ℕ) (from : ℕ) → agrees file from part ≡ true → length part ≡ 0 → length file ≤ from
agrees_end file [] from is none = leb-true (length file) from is
agrees_end file (b ∷ part) from is none = absurd (omega (arith, none))

module _ (buf new : List ℕ) (done : ℕ) (le : done ≤ length buf) (room : length new ≡ length buf - done) where
  abbrev filled : List ℕ
  filled = put_mid done (length buf - done) buf new

  pub room_kept : length filled ≡ length buf
  room_kept = room_stays buf new done le room

  part_is : (n : ℕ) → n ≤ length new → take n (drop done filled) ≡ take n new
  part_is n fits =
      let rest : drop done filled ≡ new ++ post_of done (length buf - done) buf = drop_at (take done buf) (new ++ post_of done (length buf - done) buf) done (omega (arith, le, length-take done buf)) in
      ap (take n) rest ∙ take-append-le n new (post_of done (length buf - done) buf) fits

  part_size : (n : ℕ) → n ≤ length new → length (take n new) ≡ n
  part_size n fits = omega (arith, fits, length-take n new)

  module _ (file : List ℕ) (at from n : ℕ) (is : from ≡ at + done) (fits : n ≤ length new) (front : ReadsFront file at done buf) (agreed : agrees file from (take n new) ≡ true) where
    pub reads_more : 0 < n → ReadsFront file at (done + n) filled
    reads_more some =
        let part = take n new in
        let size = part_size n fits in
        let came : take n (drop from file) ≡ part = ap (λ (k : ℕ). take k (drop from file)) (sym size) ∙ agrees_part file part from agreed (omega (arith, some, size)) in
        let there : drop from file ≡ drop done (drop at file) = ap (λ (k : ℕ). drop k file) is ∙ sym (drop-drop done at file) in
        record {
          few = omega (arith, is, some, front.few, size, ap length came, length-take n (drop from file), length-drop from file);
          same = take-add done n filled ∙ ap (λ (l : List ℕ). l ++ take n (drop done filled)) (prefix_stays buf new done le ∙ front.same)
              ∙ ap (λ (l : List ℕ). take done (drop at file) ++ l) (part_is n fits ∙ sym came ∙ ap (take n) there)
              ∙ sym (take-add done n (drop at file));
        }

    pub reads_end : n ≡ 0 → Reads file at filled done
    reads_end none =
        let last = agrees_end file (take n new) from agreed (part_size n fits ∙ none) in
        record {
          count = omega (arith, is, le, last, front.few, room_kept);
          prefix = prefix_stays buf new done le ∙ front.same;
        }

  pub reads_same : (file : List ℕ) (at : ℕ) → ReadsFront file at done buf → ReadsFront file at done filled
  reads_same file at front = record { few = front.few; same = prefix_stays buf new done le ∙ front.same }

pub reads_none : (file : List ℕ) (at : ℕ) (buf : List ℕ) → ReadsFront file at 0 buf
reads_none file at buf = record { few = omega arith; same = refl }

pub reads_full : (file : List ℕ) (at done : ℕ) (buf : List ℕ) → done ≤ length buf → length buf ≤ done → ReadsFront file at done buf → Reads file at buf done
reads_full file at done buf le full front = record { count = omega (arith, le, full, front.few); prefix = front.same }
