-- What is read behind bodies, and what reading leaves as it was.
use Rattle.std.proofs.Common.{◌≡◌, ℕ, List, [], ◌∷◌, ◌++◌, length, refl, sym, ◌∙◌, ap, subst, append-nil}
use Rattle.std.specs.Prelude.{IsTrue}
use Rattle.tf_desk.specs.State.{DeskState, bytes_now, Trusts, Rests}
use Rattle.tf_desk.proofs.StateLemmas.{trusts_files, trusts_rests_on, bytes_stay}
use Rattle.tf_journal.specs.Format.{Found, closed, body, bad, prefix_of, record_at, Held, LiesAs}
use Rattle.tf_journal.specs.declared.title.Title.{Title}
use Rattle.tf_journal.specs.Reading.{HasBodies, OnlyReads}
use Rattle.tf_journal.proofs.CrashLemmas.{at_rest_on}
use Rattle.tf_journal.proofs.PlaceLemmas.{found_next, found_end}

-- what is found behind bodies of a file in which others lie after them
abbrev pub NextBy : Found → List (List ℕ) → Type 0
NextBy closed rest = rest ≡ []
NextBy (body found next) rest = (others : List (List ℕ)) × (rest ≡ found ∷ others)
NextBy (bad offset byte) rest = ⊥

pub next_by : (title : Title) (before rest : List (List ℕ)) (size : ℕ) (bytes : List ℕ) (place : ℕ) (found : Found) → LiesAs title (before ++ rest) size bytes
    → place ≡ length (prefix_of title before) → record_at title bytes place ≡ found → NextBy found rest
next_by title before [] size bytes place found lies at is =
    let here : found ≡ closed = sym is ∙ ap (record_at title bytes) at ∙ found_end title before size bytes (subst (λ (h : List (List ℕ)). LiesAs title h size bytes) (append-nil before) lies) in
    subst (λ (f : Found). NextBy f []) (sym here) refl
next_by title before (first ∷ others) size bytes place found lies at is =
    let here : found ≡ body first (length (prefix_of title (before ++ first ∷ []))) = sym is ∙ ap (record_at title bytes) at ∙ found_next title before others first size bytes lies in
    subst (λ (f : Found). NextBy f (first ∷ others)) (sym here) (others, refl)

module _ {K : Type 0} (state : K → DeskState) where
  -- the desk was read
  pub read_only : (journal : Held K) (desk : K) → Trusts Rests (state journal.desk) (state desk) → OnlyReads state journal (record journal { desk = desk })
  read_only journal desk rests = record {
    journal = refl;
    stays = λ told held rest. at_rest_on state journal desk held rest (trusts_files rests told);
    rests = rests;
  }

  -- one reading after another
  pub reads_on : (a b c : Held K) → OnlyReads state a b → OnlyReads state b c → OnlyReads state a c
  reads_on a b c one two = record {
    journal = two.journal ∙ ap (λ (h : Held K). record h { desk = c.desk }) one.journal;
    stays = λ told held rest. two.stays told held (one.stays (two.rests.falls told) held rest);
    rests = trusts_rests_on one.rests two.rests;
  }

  -- the file stays, and the bodies in it
  pub same_file : (a b : Held K) → OnlyReads state a b → IsTrue (state b.desk).tells → bytes_now (state b.desk) ≡ bytes_now (state a.desk)
  same_file a b reads told = bytes_stay (trusts_files reads.rests told)

  pub bodies_stay : (a b : Held K) → OnlyReads state a b → IsTrue (state b.desk).tells → (held : List (List ℕ)) → HasBodies state a held → HasBodies state b held
  bodies_stay a b reads told held lies =
      subst (λ (j : Held K). LiesAs j.title held j.size (bytes_now (state b.desk))) (sym reads.journal)
      (subst (λ (bytes : List ℕ). LiesAs a.title held a.size bytes) (sym (same_file a b reads told)) lies)

  pub bodies_were : (a b : Held K) → OnlyReads state a b → IsTrue (state b.desk).tells → (held : List (List ℕ)) → HasBodies state b held → HasBodies state a held
  bodies_were a b reads told held lies =
      subst (λ (bytes : List ℕ). LiesAs a.title held a.size bytes) (same_file a b reads told)
      (subst (λ (j : Held K). LiesAs j.title held j.size (bytes_now (state b.desk))) reads.journal lies)

  -- what is told was told before
  pub told_was : (a b : Held K) → OnlyReads state a b → IsTrue (state b.desk).tells → IsTrue (state a.desk).tells
  told_was a b reads told = reads.rests.falls told
