-- How a job's run may end by the files that were read, and by what the sources hold.
use Rattle.std.proofs.Common.{◌≡◌, inl, inr, ℕ, zero, suc, ◌+◌, Bool, true, false, List, [], ◌∷◌, ◌++◌, cond, Option, Some, None, refl, sym, ap, subst, ◌∙◌, arith}
use Rattle.std.specs.Prelude.{is_some}
use Rattle.std.specs.Cmp.Lexicographic.{bytes_decides}
use Rattle.std.specs.List.{AllByRecursion}
use Rattle.std.proofs.lemmas.Option.{slice_get_cases}
use Rattle.tf_actions.specs.declared.orders.Order.{Order}
use Rattle.tf_actions.specs.declared.outcomes.Outcome.{Outcome}
use Rattle.tf_board.specs.Board.{details_in, is_free, jobs_of, numbered, standing_of}
use Rattle.tf_board.specs.declared.commands.Command.{Command}
use Rattle.tf_board.specs.declared.jobs.Job.{Job}
use Rattle.tf_board.proofs.JobLemmas.{job_told, jobs_long}
use Rattle.tf_conductor.specs.Rounds.{Begun, EndsConducting, HasConducted, IsBegunRound, IsRound, Round, begun_calls, calls_of, claimed, nothing, run}
use Rattle.tf_conductor.specs.declared.runners.Ran.{Ran}
use Rattle.tf_conductor.proofs.HeldLemmas.{second_all}
use Rattle.tf_ports.specs.Ports.{Contents}
use Rattle.tf_shared_board.specs.declared.calls.BoardHalt.{BoardHalt}
use Rattle.tf_shared_board.specs.declared.calls.Made.{Made}
use Rattle.tf_values.specs.declared.value.Val.{Val}
use Rattle.tf_values.specs.declared.value.Val.TheVariants as value
use Rattle.tf_runner.specs.Conducts.{JobRunsTo, by_file, no_text, too_long}
use Rattle.tf_runner.specs.Reading.{AreReadFrom, ContentRunsTo, HaveFiles, IsContent, MeansRunTo, FileRunsTo, Names, found_in, has_file_name}
use Rattle.tf_runner.specs.declared.files.Content.{Content}
use Rattle.tf_runner.specs.declared.files.Content.TheVariants as content
use Rattle.tf_runner.specs.declared.files.JobFile.{JobFile}
use Rattle.tf_runner.proofs.FreeLemmas.{IsFree, filter_all, first_all}

-- a file that was found has the name, and is as the sources tell
pub found_read : (contents : Contents) (files : List JobFile) (name : List ℕ) (file : JobFile) → AreReadFrom contents files → found_in files name ≡ Some file → IsContent contents name file.content
found_read contents [] name file all is = absurd (cc)
found_read contents (x ∷ files) name file all is = by (has_file_name name x) refl is (λ found. found_read contents files name file all.1 found)
  where
    by : (b : Bool) → has_file_name name x ≡ b → cond b (Some x) (found_in files name) ≡ Some file → (found_in files name ≡ Some file → IsContent contents name file.content) → IsContent contents name file.content
    by true at found rest =
        let same : x ≡ file = cc in
        subst (λ (f : JobFile). IsContent contents name f.content) same (subst (λ (n : List ℕ). IsContent contents n x.content) ((bytes_decides x.name name).0 at) all.0)
    by false at found rest = rest found

-- there is a job where one is free
free_job_there : (past : List Command) (n : ℕ) → IsFree past n → (job : Job) × (numbered (jobs_of past) n ≡ Some job) × (is_free job.standing ≡ true)
free_job_there past zero free = absurd (omega (arith, free.least))
free_job_there past (suc place) free =
    elim (slice_get_cases (jobs_of past) place).1 [
      | inl there ↦
          let told = job_told past past place there.0 there.2 in
          (there.0, there.2, ap is_free (told.1 ∙ ap (standing_of past) (let next : place + 1 ≡ suc place = omega arith in next) ∙ free.free))
      | inr out ↦ absurd (omega (arith, out.0, free.most, jobs_long past past))
    ]

module _ (gives : Order → Outcome → Type 0) (contents : Contents) (files : List JobFile) (read : AreReadFrom contents files) (past : List Command) (have : HaveFiles past files) where
  -- the run of a job that nobody had may end as the sources tell
  pub means_so : (n : ℕ) (details : Val) (r : Ran) → numbered (details_in past) n ≡ Some details → IsFree past n → MeansRunTo gives files details r → JobRunsTo gives contents details r
  means_so n (value.Text name) r is free runs = by (found_in files name) refl runs
    where
      named : Names past n name
      named = (let there = free_job_there past n free in record { job = there.0; there = there.1; free = there.2; details = is })

      so : (c : Content) → IsContent contents name c → ContentRunsTo gives c r → JobRunsTo gives contents (value.Text name) r
      so (content.Bytes bytes) has ran_so = by_file name bytes.items r has.0 has.1 ran_so
      so content.TooLong has left = subst (JobRunsTo gives contents (value.Text name)) (sym left) (too_long name has)

      by : (o : Option JobFile) → found_in files name ≡ o → FileRunsTo gives o r → JobRunsTo gives contents (value.Text name) r
      by None none left = (let clash : false ≡ true = sym (ap is_some none) ∙ have n name named in absurd (cc))
      by (Some file) found ran_so = so file.content (found_read contents files name file read found) ran_so
  means_so n value.Nothing r is free left = subst (JobRunsTo gives contents value.Nothing) (sym left) (no_text value.Nothing (λ name same. cc))
  means_so n (value.Truth b) r is free left = subst (JobRunsTo gives contents (value.Truth b)) (sym left) (no_text (value.Truth b) (λ name same. cc))
  means_so n (value.Int i) r is free left = subst (JobRunsTo gives contents (value.Int i)) (sym left) (no_text (value.Int i) (λ name same. cc))
  means_so n (value.List items) r is free left = subst (JobRunsTo gives contents (value.List items)) (sym left) (no_text (value.List items) (λ name same. cc))

  round_so : (r : Round) → IsFree past r.job → IsRound (MeansRunTo gives files) past r → IsRound (JobRunsTo gives contents) past r
  round_so r free is = record { details_is = is.details_is; given = means_so r.job r.details r.ran is.details_is free is.given }

  rounds_so : (number : ℕ) (owner : List ℕ) (rounds : List Round) → AllByRecursion (λ m. IsFree past m.job) (calls_of number owner rounds) → AllByRecursion (IsRound (MeansRunTo gives files) past) rounds
      → AllByRecursion (IsRound (JobRunsTo gives contents) past) rounds
  rounds_so number owner [] free all = tt
  rounds_so number owner (r ∷ rounds) free all = (round_so r free.0 all.0, rounds_so number owner rounds free.1.1 all.1)

  begun_so : (number : ℕ) (owner : List ℕ) (begun : Begun) → AllByRecursion (λ m. IsFree past m.job) (begun_calls number owner begun) → IsBegunRound (MeansRunTo gives files) past begun
      → IsBegunRound (JobRunsTo gives contents) past begun
  begun_so number owner nothing free is = tt
  begun_so number owner (claimed job id details) free is = is
  begun_so number owner (run r) free is = round_so r free.0 is

  -- what a conductor did
  pub ends_so : (number : ℕ) (owner : List ℕ) (made : List Made) (halted : Option BoardHalt) → AllByRecursion (λ m. IsFree past m.job) made
      → EndsConducting (MeansRunTo gives files) None past number owner None made halted → EndsConducting (JobRunsTo gives contents) None past number owner None made halted
  ends_so number owner made halted free e =
      let c : HasConducted (MeansRunTo gives files) None past number owner None made e.begun = e.conducted in
      let mine : AllByRecursion (λ m. IsFree past m.job) (calls_of number owner c.rounds ++ begun_calls number owner e.begun)
      = subst (λ (l : List Made). AllByRecursion (λ m. IsFree past m.job) l) c.calls_are (filter_all (λ (m : Made). IsFree past m.job) _ made free) in
      record {
        begun = e.begun;
        conducted = record {
          rounds = c.rounds;
          calls_are = c.calls_are;
          did_is = c.did_is;
          are_rounds = rounds_so number owner c.rounds (first_all (λ (m : Made). IsFree past m.job) (calls_of number owner c.rounds) (begun_calls number owner e.begun) mine) c.are_rounds;
          is_begun = begun_so number owner e.begun (second_all (λ (m : Made). IsFree past m.job) (calls_of number owner c.rounds) (begun_calls number owner e.begun) mine) c.is_begun;
        };
        whole = e.whole;
      }
