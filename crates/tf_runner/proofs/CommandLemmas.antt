-- What conductors did on a board that was opened, with the files that were read.
use Rattle.std.proofs.Common.{◌≡◌, ◌<◌, ℕ, List, length, Option, None, Some, subst, arith}
use Rattle.std.specs.Prelude.{slice_get}
use Rattle.std.specs.List.{AllByRecursion}
use Rattle.tf_actions.specs.declared.orders.Order.{Order}
use Rattle.tf_actions.specs.declared.outcomes.Outcome.{Outcome}
use Rattle.tf_board.specs.Board.{AreOfBoard, BoardValue}
use Rattle.tf_conductor.specs.Conducting.{IsConducting}
use Rattle.tf_conductor.specs.Rounds.{AllClaimed, AreNamedBy, EndsConducting, HasConducted, IsConductors, owner_name}
use Rattle.tf_desk.specs.State.{DeskState}
use Rattle.tf_ports.specs.Ports.{Contents}
use Rattle.tf_shared_board.specs.Shared.{followed_by, SharedValue}
use Rattle.tf_shared_board.specs.declared.calls.BoardHalt.{BoardHalt}
use Rattle.tf_shared_board.specs.declared.calls.Made.{Made}
use Rattle.tf_runner.specs.Conducts.{AreConducted, JobRunsTo}
use Rattle.tf_runner.specs.Reading.{AreReadFrom, HaveFiles, MeansRunTo}
use Rattle.tf_runner.specs.declared.files.JobFile.{JobFile}
use Rattle.tf_runner.proofs.CallLemmas.{all_owned, owner_there, shared_so}
use Rattle.tf_runner.proofs.FreeLemmas.{GoesInRounds, IsFree, all_free}
use Rattle.tf_runner.proofs.MeanLemmas.{ends_so}

module _ {K : Type 0} (state : K → DeskState) (word : List ℕ) (owners : List (List ℕ)) (count : ℕ) (board : BoardValue K) (now : SharedValue K)
    (k : IsConducting state (record { begun = shared_so state board; now = now; owners = owners }))
    (named : AreNamedBy word owners) (many : length owners ≡ count) (gives : Order → Outcome → Type 0) (contents : Contents) (files : List JobFile)
    (read : AreReadFrom contents files) (have : HaveFiles board.past files) (halted : Option BoardHalt) (legal : AreOfBoard now.board.past)
    (each : (number : ℕ) (owner : List ℕ) → slice_get owners number ≡ Some owner → EndsConducting (MeansRunTo gives files) None board.past number owner None now.made halted) where
  legal_so : AreOfBoard (followed_by board.past now.made)
  legal_so = subst AreOfBoard k.list legal

  rounds_of : (m : Made) → IsConductors owners m → GoesInRounds m.number now.made
  rounds_of m mine =
      let e : EndsConducting (MeansRunTo gives files) None board.past m.number mine.0 None now.made halted = each m.number mine.0 mine.1 in
      let c : HasConducted (MeansRunTo gives files) None board.past m.number mine.0 None now.made e.begun = e.conducted in
      record { owner = mine.0; rounds = c.rounds; begun = e.begun; calls = c.calls_are }

  free_so : AllByRecursion (λ m. IsFree board.past m.job) now.made
  free_so = all_free owners board.past now.made k.by legal_so.legal rounds_of

  each_so : (number : ℕ) → number < count → EndsConducting (JobRunsTo gives contents) None board.past number (owner_name word number) None now.made halted
  each_so number below =
      let owner = owner_there owners number (omega (arith, below, many)) in
      subst (λ (who : List ℕ). EndsConducting (JobRunsTo gives contents) None board.past number who None now.made halted) (named number owner.0 owner.1)
      (ends_so gives contents files read board.past have number owner.0 now.made halted free_so (each number owner.0 owner.1))

  -- the calls are those of conductors, each of whose runs may end so by what the sources hold
  pub conducted_so : (halted ≡ None → AllClaimed board.past now.made) → AreConducted gives contents word count board.past now.made halted
  conducted_so all = record { legal = legal_so; owned = all_owned word owners count named many now.made k.by; each = each_so; all = all }
