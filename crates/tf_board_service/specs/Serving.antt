-- A shared board that sessions hand round, and what its type keeps. Lists of commands have the newest first, lists of
-- calls the oldest.
use Rattle.std.specs.Prelude.{◌≡◌, ℕ, List, [], ◌++◌, length, drop, Option, Some, None, IfSome, IsSome}
use Rattle.tf_desk.specs.State.{DeskState, anything, GoesOn}
use Rattle.tf_shared_board.specs.Shared.{followed_by, SharedValue, HasCause}
use Rattle.tf_shared_board.specs.declared.calls.BoardHalt.{BoardHalt}
use Rattle.tf_shared_board.specs.declared.calls.Made.{Made}
use Rattle.tf_board_service.specs.Sessions.{Answers, MakesNoCall}
use Rattle.tf_board_service.specs.declared.replies.BoardReply.{BoardReply}
use Rattle.tf_board.specs.declared.calls.BoardRequest.{BoardRequest}

-- the shared board when the call began, and as it is now
pub record ServingValue (K : Type 0) : Type 0 where
  pub begun : SharedValue K
  pub now : SharedValue K

-- the calls that were made since
abbrev pub made_since : {K : Type 0} → SharedValue K → SharedValue K → List Made
made_since old new = drop (length old.made) new.made

module _ {K : Type 0} (state : K → DeskState) where
  -- since the call began: the commands are those from then followed by those of the calls; no count fell, and the same
  -- file is picked; a halt that didn't stand then has its cause since then, and one that stood then stands, with no
  -- call
  pub record IsServing (s : ServingValue K) : Type 0 where
    pub made : s.now.made ≡ s.begun.made ++ made_since s.begun s.now
    pub list : s.now.board.past ≡ followed_by s.begun.board.past (made_since s.begun s.now)
    pub start : s.now.start ≡ s.begun.start
    pub goes : GoesOn anything (state s.begun.board.journal.desk) (state s.now.board.journal.desk)
    pub cause : s.begun.halt ≡ None → IfSome s.now.halt (HasCause state s.begun.board s.now.board)
    pub stays : (halt : BoardHalt) → s.begun.halt ≡ Some halt → (s.now.halt ≡ Some halt)
        × (made_since s.begun s.now ≡ [])

  -- ---- a turn

  -- a turn to answer a request
  pub record HasAnswered (number : ℕ) (asked : BoardRequest) (old new : ServingValue K)
      (result : Option BoardReply) : Type 0 where
    pub same : new.begun ≡ old.begun
    pub answers : Answers state number asked old.now new.now result

  -- a turn to halt it
  pub record HasHalted (old new : ServingValue K) : Type 0 where
    pub same : new.begun ≡ old.begun
    pub none : MakesNoCall state old.now new.now
    pub halted : IsSome new.now.halt
