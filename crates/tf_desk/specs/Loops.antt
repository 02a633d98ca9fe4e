-- What loops of calls do, of each replay of them.
use Rattle.std.specs.Prelude.{◌≡◌, ℕ, ◌-◌, ◌≤◌, true, List, length, take, drop, is_some, Result, OnOk, ⊤}
use Rattle.tf_desk.specs.Crash.{written, shown_with}
use Rattle.tf_desk.specs.State.{DeskState, bytes_now, LeftNow, SaysPrefix, Passes, FilesStay, Trusts, Rests, GoesOn, Tears}

-- of n bytes at that offset these are put, and a crash may leave any in the range
pub record Puts (at n : ℕ) (front : List ℕ) (old new : DeskState) : Type 0 where
  pub goes : GoesOn (LeftNow new) old new
  pub picked : new.content.picked ≡ old.content.picked
  pub tears : Tears at n old new
  pub bytes : is_some old.content.picked ≡ true → at ≤ length (bytes_now old)
      → bytes_now new ≡ written (bytes_now old) at front

-- of the bytes some were put: all of them where the call answered Ok
pub record PutsSome {E : Type 0} (at : ℕ) (bytes : List ℕ) (result : Result (⊤) E) (old new : DeskState) : Type 0 where
  pub front : List ℕ
  pub puts : Puts at (length bytes) front old new
  pub whole : OnOk result (front ≡ bytes)

-- answers came, which leave the files as they are told
pub record Answers (old new : DeskState) : Type 0 where
  pub rests : Trusts Rests old new
  pub content : new.content ≡ old.content

-- the first bytes of the buffer are the file's from that offset on
pub record ReadsFront (file : List ℕ) (at done : ℕ) (buffer : List ℕ) : Type 0 where
  pub few : done ≤ length file - at
  pub same : take done buffer ≡ take done (drop at file)

-- of the bytes the first ones were said
pub record SaysFront (bytes : List ℕ) (done : ℕ) (old new : DeskState) : Type 0 where
  pub tells : new.tells ≡ old.tells
  pub shown : new.shown ≡ shown_with old.shown (take done bytes)
  pub marks : new.content.marks ≡ old.content.marks
  pub files : FilesStay old new
  pub crash : Passes (SaysPrefix old bytes) old new

-- of the bytes the first ones were said: all of them where the call answered Ok
pub record SaysThem {E : Type 0} (bytes : List ℕ) (result : Result (⊤) E) (old new : DeskState) : Type 0 where
  pub done : ℕ
  pub says : SaysFront bytes done old new
  pub whole : OnOk result (done ≡ length bytes)
