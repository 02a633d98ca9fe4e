-- What a desk tells, as one state, and what a call does to it. Each fact of the files, the marks or the crashes holds
-- where the desk tells.
use Rattle.std.specs.Prelude.{◌≡◌, ◌≢◌, ◌⊎◌, ℕ, ◌≤◌, Bool, IsTrue, List, [], ◌∷◌, ◌++◌, Option, Some, None, unwrap_or}
use Rattle.std.proofs.Common.{inl, inr, ⊎_elim, arith}
use Rattle.tf_numbers.specs.Numbers.{Rises}
use Rattle.tf_desk.specs.Crash.{Mark, at_pick, at_sync, Content, Torn, bytes_of, Pairs, Images, Crashes, IsLeft, IsLeftNow, LeavesNoMore, ShowsPrefix}
use Rattle.tf_desk.specs.declared.device.DeskFault.{DeskFault}
use Rattle.tf_desk.specs.declared.device.DeskFault.TheVariants.{Disk, Out, Memory}

-- whether the desk tells; the text shown so far; the files, the picked name, the moment and the marks; what a crash now
-- may leave of the file of each name; what a crash at a moment since another may leave; and how many disk faults,
-- output faults, asks for a stop and questions about one there were
pub record DeskState : Type 1 where
  pub tells : Bool
  pub shown : Option (List ℕ)
  pub content : Content
  pub left : Images
  pub crashes : Crashes
  pub disk_faults : ℕ
  pub out_faults : ℕ
  pub asks : ℕ
  pub turns : ℕ

-- ---- one state

-- no pair, as a crash in a call leaves that changes nothing
abbrev pub nothing_left : Pairs
nothing_left image text = ⊥

-- any pair
abbrev pub anything : Pairs
anything image text = Unit {0}

-- the bytes of the picked file as read
abbrev pub bytes_now : DeskState → List ℕ
bytes_now state = bytes_of state.content

-- a crash now may leave this image of the picked file; no bytes where no file is picked
abbrev pub MayLeave : DeskState → List ℕ → Type 0
MayLeave state image = IsLeft state.content.picked state.left image

-- a crash now may leave this pair
abbrev pub LeftNow : DeskState → Pairs
LeftNow state image text = IsLeftNow state.content state.left state.shown image text

-- all writes are on the disk: a crash now leaves what is read
abbrev pub IsDurable : DeskState → Type 0
IsDurable state = (image : List ℕ) → MayLeave state image → image ≡ bytes_now state

-- a crash inside a call that says these bytes may leave this pair: an image as before, and a prefix of the bytes shown
abbrev pub SaysPrefix : DeskState → List ℕ → Pairs
SaysPrefix state bytes image text = MayLeave state image × ShowsPrefix state.shown bytes (Some text)

-- ---- what a call does

-- Time goes on: since any moment before, a crash may leave what it might leave then, or a pair that `during` names, and
-- no less.
pub record Passes (during : Pairs) (old new : DeskState) : Type 0 where
  pub later : old.content.clock ≤ new.content.clock
  pub since : (start : ℕ) (image text : List ℕ) → start ≤ old.content.clock → new.crashes start image text
      → old.crashes start image text ⊎ during image text
  pub keeps : (start : ℕ) (image text : List ℕ) → start ≤ old.content.clock → old.crashes start image text
      → new.crashes start image text

-- a call of the disk: nothing is shown, and no count but that of disk faults changes; marks are added at the end alone
pub record OnDisk (during : Pairs) (old new : DeskState) : Type 0 where
  pub tells : new.tells ≡ old.tells
  pub shown : new.shown ≡ old.shown
  pub disk_faults : old.disk_faults ≤ new.disk_faults
  pub out_faults : new.out_faults ≡ old.out_faults
  pub asks : new.asks ≡ old.asks
  pub turns : new.turns ≡ old.turns
  pub marks : IsTrue old.tells → (more : List Mark) × (new.content.marks ≡ old.content.marks ++ more)
  pub crash : IsTrue old.tells → Passes during old new

-- the state before a call, telling what the desk tells after it
abbrev pub told_as : DeskState → DeskState → DeskState
told_as new old = record old { tells = new.tells }

-- A call that takes an answer of the system on trust, and does that. The desk tells after it only where it told before
-- and the answer agrees with what it told; what the call does is told then.
pub record Trusts (Does : DeskState → DeskState → Type 0) (old new : DeskState) : Type 0 where
  pub falls : IsTrue new.tells → IsTrue old.tells
  pub does : Does (told_as new old) new

-- what each call keeps, of any layer: no count falls, marks are added at the end alone, and a crash leaves what it
-- might or what `during` names
pub record Extends (during : Pairs) (old new : DeskState) : Type 0 where
  pub tells : new.tells ≡ old.tells
  pub disk_faults : old.disk_faults ≤ new.disk_faults
  pub out_faults : old.out_faults ≤ new.out_faults
  pub asks : old.asks ≤ new.asks
  pub turns : old.turns ≤ new.turns
  pub marks : IsTrue old.tells → (more : List Mark) × (new.content.marks ≡ old.content.marks ++ more)
  pub crash : IsTrue old.tells → Passes during old new

-- no file changed, the same one is picked, and of each a crash leaves nothing that it couldn't leave before
pub record FilesStay (old new : DeskState) : Type 0 where
  pub files : new.content.files ≡ old.content.files
  pub picked : new.content.picked ≡ old.content.picked
  pub leaves : LeavesNoMore old.left new.left

-- the same file is picked, and the others didn't change
pub record OthersStay (old new : DeskState) : Type 0 where
  pub picked : new.content.picked ≡ old.content.picked
  pub others : (other : List ℕ) → old.content.picked ≢ Some other → new.content.files other ≡ old.content.files other

-- no pick and no sync answered Ok
abbrev pub Unmarked : DeskState → DeskState → Type 0
Unmarked old new = IsTrue old.tells → new.content.marks ≡ old.content.marks

-- calls that read or sync: no file changes, and a crash leaves nothing that it couldn't leave before
pub record Rests (old new : DeskState) : Type 0 where
  pub on_disk : OnDisk nothing_left old new
  pub files : IsTrue old.tells → FilesStay old new

-- calls that write to the picked file alone
pub record GoesOn (during : Pairs) (old new : DeskState) : Type 0 where
  pub on_disk : OnDisk during old new
  pub files : IsTrue old.tells → OthersStay old new

-- a write of n bytes at that offset, whole or cut short: the picked file reads as torn there, and a crash leaves it
-- torn there
pub record Tears (at n : ℕ) (old new : DeskState) : Type 0 where
  pub marks : new.content.marks ≡ old.content.marks
  pub bytes : Torn at n (bytes_now old) (bytes_now new)
  pub left : (name image : List ℕ) → old.content.picked ≡ Some name → new.left name image → (was : List ℕ)
      × old.left name was × Torn at n was image
  pub left_others : (name image : List ℕ) → old.content.picked ≢ Some name → new.left name image → old.left name image

-- a sync that answered Ok: it is marked, and a crash now leaves what is read
pub record Syncs (old new : DeskState) : Type 0 where
  pub marks : new.content.marks ≡ old.content.marks ++ at_sync new.content.clock ∷ []
  pub durable : IsDurable new

-- a call that says these bytes: some prefix of them was shown, and no file changes
pub record Says (bytes : List ℕ) (old new : DeskState) : Type 0 where
  pub tells : new.tells ≡ old.tells
  pub prefix : ShowsPrefix old.shown bytes new.shown
  pub disk_faults : new.disk_faults ≡ old.disk_faults
  pub out_faults : old.out_faults ≤ new.out_faults
  pub asks : new.asks ≡ old.asks
  pub turns : new.turns ≡ old.turns
  pub marks : Unmarked old new
  pub files : IsTrue old.tells → FilesStay old new
  pub crash : IsTrue old.tells → Passes (SaysPrefix old bytes) old new

-- a question whether a stop is asked for: no file changes, and nothing is shown
pub record Asks (old new : DeskState) : Type 0 where
  pub tells : new.tells ≡ old.tells
  pub shown : new.shown ≡ old.shown
  pub disk_faults : new.disk_faults ≡ old.disk_faults
  pub out_faults : new.out_faults ≡ old.out_faults
  pub asks : old.asks ≤ new.asks
  pub turns : old.turns ≤ new.turns
  pub turned : Rises old.turns new.turns
  pub marks : Unmarked old new
  pub files : IsTrue old.tells → FilesStay old new
  pub crash : IsTrue old.tells → Passes nothing_left old new

-- no fault of the disk was counted
abbrev pub MeetsNoDiskFault : DeskState → DeskState → Type 0
MeetsNoDiskFault old new = new.disk_faults ≡ old.disk_faults

-- no fault of the output was counted
abbrev pub MeetsNoOutputFault : DeskState → DeskState → Type 0
MeetsNoOutputFault old new = new.out_faults ≡ old.out_faults

-- the file of that name is picked, made empty where there was none
pub record Picks (name : List ℕ) (old new : DeskState) : Type 0 where
  pub picked : new.content.picked ≡ Some name
  pub file : new.content.files name ≡ Some (unwrap_or (old.content.files name) [])
  pub others : (other : List ℕ) → other ≢ name → new.content.files other ≡ old.content.files other
  pub marks : new.content.marks ≡ old.content.marks ++ at_pick name new.content.clock ∷ []

-- nothing was picked; a missing file of that name may have been made empty
pub record PicksNone (name : List ℕ) (old new : DeskState) : Type 0 where
  pub picked : new.content.picked ≡ old.content.picked
  pub file : (bytes : List ℕ) → new.content.files name ≡ Some bytes → unwrap_or (old.content.files name) [] ≡ bytes
  pub kept : (bytes : List ℕ) → old.content.files name ≡ Some bytes → new.content.files name ≡ Some bytes
  pub others : (other : List ℕ) → other ≢ name → new.content.files other ≡ old.content.files other
  pub marks : new.content.marks ≡ old.content.marks

-- of each file a crash leaves nothing that it couldn't leave before, but for no bytes of that file where it was missing
abbrev pub LeavesMade : List ℕ → DeskState → DeskState → Type 0
LeavesMade name old new =
    (other image : List ℕ) → new.left other image → old.left other image
    ⊎ ((other ≡ name) × (old.content.files other ≡ None) × (image ≡ []))

-- calls that may say, ask, and write to the picked file alone: no count falls, marks are added at the end alone, the
-- same file stays picked, and the others don't change
pub record Continues (old new : DeskState) : Type 0 where
  pub extends : Extends anything old new
  pub files : IsTrue old.tells → OthersStay old new

-- nobody was asked for a stop
pub record IsUnasked (old new : DeskState) : Type 0 where
  pub asks : new.asks ≡ old.asks
  pub turns : new.turns ≡ old.turns

-- ---- why a call failed

-- the disk's fault, and the count of disk faults rose
abbrev pub FailsOnDisk : DeskFault → DeskState → DeskState → Type 0
FailsOnDisk fault old new = (fault ≡ Disk) × Rises old.disk_faults new.disk_faults

-- the output's fault, and the count of output faults rose
abbrev pub FailsOnOutput : DeskFault → DeskState → DeskState → Type 0
FailsOnOutput fault old new = (fault ≡ Out) × Rises old.out_faults new.out_faults

-- a pick's: the disk's fault, and the count of disk faults rose; or want of memory
abbrev pub FailsToPick : DeskFault → DeskState → DeskState → Type 0
FailsToPick Disk old new = Rises old.disk_faults new.disk_faults
FailsToPick Out old new = ⊥
FailsToPick Memory old new = Unit {0}

-- ---- how time goes on

-- before any call
pub passes_none : {during : Pairs} {old : DeskState} → Passes during old old
passes_none =
    record {
      later = omega arith;
      since = λ start image text le left. inl left;
      keeps =
          λ start image text le left. left;
    }

-- one call after another, where what each may leave has one property
pub passes_on : {first second during : Pairs} {old mid new : DeskState} → Passes first old mid → Passes second mid new
    → ((image text : List ℕ) → first image text → during image text)
    → ((image text : List ℕ) → second image text → during image text)
    → Passes during old new
passes_on a b from_first from_second = record {
  later = omega (arith, a.later, b.later);
  since = λ start image text le left.
      ⊎_elim
      (λ earlier. ⊎_elim (λ old. inl old) (λ in_first. inr (from_first image text in_first))
      (a.since start image text le earlier))
      (λ in_second. inr (from_second image text in_second))
      (b.since start image text (omega (arith, le, a.later)) left);
  keeps =
      λ start image text le left. b.keeps start image text (omega (arith, le, a.later))
      (a.keeps start image text le left);
}

-- what may be left has a wider property too
pub passes_within : {narrow during : Pairs} {old new : DeskState} → Passes narrow old new
    → ((image text : List ℕ) → narrow image text → during image text) → Passes during old new
passes_within a within = record {
  later = a.later;
  since =
      λ start image text le left. ⊎_elim (λ old. inl old) (λ new. inr (within image text new))
      (a.since start image text le left);
  keeps = a.keeps;
}

-- a property of all that a crash since a start may leave goes on through a call
pub passes_since : {during property : Pairs} {old new : DeskState} {start : ℕ} → Passes during old new
    → start ≤ old.content.clock
    → ((image text : List ℕ) → old.crashes start image text → property image text)
    → ((image text : List ℕ) → during image text → property image text)
    → (image text : List ℕ) → new.crashes start image text → property image text
passes_since a le old new image text left =
    ⊎_elim (λ earlier. old image text earlier) (λ now_left. new image text now_left) (a.since _ image text le left)
