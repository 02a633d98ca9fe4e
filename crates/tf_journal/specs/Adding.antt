-- What an append does.
use Rattle.std.specs.Prelude.{◌≡◌, ℕ, ◌+◌, ◌<◌, ◌≤◌, true, false, List, [], ◌∷◌, ◌++◌, length, drop, ◌⊎◌}
use Rattle.tf_numbers.specs.Numbers.{Rises}
use Rattle.tf_desk.specs.State.{DeskState, bytes_now, MayLeave, Passes}
use Rattle.tf_journal.specs.declared.faults.AppendFault.{AppendFault}
use Rattle.tf_journal.specs.declared.faults.AppendFault.TheVariants.{Disk, Full, Halted}
use Rattle.tf_journal.specs.Format.{OPEN, SIZE_LIMIT, journal_bytes, bodies, unborn, recovered, Held, IsAtRest, IsDrafted, LeavesEither, LeavesBeforeOrAfter, LeavesUnborn, LeavesUnbornOr, StaysUnborn}

-- the file has one body more: it is at rest, recovery finds it, and so after each crash from now on; a file in which
-- nothing stood behind the last gate has just these bodies
pub record Adds {K : Type 0} (state : K → DeskState) (body : List ℕ) (old new : Held K)
    (held : List (List ℕ)) : Type 0 where
  pub rest : IsAtRest state new (held ++ body ∷ [])
  pub recovers : recovered old.title (bytes_now (state new.desk)) ≡ bodies (held ++ body ∷ [])
  pub exact : length (bytes_now (state old.desk)) ≡ old.size
      → bytes_now (state new.desk) ≡ journal_bytes old.title (held ++ body ∷ [])
  pub lasts : (image text : List ℕ) → (state new.desk).crashes (state new.desk).content.clock image text
      → recovered old.title image ≡ bodies (held ++ body ∷ [])

-- a crash inside the append or after it leaves the bodies from before, with the new one or without
pub record AddsAtMost {K : Type 0} (state : K → DeskState) (body : List ℕ) (old new : Held K)
    (held : List (List ℕ)) : Type 0 where
  pub crash : Passes (LeavesBeforeOrAfter old.title held body (state old.desk).shown) (state old.desk) (state new.desk)
  pub leaves : LeavesEither old.title (state new.desk) held (held ++ body ∷ [])

-- a draft has one body more, and is still a draft; were its gate open, a file in which nothing stood behind the last
-- gate would have just these bodies
pub record AddsToDraft {K : Type 0} (state : K → DeskState) (body : List ℕ) (old new : Held K)
    (held : List (List ℕ)) : Type 0 where
  pub draft : IsDrafted state new (held ++ body ∷ [])
  pub exact : length (bytes_now (state old.desk)) ≡ old.size
      → OPEN ∷ drop 1 (bytes_now (state new.desk)) ≡ journal_bytes old.title (held ++ body ∷ [])
  pub lasts : StaysUnborn old.title (state new.desk)

-- a crash inside an append to a draft or after it leaves the file unborn, whatever the append answered
pub record StaysDraft {K : Type 0} (state : K → DeskState) (old new : Held K) : Type 0 where
  pub crash : Passes (LeavesUnborn old.title (state old.desk).shown) (state old.desk) (state new.desk)
  pub leaves : StaysUnborn old.title (state new.desk)

-- the gate of a draft was opened, and nothing else changed: its file is at rest, recovery finds its bodies, and so
-- after each crash from now on
pub record Publishes {K : Type 0} (state : K → DeskState) (old new : Held K) (held : List (List ℕ)) : Type 0 where
  pub rest : IsAtRest state new held
  pub file : bytes_now (state new.desk) ≡ OPEN ∷ drop 1 (bytes_now (state old.desk))
  pub recovers : recovered old.title (bytes_now (state new.desk)) ≡ bodies held
  pub lasts : (image text : List ℕ) → (state new.desk).crashes (state new.desk).content.clock image text
      → recovered old.title image ≡ bodies held

-- a crash while the gate of a draft is opened or after it leaves the file unborn, or all its bodies
pub record PublishesAtMost {K : Type 0} (state : K → DeskState) (old new : Held K) (held : List (List ℕ)) : Type 0 where
  pub crash : Passes (LeavesUnbornOr old.title held (state old.desk).shown) (state old.desk) (state new.desk)
  pub leaves : (image : List ℕ) → MayLeave (state new.desk) image → (recovered old.title image ≡ unborn)
      ⊎ (recovered old.title image ≡ bodies held)

-- the journal grew by a record, which it had room for
pub record Grows {K : Type 0} (body : List ℕ) (old new : Held K) : Type 0 where
  pub same : new ≡ record old { desk = new.desk; size = old.size + 5 + length body }
  pub sound : old.halted ≡ false
  pub fits : old.size + 5 + length body ≤ SIZE_LIMIT

-- a disk fault: the count of them rose, and the journal takes no body from now on
pub record Halts {K : Type 0} (state : K → DeskState) (body : List ℕ) (old new : Held K) : Type 0 where
  pub same : new ≡ record old { desk = new.desk; halted = true }
  pub rose : Rises (state old.desk).disk_faults (state new.desk).disk_faults
  pub sound : old.halted ≡ false
  pub fits : old.size + 5 + length body ≤ SIZE_LIMIT

-- the record doesn't fit, by its two numbers; nothing changed
pub record IsFull {K : Type 0} (size need : ℕ) (body : List ℕ) (old new : Held K) : Type 0 where
  pub same : new ≡ old
  pub has : size ≡ old.size
  pub needs : need ≡ 5 + length body
  pub sound : old.halted ≡ false
  pub over : SIZE_LIMIT < old.size + 5 + length body

-- why a body wasn't added, and what changed
abbrev pub FailsToAppend : {K : Type 0} → (K → DeskState) → List ℕ → Held K → Held K → AppendFault → Type 0
FailsToAppend state body old new Disk = Halts state body old new
FailsToAppend state body old new (Full size need) = IsFull size need body old new
FailsToAppend state body old new Halted = (old.halted ≡ true) × (new ≡ old)

-- why a draft wasn't published: a disk fault, as after an append that found one; or an earlier one, and nothing changed
abbrev pub FailsToPublish : {K : Type 0} → (K → DeskState) → Held K → Held K → AppendFault → Type 0
FailsToPublish state old new Disk =
    (new ≡ record old { desk = new.desk; halted = true })
    × Rises (state old.desk).disk_faults (state new.desk).disk_faults × (old.halted ≡ false)
FailsToPublish state old new (Full size need) = ⊥
FailsToPublish state old new Halted = (old.halted ≡ true) × (new ≡ old)
