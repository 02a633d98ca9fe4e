-- The bytes of a journal, what it holds, and when its file is at rest.
use Rattle.std.specs.Prelude.{ℕ, zero, suc, ◌+◌, ◌*◌, ◌/◌, ◌%◌, Bool, true, ◌&&◌, ◌||◌, not, if◌then◌else◌, List, [], ◌∷◌, ◌++◌, length, take, drop, Option, Some, None, slice_index, ◌==◌, nat_eq, nat_lt, nat_le, ◌≡◌, ◌≢◌, ◌⊎◌, ◌≤◌, false, IsTrue, Result, Ok, Err}
use Rattle.std.specs.List.{flat_map}
use Rattle.std.specs.Cmp.Lexicographic.{pointwise}
use Rattle.tf_journal.specs.declared.title.Title.{Title}
use Rattle.tf_journal.specs.declared.title.Title.TheVariants.{Book, Jobs, Book2}
use Rattle.tf_desk.specs.Crash.{Mark, at_sync, Pairs}
use Rattle.tf_desk.specs.State.{DeskState, bytes_now, MayLeave, IsDurable}

-- ---- the bytes of a journal: an open gate, the title, and one record after another; a record is its gate, its length and its body
-- A gate that isn't open ends the records, and what stands after it has no meaning.

-- an open gate; every other byte counts as not open
abbrev pub OPEN : ℕ
OPEN = 165

-- the greatest length of a body: in a book of several flows a head stands before a plan
abbrev pub body_limit : Title → ℕ
body_limit Book = 1048576
body_limit Jobs = 1048576
body_limit Book2 = 1048577

-- the greatest size of a journal: no gate stands at or after this place
abbrev pub SIZE_LIMIT : ℕ
SIZE_LIMIT = 67108864

-- `TASKFLOW BOOK 1`, `TASKFLOW JOBS 1` or `TASKFLOW BOOK 2`, and a line feed
abbrev pub title_of : Title → List ℕ
title_of Book = 84 ∷ 65 ∷ 83 ∷ 75 ∷ 70 ∷ 76 ∷ 79 ∷ 87 ∷ 32 ∷ 66 ∷ 79 ∷ 79 ∷ 75 ∷ 32 ∷ 49 ∷ 10 ∷ []
title_of Jobs = 84 ∷ 65 ∷ 83 ∷ 75 ∷ 70 ∷ 76 ∷ 79 ∷ 87 ∷ 32 ∷ 74 ∷ 79 ∷ 66 ∷ 83 ∷ 32 ∷ 49 ∷ 10 ∷ []
title_of Book2 = 84 ∷ 65 ∷ 83 ∷ 75 ∷ 70 ∷ 76 ∷ 79 ∷ 87 ∷ 32 ∷ 66 ∷ 79 ∷ 79 ∷ 75 ∷ 32 ∷ 50 ∷ 10 ∷ []

-- a length as four bytes, the greatest part first
abbrev pub length_bytes : ℕ → List ℕ
length_bytes n = n / 256 / 256 / 256 ∷ n / 256 / 256 % 256 ∷ n / 256 % 256 ∷ n % 256 ∷ []

-- the length that stands in the four bytes from that place on
abbrev pub length_at : List ℕ → ℕ → ℕ
length_at bytes place =
    256 * (256 * (256 * slice_index bytes place + slice_index bytes (place + 1)) + slice_index bytes
    (place + 2)) + slice_index bytes (place + 3)

-- a record whose gate is open
abbrev pub record_of : List ℕ → List ℕ
record_of body = OPEN ∷ (length_bytes (length body) ++ body)

-- what stands before the last gate of a journal with these bodies
abbrev pub prefix_of : Title → List (List ℕ) → List ℕ
prefix_of title bodies = (OPEN ∷ title_of title) ++ flat_map record_of bodies

-- a journal with these bodies: its last gate is written as closed
abbrev pub journal_bytes : Title → List (List ℕ) → List ℕ
journal_bytes title bodies = prefix_of title bodies ++ 0 ∷ []

-- what the record at a place is: none behind a gate that isn't open or isn't there; a body and the next gate's place;
-- or no record, by the place and the byte that show it, or the file's end
pub data Found : Type 0 where
  closed : Found
  body : List ℕ → ℕ → Found
  bad : ℕ → Option ℕ → Found

-- the record of that length at that place: the file has to have its body and the next gate
abbrev pub record_within : Title → List ℕ → ℕ → ℕ → Found
record_within title bytes place n =
    if n == 0 || nat_lt (body_limit title) n || nat_lt SIZE_LIMIT (place + 6 + n)
    then bad (place + 1) (Some (slice_index bytes (place + 1)))
    else (if nat_lt (length bytes) (place + 6 + n) then bad (length bytes) None
    else body (take n (drop (place + 5) bytes)) (place + 5 + n))

-- the record whose gate is at that place
abbrev pub record_at : Title → List ℕ → ℕ → Found
record_at title bytes place =
    if nat_lt place (length bytes) && slice_index bytes place == OPEN
    then (if nat_lt (length bytes) (place + 5) then bad (length bytes) None
    else record_within title bytes place (length_at bytes (place + 1)))
    else closed

-- what a file is: unborn, a book of one flow where one of several is asked for, a journal with these bodies, or none,
-- by the place and the byte that show it, or the file's end
pub data Recovered : Type 0 where
  unborn : Recovered
  old_format : Recovered
  bodies : List (List ℕ) → Recovered
  not_a_book : ℕ → Option ℕ → Recovered

-- one body more at the front
abbrev pub with_body : List ℕ → Recovered → Recovered
with_body first unborn = unborn
with_body first old_format = old_format
with_body first (bodies others) = bodies (first ∷ others)
with_body first (not_a_book offset byte) = not_a_book offset byte

-- what is found at a place, and what follows a body
abbrev pub then_from : Found → (ℕ → Recovered) → Recovered
then_from closed next = bodies []
then_from (body first place) next = with_body first (next place)
then_from (bad offset byte) next = not_a_book offset byte

-- the records from that place on, of which there are no more than that number
abbrev pub records_from : Title → ℕ → List ℕ → ℕ → Recovered
records_from title zero bytes place = bodies []
records_from title (suc most) bytes place = then_from (record_at title bytes place) (records_from title most bytes)

-- the first byte that differs from the title, or the end that comes before the byte after it; the bytes stand from that
-- offset on
abbrev pub title_fault : List ℕ → List ℕ → ℕ → Option (ℕ × Option ℕ)
title_fault [] [] offset = Some (offset, None)
title_fault [] (gate ∷ rest) offset = None
title_fault (letter ∷ letters) [] offset = Some (offset, None)
title_fault (letter ∷ letters) (byte ∷ rest) offset =
    if letter == byte then title_fault letters rest (offset + 1) else Some (offset, Some byte)

-- behind a gate that isn't open, what a creation or a draft leaves once the title is written: the title and 0, and
-- nothing more; of a book of several flows the title and anything behind it, since bodies are added before its gate is
-- opened
abbrev pub has_title : Title → List ℕ → Bool
has_title Book rest = pointwise ◌==◌ rest (title_of Book ++ 0 ∷ [])
has_title Jobs rest = pointwise ◌==◌ rest (title_of Jobs ++ 0 ∷ [])
has_title Book2 rest = pointwise ◌==◌ (take 16 rest) (title_of Book2)

-- a file that a creation or a draft may have left: it has a byte at most; or 18 at most, the first of them 0; or its
-- title, and no open gate
abbrev pub is_unborn : Title → List ℕ → Bool
is_unborn title [] = true
is_unborn title (gate ∷ rest) =
    nat_eq (length rest) 0 || (nat_le (length rest) 17 && gate == 0) || (has_title title rest && not (gate == OPEN))

-- where a book of several flows is asked for, the title of a book of one flow stands behind the file's gate
abbrev pub is_old : Title → List ℕ → Bool
is_old Book rest = false
is_old Jobs rest = false
is_old Book2 rest = pointwise ◌==◌ (take 16 rest) (title_of Book)

-- the records of a file whose title is as it should be
abbrev pub titled : Option (ℕ × Option ℕ) → Recovered → Recovered
titled None records = records
titled (Some fault) records = not_a_book fault.0 fault.1

-- what a file is that is neither unborn nor old
abbrev pub recovered_born : Title → List ℕ → Recovered
recovered_born title [] = unborn
recovered_born title (gate ∷ rest) =
    if gate == OPEN then titled (title_fault (title_of title) rest 1)
    (records_from title (length (gate ∷ rest)) (gate ∷ rest) 17) else not_a_book 0 (Some gate)

-- what a file is, by all its bytes
abbrev pub recovered : Title → List ℕ → Recovered
recovered title bytes =
    if is_unborn title bytes then unborn else
    (if is_old title (drop 1 bytes) then old_format else recovered_born title bytes)

-- ---- what a journal holds

-- its desk, its title, the place after its last gate, whether an append found a disk fault, and whether it keeps
-- nothing
pub record Held (K : Type 0) : Type 0 where
  pub desk : K
  pub title : Title
  pub size : ℕ
  pub halted : Bool
  pub volatile : Bool

-- ---- when a journal's file is at rest: its bodies and a gate that isn't open stand in it, all on the disk

-- a body that a journal of this title takes
abbrev pub IsBody : Title → List ℕ → Type 0
IsBody title bytes = (1 ≤ length bytes) × (length bytes ≤ body_limit title)

-- each is one
abbrev pub AreBodies : Title → List (List ℕ) → Type 0
AreBodies title [] = Unit {0}
AreBodies title (first ∷ others) = IsBody title first × AreBodies title others

-- the bytes begin with the bodies and a gate that isn't open; the size is the place after that gate
pub record LiesAs (title : Title) (held : List (List ℕ)) (size : ℕ) (bytes : List ℕ) : Type 0 where
  pub prefix : take (length (prefix_of title held)) bytes ≡ prefix_of title held
  pub place : size ≡ length (prefix_of title held) + 1
  pub whole : size ≤ length bytes
  pub gate : slice_index bytes (length (prefix_of title held)) ≢ OPEN
  pub limit : size ≤ SIZE_LIMIT
  pub fit : AreBodies title held

-- the picked file lies so, and a crash now leaves nothing else
pub record IsAtRest {K : Type 0} (state : K → DeskState) (journal : Held K) (held : List (List ℕ)) : Type 0 where
  pub lies : LiesAs journal.title held journal.size (bytes_now (state journal.desk))
  pub durable : IsDurable (state journal.desk)

-- the bytes of a draft: the file's gate isn't open, and once it is, these bodies lie in them
pub record LiesShut (title : Title) (held : List (List ℕ)) (size : ℕ) (bytes : List ℕ) : Type 0 where
  pub shut : slice_index bytes 0 ≢ OPEN
  pub lies : LiesAs title held size (OPEN ∷ drop 1 bytes)

-- the picked file is a draft with these bodies, of a book of several flows, and a crash now leaves nothing else
pub record IsDrafted {K : Type 0} (state : K → DeskState) (journal : Held K) (held : List (List ℕ)) : Type 0 where
  pub title : journal.title ≡ Book2
  pub shut : LiesShut journal.title held journal.size (bytes_now (state journal.desk))
  pub durable : IsDurable (state journal.desk)

-- where an append may write: the desk tells its content, no append found a disk fault, and the journal is kept in a
-- file
pub record IsOpen {K : Type 0} (state : K → DeskState) (journal : Held K) : Type 0 where
  pub told : IsTrue (state journal.desk).tells
  pub sound : journal.halted ≡ false
  pub kept : journal.volatile ≡ false

-- there, the file is as this journal's last call left it
abbrev pub IsReady : {K : Type 0} → (K → DeskState) → Held K → Type 0
IsReady state journal = IsOpen state journal → (held : List (List ℕ)) × IsAtRest state journal held

-- there, it is a draft as this journal's last call left it
abbrev pub IsDraft : {K : Type 0} → (K → DeskState) → Held K → Type 0
IsDraft state journal = IsOpen state journal → (held : List (List ℕ)) × IsDrafted state journal held

-- there, this holds of the bodies that the file has
abbrev pub AtRest : {K : Type 0} → (K → DeskState) → Held K → (List (List ℕ) → Type 0) → Type 0
AtRest state journal holds = IsOpen state journal → (held : List (List ℕ)) → IsAtRest state journal held → holds held

-- the same of the bodies of a draft
abbrev pub AsDraft : {K : Type 0} → (K → DeskState) → Held K → (List (List ℕ) → Type 0) → Type 0
AsDraft state journal holds = IsOpen state journal → (held : List (List ℕ)) → IsDrafted state journal held → holds held

-- the desk that an answer has: the journal's, or the one that came back with a fault
abbrev pub desk_after : {K F : Type 0} → Result (Held K) (K × F) → K
desk_after (Ok journal) = journal.desk
desk_after (Err back) = back.0

-- a first sync answered Ok in a call: since then a crash leaves what a read gave before the call, and shows nothing
-- more
pub record HasSynced (old new : DeskState) : Type 0 where
  pub moment : ℕ
  pub others : List Mark
  pub marks : new.content.marks ≡ old.content.marks ++ at_sync moment ∷ others
  pub not_before : old.content.clock ≤ moment
  pub within : moment ≤ new.content.clock
  pub since : (image text : List ℕ) → new.crashes moment image text → (image ≡ bytes_now old) × (old.shown ≡ Some text)

-- a call in which no pick and no sync answered Ok, or a sync did
abbrev pub IsSynced : DeskState → DeskState → Type 0
IsSynced old new = (new.content.marks ≡ old.content.marks) ⊎ HasSynced old new

-- a crash inside a draft: the file is unborn; the shown text stays
abbrev pub LeavesUnborn : Title → Option (List ℕ) → Pairs
LeavesUnborn title shown image text = (recovered title image ≡ unborn) × (shown ≡ Some text)

-- a crash while the file's gate is opened: the file is unborn, or a journal with these bodies; the shown text stays
abbrev pub LeavesUnbornOr : Title → List (List ℕ) → Option (List ℕ) → Pairs
LeavesUnbornOr title held shown image text =
    ((recovered title image ≡ unborn) ⊎ (recovered title image ≡ bodies held)) × (shown ≡ Some text)

-- a crash inside a creation: the file is unborn, or a journal without a record; the shown text stays
abbrev pub LeavesBirth : Title → Option (List ℕ) → Pairs
LeavesBirth title shown = LeavesUnbornOr title [] shown

-- a crash inside an append: the bodies from before, with the new one or without; the shown text stays
abbrev pub LeavesBeforeOrAfter : Title → List (List ℕ) → List ℕ → Option (List ℕ) → Pairs
LeavesBeforeOrAfter title held new shown image text =
    ((recovered title image ≡ bodies held) ⊎ (recovered title image ≡ bodies (held ++ new ∷ []))) × (shown ≡ Some text)

-- recovery finds these bodies in each image that a crash now may leave of the picked file
abbrev pub LeavesBodies : Title → DeskState → List (List ℕ) → Type 0
LeavesBodies title state held = (image : List ℕ) → MayLeave state image → recovered title image ≡ bodies held

-- it finds these bodies or those
abbrev pub LeavesEither : Title → DeskState → List (List ℕ) → List (List ℕ) → Type 0
LeavesEither title state held others =
    (image : List ℕ) → MayLeave state image → (recovered title image ≡ bodies held)
    ⊎ (recovered title image ≡ bodies others)

-- each image that a crash now may leave of the picked file is unborn
abbrev pub StaysUnborn : Title → DeskState → Type 0
StaysUnborn title state = (image : List ℕ) → MayLeave state image → recovered title image ≡ unborn
