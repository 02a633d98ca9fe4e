-- What the words ask for, and which faults of the outside a status tells.
use Rattle.std.specs.Prelude.{◌≡◌, ℕ, ◌≤◌, List, false, Option, Some, None, option_and_then, [], ◌⊎◌}
use Rattle.tf_ports.specs.declared.crews.Want.{Want}
use Rattle.tf_ports.specs.declared.crews.Want.TheVariants as want
use Rattle.tf_ports.specs.Ports.{wanted as number_of}
use Rattle.tf_words.specs.Words.{IsConduct, IsDemo, command_of}
use Rattle.tf_words.specs.declared.asked.Asked.{Asked}
use Rattle.tf_words.specs.declared.asked.Asked.TheVariants as asked
use Rattle.tf_commands.specs.declared.reading.Source.{Source}
use Rattle.tf_demo.specs.Demo.{demo_flow}
use Rattle.tf_flow.specs.Plan.{PlanTree}
use Rattle.tf_numbers.specs.Numbers.{Rises}
use Rattle.tf_desk.specs.State.{DeskState}
use Rattle.tf_report.specs.declared.statuses.TheConstants.{UNREAD, DISK_FAILED, UNSAID, UNHIRED}

-- ---- what the words ask for

-- so many hands as may run a flow
pub record AreHands (hands : Want) : Type 0 where
  pub least : 1 ≤ number_of hands
  pub most : number_of hands ≤ 64

-- the hands that run a flow, the numbers of a generated one, the conductors and the word that names their owners, and
-- the sessions of a board's service are within their bounds
abbrev pub IsWithin : Asked → Type 0
IsWithin (asked.Try file sets defer hands target) = AreHands hands
IsWithin (asked.Run file book sets defer hands stop target) = AreHands hands
IsWithin (asked.Resume book name hands stop) = AreHands hands
IsWithin (asked.Demo seed size book hands) = IsDemo seed size × AreHands (want.Local hands)
IsWithin (asked.Conduct board owner hands) = IsConduct owner hands
IsWithin (asked.Serve board address sessions) = (1 ≤ sessions) × (sessions ≤ 64)
IsWithin command = Unit {0}

-- the hands that a command wants: those of its words, one of this process to work, and else none
abbrev pub want_of : Asked → Option Want
want_of (asked.Try file sets defer hands target) = Some hands
want_of (asked.Run file book sets defer hands stop target) = Some hands
want_of (asked.Resume book name hands stop) = Some hands
want_of (asked.Demo seed size book hands) = Some (want.Local hands)
want_of (asked.Worker address sessions) = Some (want.Local 1)
want_of (asked.Conduct board owner hands) = Some (want.Local hands)
want_of command = None

-- the hands that the words want
abbrev pub wanted_by : List (List ℕ) → Option Want
wanted_by words = option_and_then want_of (command_of words)

-- it asks for a worker, or for the service of a board: for what comes to an address
abbrev pub IsWork : Asked → Type 0
IsWork (asked.Worker address sessions) = Unit {0}
IsWork (asked.Serve board address sessions) = Unit {0}
IsWork command = ⊥

-- the words ask for a worker or for the service of a board
abbrev pub AsksForWork : List (List ℕ) → Type 0
AsksForWork words = (command : Asked) × (command_of words ≡ Some command) × IsWork command

-- the flow file that a command is about, with the values that its store gets besides and the target up to which it
-- goes; a check defers no reverts, and an audit has no target
abbrev pub file_asked_for : Asked → Option Source
file_asked_for (asked.Try file sets defer hands target) =
    Some (record { file = file; sets = sets; defer = defer; target = target })
file_asked_for (asked.Run file book sets defer hands stop target) =
    Some (record { file = file; sets = sets; defer = defer; target = target })
file_asked_for (asked.Check file sets target) =
    Some (record { file = file; sets = sets; defer = false; target = target })
file_asked_for (asked.Audit file log sets defer) =
    Some (record { file = file; sets = sets; defer = defer; target = None })
file_asked_for command = None

-- the book that a command is about
abbrev pub book_asked_for : Asked → Option (List ℕ)
book_asked_for (asked.Run file book sets defer hands stop target) = Some book
book_asked_for (asked.Resume book name hands stop) = Some book
book_asked_for (asked.Show book name) = Some book
book_asked_for (asked.Reset book name) = Some book
book_asked_for (asked.Details book) = Some book
book_asked_for (asked.Demo seed size book hands) = Some book
book_asked_for command = None

-- ---- the flow that is generated

-- the plan of the flow that is generated from a seed and a size
abbrev pub demo_tree : ℕ → ℕ → PlanTree
demo_tree seed size = record { root = demo_flow seed size; store = []; defer = false }

-- ---- why a status tells a fault of the outside: a count rose

-- the counts of faults: of the disk, of the output, of the sources and of the crew; and how often a stop was asked for
pub record Counts : Type 0 where
  pub disk : ℕ
  pub out : ℕ
  pub sources : ℕ
  pub crew : ℕ
  pub asks : ℕ

-- no count falls
pub record NoneFalls (before after : Counts) : Type 0 where
  pub disk : before.disk ≤ after.disk
  pub out : before.out ≤ after.out
  pub sources : before.sources ≤ after.sources
  pub crew : before.crew ≤ after.crew
  pub asks : before.asks ≤ after.asks

-- a file can't be read, the disk fails, a text can't be said and no hand is hired only where the count of such faults
-- rose
pub record HasEachCause (status : ℕ) (before after : Counts) : Type 0 where
  pub none_falls : NoneFalls before after
  pub unread : status ≡ UNREAD → Rises before.sources after.sources
  pub failed : status ≡ DISK_FAILED → Rises before.disk after.disk
  pub unsaid : status ≡ UNSAID → Rises before.out after.out
  pub unhired : status ≡ UNHIRED → Rises before.crew after.crew

-- the same, where nobody could be listened to in place of no hand hired
pub record HasCausesOr (unlistened : Type 0) (status : ℕ) (before after : Counts) : Type 0 where
  pub none_falls : NoneFalls before after
  pub unread : status ≡ UNREAD → Rises before.sources after.sources
  pub failed : status ≡ DISK_FAILED → Rises before.disk after.disk
  pub unsaid : status ≡ UNSAID → Rises before.out after.out
  pub unhired : status ≡ UNHIRED → Rises before.crew after.crew ⊎ unlistened

-- the counts of a desk, of sources and of a crew
abbrev pub counts_of : DeskState → ℕ → ℕ → Counts
counts_of desk sources crew = record {
  disk = desk.disk_faults;
  out = desk.out_faults;
  sources = sources;
  crew = crew;
  asks = desk.asks;
}

-- no count rose
pub record HasNoFault (before after : Counts) : Type 0 where
  pub disk : ¬ (Rises before.disk after.disk)
  pub out : ¬ (Rises before.out after.out)
  pub sources : ¬ (Rises before.sources after.sources)
  pub crew : ¬ (Rises before.crew after.crew)

-- a stop was asked for
abbrev pub WasAsked : DeskState → DeskState → Type 0
WasAsked old new = Rises old.asks new.asks
