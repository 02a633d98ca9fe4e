-- How a command says what it says last, with which status it ends, and what is said of files that fail.
use Rattle.std.specs.Prelude.{◌≡◌, ◌⊎◌, ℕ, List, Option, [], ◌∷◌, ◌++◌, codes, Some, None}
use Rattle.tf_desk.specs.Crash.{shown_with, ShowsPrefix}
use Rattle.tf_report.specs.declared.statuses.TheConstants.{UNSAID, OUT_OF_MEMORY}
use Rattle.std.specs.Fmt.{decimal}

-- ---- how a command says what it says last, and with which status it ends

-- a command says its message and ends with its status, or with that of a failed output where a prefix of the message
-- was shown
pub data ClosesWith (before : Option (List ℕ)) (message : List ℕ) (wanted : ℕ) (after : Option (List ℕ)) : ℕ
    → Type 0 where
  said : after ≡ shown_with before message → ClosesWith before message wanted after wanted
  cut : ShowsPrefix before message after → ClosesWith before message wanted after UNSAID

-- memory ran out and nothing was said, or a message closed the command
abbrev pub ClosesWithOrStops : Option (List ℕ) → List ℕ → ℕ → Option (List ℕ) → ℕ → Type 0
ClosesWithOrStops before message wanted after status =
    ((status ≡ OUT_OF_MEMORY) × (after ≡ before)) ⊎ ClosesWith before message wanted after status

-- ---- what is said of what can't be had

-- the message for a file that can't be read
abbrev pub cannot_read : List ℕ
cannot_read = codes "taskflow: cannot read\n"

-- the message where no hand could be hired
abbrev pub cannot_hire : List ℕ
cannot_hire = codes "taskflow: cannot hire\n"

-- the message where nobody can be listened to
abbrev pub cannot_listen : List ℕ
cannot_listen = codes "taskflow: cannot listen\n"

-- ---- what is said of a file that can't be read, or can't take a record more: of a book and of a board

-- the message for a fault of the disk
abbrev pub disk_fault_text : List ℕ
disk_fault_text = codes "taskflow: disk fault\n"

-- the message for a book of the older format
abbrev pub old_format : List ℕ
old_format = codes "taskflow: old format\n"

-- the byte that shows that a file is no book, or the file's end
abbrev pub byte_or_end : Option ℕ → List ℕ
byte_or_end None = codes "end"
byte_or_end (Some byte) = codes "byte " ++ decimal byte

-- the message for a file that is no book: the offset and the byte that show it
unfoldable pub not_a_book : ℕ → Option ℕ → List ℕ
not_a_book offset byte =
    codes "taskflow: not a book: offset " ++ decimal offset ++ codes ", " ++ byte_or_end byte ++ 10 ∷ []

-- the message for a book that is full: its size, and how many bytes more were asked for
unfoldable pub book_full : ℕ → ℕ → List ℕ
book_full size need = codes "taskflow: book full: " ++ decimal size ++ codes " + " ++ decimal need ++ 10 ∷ []
