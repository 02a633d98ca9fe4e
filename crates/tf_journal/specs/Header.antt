-- What the first bytes of a file tell of it.
use Rattle.std.specs.Prelude.{◌≡◌, ℕ, ◌≤◌, List, ◌∷◌, length, take}
use Rattle.tf_journal.specs.declared.header.Header.{Header}
use Rattle.tf_journal.specs.declared.header.Header.TheVariants.{Unborn, Old, Titled, Bad}
use Rattle.tf_journal.specs.declared.title.Title.{Title}
use Rattle.tf_journal.specs.Format.{OPEN, title_of, recovered, unborn, old_format, not_a_book, records_from}

-- the file is unborn; it is a book of one flow where one of several is asked for; it is what its records are; or it is
-- no journal
abbrev pub ShowsHeader : Header → Title → List ℕ → Type 0
ShowsHeader Unborn title bytes = recovered title bytes ≡ unborn
ShowsHeader Old title bytes = recovered title bytes ≡ old_format
ShowsHeader Titled title bytes =
    (take 17 bytes ≡ OPEN ∷ title_of title) × (18 ≤ length bytes)
    × (recovered title bytes ≡ records_from title (length bytes) bytes 17)
ShowsHeader (Bad offset byte) title bytes = recovered title bytes ≡ not_a_book offset byte
