-- What a folder tells by what it noted: the bytes that it gave under each name, and the names of files that were too long.
use Rattle.std.specs.Prelude.{ℕ, Bool, true, false, ◌&&◌, nat_lt, List, length, Option, Some, None, Vec, bytes_eq}
use Rattle.std.specs.List.{list_all}
use Rattle.tf_ports.specs.Ports.{Contents}
use Rattle.tf_ports.specs.declared.reading.TheConstants.{SOURCE_LIMIT}

-- these are the bytes
abbrev pub has_bytes : Option (List ℕ) → List ℕ → Bool
has_bytes None bytes = false
has_bytes (Some there) bytes = bytes_eq there bytes

-- there are more bytes than a source may have
abbrev pub is_too_long : Option (List ℕ) → Bool
is_too_long None = false
is_too_long (Some there) = nat_lt SOURCE_LIMIT (length there)

-- the bytes that a read gave are those which these sources have
abbrev pub is_so : {A : Type 0} → (List ℕ → Option (List ℕ)) → List ℕ × Vec ℕ A → Bool
is_so sources read = has_bytes (sources read.0) read.1.items

-- so it is of each read, and each file that was too long is
abbrev pub are_so : {A Y : Type 0} → (List ℕ → Option (List ℕ)) → List (List ℕ × Vec ℕ A) → List (List ℕ × Y) → Bool
are_so sources reads long = list_all (is_so sources) reads && list_all (λ one. is_too_long (sources one.0)) long

-- these sources, or nothing
abbrev pub told_if : Bool → (List ℕ → Option (List ℕ)) → Contents
told_if true sources = Some sources
told_if false sources = None

-- what a folder tells that noted these: the sources of the world, where all that was read is so
abbrev pub folder_told : {A Y : Type 0} → (List ℕ → Option (List ℕ)) → List (List ℕ × Vec ℕ A) → List (List ℕ × Y)
    → Contents
folder_told sources reads long = told_if (are_so sources reads long) sources
