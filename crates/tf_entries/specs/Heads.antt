-- Heads: what stands in a body of a book of several flows before the form of a plan or of an entry.
use Rattle.std.specs.Prelude.{◌≡◌, ℕ, ◌<◌, ◌^◌, ◌==◌, List, [], ◌∷◌, ◌++◌, Option, Some, None, if◌then◌else◌}
use Rattle.std.specs.Int.{to_be_bytes, w16}
use Rattle.tf_entries.specs.declared.heads.Head.{Head}
use Rattle.tf_entries.specs.declared.heads.Head.TheVariants as head
use Rattle.tf_entries.specs.Reading.{chain, read_number}

-- 1 before the plan of a flow; 2 and the flow's number before an entry
abbrev pub head_bytes : Head → List ℕ
head_bytes head.Detail = 1 ∷ []
head_bytes (head.Entry number) = 2 ∷ to_be_bytes w16 number

-- a head whose number has 16 bits
abbrev pub IsHead : Head → Type 0
IsHead head.Detail = Unit {0}
IsHead (head.Entry number) = number < 2 ^ 16

-- the bytes begin with this head
pub record BeginsWith (bytes : List ℕ) (first : Head) : Type 0 where
  pub is_head : IsHead first
  pub rest : List ℕ
  pub prefix : bytes ≡ head_bytes first ++ rest

-- a head of this tag
abbrev pub read_head_of : ℕ → List ℕ → Option (Head × List ℕ)
read_head_of tag bytes =
    if tag == 1 then Some (head.Detail, bytes)
    else if tag == 2 then chain (read_number w16 bytes) (λ number rest. Some (head.Entry number, rest))
    else None

-- a head
abbrev pub read_head : List ℕ → Option (Head × List ℕ)
read_head [] = None
read_head (tag ∷ bytes) = read_head_of tag bytes

-- this head is read at the front of the bytes
pub record IsFound (bytes : List ℕ) (first : Head) : Type 0 where
  pub rest : List ℕ
  pub read : read_head bytes ≡ Some (first, rest)
