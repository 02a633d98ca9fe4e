-- How bytes are read: what the front of them spells, and what stands behind it, or nothing where no form
-- stands at the front.
use Rattle.std.specs.Prelude.{◌≡◌, ℕ, ℤ, zero, suc, ◌==◌, List, [], ◌∷◌, length, take, drop, Bool, ◌&&◌, nat_le, nat_lt, true, false, Option, Some, None, if◌then◌else◌}
use Rattle.std.specs.Int.{Width, from_be_bytes, cast_signed, byte_len, w16, w32, w64}
use Rattle.std.specs.List.{list_all}
use Rattle.tf_values.specs.Text.{is_name, is_text}
use Rattle.tf_values.specs.Scalars.{are_scalars}
use Rattle.tf_values.specs.Value.{value_of}
use Rattle.tf_values.specs.declared.elements.Scalar.{Scalar}
use Rattle.tf_values.specs.declared.elements.Scalar.TheVariants as scalar
use Rattle.tf_values.specs.declared.faults.MakeFault.{MakeFault}
use Rattle.tf_values.specs.declared.faults.MakeFault.TheVariants as fault
use Rattle.tf_values.specs.declared.value.Val.{Val}
use Rattle.tf_values.specs.declared.value.Val.TheVariants as value

-- ---- how readings are put together

-- reading goes on behind what was read
abbrev pub chain : {X Y : Type 0} → Option (X × List ℕ) → (X → List ℕ → Option (Y × List ℕ)) → Option (Y × List ℕ)
chain None next = None
chain (Some read) next = next read.0 read.1

-- what is read is kept on a condition
abbrev pub where_true : {Y : Type 0} → Bool → Option (Y × List ℕ) → Option (Y × List ℕ)
where_true kept read = if kept then read else None

-- one more in front of those that are read
abbrev pub read_first : {X : Type 0} → Option (X × List ℕ) → (List ℕ → Option (List X × List ℕ))
    → Option (List X × List ℕ)
read_first first others = chain first (λ x rest. chain (others rest) (λ xs after. Some (x ∷ xs, after)))

-- so many, one after another
abbrev pub read_many : {X : Type 0} → (List ℕ → Option (X × List ℕ)) → ℕ → List ℕ → Option (List X × List ℕ)
read_many read zero bytes = Some ([], bytes)
read_many read (suc count) bytes = read_first (read bytes) (read_many read count)

-- what has this number, in front of what stands behind it
abbrev pub numbered : {X : Type 0} → Option X → List ℕ → Option (X × List ℕ)
numbered None rest = None
numbered (Some x) rest = Some (x, rest)

-- no byte is left
abbrev pub is_nothing : List ℕ → Bool
is_nothing [] = true
is_nothing (next ∷ others) = false

-- the whole of the bytes was read
abbrev pub at_end : {X : Type 0} → X → List ℕ → Option X
at_end x [] = Some x
at_end x (next ∷ others) = None

abbrev pub whole : {X : Type 0} → Option (X × List ℕ) → Option X
whole None = None
whole (Some read) = at_end read.0 read.1

-- a fault says that nothing is spelled, or that memory ran out
abbrev pub RefusesForm : {X : Type 0} → Option X → MakeFault → Type 0
RefusesForm spelled fault.No = spelled ≡ None
RefusesForm spelled fault.Memory = Unit {0}

-- ---- numbers, names and texts

abbrev pub is_byte : ℕ → Bool
is_byte n = nat_lt n 256

-- the bytes of a number of this width stand at the front
abbrev pub has_number : Width → List ℕ → Bool
has_number w bytes = nat_le (byte_len w) (length bytes) && list_all is_byte (take (byte_len w) bytes)

-- a number of this width, its high byte first
abbrev pub read_number : Width → List ℕ → Option (ℕ × List ℕ)
read_number w bytes =
    where_true (has_number w bytes) (Some (from_be_bytes w (take (byte_len w) bytes), drop (byte_len w) bytes))

-- one with a sign
abbrev pub read_signed : Width → List ℕ → Option (ℤ × List ℕ)
read_signed w bytes = chain (read_number w bytes) (λ n rest. Some (cast_signed w n, rest))

-- so many bytes that pass a test
abbrev pub read_bytes : (List ℕ → Bool) → ℕ → List ℕ → Option (List ℕ × List ℕ)
read_bytes test len bytes =
    where_true (nat_le len (length bytes) && test (take len bytes)) (Some (take len bytes, drop len bytes))

-- a name behind its length
abbrev pub read_name : List ℕ → Option (List ℕ × List ℕ)
read_name [] = None
read_name (len ∷ bytes) = read_bytes is_name len bytes

-- a text behind its length
abbrev pub read_text : List ℕ → Option (List ℕ × List ℕ)
read_text bytes = chain (read_number w32 bytes) (λ len rest. read_bytes is_text len rest)

-- items behind their number
abbrev pub read_list : {X : Type 0} → (List ℕ → Option (X × List ℕ)) → List ℕ → Option (List X × List ℕ)
read_list read bytes = chain (read_number w16 bytes) (λ count rest. read_many read count rest)

-- ---- values

-- a scalar of this tag
abbrev pub read_scalar_of : ℕ → List ℕ → Option (Scalar × List ℕ)
read_scalar_of tag bytes =
    if tag == 0 then Some (scalar.Nothing, bytes)
    else if tag == 1 then Some (scalar.Truth false, bytes)
    else if tag == 2 then Some (scalar.Truth true, bytes)
    else if tag == 3 then chain (read_signed w64 bytes) (λ number rest. Some (scalar.Int number, rest))
    else if tag == 4 then chain (read_text bytes) (λ text rest. Some (scalar.Text text, rest))
    else None

-- a scalar
abbrev pub read_scalar : List ℕ → Option (Scalar × List ℕ)
read_scalar [] = None
read_scalar (tag ∷ bytes) = read_scalar_of tag bytes

-- the scalars of a list, behind their number
abbrev pub read_scalars : List ℕ → Option (List Scalar × List ℕ)
read_scalars bytes =
    chain (read_number w16 bytes) (λ count rest.
    chain (read_many read_scalar count rest) (λ scalars after.
    where_true (are_scalars scalars) (Some (scalars, after))))

-- a value of this tag
abbrev pub read_value_of : ℕ → List ℕ → Option (Val × List ℕ)
read_value_of tag bytes =
    if tag == 5 then chain (read_scalars bytes) (λ scalars rest. Some (value.List scalars, rest))
    else chain (read_scalar_of tag bytes) (λ s rest. Some (value_of s, rest))

-- a value
unfoldable pub read_value : List ℕ → Option (Val × List ℕ)
read_value [] = None
read_value (tag ∷ bytes) = read_value_of tag bytes
