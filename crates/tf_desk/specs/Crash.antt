-- What a desk tells of its files and of the text that it shows, and what a crash may leave of both.
use Rattle.std.specs.Prelude.{◌≡◌, ℕ, ◌+◌, ◌-◌, ◌≤◌, min, max, List, [], ◌++◌, length, take, drop, Option, unwrap_or, option_map, Some, None}
use Rattle.std.specs.Option.{option_and_then}

-- ---- what a desk tells of its files, and what its calls do to it

-- a moment from which a later crash may be counted: a pick of that name answered Ok, or a sync did
pub data Mark : Type 0 where
  at_pick : List ℕ → ℕ → Mark
  at_sync : ℕ → Mark

-- the files by name with their bytes as they read, the name that is picked, the moment, and the marks so far
pub record Content : Type 0 where
  pub files : List ℕ → Option (List ℕ)
  pub picked : Option (List ℕ)
  pub clock : ℕ
  pub marks : List Mark

-- the bytes as read: those of the picked file; none where no file is picked
abbrev pub bytes_of : Content → List ℕ
bytes_of content = unwrap_or (option_and_then content.files content.picked) []

-- the bytes with these in the place of what stood there, from that offset on
abbrev pub written : List ℕ → ℕ → List ℕ → List ℕ
written old at bytes = take at old ++ (bytes ++ drop (at + length bytes) old)

-- after a write of n bytes that was cut short: any bytes in the range and past the old end, a length between, the rest
-- as before
pub record Torn (at n : ℕ) (old new : List ℕ) : Type 0 where
  pub no_shorter : length old ≤ length new
  pub no_longer : length new ≤ max (length old) (at + n)
  pub before : take at (take (length old) new) ≡ take at old
  pub after : drop (at + n) (take (length old) new) ≡ drop (at + n) old

-- n bytes of the buffer are the file's from that offset on, and fewer than it holds only at the file's end
pub record Reads (bytes : List ℕ) (at : ℕ) (buffer : List ℕ) (n : ℕ) : Type 0 where
  pub count : n ≡ min (length buffer) (length bytes - at)
  pub prefix : take n buffer ≡ take n (drop at bytes)

-- ---- the text that a desk shows, where it tells it

-- what is shown after some bytes more; None, which tells nothing, stays None
abbrev pub shown_with : Option (List ℕ) → List ℕ → Option (List ℕ)
shown_with shown bytes = option_map (λ text. text ++ bytes) shown

-- some prefix of the bytes was shown: none of them, a part, or all
pub record ShowsPrefix (before : Option (List ℕ)) (bytes : List ℕ) (after : Option (List ℕ)) : Type 0 where
  pub count : ℕ
  pub prefix : after ≡ shown_with before (take count bytes)

-- ---- counts that never fall, and stand still at the greatest u64

-- ---- what a crash may leave: an image of the file that is picked at that moment, and a shown text

-- what is said of an image and a shown text
abbrev pub Pairs : Type 1
Pairs = List ℕ → List ℕ → Type 0

-- the images of each file that a crash now may leave, by its name
abbrev pub Images : Type 1
Images = List ℕ → List ℕ → Type 0

-- the pairs of an image and a shown text that a crash at a moment since that one may leave
abbrev pub Crashes : Type 1
Crashes = ℕ → List ℕ → List ℕ → Type 0

-- a crash now may leave this image of the picked file; no bytes where no file is picked
abbrev pub IsLeft : Option (List ℕ) → Images → List ℕ → Type 0
IsLeft None left image = image ≡ []
IsLeft (Some name) left image = left name image

-- a crash now may leave this pair
abbrev pub IsLeftNow : Content → Images → Option (List ℕ) → List ℕ → List ℕ → Type 0
IsLeftNow content left shown image text = IsLeft content.picked left image × (shown ≡ Some text)

-- of each file a crash leaves nothing that it couldn't leave before
abbrev pub LeavesNoMore : Images → Images → Type 0
LeavesNoMore old new = (name image : List ℕ) → new name image → old name image
