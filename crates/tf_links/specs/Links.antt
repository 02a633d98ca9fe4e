-- Links among the items of a flow, as rows of bits.
use Rattle.std.specs.Prelude.{◌≡◌, ℕ, ◌<◌, List, [], ◌∷◌, Bool, true, not, ◌&&◌, ◌||◌, length, nat_lt, slice_index_or}
use Rattle.tf_numbers.specs.Numbers.{Pair, has_pair, has_number, all_below}
use Rattle.tf_links.specs.Graphs.{take_items}
use Rattle.tf_links.specs.Bits.{has, words_for}

-- the row of u has v
abbrev pub leads : List (List ℕ) → ℕ → ℕ → Bool
leads rows u v = has (slice_index_or rows u []) v

-- there is a row for each of so many numbers, and each has room for them
pub record IsSquare (count : ℕ) (rows : List (List ℕ)) : Type 0 where
  pub height : length rows ≡ count
  pub width : (u : ℕ) → u < count → length (slice_index_or rows u []) ≡ words_for count

-- links among so many items: the row of u has the items to which it leads
pub record LinksValue : Type 0 where
  pub count : ℕ
  pub rows : List (List ℕ)

-- the links are these pairs
pub record AreLinks (links : LinksValue) (pairs : List Pair) : Type 0 where
  pub same : (u v : ℕ) → leads links.rows u v ≡ has_pair pairs u v
  pub first : (u v : ℕ) → has_pair pairs u v ≡ true → u < links.count
  pub second : (u v : ℕ) → has_pair pairs u v ≡ true → v < links.count

-- which number leads to which by way of some: the last one of these is the first here
abbrev pub leads_by_path : (ℕ → ℕ → Bool) → List ℕ → ℕ → ℕ → Bool
leads_by_path test [] u v = test u v
leads_by_path test (k ∷ ks) u v = leads_by_path test ks u v || (leads_by_path test ks u k && leads_by_path test ks k v)

-- the rows tell which of so many items reaches which by these links
pub record AreReached (count : ℕ) (pairs : List Pair) (rows : List (List ℕ)) : Type 0 where
  pub square : IsSquare count rows
  pub same : (u v : ℕ) → leads rows u v ≡ has_pair pairs u v

-- the numbers of a list, all of them below the count, as a set
pub record ArePivots (count : ℕ) (among : List ℕ) (pivots : List ℕ) : Type 0 where
  pub width : length among ≡ words_for count
  pub listed : (k : ℕ) → has among k ≡ has_number pivots k
  pub within : (k : ℕ) → has_number pivots k ≡ true → k < count

-- u doesn't lead to w, or is done
abbrev pub lets_take : List (List ℕ) → List ℕ → ℕ → ℕ → Bool
lets_take rows done w u = not (leads rows u w) || has done u

-- w isn't done, and all that lead to it are
unfoldable pub is_ready : LinksValue → List ℕ → ℕ → Bool
is_ready links done w = not (has done w) && all_below links.count (lets_take links.rows done w)

-- a set of the items that may be taken
abbrev pub AreReady : LinksValue → List ℕ → List ℕ → Type 0
AreReady links done ready = (w : ℕ) → has ready w ≡ (nat_lt w links.count && is_ready links done w)

-- where the taking of items stands after so many rounds
pub record Taken (links : LinksValue) (done ready taken : List ℕ) (rounds : ℕ) : Type 0 where
  pub done_width : length done ≡ words_for links.count
  pub width : length ready ≡ words_for links.count
  pub now_ready : AreReady links done ready
  pub listed : (k : ℕ) → has done k ≡ has_number taken k
  pub so_far : (pairs : List Pair) → AreLinks links pairs → taken ≡ take_items links.count rounds pairs
