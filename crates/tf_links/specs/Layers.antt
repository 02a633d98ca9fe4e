-- The items from which one item is reached in so many links, and walks by them.
use Rattle.std.specs.Prelude.{◌≡◌, ℕ, zero, suc, ◌<◌, List, [], ◌∷◌, Bool, ◌&&◌, Option, is_some, length, nat_eq, slice_index_or}
use Rattle.tf_numbers.specs.Numbers.{first_below}
use Rattle.tf_links.specs.Graphs.{go_on}
use Rattle.tf_links.specs.Bits.{has, words_for}
use Rattle.tf_links.specs.Links.{leads, LinksValue}

-- u leads to w, which is in the set
abbrev pub goes_into : LinksValue → List ℕ → ℕ → ℕ → Bool
goes_into links set u w = leads links.rows u w && has set w

-- the first item of the set that u leads to
unfoldable pub first_into : LinksValue → List ℕ → ℕ → Option ℕ
first_into links set u = first_below links.count (goes_into links set u)

-- u leads to an item that passes the test
abbrev pub leads_to_passing : LinksValue → (ℕ → Bool) → ℕ → ℕ → Bool
leads_to_passing links test u w = leads links.rows u w && test w

-- the first item that passes the test and that u leads to
abbrev pub first_passing : LinksValue → (ℕ → Bool) → ℕ → Option ℕ
first_passing links test u = first_below links.count (leads_to_passing links test u)

-- u leads to the item in so many links
abbrev pub in_layer : LinksValue → ℕ → ℕ → ℕ → Bool
in_layer links item zero u = nat_eq item u
in_layer links item (suc k) u = is_some (first_passing links (in_layer links item k) u)

-- a walk from u to the item in so many links and one, the first item that leads on at each turn
abbrev pub walk_by : LinksValue → ℕ → ℕ → ℕ → List ℕ
walk_by links item zero u = u ∷ []
walk_by links item (suc k) u = u ∷ go_on (first_passing links (in_layer links item (suc k)) u) (walk_by links item k)

-- the sets are the first so many layers
pub record AreLayers (links : LinksValue) (item : ℕ) (layers : List (List ℕ)) (count : ℕ) : Type 0 where
  pub height : length layers ≡ count
  pub width : (k : ℕ) → k < count → length (slice_index_or layers k []) ≡ words_for links.count
  pub told : (k : ℕ) → k < count → (u : ℕ) → u < links.count
      → has (slice_index_or layers k []) u ≡ in_layer links item k u
