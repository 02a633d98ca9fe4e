-- The laws of a desk, of its states.
use Rattle.std.specs.Prelude.{◌≡◌, ℕ, ◌≤◌, IsTrue, List, Some, is_some}
use Rattle.tf_desk.specs.State.{DeskState, bytes_now, told_as, LeftNow}

-- all that these proofs take of them
pub record KeepsLaws {K : Type 0} (state : K → DeskState) : Type 0 where
  pub tells_shown : (desk : K) → IsTrue (state desk).tells → IsTrue (is_some (state desk).shown)
  pub picked_is_there : (desk : K) (name : List ℕ) → IsTrue (state desk).tells → (state desk).content.picked ≡ Some name
      → (state desk).content.files name ≡ Some (bytes_now (state desk))
  pub reads_left : (desk : K) (name bytes : List ℕ) → IsTrue (state desk).tells → (state desk).content.files name ≡ Some bytes
      → (state desk).left name bytes
  pub counts_now : (desk : K) (start : ℕ) (image text : List ℕ) → IsTrue (state desk).tells → start ≤ (state desk).content.clock
      → LeftNow (state desk) image text → (state desk).crashes start image text
  pub only_now : (desk : K) (image text : List ℕ) → IsTrue (state desk).tells
      → (state desk).crashes (state desk).content.clock image text → LeftNow (state desk) image text

-- the same of one state
pub record LawsOf (s : DeskState) : Type 0 where
  pub shows : IsTrue s.tells → IsTrue (is_some s.shown)
  pub there : (name : List ℕ) → IsTrue s.tells → s.content.picked ≡ Some name → s.content.files name ≡ Some (bytes_now s)
  pub reads : (name bytes : List ℕ) → IsTrue s.tells → s.content.files name ≡ Some bytes → s.left name bytes
  pub reaches : (start : ℕ) (image text : List ℕ) → IsTrue s.tells → start ≤ s.content.clock → LeftNow s image text → s.crashes start image text
  pub only : (image text : List ℕ) → IsTrue s.tells → s.crashes s.content.clock image text → LeftNow s image text

pub laws_of : {K : Type 0} {state : K → DeskState} → KeepsLaws state → (desk : K) → LawsOf (state desk)
laws_of laws desk = record {
  shows = laws.tells_shown desk;
  there = laws.picked_is_there desk;
  reads = laws.reads_left desk;
  reaches = laws.counts_now desk;
  only = laws.only_now desk;
}

-- of a desk that tells less in the end
pub laws_lowered : {s : DeskState} (end : DeskState) → (IsTrue end.tells → IsTrue s.tells) → LawsOf s → LawsOf (told_as end s)
laws_lowered end falls laws = record {
  shows = λ told. laws.shows (falls told);
  there = λ name told. laws.there name (falls told);
  reads = λ name bytes told. laws.reads name bytes (falls told);
  reaches = λ start image text told. laws.reaches start image text (falls told);
  only = λ image text told. laws.only image text (falls told);
}
