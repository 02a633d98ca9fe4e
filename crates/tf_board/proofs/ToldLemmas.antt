-- What was told of a desk on its way, of one that tells less in the end; and what is told to the end.
use Rattle.std.proofs.Common.{◌≡◌, ℕ, List, Bool, refl, sym, ap, ◌∙◌, subst}
use Rattle.std.specs.Prelude.{IsTrue}
use Rattle.tf_desk.specs.Crash.{Pairs}
use Rattle.tf_desk.specs.State.{DeskState, told_as, Picks}
use Rattle.tf_journal.specs.Start.{IsStart, Path, IsSet, Open}
use Rattle.tf_board.specs.declared.calls.BoardRequest.{BoardRequest}
use Rattle.tf_board.specs.Does.{Does, Concludes, HasCauses}

-- ---- of a desk that tells less in the end

-- a pick, as far as the desk tells after it
pub picks_told : {name : List ℕ} {old new : DeskState} → Picks name old new → Picks name (told_as new old) new
picks_told a = record { picked = a.picked; file = a.file; others = a.others; marks = a.marks }

start_told : {name : List ℕ} {entry now : DeskState} {moment : ℕ} (end : DeskState) → IsStart name (told_as end entry) (told_as end now) moment → IsStart name entry now moment
start_told end start = record { more = start.more; added = start.added; first = start.first }

set_told : {name : List ℕ} {entry now : DeskState} (end : DeskState) → IsSet name entry now → IsSet name (told_as end entry) (told_as end now)
set_told end set = record { picked = set.picked; more = set.more; added = set.added; has_pick = set.has_pick; has_sync = set.has_sync }

path_told : {name : List ℕ} {entry now : DeskState} {may : Pairs} {held : List ℕ → Type 0} (end : DeskState) → Path name entry now may held
    → Path name (told_as end entry) (told_as end now) may held
path_told end path = record {
  others = path.others;
  within = λ moment start. path.within moment (start_told end start);
  crash = λ moment start. path.crash moment (start_told end start);
  still = λ moment start. path.still moment (start_told end start);
}

-- a file that is open
pub open_told : {name : List ℕ} {entry now : DeskState} (end : DeskState) → (IsTrue end.tells → IsTrue entry.tells) → Open name entry now
    → Open name (told_as end entry) (told_as end now)
open_told end falls o = record {
  untouched = record {
    told = refl;
    quiet = o.untouched.quiet;
    file = λ told. o.untouched.file (falls told);
    path = λ told. path_told end (o.untouched.path (falls told));
    disk = o.untouched.disk;
    out = o.untouched.out;
  };
  set = λ told. set_told end (o.set (falls told));
}

-- ---- what is told to the end

-- a desk that tells as much in the end as on its way
pub told_to_end : (entry mid now : DeskState) → now.tells ≡ mid.tells → told_as mid entry ≡ told_as now entry
told_to_end entry mid now same = ap (λ (tells : Bool). record entry { tells = tells }) (sym same)

-- as much is told behind what concludes a command as before it
pub tells_since : {K : Type 0} (state : K → DeskState) {back mid : K} {was : Bool} {now : DeskState} {status : ℕ} → Concludes (state back) now status → back ≡ mid
    → (state mid).tells ≡ was → now.tells ≡ was
tells_since {K = K} state concludes same tells = concludes.extends.tells ∙ ap (λ (k : K). (state k).tells) same ∙ tells

pub does_to_end : {asked : BoardRequest} {name : List ℕ} (entry mid : DeskState) {now : DeskState} {status : ℕ} → now.tells ≡ mid.tells
    → Does asked name (told_as mid entry) now status → Does asked name (told_as now entry) now status
does_to_end {asked} {name} entry mid {now} {status} same does = subst (λ (s : DeskState). Does asked name s now status) (told_to_end entry mid now same) does

pub causes_to_end : (entry mid : DeskState) {now : DeskState} {status : ℕ} → HasCauses (told_as mid entry) now status → HasCauses (told_as now entry) now status
causes_to_end entry mid {now} {status} causes = subst (λ (s : DeskState). HasCauses s now status) (told_to_end entry mid now causes.extends.tells) causes
