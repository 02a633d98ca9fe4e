-- How what calls do to a desk's state joins: for each word what holds before any call, one call after another, and what a wider word says.
use Rattle.std.proofs.Common.{◌≡◌, ℕ, Bool, IsTrue, List, [], ◌++◌, Option, Some, None, refl, sym, ◌∙◌, ap, subst, arith, unwrap_or}
use Rattle.std.proofs.lemmas.List.{append_assoc, append-nil}
use Rattle.std.specs.Option.{option_and_then}
use Rattle.tf_desk.specs.Crash.{Mark, Content, bytes_of, Pairs, Images, IsLeft, LeavesNoMore}
use Rattle.tf_desk.specs.State.{DeskState, nothing_left, anything, told_as, Trusts, Continues, bytes_now, MayLeave, IsDurable, SaysPrefix, Passes, OnDisk, Extends, FilesStay, OthersStay, Rests, GoesOn, Says, Asks, passes_none, passes_on, passes_within}

-- ---- marks

-- the marks after a call begin with those before it
abbrev pub AddsMarks : List Mark → List Mark → Type 0
AddsMarks old new = (more : List Mark) × (new ≡ old ++ more)

pub marks_none : (marks : List Mark) → AddsMarks marks marks
marks_none marks = ([], sym (append-nil marks))

pub marks_on : (old mid new : List Mark) → AddsMarks old mid → AddsMarks mid new → AddsMarks old new
marks_on old mid new a b = (a.0 ++ b.0, b.1 ∙ ap (λ (l : List Mark). l ++ b.0) a.1 ∙ append_assoc old a.0 b.0)

marks_same : (old new : List Mark) → new ≡ old → AddsMarks old new
marks_same old new same = ([], same ∙ sym (append-nil old))

-- ---- crashes

-- nothing is among anything
pub none_within : (during : Pairs) (image text : List ℕ) → nothing_left image text → during image text
none_within during image text none = absurd none

-- a call that leaves nothing, after one
pub passes_then : {during : Pairs} {old mid new : DeskState} → Passes during old mid → Passes nothing_left mid new → Passes during old new
passes_then {during} a b = passes_on a b (λ image text in_first. in_first) (none_within during)

-- a call after one that leaves nothing
pub passes_after : {during : Pairs} {old mid new : DeskState} → Passes nothing_left old mid → Passes during mid new → Passes during old new
passes_after {during} a b = passes_on a b (none_within during) (λ image text in_second. in_second)

-- ---- calls of the disk

pub on_disk_none : {during : Pairs} {old : DeskState} → OnDisk during old old
on_disk_none {during} {old} = record {
  tells = refl;
  shown = refl;
  disk_faults = omega arith;
  out_faults = refl;
  asks = refl;
  turns = refl;
  marks = λ told. marks_none old.content.marks;
  crash = λ told. passes_none;
}

-- the desk still tells
pub on_disk_told : {during : Pairs} {old new : DeskState} → OnDisk during old new → IsTrue old.tells → IsTrue new.tells
on_disk_told call told = subst IsTrue (sym call.tells) told

pub on_disk_on : {first second during : Pairs} {old mid new : DeskState} → OnDisk first old mid → OnDisk second mid new
    → (IsTrue old.tells → (image text : List ℕ) → first image text → during image text) → (IsTrue old.tells → (image text : List ℕ) → second image text → during image text)
    → OnDisk during old new
on_disk_on {first} {second} {during} {old} {mid} {new} a b from_first from_second = record {
  tells = b.tells ∙ a.tells;
  shown = b.shown ∙ a.shown;
  disk_faults = omega (arith, a.disk_faults, b.disk_faults);
  out_faults = b.out_faults ∙ a.out_faults;
  asks = b.asks ∙ a.asks;
  turns = b.turns ∙ a.turns;
  marks = λ told. marks_on old.content.marks mid.content.marks new.content.marks (a.marks told) (b.marks (on_disk_told a told));
  crash = λ told. passes_on (a.crash told) (b.crash (on_disk_told a told)) (from_first told) (from_second told);
}

pub on_disk_within : {narrow during : Pairs} {old new : DeskState} → OnDisk narrow old new
    → (IsTrue old.tells → (image text : List ℕ) → narrow image text → during image text) → OnDisk during old new
on_disk_within a within = record {
  tells = a.tells;
  shown = a.shown;
  disk_faults = a.disk_faults;
  out_faults = a.out_faults;
  asks = a.asks;
  turns = a.turns;
  marks = a.marks;
  crash = λ told. passes_within (a.crash told) (within told);
}

-- ---- files

pub files_none : {old : DeskState} → FilesStay old old
files_none = record { files = refl; picked = refl; leaves = λ name image left. left }

pub files_on : {old mid new : DeskState} → FilesStay old mid → FilesStay mid new → FilesStay old new
files_on a b = record {
  files = b.files ∙ a.files;
  picked = b.picked ∙ a.picked;
  leaves = λ name image left. a.leaves name image (b.leaves name image left);
}

pub others_none : {old : DeskState} → OthersStay old old
others_none = record { picked = refl; others = λ other not_it. refl }

pub others_on : {old mid new : DeskState} → OthersStay old mid → OthersStay mid new → OthersStay old new
others_on a b = record {
  picked = b.picked ∙ a.picked;
  others = λ other not_it. b.others other (λ its. not_it (sym a.picked ∙ its)) ∙ a.others other not_it;
}

-- where no file changed, the others didn't
pub files_others : {old new : DeskState} → FilesStay old new → OthersStay old new
files_others a = record { picked = a.picked; others = λ other not_it. ap (λ (files : List ℕ → Option (List ℕ)). files other) a.files }

read_alike : (old new : Content) → new.files ≡ old.files → new.picked ≡ old.picked → bytes_of new ≡ bytes_of old
read_alike old new files picked =
    ap (λ (p : Option (List ℕ)). unwrap_or (option_and_then new.files p) []) picked
    ∙ ap (λ (f : List ℕ → Option (List ℕ)). unwrap_or (option_and_then f old.picked) []) files

-- the picked file reads as before
pub bytes_stay : {old new : DeskState} → FilesStay old new → bytes_now new ≡ bytes_now old
bytes_stay {old} {new} a = read_alike old.content new.content a.files a.picked

pub left_alike : (picked : Option (List ℕ)) (old new : Images) (image : List ℕ) → LeavesNoMore old new → IsLeft picked new image → IsLeft picked old image
left_alike None old new image leaves left = left
left_alike (Some name) old new image leaves left = leaves name image left

-- what a crash now may leave of the picked file it might leave before
pub left_stays : {old new : DeskState} → FilesStay old new → (image : List ℕ) → MayLeave new image → MayLeave old image
left_stays {old} {new} a image left =
    left_alike old.content.picked old.left new.left image a.leaves (subst (λ (p : Option (List ℕ)). IsLeft p new.left image) a.picked left)

-- what is on the disk stays there
pub durable_on : {old new : DeskState} → FilesStay old new → IsDurable old → IsDurable new
durable_on a durable image left = durable image (left_stays a image left) ∙ sym (bytes_stay a)

-- ---- calls that read

pub rests_none : {old : DeskState} → Rests old old
rests_none = record { on_disk = on_disk_none; files = λ told. files_none }

pub rests_on : {old mid new : DeskState} → Rests old mid → Rests mid new → Rests old new
rests_on a b = record {
  on_disk = on_disk_on a.on_disk b.on_disk (λ told. none_within nothing_left) (λ told. none_within nothing_left);
  files = λ told. files_on (a.files told) (b.files (on_disk_told a.on_disk told));
}

-- a call that reads goes on, whatever a crash in the others leaves
pub rests_goes : {during : Pairs} {old new : DeskState} → Rests old new → GoesOn during old new
rests_goes {during} a = record { on_disk = on_disk_within a.on_disk (λ told. none_within during); files = λ told. files_others (a.files told) }

-- ---- calls that write to the picked file

pub goes_none : {during : Pairs} {old : DeskState} → GoesOn during old old
goes_none = record { on_disk = on_disk_none; files = λ told. others_none }

pub goes_on : {first second during : Pairs} {old mid new : DeskState} → GoesOn first old mid → GoesOn second mid new
    → (IsTrue old.tells → (image text : List ℕ) → first image text → during image text) → (IsTrue old.tells → (image text : List ℕ) → second image text → during image text)
    → GoesOn during old new
goes_on a b from_first from_second = record {
  on_disk = on_disk_on a.on_disk b.on_disk from_first from_second;
  files = λ told. others_on (a.files told) (b.files (on_disk_told a.on_disk told));
}

pub goes_within : {narrow during : Pairs} {old new : DeskState} → GoesOn narrow old new
    → (IsTrue old.tells → (image text : List ℕ) → narrow image text → during image text) → GoesOn during old new
goes_within a within = record { on_disk = on_disk_within a.on_disk within; files = a.files }

-- calls that write, and then calls that read
pub goes_then_rests : {during : Pairs} {old mid new : DeskState} → GoesOn during old mid → Rests mid new → GoesOn during old new
goes_then_rests {during} a b = goes_on a (rests_goes {during = during} b) (λ told image text here. here) (λ told image text here. here)

-- calls that read, and then calls that write
pub rests_then_goes : {during : Pairs} {old mid new : DeskState} → Rests old mid → GoesOn during mid new → GoesOn during old new
rests_then_goes {during} a b = goes_on (rests_goes {during = during} a) b (λ told image text here. here) (λ told image text here. here)

-- ---- what all calls keep

pub extends_none : {during : Pairs} {old : DeskState} → Extends during old old
extends_none {during} {old} = record {
  tells = refl;
  disk_faults = omega arith;
  out_faults = omega arith;
  asks = omega arith;
  turns = omega arith;
  marks = λ told. marks_none old.content.marks;
  crash = λ told. passes_none;
}

pub extends_told : {during : Pairs} {old new : DeskState} → Extends during old new → IsTrue old.tells → IsTrue new.tells
extends_told call told = subst IsTrue (sym call.tells) told

pub extends_on : {first second during : Pairs} {old mid new : DeskState} → Extends first old mid → Extends second mid new
    → (IsTrue old.tells → (image text : List ℕ) → first image text → during image text) → (IsTrue old.tells → (image text : List ℕ) → second image text → during image text)
    → Extends during old new
extends_on {first} {second} {during} {old} {mid} {new} a b from_first from_second = record {
  tells = b.tells ∙ a.tells;
  disk_faults = omega (arith, a.disk_faults, b.disk_faults);
  out_faults = omega (arith, a.out_faults, b.out_faults);
  asks = omega (arith, a.asks, b.asks);
  turns = omega (arith, a.turns, b.turns);
  marks = λ told. marks_on old.content.marks mid.content.marks new.content.marks (a.marks told) (b.marks (extends_told a told));
  crash = λ told. passes_on (a.crash told) (b.crash (extends_told a told)) (from_first told) (from_second told);
}

pub extends_within : {narrow during : Pairs} {old new : DeskState} → Extends narrow old new
    → (IsTrue old.tells → (image text : List ℕ) → narrow image text → during image text) → Extends during old new
extends_within a within = record {
  tells = a.tells;
  disk_faults = a.disk_faults;
  out_faults = a.out_faults;
  asks = a.asks;
  turns = a.turns;
  marks = a.marks;
  crash = λ told. passes_within (a.crash told) (within told);
}

pub on_disk_extends : {during : Pairs} {old new : DeskState} → OnDisk during old new → Extends during old new
on_disk_extends {during} {old} {new} a = record {
  tells = a.tells;
  disk_faults = a.disk_faults;
  out_faults = omega (arith, a.out_faults);
  asks = omega (arith, a.asks);
  turns = omega (arith, a.turns);
  marks = a.marks;
  crash = a.crash;
}

pub says_extends : {bytes : List ℕ} {old new : DeskState} → Says bytes old new → Extends (SaysPrefix old bytes) old new
says_extends {bytes} {old} {new} a = record {
  tells = a.tells;
  disk_faults = omega (arith, a.disk_faults);
  out_faults = a.out_faults;
  asks = omega (arith, a.asks);
  turns = omega (arith, a.turns);
  marks = λ told. marks_same old.content.marks new.content.marks (a.marks told);
  crash = a.crash;
}

pub asks_extends : {old new : DeskState} → Asks old new → Extends nothing_left old new
asks_extends {old} {new} a = record {
  tells = a.tells;
  disk_faults = omega (arith, a.disk_faults);
  out_faults = omega (arith, a.out_faults);
  asks = a.asks;
  turns = a.turns;
  marks = λ told. marks_same old.content.marks new.content.marks (a.marks told);
  crash = a.crash;
}

-- ---- calls that may say, ask, and write to the picked file

-- any pair is among anything
all_within : (narrow : Pairs) (image text : List ℕ) → narrow image text → anything image text
all_within narrow image text left = tt

pub continues_none : {old : DeskState} → Continues old old
continues_none = record { extends = extends_none; files = λ told. others_none }

pub continues_on : {old mid new : DeskState} → Continues old mid → Continues mid new → Continues old new
continues_on a b = record {
  extends = extends_on a.extends b.extends (λ told. all_within anything) (λ told. all_within anything);
  files = λ told. others_on (a.files told) (b.files (extends_told a.extends told));
}

pub goes_continues : {during : Pairs} {old new : DeskState} → GoesOn during old new → Continues old new
goes_continues {during} a = record { extends = extends_within (on_disk_extends a.on_disk) (λ told. all_within during); files = a.files }

pub rests_continues : {old new : DeskState} → Rests old new → Continues old new
rests_continues a = record {
  extends = extends_within (on_disk_extends a.on_disk) (λ told. all_within nothing_left);
  files = λ told. files_others (a.files told);
}

pub says_continues : {bytes : List ℕ} {old new : DeskState} → Says bytes old new → Continues old new
says_continues {bytes} {old} a = record {
  extends = extends_within (says_extends a) (λ told. all_within (SaysPrefix old bytes));
  files = λ told. files_others (a.files told);
}

pub asks_continues : {old new : DeskState} → Asks old new → Continues old new
asks_continues a = record {
  extends = extends_within (asks_extends a) (λ told. all_within nothing_left);
  files = λ told. files_others (a.files told);
}

-- ---- calls that take an answer of the system on trust

told_same : (old new : DeskState) → new.tells ≡ old.tells → old ≡ told_as new old
told_same old new same = ap (λ (tells : Bool). record old { tells = tells }) (sym same)

-- a call that leaves what the desk tells
pub trusts_of : {Does : DeskState → DeskState → Type 0} {old new : DeskState} → new.tells ≡ old.tells → Does old new
    → Trusts Does old new
trusts_of {Does} {old} {new} same does = record {
  falls = λ told. subst IsTrue same told;
  does = subst (λ (s : DeskState). Does s new) (told_same old new same) does;
}

-- a call that does more
pub trusts_within : {Narrow Does : DeskState → DeskState → Type 0} {old new : DeskState}
    → (Narrow (told_as new old) new → Does (told_as new old) new) → Trusts Narrow old new → Trusts Does old new
trusts_within within a = record { falls = a.falls; does = within a.does }

-- what a call does, of a desk that tells less in the end
pub passes_lowered : {during : Pairs} {old mid : DeskState} (end : DeskState) → Passes during old mid
    → Passes during (told_as end old) (told_as end mid)
passes_lowered end a = record { later = a.later; since = a.since; keeps = a.keeps }

pub on_disk_lowered : {during : Pairs} {old mid : DeskState} (end : DeskState) → (IsTrue end.tells → IsTrue old.tells)
    → OnDisk during old mid → OnDisk during (told_as end old) (told_as end mid)
on_disk_lowered end falls a = record {
  tells = refl;
  shown = a.shown;
  disk_faults = a.disk_faults;
  out_faults = a.out_faults;
  asks = a.asks;
  turns = a.turns;
  marks = λ told. a.marks (falls told);
  crash = λ told. passes_lowered end (a.crash (falls told));
}

pub files_lowered : {old mid : DeskState} (end : DeskState) → FilesStay old mid → FilesStay (told_as end old) (told_as end mid)
files_lowered end a = record { files = a.files; picked = a.picked; leaves = a.leaves }

pub others_lowered : {old mid : DeskState} (end : DeskState) → OthersStay old mid → OthersStay (told_as end old) (told_as end mid)
others_lowered end a = record { picked = a.picked; others = a.others }

pub rests_lowered : {old mid : DeskState} (end : DeskState) → (IsTrue end.tells → IsTrue old.tells) → Rests old mid
    → Rests (told_as end old) (told_as end mid)
rests_lowered end falls a = record {
  on_disk = on_disk_lowered end falls a.on_disk;
  files = λ told. files_lowered end (a.files (falls told));
}

pub goes_lowered : {during : Pairs} {old mid : DeskState} (end : DeskState) → (IsTrue end.tells → IsTrue old.tells)
    → GoesOn during old mid → GoesOn during (told_as end old) (told_as end mid)
goes_lowered end falls a = record {
  on_disk = on_disk_lowered end falls a.on_disk;
  files = λ told. others_lowered end (a.files (falls told));
}

pub extends_lowered : {during : Pairs} {old mid : DeskState} (end : DeskState) → (IsTrue end.tells → IsTrue old.tells)
    → Extends during old mid → Extends during (told_as end old) (told_as end mid)
extends_lowered end falls a = record {
  tells = refl;
  disk_faults = a.disk_faults;
  out_faults = a.out_faults;
  asks = a.asks;
  turns = a.turns;
  marks = λ told. a.marks (falls told);
  crash = λ told. passes_lowered end (a.crash (falls told));
}

pub continues_lowered : {old mid : DeskState} (end : DeskState) → (IsTrue end.tells → IsTrue old.tells) → Continues old mid
    → Continues (told_as end old) (told_as end mid)
continues_lowered end falls a = record {
  extends = extends_lowered end falls a.extends;
  files = λ told. others_lowered end (a.files (falls told));
}

-- one call after another
pub trusts_rests_none : {old : DeskState} → Trusts Rests old old
trusts_rests_none = trusts_of refl rests_none

pub trusts_rests_on : {old mid new : DeskState} → Trusts Rests old mid → Trusts Rests mid new → Trusts Rests old new
trusts_rests_on {old} {mid} {new} a b = record {
  falls = λ told. a.falls (b.falls told);
  does = rests_on (rests_lowered new b.falls a.does) b.does;
}

pub trusts_continues_on : {old mid new : DeskState} → Trusts Continues old mid → Trusts Continues mid new
    → Trusts Continues old new
trusts_continues_on {old} {mid} {new} a b = record {
  falls = λ told. a.falls (b.falls told);
  does = continues_on (continues_lowered new b.falls a.does) b.does;
}

pub trusts_extends_on : {first second during : Pairs} {old mid new : DeskState} → Trusts (Extends first) old mid
    → Trusts (Extends second) mid new
    → (IsTrue new.tells → (image text : List ℕ) → first image text → during image text)
    → (IsTrue new.tells → (image text : List ℕ) → second image text → during image text)
    → Trusts (Extends during) old new
trusts_extends_on {first} {second} {during} {old} {mid} {new} a b from_first from_second = record {
  falls = λ told. a.falls (b.falls told);
  does = extends_on (extends_lowered new b.falls a.does) b.does from_first from_second;
}

pub trusts_goes_on : {first second during : Pairs} {old mid new : DeskState} → Trusts (GoesOn first) old mid
    → Trusts (GoesOn second) mid new
    → (IsTrue new.tells → (image text : List ℕ) → first image text → during image text)
    → (IsTrue new.tells → (image text : List ℕ) → second image text → during image text)
    → Trusts (GoesOn during) old new
trusts_goes_on {first} {second} {during} {old} {mid} {new} a b from_first from_second = record {
  falls = λ told. a.falls (b.falls told);
  does = goes_on (goes_lowered new b.falls a.does) b.does from_first from_second;
}

-- calls that read, and then calls that write
pub trusts_then_goes : {during : Pairs} {old mid new : DeskState} → Trusts Rests old mid → GoesOn during mid new
    → Trusts (GoesOn during) old new
trusts_then_goes {during} {old} {mid} {new} a b = record {
  falls = λ told. a.falls (subst IsTrue b.on_disk.tells told);
  does = rests_then_goes (rests_lowered new (λ told. subst IsTrue b.on_disk.tells told) a.does)
      (subst (λ (s : DeskState). GoesOn during s new) (told_same mid new b.on_disk.tells) b);
}

pub trusts_goes : {during : Pairs} {old new : DeskState} → Trusts Rests old new → Trusts (GoesOn during) old new
trusts_goes {during} a = record { falls = a.falls; does = rests_goes a.does }

-- what such a call did, where the desk tells after it
pub told_before : {Does : DeskState → DeskState → Type 0} {old new : DeskState} → Trusts Does old new → IsTrue new.tells
    → IsTrue old.tells
told_before a told = a.falls told

pub trusts_files : {old new : DeskState} → Trusts Rests old new → IsTrue new.tells → FilesStay old new
trusts_files a told = let f = a.does.files told in record { files = f.files; picked = f.picked; leaves = f.leaves }

pub trusts_passes : {old new : DeskState} → Trusts Rests old new → IsTrue new.tells → Passes nothing_left old new
trusts_passes a told = let p = a.does.on_disk.crash told in record { later = p.later; since = p.since; keeps = p.keeps }

-- ---- a state before calls, telling what is told behind them

-- what holds behind a call that leaves what the desk tells
pub told_through : (P : DeskState → Type 0) (entry : DeskState) {mid now : Bool} → now ≡ mid → P (record entry { tells = mid }) → P (record entry { tells = now })
told_through P entry same holds = subst (λ (tells : Bool). P (record entry { tells = tells })) (sym same) holds

-- and where it told as much before
pub told_still : (P : DeskState → Type 0) (entry : DeskState) {now : Bool} → now ≡ entry.tells → P entry → P (record entry { tells = now })
told_still P entry same holds = subst (λ (tells : Bool). P (record entry { tells = tells })) (sym same) holds

pub passes_as : {during : Pairs} {old new : DeskState} (end : DeskState) → Passes during old new → Passes during (told_as end old) new
passes_as end a = record { later = a.later; since = a.since; keeps = a.keeps }
