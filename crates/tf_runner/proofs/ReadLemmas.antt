-- The files of the jobs that nobody has are read, one after another.
use Rattle.std.proofs.Common.{◌≡◌, ℕ, zero, suc, Bool, true, false, List, [], ◌∷◌, ◌++◌, cond, map, Option, Some, None, refl, sym, ap, subst, ◌∙◌, arith}
use Rattle.std.specs.Prelude.{◌&&◌, if◌then◌else◌, is_some, slice_get, take}
use Rattle.std.specs.Cmp.Lexicographic.{bytes_decides}
use Rattle.std.specs.List.{filter, flat_map, AllByRecursion}
use Rattle.tf_board.specs.Board.{details_in, is_listed, is_there, jobs_of, line_of, listed, listed_at, numbered, priorities, state_of}
use Rattle.tf_board.specs.Seeking.{details_at, details_for}
use Rattle.tf_board.specs.declared.commands.Command.{Command}
use Rattle.tf_board.specs.declared.jobs.Job.{Job}
use Rattle.tf_board.specs.declared.jobs.Standing.TheVariants as standing
use Rattle.tf_board.proofs.JobLemmas.{job_told}
use Rattle.tf_conductor.proofs.ClaimedLemmas.{free_of, place_in}
use Rattle.tf_conductor.proofs.HeldLemmas.{second_all}
use Rattle.tf_report.specs.declared.job_lines.JobLine.{JobLine}
use Rattle.tf_values.specs.declared.value.Val.{Val}
use Rattle.tf_values.specs.declared.value.Val.TheVariants as value
use Rattle.tf_ports.specs.Ports.{Contents, TellsStill}
use Rattle.tf_ports.proofs.TellsLemmas.{gives_on, passes_on}
use Rattle.tf_runner.specs.declared.files.Content.{Content}
use Rattle.tf_runner.specs.declared.files.Content.TheVariants as content
use Rattle.tf_runner.specs.Reading.{AreKept, AreReadFrom, IsContent, HasFileOf, HasLineFile, HaveFiles, IsRead, found_in, has_file_name}
use Rattle.tf_runner.specs.declared.files.JobFile.{JobFile}
use Rattle.tf_runner.proofs.FreeLemmas.{first_all, more_all}

-- ---- one file more

-- what was there is there
pub kept_more : (files : List JobFile) (file : JobFile) → AreKept files (files ++ file ∷ [])
kept_more [] file name is = absurd (cc)
kept_more (x ∷ files) file name is = by (has_file_name name x) is (λ found. kept_more files file name found)
  where
    by : (b : Bool) → is_some (cond b (Some x) (found_in files name)) ≡ true → (is_some (found_in files name) ≡ true → is_some (found_in (files ++ file ∷ []) name) ≡ true)
        → is_some (cond b (Some x) (found_in (files ++ file ∷ []) name)) ≡ true
    by true found rest = refl
    by false found rest = rest found

-- and so is the one that came
pub has_more : (files : List JobFile) (file : JobFile) (name : List ℕ) → file.name ≡ name → is_some (found_in (files ++ file ∷ []) name) ≡ true
has_more [] file name is = ap (λ (b : Bool). is_some (cond b (Some file) None)) ((bytes_decides file.name name).1 is)
has_more (x ∷ files) file name is = by (has_file_name name x) (has_more files file name is)
  where
    by : (b : Bool) → is_some (found_in (files ++ file ∷ []) name) ≡ true → is_some (cond b (Some x) (found_in (files ++ file ∷ []) name)) ≡ true
    by true rest = refl
    by false rest = rest

pub read_more : (contents : Contents) (files : List JobFile) (file : JobFile) → AreReadFrom contents files → IsRead contents file → AreReadFrom contents (files ++ file ∷ [])
read_more contents files file all here = more_all (IsRead contents) files file all here

-- what was read before some call was read
content_on : (before after : Contents) (name : List ℕ) (found : Content) → TellsStill before after → IsContent before name found → IsContent after name found
content_on before after name (content.Bytes bytes) still had = (gives_on before after name bytes.items still had.0, had.1)
content_on before after name content.TooLong still had = passes_on before after name still had

pub read_on : (before after : Contents) (files : List JobFile) → TellsStill before after → AreReadFrom before files → AreReadFrom after files
read_on before after [] still all = tt
read_on before after (file ∷ files) still all = (content_on before after file.name file.content still all.0, read_on before after files still all.1)

-- it came, unless memory ran out
pub pushed_keeps : (old new : List JobFile) (file : JobFile) (pushed : Bool) → new ≡ (if pushed then old ++ file ∷ [] else old) → AreKept old new
pushed_keeps old new file true is = subst (AreKept old) (sym is) (kept_more old file)
pushed_keeps old new file false is = subst (AreKept old) (sym is) (λ name has. has)

pub pushed_has : (old new : List JobFile) (file : JobFile) (name : List ℕ) → new ≡ old ++ file ∷ [] → file.name ≡ name → is_some (found_in new name) ≡ true
pushed_has old new file name is same = subst (λ (l : List JobFile). is_some (found_in l name) ≡ true) (sym is) (has_more old file name same)

-- nothing came
pub kept_all : (files : List JobFile) → AreKept files files
kept_all files name is = is

-- ---- the jobs of lines

file_kept : (old new : List JobFile) (details : Option Val) → AreKept old new → HasFileOf old details → HasFileOf new details
file_kept old new None kept has = tt
file_kept old new (Some (value.Text name)) kept has = kept name has
file_kept old new (Some value.Nothing) kept has = tt
file_kept old new (Some (value.Truth b)) kept has = tt
file_kept old new (Some (value.Int i)) kept has = tt
file_kept old new (Some (value.List items)) kept has = tt

pub line_kept : (past : List Command) (old new : List JobFile) (line : JobLine) → AreKept old new → HasLineFile past old line → HasLineFile past new line
line_kept past old new line kept has is = file_kept old new (details_at past line.number) kept (has is)

pub lines_kept : (past : List Command) (old new : List JobFile) (lines : List JobLine) → AreKept old new → AllByRecursion (HasLineFile past old) lines → AllByRecursion (HasLineFile past new) lines
lines_kept past old new [] kept all = tt
lines_kept past old new (line ∷ lines) kept all = (line_kept past old new line kept all.0, lines_kept past old new lines kept all.1)

-- one line more was read
pub lines_more : (past : List Command) (old new : List JobFile) (lines : List JobLine) (k : ℕ) (line : JobLine) → slice_get lines k ≡ Some line → AreKept old new
    → AllByRecursion (HasLineFile past old) (take k lines) → HasLineFile past new line → AllByRecursion (HasLineFile past new) (take (suc k) lines)
lines_more past old new [] k line at kept all here = absurd (cc)
lines_more past old new (x ∷ lines) zero line at kept all here =
    let same : x ≡ line = cc in
    (subst (HasLineFile past new) (sym same) here, tt)
lines_more past old new (x ∷ lines) (suc k) line at kept all here = (line_kept past old new x kept all.0, lines_more past old new lines k line at kept all.1 here)

-- ---- all jobs

-- what holds of lists one after another holds of each
all_in : {A B : Type 0} (P : B → Type 0) (f : A → List B) (xs : List A) (i : ℕ) (x : A) → slice_get xs i ≡ Some x → AllByRecursion P (flat_map f xs) → AllByRecursion P (f x)
all_in P f [] i x at all = absurd (cc)
all_in {B = B} P f (y ∷ xs) zero x at all =
    let same : y ≡ x = cc in
    subst (λ z. AllByRecursion P (f z)) same (first_all P (f y) (flat_map f xs) all)
all_in P f (y ∷ xs) (suc i) x at all = all_in P f xs i x at (second_all P (f y) (flat_map f xs) all)

-- and of the image of an item that meets the test
image_in : {A B : Type 0} (P : B → Type 0) (f : A → B) (test : A → Bool) (xs : List A) (i : ℕ) (x : A) → slice_get xs i ≡ Some x → test x ≡ true → AllByRecursion P (map f (filter test xs)) → P (f x)
image_in P f test [] i x at meets all = absurd (cc)
image_in {A} P f test (y ∷ xs) zero x at meets all =
    let same : y ≡ x = cc in
    let here : test y ≡ true = ap test same ∙ meets in
    subst (λ z. P (f z)) same (subst (λ (b : Bool). AllByRecursion P (map f (cond b (y ∷ filter test xs) (filter test xs)))) here all).0
image_in {A} P f test (y ∷ xs) (suc i) x at meets all = image_in P f test xs i x at meets (by (test y) all)
  where
    by : (b : Bool) → AllByRecursion P (map f (cond b (y ∷ filter test xs) (filter test xs))) → AllByRecursion P (map f (filter test xs))
    by true both = both.1
    by false both = both

-- the files of all lines are those of all jobs
pub have_files : (past : List Command) (files : List JobFile) → AllByRecursion (HasLineFile past files) (listed past) → HaveFiles past files
have_files past files all zero name named = (let none = named.there in absurd (cc))
have_files past files all (suc place) name named =
    let job : Job = named.job in
    let told = job_told past past place job named.there in
    let free : job.standing ≡ standing.Free = free_of job.standing named.free in
    let number : job.number ≡ suc place = omega (arith, told.0) in
    let p = place_in job.priority in
    let is : is_listed job.priority job ≡ true = ap (λ (b : Bool). b && is_there job.standing) p.2 ∙ ap is_there free in
    let line : HasLineFile past files (line_of job) = image_in (HasLineFile past files) line_of (is_listed job.priority) (jobs_of past) place job named.there is
    (all_in (HasLineFile past files) (listed_at (jobs_of past)) priorities p.0 job.priority p.1 all) in
    let details : details_at past job.number ≡ Some (value.Text name) =
    ap (details_at past) number ∙ ap (λ (o : Option Job). details_for o (numbered (details_in past) (suc place))) named.there
    ∙ ap (λ (b : Bool). cond b (numbered (details_in past) (suc place)) None) (ap is_there free) ∙ named.details in
    subst (HasFileOf files) details (line (ap state_of free))
