-- What the calls of a board leave.
use Rattle.std.proofs.Common.{◌≡◌, ◌⊎◌, ◌<◌, ℕ, suc, ◌+◌, List, length, get_or, Option, Some, None, Result, Err, refl, sym, ap, subst, ◌∙◌, inl, inr, arith, ◌∷◌, [], IfSome}
use Rattle.std.specs.Prelude.{slice_get}
use Rattle.std.proofs.lemmas.Option.{slice_get-get_or}
use Rattle.tf_desk.specs.State.{DeskState, bytes_now, MayLeave, GoesOn}
use Rattle.tf_desk.proofs.StateLemmas.{goes_none}
use Rattle.tf_journal.specs.Format.{Held, IsAtRest, recovered, bodies}
use Rattle.tf_journal.specs.declared.title.Title.{Title}
use Rattle.tf_journal.specs.declared.title.Title.TheVariants.{Jobs as jobs_title}
use Rattle.tf_journal.proofs.HeaderLemmas.{sixteen}
use Rattle.tf_journal.proofs.LieLemmas.{recovered_lies}
use Rattle.std.proofs.lemmas.List.Quantifiers.{position-Some}
use Rattle.tf_board.specs.Board.{BoardValue, board_in, bodies_of, Holds, LeavesHeld, IsSound, refused_at, refused_of, refuses_id, jobs_of, numbered, place_of, named, has_id, owner_in, owner_of}
use Rattle.tf_board.specs.Does.{LeavesRecorded, FailsToRecord, Records, fault_of, number_at, applied, Acts}
use Rattle.tf_board.specs.declared.board.Owner.TheVariants as owned
use Rattle.tf_board.specs.declared.commands.Command.{Command}
use Rattle.tf_board.specs.declared.commands.Command.TheVariants as command
use Rattle.tf_board.specs.declared.commands.JobAction.{JobAction}
use Rattle.tf_board.specs.declared.faults.BoardFault.{BoardFault}
use Rattle.tf_board.specs.declared.faults.BoardFault.TheVariants as fault
use Rattle.tf_board.specs.declared.jobs.Job.{Job}
use Rattle.tf_board.specs.declared.jobs.Standing.{Standing}
use Rattle.tf_board.specs.declared.kept.Kept.{Kept}
use Rattle.tf_board.specs.declared.rules.Refusal.{Refusal}
use Rattle.tf_board.specs.declared.rules.Refusal.TheVariants as refusal
use Rattle.tf_board.proofs.JobLemmas.{named_by}

-- ---- who has a job

pub owner_none : (past : List Command) (items : List Job) (id : List ℕ) → items ≡ jobs_of past → None ≡ place_of items id → owned.NoJob ≡ owner_of past id
owner_none past items id same none = ap owner_in (sym (named_by (jobs_of past) id None (sym (none ∙ ap (λ (l : List Job). place_of l id) same))))

-- the job at the place of an id is the one that it names
pub named_there : (past : List Command) (items : List Job) (id : List ℕ) (place : ℕ) (job : Job) → items ≡ jobs_of past → Some place ≡ place_of items id → place < length items → job ≡ get_or items place job
    → (named (jobs_of past) id ≡ Some job) × (slice_get (jobs_of past) place ≡ Some job)
named_there past items id place job same there within read =
    let at : slice_get items place ≡ Some job = slice_get-get_or items place job within ∙ ap Some (sym read) in
    let at_jobs : slice_get (jobs_of past) place ≡ Some job = sym (ap (λ (l : List Job). slice_get l place) same) ∙ at in
    (named_by (jobs_of past) id (Some place) (sym (there ∙ ap (λ (l : List Job). place_of l id) same)) ∙ at_jobs, at_jobs)

-- a place at which the first job has an id is that of a job
place_within : (items : List Job) (id : List ℕ) (place : ℕ) → Some place ≡ place_of items id → place < length items
place_within [] id place there = absurd (cc)
place_within (job ∷ items) id place there = (position-Some (has_id id) (job ∷ items) place job (sym there)).0

pub placed_within : (items : List Job) (id : List ℕ) (place : Option ℕ) → place ≡ place_of items id → IfSome place (λ at. at < length items)
placed_within items id None there = tt
placed_within items id (Some place) there = place_within items id place there

-- who has a job that stands so
pub owner_there : (past : List Command) (id : List ℕ) (job : Job) (s : Standing) → named (jobs_of past) id ≡ Some job → job.standing ≡ s → owner_in (Some (record job { standing = s })) ≡ owner_of past id
owner_there past id job s is stands = ap (λ (t : Standing). owner_in (Some (record job { standing = t }))) (sym stands) ∙ ap owner_in (sym is)

-- ---- what is refused

numbered_next : (jobs : List Job) (n place : ℕ) → n ≡ suc place → numbered jobs n ≡ slice_get jobs place
numbered_next jobs n place is = ap (numbered jobs) is

pub allowed_there : (past : List Command) (place : ℕ) (job : Job) (action : JobAction) (owner : List ℕ) → slice_get (jobs_of past) place ≡ Some job → refused_at job.standing action owner ≡ None
    → refused_of (numbered (jobs_of past) (place + 1)) action owner ≡ None
allowed_there past place job action owner at allowed =
    let next : place + 1 ≡ suc place = omega arith in
    ap (λ (o : Option Job). refused_of o action owner) (numbered_next (jobs_of past) (place + 1) place next ∙ at) ∙ allowed

pub refused_there : (past : List Command) (id : List ℕ) (job : Job) (action : JobAction) (owner : List ℕ) (why : Option Refusal) → named (jobs_of past) id ≡ Some job → refused_at job.standing action owner ≡ why
    → refuses_id past action id owner ≡ why
refused_there past id job action owner why is refused = ap (λ (o : Option Job). refused_of o action owner) is ∙ refused

pub refused_none : (past : List Command) (items : List Job) (id : List ℕ) (action : JobAction) (owner : List ℕ) → items ≡ jobs_of past → None ≡ place_of items id → refuses_id past action id owner ≡ Some refusal.NoJob
refused_none past items id action owner same none = ap (λ (o : Option Job). refused_of o action owner) (named_by (jobs_of past) id None (sym (none ∙ ap (λ (l : List Job). place_of l id) same)))

pub applied_there : (past : List Command) (items : List Job) (id : List ℕ) (place : ℕ) (action : JobAction) (owner : List ℕ) → items ≡ jobs_of past → Some place ≡ place_of items id
    → command.Apply action (place + 1) owner ≡ applied past action id owner
applied_there past items id place action owner same there =
    let next : place + 1 ≡ suc place = omega arith in
    ap (λ (n : ℕ). command.Apply action n owner) (next ∙ ap number_at (there ∙ ap (λ (l : List Job). place_of l id) same))

-- ---- what a board is

-- what recovery finds of a journal at rest
pub rest_holds : {K : Type 0} (state : K → DeskState) (journal : Held K) (past : List Command) → journal.title ≡ jobs_title → IsAtRest state journal (bodies_of past)
    → Holds past (board_in (bytes_now (state journal.desk)))
rest_holds state journal past titled rest =
    subst (λ (t : Title). recovered t (bytes_now (state journal.desk)) ≡ bodies (bodies_of past)) titled
    (recovered_lies journal.title (bodies_of past) journal.size (bytes_now (state journal.desk)) (sixteen journal.title) rest.lies)

-- and of what a crash leaves of it
pub rest_leaves_held : {K : Type 0} (state : K → DeskState) (journal : Held K) (past : List Command) → journal.title ≡ jobs_title → IsAtRest state journal (bodies_of past)
    → LeavesHeld past (state journal.desk)
rest_leaves_held state journal past titled rest image left =
    subst (λ (b : List ℕ). Holds past (board_in b)) (sym (rest.durable image left)) (rest_holds state journal past titled rest)

module _ {K : Type 0} (state : K → DeskState) where
  -- ---- nothing was recorded

  -- a board that is as it was: its file holds its commands, or no append may write to it
  pub records_same : {A : Type 0} (kept : Kept) (old new : BoardValue K) (added : Command) (why : BoardFault) → IsSound state kept old → new ≡ old
      → FailsToRecord state added old new why → Records {A = A} state old new added (Err why)
  records_same kept old new added why sound is fails = record {
    recorded = tt;
    fails = fails;
    goes = subst (λ (b : BoardValue K). GoesOn (LeavesRecorded old.past added (state old.journal.desk)) (state old.journal.desk) (state b.journal.desk)) (sym is) goes_none;
    leaves = λ told going image left.
        inl
        (rest_leaves_held state old.journal old.past sound.title (sound.ready (record { told = told; sound = going; kept = sound.in_file })) image
        (subst (λ (b : BoardValue K). MayLeave (state b.journal.desk) image) is left));
  }

  -- ---- what an owner does

  pub acts_refused : (refused : Option Refusal) (why : Refusal) (b : BoardValue K) (action : JobAction) (id owner : List ℕ) (f : BoardFault) → refused ≡ Some why → (f ≡ fault_of why id) ⊎ (f ≡ fault.Memory)
      → Acts state refused b b action id owner (Err f)
  acts_refused refused why b action id owner f is answers =
      subst (λ (o : Option Refusal). Acts state o b b action id owner (Err f)) (sym is)
      (record {
        now = refl;
        answer = elim answers [ inl named_so ↦ inl (ap (λ (x : BoardFault). Err x) named_so) | inr memory ↦ inr (ap (λ (x : BoardFault). Err x) memory) ];
      })

  pub acts_allowed : (refused : Option Refusal) (old new : BoardValue K) (action : JobAction) (id owner : List ℕ) (c : Command) (result : Result (Unit {0}) BoardFault) → refused ≡ None → c ≡ applied old.past action id owner
      → Records state old new c result
      → Acts state refused old new action id owner result
  acts_allowed refused old new action id owner c result is same records =
      subst (λ (o : Option Refusal). Acts state o old new action id owner result) (sym is)
      (subst (λ (x : Command). Records state old new x result) same records)
