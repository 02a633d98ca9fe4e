-- Each job that conductors claim is one that nobody had before.
use Rattle.std.proofs.Common.{◌≡◌, ◌⊎◌, ◌≤◌, ◌<◌, inl, inr, ℕ, zero, suc, Bool, true, false, List, [], ◌∷◌, ◌++◌, length, cond, Option, Some, None, refl, sym, ap, subst, ◌∙◌, arith, append_assoc, eq-eqb}
use Rattle.std.specs.Prelude.{◌||◌, nat_eq, if◌then◌else◌}
use Rattle.std.specs.List.{filter, list_any, AllByRecursion}
use Rattle.std.proofs.lemmas.Bool.{cases_lt, eqb-true}
use Rattle.std.proofs.lemmas.Option.{slice_get_past}
use Rattle.tf_board.specs.Board.{LegalJobs, jobs_of, numbered, posted, refused_of, refuses, standing_after, standing_of}
use Rattle.tf_board.specs.declared.commands.Command.{Command}
use Rattle.tf_board.specs.declared.commands.JobAction.TheVariants as action
use Rattle.tf_board.specs.declared.jobs.Job.{Job}
use Rattle.tf_board.specs.declared.jobs.Standing.TheVariants as standing
use Rattle.tf_board.specs.declared.rules.Refusal.TheVariants as refusal
use Rattle.tf_board.proofs.JobLemmas.{claim_free, jobs_long}
use Rattle.tf_conductor.specs.Rounds.{Begun, IsCallBy, IsConductors, Round, begun_calls, calls_by, calls_of, claim_by, claimed, end_of_round, is_claim, nothing, run}
use Rattle.tf_conductor.proofs.ClaimedLemmas.{legal_before}
use Rattle.tf_conductor.proofs.HeldLemmas.{followed_on, second_all}
use Rattle.tf_shared_board.specs.Shared.{followed_by, made_command}
use Rattle.tf_board.specs.Does.{command_of}
use Rattle.tf_board.specs.declared.calls.JobCall.{JobCall}
use Rattle.tf_board.specs.declared.calls.JobCall.TheVariants as call
use Rattle.tf_shared_board.specs.declared.calls.Made.{Made}

-- nobody has the job of this number
pub record IsFree (past : List Command) (n : ℕ) : Type 0 where
  pub least : 1 ≤ n
  pub most : n ≤ posted past
  pub free : standing_of past n ≡ standing.Free

-- ---- lists

either : (a b : Bool) → (a || b) ≡ false → (a ≡ false) × (b ≡ false)
either true b is = absurd (cc)
either false b is = (refl, is)

pub first_all : {A : Type 0} (P : A → Type 0) (xs ys : List A) → AllByRecursion P (xs ++ ys) → AllByRecursion P xs
first_all P [] ys all = tt
first_all P (x ∷ xs) ys all = (all.0, first_all P xs ys all.1)

pub more_all : {A : Type 0} (P : A → Type 0) (xs : List A) (x : A) → AllByRecursion P xs → P x → AllByRecursion P (xs ++ x ∷ [])
more_all P [] x all here = (here, tt)
more_all P (y ∷ xs) x all here = (all.0, more_all P xs x all.1 here)

pub filter_all : {A : Type 0} (P : A → Type 0) (test : A → Bool) (xs : List A) → AllByRecursion P xs → AllByRecursion P (filter test xs)
filter_all P test [] all = tt
filter_all {A} P test (x ∷ xs) all = by (test x) (filter_all P test xs all.1)
  where
    by : (b : Bool) → AllByRecursion P (filter test xs) → AllByRecursion P (cond b (x ∷ filter test xs) (filter test xs))
    by true rest = (all.0, rest)
    by false rest = rest

-- an item that meets the test stays between those that do
filter_split : {A : Type 0} (test : A → Bool) (xs : List A) (x : A) (ys : List A) → test x ≡ true → filter test (xs ++ x ∷ ys) ≡ filter test xs ++ x ∷ filter test ys
filter_split test [] x ys meets = ap (λ (b : Bool). cond b (x ∷ filter test ys) (filter test ys)) meets
filter_split {A} test (z ∷ xs) x ys meets = by (test z) (filter_split test xs x ys meets)
  where
    by : (b : Bool) → filter test (xs ++ x ∷ ys) ≡ filter test xs ++ x ∷ filter test ys
        → cond b (z ∷ filter test (xs ++ x ∷ ys)) (filter test (xs ++ x ∷ ys)) ≡ cond b (z ∷ filter test xs) (filter test xs) ++ x ∷ filter test ys
    by true rest = ap (λ (l : List A). z ∷ l) rest
    by false rest = rest

not_empty : {A : Type 0} (xs : List A) (x : A) (ys : List A) → xs ++ x ∷ ys ≡ [] → ⊥
not_empty [] x ys is = cc
not_empty (z ∷ xs) x ys is = cc

-- ---- how a job stands

-- a job that may be claimed nobody has
claim_of_free : (past : List Command) (n : ℕ) (owner : List ℕ) → refused_of (numbered (jobs_of past) n) action.Claim owner ≡ None → IsFree past n
claim_of_free past zero owner may = (let clash : Some refusal.NoJob ≡ None = may in absurd (cc))
claim_of_free past (suc place) owner may = by (cases_lt place (length (jobs_of past)))
  where
    by : (place < length (jobs_of past)) ⊎ (length (jobs_of past) ≤ place) → IsFree past (suc place)
    by (inl below) = record { least = omega arith; most = omega (arith, below, jobs_long past past); free = claim_free past (suc place) owner may }
    by (inr out) = (let clash : Some refusal.NoJob ≡ None = sym (ap (λ (o : Option Job). refused_of o action.Claim owner) (slice_get_past (jobs_of past) place out)) ∙ may in absurd (cc))

-- a call that isn't about a job leaves it as it stands
stands_on : (past : List Command) (m : Made) (owner : List ℕ) (n : ℕ) → IsCallBy owner m.call → nat_eq m.job n ≡ false → standing_of (made_command m ∷ past) n ≡ standing_of past n
stands_on past m owner n is apart = by m.call is
  where
    by : (x : JobCall) → IsCallBy owner x → standing_of (command_of x m.job ∷ past) n ≡ standing_of past n
    by (call.Post name priority details) mine = absurd mine
    by (call.Apply action.Claim id who) mine = ap (λ (b : Bool). if b then standing_after action.Claim who else standing_of past n) apart
    by (call.Apply action.Abandon id who) mine = ap (λ (b : Bool). if b then standing_after action.Abandon who else standing_of past n) apart
    by (call.Apply action.Consume id who) mine = ap (λ (b : Bool). if b then standing_after action.Consume who else standing_of past n) apart
    by (call.Apply action.Trash id who) mine = absurd mine

-- and posts none
posts_none : (past : List Command) (m : Made) (owner : List ℕ) → IsCallBy owner m.call → posted (made_command m ∷ past) ≡ posted past
posts_none past m owner is = by m.call is
  where
    by : (x : JobCall) → IsCallBy owner x → posted (command_of x m.job ∷ past) ≡ posted past
    by (call.Post name priority details) mine = absurd mine
    by (call.Apply action.Claim id who) mine = refl
    by (call.Apply action.Abandon id who) mine = refl
    by (call.Apply action.Consume id who) mine = refl
    by (call.Apply action.Trash id who) mine = absurd mine

-- a call is about the job of this number
abbrev about : ℕ → Made → Bool
about n m = nat_eq m.job n

-- a job that nobody has after calls of which none is about it, nobody had before
free_before : (owners : List (List ℕ)) (past : List Command) (calls : List Made) (n : ℕ) → AllByRecursion (IsConductors owners) calls → list_any (about n) calls ≡ false
    → IsFree (followed_by past calls) n → IsFree past n
free_before owners past [] n by none free = free
free_before owners past (m ∷ calls) n by none free =
    let both = either (about n m) (list_any (about n) calls) none in
    let later = free_before owners (made_command m ∷ past) calls n by.1 both.1 free in
    record { least = later.least; most = omega (arith, later.most, posts_none past m by.0.0 by.0.2); free = sym (stands_on past m by.0.0 n by.0.2 both.0) ∙ later.free }

-- one of the calls is about it, and all are about jobs that nobody had
free_about : (past : List Command) (calls : List Made) (n : ℕ) → AllByRecursion (λ m. IsFree past m.job) calls → list_any (about n) calls ≡ true → IsFree past n
free_about past [] n all is = absurd (cc)
free_about past (m ∷ calls) n all is = by (about n m) refl is (λ among. free_about past calls n all.1 among)
  where
    by : (b : Bool) → about n m ≡ b → (b || list_any (about n) calls) ≡ true → (list_any (about n) calls ≡ true → IsFree past n) → IsFree past n
    by true at among rest = subst (IsFree past) (eqb-true m.job n at) all.0
    by false at among rest = rest among

-- ---- rounds

-- a claim that is the only call isn't an end
lone_claim : (x : Made) (xs : List Made) (m : Made) (ys : List Made) → xs ++ m ∷ ys ≡ x ∷ [] → is_claim x.call ≡ true → is_claim m.call ≡ false → ⊥
lone_claim x [] m ys is claim ends =
    let same : m ≡ x = cc in
    let clash : true ≡ false = sym claim ∙ sym (ap (λ (c : Made). is_claim c.call) same) ∙ ends in cc
lone_claim x (z ∷ xs) m ys is claim ends = not_empty xs m ys (let rest : xs ++ m ∷ ys ≡ [] = cc in rest)

-- of whole rounds, each end comes behind the claim of the same job
end_behind : (number : ℕ) (owner : List ℕ) (P : ℕ → Type 0) (rounds : List Round) (begun : Begun) (xs : List Made) (m : Made) (ys : List Made)
    → xs ++ m ∷ ys ≡ calls_of number owner rounds ++ begun_calls number owner begun → is_claim m.call ≡ false → AllByRecursion (λ c. P c.job) xs → P m.job
end_behind number owner P [] nothing xs m ys is ends all = absurd (not_empty xs m ys is)
end_behind number owner P [] (claimed job id details) xs m ys is ends all = absurd (lone_claim (claim_by number owner job id) xs m ys is refl ends)
end_behind number owner P [] (run r) xs m ys is ends all = absurd (lone_claim (claim_by number owner r.job r.id) xs m ys is refl ends)
end_behind number owner P (r ∷ rounds) begun [] m ys is ends all =
    let same : m ≡ claim_by number owner r.job r.id = cc in
    (let clash : true ≡ false = sym (ap (λ (c : Made). is_claim c.call) same) ∙ ends in absurd (cc))
end_behind number owner P (r ∷ rounds) begun (x ∷ []) m ys is ends all =
    let first : x ≡ claim_by number owner r.job r.id = cc in
    let second : m ≡ end_of_round number owner r = cc in
    subst P (ap (λ (c : Made). c.job) first ∙ sym (ap (λ (c : Made). c.job) second)) all.0
end_behind number owner P (r ∷ rounds) begun (x ∷ (y ∷ xs)) m ys is ends all =
    let rest : xs ++ m ∷ ys ≡ calls_of number owner rounds ++ begun_calls number owner begun = cc in
    end_behind number owner P rounds begun xs m ys rest ends all.1.1

-- ---- all calls

-- of each conductor the calls are those of whole rounds, and of what is begun
pub record GoesInRounds (number : ℕ) (made : List Made) : Type 0 where
  pub owner : List ℕ
  pub rounds : List Round
  pub begun : Begun
  pub calls : calls_by number made ≡ calls_of number owner rounds ++ begun_calls number owner begun

module _ (owners : List (List ℕ)) (past : List Command) (made : List Made) (by : AllByRecursion (IsConductors owners) made) (legal : LegalJobs (followed_by past made))
    (each : (m : Made) → IsConductors owners m → GoesInRounds m.number made) where
  -- one call, where those before it are about jobs that nobody had
  one_free : (pre : List Made) (m : Made) (rest : List Made) → made ≡ pre ++ m ∷ rest → AllByRecursion (λ c. IsFree past c.job) pre → IsFree past m.job
  one_free pre m rest is done = by_kind (is_claim m.call) refl
    where
      mine : AllByRecursion (IsConductors owners) (pre ++ m ∷ rest)
      mine = subst (AllByRecursion (IsConductors owners)) is by

      may : refuses (followed_by past pre) (made_command m) ≡ None
      may = (legal_before (made_command m ∷ followed_by past pre) rest (subst LegalJobs (ap (followed_by past) is ∙ followed_on past pre (m ∷ rest)) legal)).0

      claims : (x : JobCall) → is_claim x ≡ true → refuses (followed_by past pre) (command_of x m.job) ≡ None → IsFree (followed_by past pre) m.job
      claims (call.Post name priority details) claim allowed = absurd (cc)
      claims (call.Apply action.Claim id who) claim allowed = claim_of_free (followed_by past pre) m.job who allowed
      claims (call.Apply action.Abandon id who) claim allowed = absurd (cc)
      claims (call.Apply action.Consume id who) claim allowed = absurd (cc)
      claims (call.Apply action.Trash id who) claim allowed = absurd (cc)

      earlier : (b : Bool) → list_any (about m.job) pre ≡ b → IsFree (followed_by past pre) m.job → IsFree past m.job
      earlier true some free = free_about past pre m.job done some
      earlier false none free = free_before owners past pre m.job (first_all (IsConductors owners) pre (m ∷ rest) mine) none free

      by_kind : (b : Bool) → is_claim m.call ≡ b → IsFree past m.job
      by_kind true claim = earlier (list_any (about m.job) pre) refl (claims m.call claim may)
      by_kind false ends =
          let goes : GoesInRounds m.number made = each m (second_all (IsConductors owners) pre (m ∷ rest) mine).0 in
          let split : calls_by m.number pre ++ m ∷ calls_by m.number rest ≡ calls_of m.number goes.owner goes.rounds ++ begun_calls m.number goes.owner goes.begun
          = sym (filter_split (λ (c : Made). nat_eq c.number m.number) pre m rest (eq-eqb m.number m.number refl)) ∙ ap (calls_by m.number) (sym is) ∙ goes.calls in
          end_behind m.number goes.owner (IsFree past) goes.rounds goes.begun (calls_by m.number pre) m (calls_by m.number rest) split ends
          (filter_all (λ (c : Made). IsFree past c.job) (λ (c : Made). nat_eq c.number m.number) pre done)

  later_free : (pre rest : List Made) → made ≡ pre ++ rest → AllByRecursion (λ c. IsFree past c.job) pre → AllByRecursion (λ c. IsFree past c.job) rest
  later_free pre [] is done = tt
  later_free pre (m ∷ rest) is done =
      let here : IsFree past m.job = one_free pre m rest is done in
      (here, later_free (pre ++ m ∷ []) rest (is ∙ sym (append_assoc pre (m ∷ []) rest)) (more_all (λ (c : Made). IsFree past c.job) pre m done here))

  -- all calls are about jobs that nobody had
  pub all_free : AllByRecursion (λ c. IsFree past c.job) made
  all_free = later_free [] made refl tt
