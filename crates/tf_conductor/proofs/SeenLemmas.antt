-- What a pass has seen of the calls, and what a turn adds.
use Rattle.std.proofs.Common.{◌≡◌, ◌≢◌, ℕ, Bool, true, false, List, [], ◌∷◌, ◌++◌, map, Option, Some, None, refl, sym, ap, subst, ◌∙◌, append-nil, append_assoc}
use Rattle.std.specs.Prelude.{slice_get, if◌then◌else◌}
use Rattle.std.specs.List.{AllByRecursion}
use Rattle.std.proofs.lemmas.List.{append_cancel_left, map-append}
use Rattle.std.proofs.lemmas.List.Elements.{recursion_from_All}
use Rattle.tf_desk.specs.State.{DeskState}
use Rattle.tf_values.specs.declared.value.Val.{Val}
use Rattle.tf_board.specs.Board.{AreOfBoard, details_in, is_there, LegalJobs, numbered as item_of, jobs_of}
use Rattle.tf_board.specs.Does.{number_of, job_of}
use Rattle.tf_board.specs.Seeking.{free_job, details_for}
use Rattle.tf_board.specs.declared.commands.Command.{Command}
use Rattle.tf_board.specs.declared.jobs.Job.{Job}
use Rattle.tf_shared_board.specs.Shared.{carried, numbered, followed_by, made_command, SharedValue, IsMade}
use Rattle.tf_board.specs.declared.calls.JobCall.{JobCall}
use Rattle.tf_board.specs.declared.calls.JobCall.TheVariants as call
use Rattle.tf_board.specs.declared.commands.JobAction.TheVariants as action
use Rattle.tf_shared_board.specs.declared.calls.Made.{Made}
use Rattle.tf_turnstile.specs.Numbered.{IsLater, NoneBy}
use Rattle.tf_turnstile.specs.Passes.{TurnstileValue, PassValue}
use Rattle.tf_turnstile.proofs.NumberedLemmas.{later_same}
use Rattle.tf_conductor.specs.Conducting.{ConductingValue, conducting_origin, Claims, EndsAndClaims, EndsJob, IsConducting, MakesNoCall, made_since}
use Rattle.tf_conductor.specs.Rounds.{AreDifferent, IsConductors, IsCallBy, claim_by, details_of, end_call, end_of_round}
use Rattle.tf_conductor.specs.Working.{HasClaim, HasTurned, KnowsAfter, KnowsNext, round_so, seen_calls, start_past}
use Rattle.tf_conductor.specs.declared.runners.Ran.{Ran}
use Rattle.tf_conductor.specs.declared.runners.Ran.TheVariants as ran
use Rattle.tf_conductor.specs.declared.turns.Claim.{Claim}
use Rattle.tf_conductor.specs.declared.turns.Next.{Next}
use Rattle.tf_conductor.specs.declared.turns.Next.TheVariants as next
use Rattle.tf_conductor.proofs.HeldLemmas.{claim_names}
use Rattle.tf_conductor.proofs.TurnLemmas.{since_is}

-- ---- calls with their numbers, and without

pub unnumbered : (calls : List Made) → map (λ e. e.1) (numbered calls) ≡ calls
unnumbered [] = refl
unnumbered (m ∷ calls) = ap (λ (l : List Made). m ∷ l) (unnumbered calls)

-- of calls of which some were seen, the rest
seen_rest : (seen since : List (ℕ × Made)) (calls : List Made) → numbered calls ≡ seen ++ since → (rest : List Made) × (calls ≡ map (λ e. e.1) seen ++ rest) × (since ≡ numbered rest)
seen_rest [] since calls is = (calls, refl, sym is)
seen_rest (e ∷ seen) since [] is = absurd (cc)
seen_rest (e ∷ seen) since (m ∷ calls) is =
    let one : carried m ≡ e = cc in
    let more : numbered calls ≡ seen ++ since = cc in
    let r = seen_rest seen since calls more in
    (r.0, ap (λ (l : List Made). m ∷ l) r.1 ∙ ap (λ (x : Made). x ∷ (map (λ p. p.1) seen ++ r.0)) (ap (λ (p : ℕ × Made). p.1) one), r.2)

-- none of them carries that number
none_apart : (number : ℕ) (calls : List Made) → AllByRecursion (λ e. e.0 ≢ number) (numbered calls) → AllByRecursion (λ m. m.number ≢ number) calls
none_apart number [] all = tt
none_apart number (m ∷ calls) all = (all.0, none_apart number calls all.1)

-- what was seen, and then others' calls
pub later_turned : (number : ℕ) (seen now : List (ℕ × Made)) (calls : List Made) → IsLater number seen now → numbered calls ≡ now
    → (rest : List Made) × (calls ≡ map (λ e. e.1) seen ++ rest) × AllByRecursion (λ m. m.number ≢ number) rest
later_turned number seen now calls later is =
    let r = seen_rest seen later.since calls (is ∙ later.begins) in
    let none : NoneBy number (numbered r.0) = subst (λ (l : List (ℕ × Made)). NoneBy number l) r.2 later.others in
    (r.0, r.1, none_apart number r.0 (recursion_from_All (λ (e : ℕ × Made). e.0 ≢ number) (numbered r.0) none))

-- ---- details

-- a conductor's call posts no job
details_called : (owners : List (List ℕ)) (past : List Command) (m : Made) → IsConductors owners m → details_in (made_command m ∷ past) ≡ details_in past
details_called owners past m mine = by m.call mine.2
  where
    by : (x : JobCall) → IsCallBy mine.0 x → details_in (made_command (record { number = m.number; job = m.job; call = x }) ∷ past) ≡ details_in past
    by (call.Post name priority details) is = absurd is
    by (call.Apply action.Claim id owner) is = append-nil (details_in past)
    by (call.Apply action.Abandon id owner) is = append-nil (details_in past)
    by (call.Apply action.Consume id owner) is = append-nil (details_in past)
    by (call.Apply action.Trash id owner) is = absurd is

pub details_stay : (owners : List (List ℕ)) (past : List Command) (calls : List Made) → AllByRecursion (IsConductors owners) calls → details_in (followed_by past calls) ≡ details_in past
details_stay owners past [] all = refl
details_stay owners past (m ∷ calls) all = details_stay owners (made_command m ∷ past) calls all.1 ∙ details_called owners past m all.0

-- details of a job that is there are those that it was posted with
details_told : (o : Option Job) (posted : Option Val) (details : Val) → details_for o posted ≡ Some details → posted ≡ Some details
details_told None posted details none = absurd (cc)
details_told (Some job) posted details is = by (is_there job.standing) is
  where
    by : (b : Bool) → (if b then posted else None) ≡ Some details → posted ≡ Some details
    by true same = same
    by false none = absurd (cc)

-- ---- a turn

-- all calls since the start have been seen
pub all_seen : {K : Type 0} (state : K → DeskState) (start s : ConductingValue K) (seen : List (ℕ × Made)) → start.now ≡ start.begun → s.begun ≡ start.begun → numbered s.now.made ≡ numbered start.now.made ++ seen → IsConducting state s
    → numbered (made_since s.begun s.now) ≡ seen
all_seen {K} state start s seen fresh begun is kept =
    let first : s.begun.made ≡ start.now.made = ap (λ (x : SharedValue K). x.made) (begun ∙ sym fresh) in
    append_cancel_left (numbered start.now.made) (numbered (made_since s.begun s.now)) seen
    (ap (λ (l : List Made). numbered l ++ numbered (made_since s.begun s.now)) (sym first) ∙ sym (map-append carried s.begun.made (made_since s.begun s.now)) ∙ ap numbered (sym kept.made) ∙ is)

module _ {K : Type 0} (state : K → DeskState) (turnstile : TurnstileValue (ConductingValue K)) (number : ℕ) (old : PassValue (ConductingValue K) Made) (mid : List (ℕ × Made)) (new : PassValue (ConductingValue K) Made) (c k : ConductingValue K)
    (fresh : turnstile.start.now ≡ turnstile.start.begun) (later : IsLater number old.seen mid) (from : conducting_origin c ≡ conducting_origin turnstile.start) (same : conducting_origin k ≡ conducting_origin c)
    (had : numbered c.now.made ≡ numbered turnstile.start.now.made ++ mid) (has : numbered k.now.made ≡ numbered turnstile.start.now.made ++ new.seen) (kept_c : IsConducting state c) (kept_k : IsConducting state k) where
  abbrev before : List Made
  before = made_since c.begun c.now

  abbrev after : List Made
  after = made_since k.begun k.now

  begun_c : c.begun ≡ turnstile.start.begun
  begun_c = ap (λ (o : SharedValue K × List (List ℕ)). o.0) from

  begun_k : k.begun ≡ c.begun
  begun_k = ap (λ (o : SharedValue K × List (List ℕ)). o.0) same

  -- the calls that the pass has seen then
  new_calls : seen_calls new ≡ after
  new_calls = ap (λ (l : List (ℕ × Made)). map (λ e. e.1) l) (sym (all_seen state turnstile.start k new.seen fresh (begun_k ∙ begun_c) has kept_k)) ∙ unnumbered after

  -- these calls were added in this turn
  turned : (mine : List Made) → k.now.made ≡ c.now.made ++ mine → HasTurned number (seen_calls old) (seen_calls new) mine
  turned mine is =
      let r = later_turned number old.seen mid before later (all_seen state turnstile.start c mid fresh begun_c had kept_c) in
      let made : k.now.made ≡ k.begun.made ++ (before ++ mine) =
      is ∙ ap (λ (l : List Made). l ++ mine) kept_c.made ∙ append_assoc c.begun.made before mine ∙ ap (λ (s : SharedValue K). s.made ++ (before ++ mine)) (sym begun_k) in
      let added : after ≡ before ++ mine = since_is k.begun k.now (before ++ mine) made in
      record {
        others = r.0;
        is = new_calls ∙ added ∙ ap (λ (l : List Made). l ++ mine) r.1 ∙ append_assoc (seen_calls old) r.0 mine;
        apart = r.2;
      }

  -- none was
  pub turned_none : {kind : Made → Type 0} → MakesNoCall state kind c.now k.now → HasTurned number (seen_calls old) (seen_calls new) []
  turned_none none = turned [] (none.made ∙ sym (append-nil c.now.made))

  -- one was
  turned_one : (m : Made) → IsMade state m c.now k.now → HasTurned number (seen_calls old) (seen_calls new) (m ∷ [])
  turned_one m made = turned (m ∷ []) (ap (λ (s : SharedValue K). s.made) made.now)

  -- the commands then are those of the start and of the calls
  past_c : c.now.board.past ≡ followed_by (start_past turnstile) before
  past_c = kept_c.list ∙ ap (λ (s : SharedValue K). followed_by s.board.past before) begun_c

  owners_c : c.owners ≡ turnstile.start.owners
  owners_c = ap (λ (o : SharedValue K × List (List ℕ)). o.1) from

  -- a turn to claim a job
  pub turned_next : (owner skip : List ℕ) (n : Next) → AreOfBoard k.now.board.past → Claims state number owner skip c.now k.now n
      → KnowsNext (start_past turnstile) turnstile.start.owners number owner skip (seen_calls old) (seen_calls new) n
  turned_next owner skip next.Stop legal claims =
      let none : HasTurned number (seen_calls old) (seen_calls new) [] = turned [] (ap (λ (s : SharedValue K). s.made) claims.0 ∙ sym (append-nil c.now.made)) in
      let calls : seen_calls new ≡ before = new_calls ∙ ap (λ (s : SharedValue K). made_since s k.now) begun_k ∙ ap (λ (s : SharedValue K). made_since c.begun s) claims.0 in
      let past : k.now.board.past ≡ followed_by (start_past turnstile) (seen_calls new)
      = ap (λ (s : SharedValue K). s.board.past) claims.0 ∙ past_c ∙ ap (λ (l : List Made). followed_by (start_past turnstile) l) (sym calls) in (
        none,
        record {
          legal = subst LegalJobs past legal.legal;
          by = subst (λ (l : List Made). AllByRecursion (IsConductors turnstile.start.owners) l) (sym calls) (subst (λ (o : List (List ℕ)). AllByRecursion (IsConductors o) before) owners_c kept_c.by);
          none = subst (λ (l : List Command). free_job l skip ≡ None) (sym (ap (λ (s : SharedValue K). s.board.past) claims.0) ∙ past) claims.2;
        },
      )
  turned_next owner skip next.Halt legal claims = turned_none claims.0
  turned_next owner skip (next.Run claim) legal claims =
      let m : Made = claim_by number owner claim.job claim.id in
      let made : IsMade state m c.now k.now = claims.0 in
      let calls : seen_calls new ≡ before ++ m ∷ [] = new_calls ∙ since_is k.begun k.now (before ++ m ∷ [])
      (ap (λ (s : SharedValue K). s.made) made.now ∙ ap (λ (l : List Made). l ++ m ∷ []) kept_c.made ∙ append_assoc c.begun.made before (m ∷ []) ∙ ap (λ (s : SharedValue K). s.made ++ (before ++ m ∷ [])) (sym begun_k)) in (
        turned_one m made,
        record { before = before; is = calls; about = made.job_is ∙ ap (λ (l : List Command). number_of l claim.id) past_c },
        ap (λ (l : List Val). item_of l claim.job) (sym (details_stay c.owners (start_past turnstile) before kept_c.by))
            ∙ ap (λ (l : List Command). details_of l claim.job) (sym past_c) ∙ details_told (item_of (jobs_of c.now.board.past) claim.job) (details_of c.now.board.past claim.job) claim.details claims.4,
      )

  -- a turn to end a job, whose end was made
  pub turned_end : (owner : List ℕ) (claim : Claim) (r : Ran) → EndsJob state number owner claim.id r c k true → number_of c.now.board.past claim.id ≡ claim.job
      → HasTurned number (seen_calls old) (seen_calls new) (end_of_round number owner (round_so claim r) ∷ [])
  turned_end owner claim r ends names =
      let e = ends.ended refl in
      let job : e.0 ≡ claim.job = e.1.job_is ∙ ended_names r ∙ names in
      turned_one (end_of_round number owner (round_so claim r)) (subst (λ (n : ℕ). IsMade state (record { number = number; job = n; call = end_call r claim.id owner }) c.now k.now) job e.1)
    where
      ended_names : (r : Ran) → job_of c.now.board.past (end_call r claim.id owner) ≡ number_of c.now.board.past claim.id
      ended_names ran.Done = refl
      ended_names ran.Left = refl

  -- the job that the conductor has claimed is still named by its id
  pub held_names : (owner : List ℕ) (job : ℕ) (id : List ℕ) → slice_get turnstile.start.owners number ≡ Some owner → AreDifferent turnstile.start.owners → HasClaim (start_past turnstile) number owner (seen_calls old) job id
      → AreOfBoard c.now.board.past → number_of c.now.board.past id ≡ job
  held_names owner job id place different held legal =
      let r = later_turned number old.seen mid before later (all_seen state turnstile.start c mid fresh begun_c had kept_c) in
      let by : AllByRecursion (IsConductors turnstile.start.owners) (seen_calls old ++ r.0) =
      subst (λ (l : List Made). AllByRecursion (IsConductors turnstile.start.owners) l) r.1 (subst (λ (o : List (List ℕ)). AllByRecursion (IsConductors o) before) owners_c kept_c.by) in
      claim_names turnstile.start.owners number owner place different (start_past turnstile) c.now.board.past (seen_calls old) r.0 job id held
      (past_c ∙ ap (λ (l : List Made). followed_by (start_past turnstile) l) r.1) legal.legal by r.2

-- a turn to end a job and to claim the next one: as if the pass had given the board home between
module _ {K : Type 0} (state : K → DeskState) (turnstile : TurnstileValue (ConductingValue K)) (number : ℕ) (old : PassValue (ConductingValue K) Made) (mid : List (ℕ × Made)) (new : PassValue (ConductingValue K) Made) (c k : ConductingValue K)
    (fresh : turnstile.start.now ≡ turnstile.start.begun) (later : IsLater number old.seen mid) (from : conducting_origin c ≡ conducting_origin turnstile.start)
    (had : numbered c.now.made ≡ numbered turnstile.start.now.made ++ mid) (has : numbered k.now.made ≡ numbered turnstile.start.now.made ++ new.seen) (kept_c : IsConducting state c) (kept_k : IsConducting state k) where
  pub turned_after : (owner skip : List ℕ) (claim : Claim) (r : Ran) (n : Option Next) → AreOfBoard k.now.board.past → number_of c.now.board.past claim.id ≡ claim.job → EndsAndClaims state number owner claim.id r skip c k n
      → KnowsAfter (start_past turnstile) turnstile.start.owners number owner claim r skip (seen_calls old) (seen_calls new) n
  turned_after owner skip claim r None legal names ends = turned_none state turnstile number old mid new c k fresh later from ends.same had has kept_c kept_k (ends.none refl)
  turned_after owner skip claim r (Some n) legal names ends =
      let b : ConductingValue K = ends.0 in
      let e = ends.2.ended refl in
      let m : Made = record { number = number; job = e.0; call = end_call r claim.id owner } in
      let between : PassValue (ConductingValue K) Made = record old { seen = mid ++ carried m ∷ [] } in
      let made : numbered b.now.made ≡ numbered turnstile.start.now.made ++ (mid ++ carried m ∷ [])
      = ap (λ (s : SharedValue K). numbered s.made) e.1.now ∙ map-append carried c.now.made (m ∷ []) ∙ ap (λ (l : List (ℕ × Made)). l ++ carried m ∷ []) had ∙ append_assoc (numbered turnstile.start.now.made) mid (carried m ∷ []) in (
        seen_calls between,
        turned_end state turnstile number old mid between c b fresh later from ends.2.same had made kept_c ends.1 owner claim r ends.2 names,
        turned_next state turnstile number between between.seen new b k fresh (later_same number between.seen) (ends.2.same ∙ from) ends.3.same made has ends.1 kept_k owner skip n legal ends.3.claims,
      )
