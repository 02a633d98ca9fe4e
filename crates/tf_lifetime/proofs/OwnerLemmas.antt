-- What is left, over a life, of a board whose commands it may hold: these and those that were added, which it may hold too; and who has its jobs.
use Rattle.std.proofs.Common.{◌≡◌, ◌≢◌, ◌⊎◌, ℕ, List, [], ◌∷◌, ◌++◌, Option, Some, None, refl, sym, ap, ◌∙◌, subst, inl, inr, ⊎_elim, append_assoc, arith}
use Rattle.std.specs.Prelude.{IsTrue}
use Rattle.tf_desk.specs.State.{DeskState}
use Rattle.tf_ports.specs.declared.crews.Want.{Want}
use Rattle.tf_actions.specs.declared.orders.Order.{Order}
use Rattle.tf_actions.specs.declared.outcomes.Outcome.{Outcome}
use Rattle.tf_journal.specs.Start.{file_of}
use Rattle.tf_board.specs.declared.calls.BoardRequest.TheVariants as request
use Rattle.tf_board.specs.declared.calls.JobCall.TheVariants as call
use Rattle.tf_board.specs.Does.{acts, number_at, number_of, applied, Does, HoldsEither, Ends}
use Rattle.tf_board.specs.Board.{AreOfBoard, board_in, Holds, Finds, IsAsBeforeOrMade, jobs_of, place_of, refuses_id, refused_of}
use Rattle.tf_board.specs.Does as board
use Rattle.tf_board.specs.declared.commands.Command.{Command}
use Rattle.tf_board.specs.declared.commands.Command.TheVariants as command
use Rattle.tf_board.specs.declared.commands.JobAction.TheVariants as action
use Rattle.tf_board.specs.declared.jobs.Job.{Job}
use Rattle.tf_board.specs.declared.rules.Refusal.{Refusal}
use Rattle.tf_board.specs.declared.rules.Refusal.TheVariants as refusal
use Rattle.tf_board.proofs.JobLemmas.{named_by}
use Rattle.tf_board.proofs.OwnerLemmas.{given_up_between}
use Rattle.tf_board.proofs.StayLemmas.{one_list, older_of_board, named_on}
use Rattle.tf_lifetime.specs.Life.{Call, Leaves, Life, unlived, lived, IsBoardOf, WasClaimed, IsHandedOn}
use Rattle.tf_lifetime.proofs.ClosingLemmas.{never_closes, either_one}
use Rattle.tf_lifetime.proofs.GrowthLemmas.{held_elements}
use Rattle.tf_lifetime.proofs.StepLemmas.{Effect, call_keeps, born, no_book, no_jobs}
use Rattle.tf_lifetime.proofs.ServiceLemmas.{GrownBy}
use Rattle.tf_lifetime.proofs.WayLemmas.{Way, alone, recorded, began, unmade, jobs, served_jobs}

-- the board has the commands, and perhaps more behind them, and may hold all
abbrev pub GrownLegally : List Command → List ℕ → Type 0
GrownLegally past file = (added : List Command) × IsBoardOf (added ++ past) file

module _ (first : Command) (rest : List Command) (good : AreOfBoard (first ∷ rest)) where
  abbrev past : List Command
  past = first ∷ rest

  -- commands that are found where these are held are the same
  held_once : (before : List Command) (file : List ℕ) → Holds past (board_in file) → AreOfBoard before → Finds before (board_in file) → before ≡ past
  held_once before file holds fine finds = one_list before past (board_in file) fine good finds (inl holds)

  same_board : (before now : List ℕ) → Holds past (board_in before) → now ≡ before → GrownLegally past now
  same_board before now holds same = ([], (good, subst (λ (f : List ℕ). Holds past (board_in f)) (sym same) holds))

  never_made : (before now : List ℕ) → Holds past (board_in before) → IsAsBeforeOrMade before now → GrownLegally past now
  never_made before now holds (inl same) = same_board before now holds same
  never_made before now holds (inr made) = (let clash = sym holds ∙ made.0 in absurd (cc))

  -- what the file has behind them
  grown : (pending added : List Command) (file : List ℕ) → AreOfBoard (pending ++ (added ++ past)) → HoldsEither pending (added ++ past) (board_in file) → GrownLegally past file
  grown pending added file may (inl held) = (added, (older_of_board pending (added ++ past) may, held))
  grown pending added file may (inr held) =
      (pending ++ added, subst (λ (l : List Command). IsBoardOf l file) (sym (append_assoc pending added past)) (may, held))

  after_crash : (pending added : List Command) (image : List ℕ) → AreOfBoard (pending ++ (added ++ past)) → Finds past (board_in image) ⊎ HoldsEither pending (added ++ past) (board_in image)
      → GrownLegally past image
  after_crash pending added image may (inl (inl held)) = ([], (good, held))
  after_crash pending added image may (inl (inr empty)) = absurd (let clash : first ∷ rest ≡ [] = empty.0 in cc)
  after_crash pending added image may (inr held) = grown pending added image may held

  behind : (before : List Command) → before ≡ past → (file : List ℕ) → GrownBy before file → GrownLegally past file
  behind before same file more = (more.added, subst (λ (b : List Command). IsBoardOf (more.added ++ b) file) same (more.legal, more.holds))

  -- what each way of a call leaves
  legal_effect : {gives : Want → Order → Outcome → Type 0} {able : ℕ → Want → Type 0} {name : List ℕ} {entry now : DeskState} → Holds past (board_in (file_of entry name)) → Way gives able name entry now → Effect (GrownLegally past) name entry now
  legal_effect {gives} {able} {name} {entry} {now} holds (alone closing a) = record {
    file = same_board (file_of entry name) (file_of now name) holds a.file;
    crash = λ moment start image text is. same_board (file_of entry name) image holds (a.crash moment start image text is).0;
  }
  legal_effect {gives} {able} {name} {entry} {now} holds (recorded may contents plan quiet before entries closing found given l) = absurd (no_jobs (file_of entry name) past (held_elements found) (inl holds))
  legal_effect {gives} {able} {name} {entry} {now} holds (began may elements plan quiet entries closing found given l) = absurd (no_book first rest (file_of entry name) holds found)
  legal_effect {gives} {able} {name} {entry} {now} holds (unmade message s) = record {
    file = never_made (file_of entry name) (file_of now name) holds s.file;
    crash = λ moment start image text is. never_made (file_of entry name) image holds (s.crash moment start image text is).0;
  }
  legal_effect {gives} {able} {name} {entry} {now} holds (jobs before added pending message finds may l) =
      let fine = older_of_board added before (older_of_board pending (added ++ before) may) in
      let same = held_once before (file_of entry name) holds fine finds in
      let may_here = subst (λ (b : List Command). AreOfBoard (pending ++ (added ++ b))) same may in
      record {
        file = grown pending added (file_of now name) may_here (subst (λ (b : List Command). HoldsEither pending (added ++ b) (board_in (file_of now name))) same l.file);
        crash = λ moment start image text is.
            after_crash pending added image may_here
            (subst (λ (b : List Command). Finds b (board_in image) ⊎ HoldsEither pending (added ++ b) (board_in image)) same
            (⊎_elim (λ old. inl old.0) (λ new. inr new.0) (l.crash moment start image text is)));
      }
  legal_effect {gives} {able} {name} {entry} {now} holds (served_jobs before finds file others crash) =
      let same = held_once before (file_of entry name) holds (older_of_board file.added before file.legal) finds in
      record {
        file = behind before same (file_of now name) file;
        crash = λ moment start image text is.
            ⊎_elim (λ old. after_crash [] [] image good (inl (subst (λ (b : List Command). Finds b (board_in image)) same old))) (λ more. behind before same image more) (crash moment start image text is);
      }

module _ {K : Type 0} (state : K → DeskState) (gives : Want → Order → Outcome → Type 0) where
  -- what a call leaves of a board
  call_adds_legally : (name : List ℕ) (call : Call state gives) (added past : List Command) (first : Command) → IsBoardOf (added ++ (first ∷ past)) (file_of (state call.entry) name)
      → (last : List ℕ) → Leaves state gives name call last → GrownLegally (added ++ (first ∷ past)) last
  call_adds_legally name call [] past first is last leaves =
      call_keeps state gives (GrownLegally (first ∷ past)) name call ([], is) (born first past (file_of (state call.entry) name) is.1) (λ way. legal_effect first past is.0 is.1 way) last leaves
  call_adds_legally name call (c ∷ added) past first is last leaves =
      call_keeps state gives (GrownLegally (c ∷ (added ++ (first ∷ past)))) name call ([], is) (born c (added ++ (first ∷ past)) (file_of (state call.entry) name) is.1) (λ way. legal_effect c (added ++ (first ∷ past)) is.0 is.1 way) last leaves

  -- and a life
  pub life_adds_legally : (name first last : List ℕ) → Life state gives name first last → (one : Command) (past : List Command) → IsBoardOf (one ∷ past) first
      → (added : List Command) × IsBoardOf (added ++ (one ∷ past)) last
  life_adds_legally name first _ unlived one past is = ([], is)
  life_adds_legally name first last (lived before call same leaves) one past is =
      let so_far = life_adds_legally name first _ before one past is in
      let here = subst (λ (f : List ℕ). IsBoardOf (so_far.0 ++ (one ∷ past)) f) (sym same) so_far.1 in
      let on = call_adds_legally name call so_far.0 past one here last leaves in
      (on.0 ++ so_far.0, subst (λ (l : List Command). IsBoardOf l last) (sym (append_assoc on.0 so_far.0 (one ∷ past))) on.1)

-- ---- claims

-- what stands where an owner was told that it has claimed the job of an id
record Stood (name id owner : List ℕ) (entry now : DeskState) : Type 0 where
  past : List Command
  fine : AreOfBoard past
  had : Finds past (board_in (file_of entry name))
  free : refuses_id past action.Claim id owner ≡ None
  stands : IsBoardOf (applied past action.Claim id owner ∷ past) (file_of now name)

claimed : (name id owner : List ℕ) (entry now : DeskState) (status : ℕ) → IsTrue entry.tells → WasClaimed name id owner entry now status → Stood name id owner entry now
claimed name id owner entry now status told was = by was.does
  where
    apart : (message : List ℕ) (wanted : ℕ) → wanted ≢ 0 → Ends name [] [] [] entry now message wanted status → ⊥
    apart message wanted other ends = never_closes was.done other ends.closes

    done : (past : List Command) → AreOfBoard past → Finds past (board_in (file_of entry name)) → (refused : Option Refusal) → refuses_id past action.Claim id owner ≡ refused
        → AreOfBoard ((acts refused past action.Claim id owner).added ++ past)
        → Ends name past [] ((acts refused past action.Claim id owner).added ++ past) entry now (acts refused past action.Claim id owner).text (acts refused past action.Claim id owner).status status
        → Stood name id owner entry now
    done past fine had None free may ends = record {
      past = past;
      fine = fine;
      had = had;
      free = free;
      stands = (may, either_one (applied past action.Claim id owner ∷ past) (file_of now name) (ends.lasts told).file);
    }
    done past fine had (Some why) free may ends = absurd (never_closes was.done (λ n. omega arith) ends.closes)

    by : Does (request.Call (call.Apply action.Claim id owner)) name entry now status → Stood name id owner entry now
    by (board.unopened (board.without_memory out ends)) = absurd (never_closes was.done (λ n. omega arith) ends.closes)
    by (board.unopened (board.without_disk ends)) = absurd (never_closes was.done (λ n. omega arith) ends.closes)
    by (board.unopened (board.no_board offset byte none same ends)) = absurd (never_closes was.done (λ n. omega arith) ends.closes)
    by (board.answered past legal may has ends) = done past legal (has told) (refuses_id past action.Claim id owner) refl may ends
    by (board.unrecorded past legal has out ends) = absurd (never_closes was.done (λ n. omega arith) ends.closes)
    by (board.disk_failed past legal may has ends) = absurd (never_closes was.done (λ n. omega arith) ends.closes)
    by (board.filled past size need legal has full ends) = absurd (never_closes was.done (λ n. omega arith) ends.closes)

-- the id names a job where a claim isn't refused
has_place : (past : List Command) (id owner : List ℕ) → refuses_id past action.Claim id owner ≡ None → (place : ℕ) × (place_of (jobs_of past) id ≡ Some place)
has_place past id owner free = by (place_of (jobs_of past) id) refl
  where
    by : (found : Option ℕ) → place_of (jobs_of past) id ≡ found → (place : ℕ) × (place_of (jobs_of past) id ≡ Some place)
    by (Some place) is = (place, is)
    by None is =
        let clash : Some refusal.NoJob ≡ None = sym (ap (λ (o : Option Job). refused_of o action.Claim owner) (named_by (jobs_of past) id None is)) ∙ free in
        absurd (cc)

module _ {K : Type 0} (state : K → DeskState) (gives : Want → Order → Outcome → Type 0) where
  -- between two claims of the job of an id the first owner gave it up
  pub handed_on : (name id first second : List ℕ) (one two : Call state gives) → WasClaimed name id first (state one.entry) (state one.now) one.status
      → Life state gives name (file_of (state one.now) name) (file_of (state two.entry) name)
      → WasClaimed name id second (state two.entry) (state two.now) two.status
      → IsHandedOn id first second (file_of (state one.entry) name) (file_of (state two.now) name)
  handed_on name id first second one two was life is =
      let a = claimed name id first (state one.entry) (state one.now) one.status one.told was in
      let b = claimed name id second (state two.entry) (state two.now) two.status two.told is in
      let claim = applied a.past action.Claim id first in
      let grew = life_adds_legally state gives name (file_of (state one.now) name) (file_of (state two.entry) name) life claim a.past a.stands in
      let past_is : b.past ≡ grew.0 ++ (claim ∷ a.past) =
      one_list b.past (grew.0 ++ (claim ∷ a.past)) (board_in (file_of (state two.entry) name)) b.fine grew.1.0 b.had (inl grew.1.1) in
      let place = has_place a.past id first a.free in
      let later = named_on grew.0 (claim ∷ a.past) id place.0 (named_on (claim ∷ []) a.past id place.0 place.1) in
      let same_job : number_of b.past id ≡ number_of a.past id =
      ap (λ (l : List Command). number_of l id) past_is ∙ ap number_at later ∙ sym (ap number_at place.1) in
      let next = command.Apply action.Claim (number_of a.past id) second in
      let stands : IsBoardOf (next ∷ (grew.0 ++ (claim ∷ a.past))) (file_of (state two.now) name) =
      subst (λ (l : List Command). IsBoardOf (next ∷ l) (file_of (state two.now) name)) past_is
      (subst (λ (n : ℕ). IsBoardOf (command.Apply action.Claim n second ∷ b.past) (file_of (state two.now) name)) same_job b.stands) in
      let between = given_up_between grew.0 a.past (number_of a.past id) first second stands.0.legal in
      record {
        past = a.past;
        older = between.1;
        later = between.0;
        had = a.had;
        stands = subst (λ (l : List Command). IsBoardOf (next ∷ l) (file_of (state two.now) name))
            (ap (λ (l : List Command). l ++ (claim ∷ a.past)) between.2 ∙ append_assoc between.0 (command.Apply action.Abandon (number_of a.past id) first ∷ between.1) (claim ∷ a.past)) stands;
      }
