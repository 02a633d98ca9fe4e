-- What one call leaves of a file that is a book: what it held, with what was recorded behind it; and of a board, its commands with those that
-- were added.
use Rattle.std.proofs.Common.{◌≡◌, ◌≢◌, ◌⊎◌, ℕ, List, [], ◌∷◌, ◌++◌, Option, Some, None, sym, ap, ◌∙◌, subst, inl, inr, ⊎_elim, append-nil, append_assoc}
use Rattle.std.proofs.lemmas.List.{append_cancel_left}
use Rattle.std.specs.Prelude.{Bool, unwrap_or}
use Rattle.std.specs.Option.{option_and_then}
use Rattle.tf_desk.specs.Crash.{Mark}
use Rattle.tf_desk.specs.State.{DeskState}
use Rattle.tf_flow.specs.Plan.{PlanValue}
use Rattle.tf_states.specs.declared.record.Entry.{Entry}
use Rattle.tf_ports.specs.declared.crews.Want.{Want}
use Rattle.tf_actions.specs.declared.orders.Order.{Order}
use Rattle.tf_actions.specs.declared.outcomes.Outcome.{Outcome}
use Rattle.tf_journal.specs.Start.{file_of, first_pick, first_sync, IsFirm, IsStart}
use Rattle.tf_words.specs.declared.asked.Asked.{Asked}
use Rattle.tf_board.specs.Board.{bodies_of as commands_bodies, board_in, Holds, Finds, IsAsBeforeOrMade, command_bytes}
use Rattle.tf_board.specs.Does.{HoldsEither}
use Rattle.tf_board.specs.declared.commands.Command.{Command}
use Rattle.tf_journal.specs.Format.{bodies, unborn}
use Rattle.tf_details.specs.Elements.{Element, bodies_of, Contents}
use Rattle.tf_commands.specs.Asking.{want_of, WasAsked}
use Rattle.tf_words.specs.Words.{command_of}
use Rattle.tf_commands.specs.Behaviour as behaviour
use Rattle.tf_commands.specs.Behaviour.{Behaviour}
use Rattle.tf_commands.specs.Books.{NoFileChanges, book_in, book_at, HoldsElements, IsBookOf, Lasts}
use Rattle.tf_words.specs.declared.asked.Asked.TheVariants as asked
use Rattle.tf_lifetime.specs.Life.{file_of_command, IsAbout, Call, Leaves, returned, crashed, migrating, elsewhere, IsHired, AreRecorded}
use Rattle.tf_lifetime.proofs.NameLemmas.{name_same}
use Rattle.tf_model.specs.Plan.{outline_of}
use Rattle.tf_lifetime.proofs.GivenLemmas.{GivesAll, pending_given, given_older}
use Rattle.tf_lifetime.proofs.GrowthLemmas.{Grown, Behind, behind_held, behind_begun, held_elements, book_elements, grown_by, grown_since}
use Rattle.tf_lifetime.proofs.ToldLemmas.{same_entry}
use Rattle.tf_lifetime.proofs.WayLemmas.{Way, alone, recorded, began, unmade, jobs, served_jobs, way_others, Carried, Goes, untouched, about, carried, itself, obeys_goes}
use Rattle.tf_board.proofs.StayLemmas.{some_body}
use Rattle.tf_lifetime.proofs.TitleLemmas.{no_board_too, no_book_too, neither_bodies, neither_unborn}

-- the board has the commands, and perhaps more behind them
abbrev pub GrownBoard : List Command → List ℕ → Type 0
GrownBoard past file = (added : List Command) × Holds (added ++ past) (board_in file)

-- the same file
stays : (gives : Want → Order → Outcome → Type 0) (able : ℕ → Want → Type 0) {elements : List Element} (before now : List ℕ) → HoldsElements elements (book_in before) → now ≡ before
    → Grown gives able elements (book_in now)
stays gives able {elements} before now holds same = ([], subst (λ (f : List ℕ). HoldsElements elements (book_in f)) (sym same) holds, λ number plan is. tt)

-- a call that picks and syncs nothing has no start
no_start : {name : List ℕ} {entry now : DeskState} {moment : ℕ} → now.content.marks ≡ entry.content.marks → IsStart name entry now moment → ⊥
no_start {name} {entry} {now} {moment} same start = never start.more none start.first
  where
    none : start.more ≡ []
    none = append_cancel_left entry.content.marks start.more [] (sym start.added ∙ same ∙ sym (append-nil entry.content.marks))

    never : (more : List Mark) → more ≡ [] → ((first_pick more ≡ Some moment) × IsFirm name entry) ⊎ (first_sync more ≡ Some moment) → ⊥
    never [] is (inl picked) = let clash = picked.0 in cc
    never [] is (inr synced) = cc
    never (m ∷ more) is first = absurd (cc)

-- what is left of a file has this
pub record Effect (has : List ℕ → Type 0) (name : List ℕ) (entry now : DeskState) : Type 0 where
  pub file : has (file_of now name)
  pub crash : (moment : ℕ) → IsStart name entry now moment → (image text : List ℕ) → now.crashes moment image text → has image

-- a file that is a book is no board
pub no_jobs : {elements : List Element} (file : List ℕ) (before : List Command) → HoldsElements elements (book_in file) → Finds before (board_in file) → ⊥
no_jobs {elements} file before holds (inl held) = neither_bodies (no_board_too file (bodies_of elements) holds.is) held
no_jobs {elements} file before holds (inr empty) = neither_unborn (no_board_too file (bodies_of elements) holds.is) empty.1

not_made : (gives : Want → Order → Outcome → Type 0) (able : ℕ → Want → Type 0) {elements : List Element} (before now : List ℕ) → HoldsElements elements (book_in before) → IsAsBeforeOrMade before now
    → Grown gives able elements (book_in now)
not_made gives able before now holds (inl same) = stays gives able before now holds same
not_made gives able {elements} before now holds (inr made) = absurd (neither_unborn (no_board_too before (bodies_of elements) holds.is) made.0)

-- entries of a detail were recorded behind what the file held
record_effect : {gives : Want → Order → Outcome → Type 0} {able : ℕ → Want → Type 0} {elements below : List Element} {name : List ℕ} {entry now : DeskState} (may : List Entry → Entry → Type 0)
    (contents : Contents) (plan : PlanValue) (quiet : Bool) (before entries : List Entry) (closing : List ℕ) → HoldsElements elements (book_at entry name) → HoldsElements below (book_at entry name)
    → Behind below contents plan before → GivesAll gives able may plan before entries → Lasts may name contents plan quiet before entries entry now closing
    → Effect (λ file. Grown gives able elements (book_in file)) name entry now
record_effect {gives} {able} may contents plan quiet before entries closing holds held behind given l =
    let whole = pending_given gives able may plan before entries l.pending given l.few.few in
    record {
      file = ⊎_elim (λ finds. grown_since gives able holds held behind entries finds given.recorded) (λ on. grown_by gives able holds held behind (l.pending ++ entries) on whole) l.file;
      crash = λ moment start image text is.
          (let m = l.crash moment start image text is in
          grown_since gives able holds held behind m.kept m.finds
          (given_older gives able (outline_of plan) before m.lost m.kept (subst (AreRecorded gives able (outline_of plan) before) m.oldest whole)));
    }

way_effect : {gives : Want → Order → Outcome → Type 0} {able : ℕ → Want → Type 0} {elements : List Element} {name : List ℕ} {entry now : DeskState} → HoldsElements elements (book_at entry name)
    → Way gives able name entry now → Effect (λ file. Grown gives able elements (book_in file)) name entry now
way_effect {gives} {able} {name = name} {entry} {now} holds (alone closing a) = record {
  file = stays gives able (file_of entry name) (file_of now name) holds a.file;
  crash = λ moment start image text is. stays gives able (file_of entry name) image holds (a.crash moment start image text is).0;
}
way_effect holds (recorded may contents plan quiet before entries closing found given l) =
    record_effect may contents plan quiet before entries closing holds (held_elements found) (behind_held found) given l
way_effect holds (began may below plan quiet entries closing found given l) =
    let held = book_elements holds found in record_effect may _ plan quiet [] entries closing holds held (behind_begun below plan held) given l
way_effect {gives} {able} {name = name} {entry} {now} holds (unmade message s) = record {
  file = not_made gives able (file_of entry name) (file_of now name) holds s.file;
  crash = λ moment start image text is. not_made gives able (file_of entry name) image holds (s.crash moment start image text is).0;
}
way_effect {name = name} {entry} holds (jobs before added pending message finds may l) = absurd (no_jobs (file_of entry name) before holds finds)
way_effect {name = name} {entry} holds (served_jobs before finds file others crash) = absurd (no_jobs (file_of entry name) before holds finds)

-- the bodies of a board's commands, and of more behind them, are those of every list of commands with the same bodies
same_board : (past before : List Command) → commands_bodies past ≡ commands_bodies before → (added : List Command)
    → commands_bodies (added ++ past) ≡ commands_bodies (added ++ before)
same_board past before same [] = same
same_board past before same (c ∷ added) = ap (λ (l : List (List ℕ)). l ++ command_bytes c ∷ []) (same_board past before same added)

module _ (first : Command) (rest : List Command) where
  abbrev past : List Command
  past = first ∷ rest

  -- commands that a board holds where it held these
  held_so : (before : List Command) (file : List ℕ) → Holds past (board_in file) → Finds before (board_in file) → commands_bodies past ≡ commands_bodies before
  held_so before file holds (inl held) = (let both : bodies (commands_bodies past) ≡ bodies (commands_bodies before) = sym holds ∙ held in cc)
  held_so before file holds (inr empty) = (let clash = sym holds ∙ empty.1 in absurd (cc))

  -- they stand under those that were added
  stand : (before : List Command) → commands_bodies past ≡ commands_bodies before → (added : List Command) (file : List ℕ) → Holds (added ++ before) (board_in file) → GrownBoard past file
  stand before same added file held = (added, held ∙ ap bodies (sym (same_board past before same added)))

  either : (before : List Command) → commands_bodies past ≡ commands_bodies before → (pending added : List Command) (file : List ℕ)
      → HoldsEither pending (added ++ before) (board_in file) → GrownBoard past file
  either before same pending added file (inl held) = stand before same added file held
  either before same pending added file (inr held) =
      stand before same (pending ++ added) file (subst (λ (l : List Command). Holds l (board_in file)) (sym (append_assoc pending added before)) held)

  after_crash : (before pending added : List Command) → commands_bodies past ≡ commands_bodies before → (image : List ℕ) → Finds before (board_in image) ⊎ HoldsEither pending (added ++ before) (board_in image)
      → GrownBoard past image
  after_crash before pending added same image (inl (inl held)) = stand before same [] image held
  after_crash before pending added same image (inl (inr empty)) = absurd (some_body first rest (same ∙ ap commands_bodies empty.0))
  after_crash before pending added same image (inr held) = either before same pending added image held

  stays_board : (before now : List ℕ) → Holds past (board_in before) → now ≡ before → GrownBoard past now
  stays_board before now holds same = ([], subst (λ (f : List ℕ). Holds past (board_in f)) (sym same) holds)

  not_made_board : (before now : List ℕ) → Holds past (board_in before) → IsAsBeforeOrMade before now → GrownBoard past now
  not_made_board before now holds (inl same) = stays_board before now holds same
  not_made_board before now holds (inr made) = (let clash = sym holds ∙ made.0 in absurd (cc))

  -- a board is no book, and isn't a file that a book may be made of
  pub no_book : {elements : List Element} (file : List ℕ) → Holds past (board_in file) → IsBookOf elements (book_in file) → ⊥
  no_book file holds (inl book) = neither_bodies (no_book_too file (commands_bodies past) holds) book.is
  no_book file holds (inr young) = neither_unborn (no_book_too file (commands_bodies past) holds) young.1

  pub born : (file : List ℕ) → Holds past (board_in file) → ¬ (book_in file ≡ unborn)
  born file holds young = neither_unborn (no_book_too file (commands_bodies past) holds) young

  -- what is left of a board
  board_effect : {gives : Want → Order → Outcome → Type 0} {able : ℕ → Want → Type 0} {name : List ℕ} {entry now : DeskState} → Holds past (board_in (file_of entry name)) → Way gives able name entry now → Effect (GrownBoard past) name entry now
  board_effect {gives} {able} {name} {entry} {now} holds (alone closing a) = record {
    file = stays_board (file_of entry name) (file_of now name) holds a.file;
    crash = λ moment start image text is. stays_board (file_of entry name) image holds (a.crash moment start image text is).0;
  }
  board_effect {gives} {able} {name} {entry} {now} holds (recorded may contents plan quiet before entries closing found given l) = absurd (no_jobs (file_of entry name) past (held_elements found) (inl holds))
  board_effect {gives} {able} {name} {entry} {now} holds (began may elements plan quiet entries closing found given l) = absurd (no_book (file_of entry name) holds found)
  board_effect {gives} {able} {name} {entry} {now} holds (unmade message s) = record {
    file = not_made_board (file_of entry name) (file_of now name) holds s.file;
    crash = λ moment start image text is. not_made_board (file_of entry name) image holds (s.crash moment start image text is).0;
  }
  board_effect {gives} {able} {name} {entry} {now} holds (jobs before added pending message finds may l) =
      let same = held_so before (file_of entry name) holds finds in
      record {
        file = either before same pending added (file_of now name) l.file;
        crash = λ moment start image text is.
            after_crash before pending added same image (⊎_elim (λ old. inl old.0) (λ new. inr new.0) (l.crash moment start image text is));
      }
  board_effect {gives} {able} {name} {entry} {now} holds (served_jobs before finds file others crash) =
      let same = held_so before (file_of entry name) holds finds in
      record {
        file = stand before same file.added (file_of now name) file.holds;
        crash = λ moment start image text is.
            ⊎_elim (λ old. after_crash before [] [] same image (inl old)) (λ grown. stand before same grown.added image grown.holds) (crash moment start image text is);
      }

-- ---- what a call leaves

quiet_file : (name : List ℕ) (entry now : DeskState) → now.content.files ≡ entry.content.files → file_of now name ≡ file_of entry name
quiet_file name entry now same = ap (λ (f : List ℕ → Option (List ℕ)). unwrap_or (f name) []) same

other_file : (name : List ℕ) (entry now : DeskState) → now.content.files name ≡ entry.content.files name → file_of now name ≡ file_of entry name
other_file name entry now same = ap (λ (f : Option (List ℕ)). unwrap_or f []) same

-- words are one command
one_command : (words : List (List ℕ)) (one command : Asked) → command_of words ≡ Some one → command_of words ≡ Some command → one ≡ command
one_command words one command first second = let both : Some one ≡ Some command = sym first ∙ second in cc

-- the file that the words are about
about_one : (words : List (List ℕ)) (name : List ℕ) (command : Asked) (file : List ℕ) → command_of words ≡ Some command → file_of_command command ≡ Some file
    → IsAbout words name → name ≡ file
about_one words name command file asks is one =
    let both : Some name ≡ Some file = sym one.2 ∙ ap file_of_command (one_command words one.0 command one.1 asks) ∙ is in cc

module _ {K : Type 0} (state : K → DeskState) (gives : Want → Order → Outcome → Type 0) (has : List ℕ → Type 0) where
  -- a file that stays has what it had
  same_file : (before now : List ℕ) → has before → now ≡ before → has now
  same_file before now had same = subst has (sym same) had

  -- a call that changes no file
  quiet_keeps : (name : List ℕ) (call : Call state gives) → NoFileChanges (state call.entry) (state call.now) → has (file_of (state call.entry) name) → ¬ (book_at (state call.entry) name ≡ unborn)
      → (last : List ℕ) → Leaves state gives name call last → has last
  quiet_keeps name call same had some _ returned =
      same_file (file_of (state call.entry) name) (file_of (state call.now) name) had (quiet_file name (state call.entry) (state call.now) (same call.told).0)
  quiet_keeps name call same had some _ (crashed one moment start image text is) = absurd (no_start (same call.told).1 start)
  quiet_keeps name call same had some _ (migrating old asks young before moment first image text is) = absurd (some young)
  quiet_keeps name call same had some _ (elsewhere aside) = had

  -- a call about a file
  way_keeps : (name file : List ℕ) (call : Call state gives) (command : Asked) → command_of call.words ≡ Some command → file_of_command command ≡ Some file
      → Way gives (IsHired state gives call) file (state call.entry) (state call.now) → has (file_of (state call.entry) name) → ¬ (book_at (state call.entry) name ≡ unborn)
      → (Way gives (IsHired state gives call) name (state call.entry) (state call.now) → Effect has name (state call.entry) (state call.now))
      → (last : List ℕ) → Leaves state gives name call last → has last
  way_keeps name file call command asks is way had some effect last leaves = by (name_same name file) last leaves
    where
      on : name ≡ file → Effect has name (state call.entry) (state call.now)
      on same = effect (subst (λ (f : List ℕ). Way gives (IsHired state gives call) f (state call.entry) (state call.now)) (sym same) way)

      by : (name ≡ file) ⊎ (name ≢ file) → (left : List ℕ) → Leaves state gives name call left → has left
      by (inl same) _ returned = (on same).file
      by (inl same) _ (crashed one moment start image text left) = (on same).crash moment start image text left
      by (inl same) _ (migrating old asks_so young before moment first image text left) = absurd (some young)
      by (inl same) _ (elsewhere aside) = had
      by (inr apart) _ returned =
          same_file (file_of (state call.entry) name) (file_of (state call.now) name) had (other_file name (state call.entry) (state call.now) (way_others way name apart))
      by (inr apart) _ (crashed one moment start image text left) = absurd (apart (about_one call.words name command file asks is one))
      by (inr apart) _ (migrating old asks_so young before moment first image text left) = absurd (some young)
      by (inr apart) _ (elsewhere aside) = had

  -- a migration, which is about no file that isn't unborn
  carried_keeps : (name old new : List ℕ) (call : Call state gives) (command : Asked) → command_of call.words ≡ Some command → command ≡ asked.Migrate old new
      → Carried new (state call.entry) (state call.now) → has (file_of (state call.entry) name) → ¬ (book_at (state call.entry) name ≡ unborn)
      → (last : List ℕ) → Leaves state gives name call last → has last
  carried_keeps name old new call command asks is c had some last leaves = by last leaves
    where
      stays_so : (name ≡ new) ⊎ (name ≢ new) → file_of (state call.now) name ≡ file_of (state call.entry) name
      stays_so (inl same) =
          ap (file_of (state call.now)) same ∙ c.kept (subst (λ (f : List ℕ). ¬ (book_at (state call.entry) f ≡ unborn)) same some) ∙ ap (file_of (state call.entry)) (sym same)
      stays_so (inr apart) = c.others name apart

      by : (left : List ℕ) → Leaves state gives name call left → has left
      by _ returned = same_file (file_of (state call.entry) name) (file_of (state call.now) name) had (stays_so (name_same name new))
      by _ (crashed one moment start image text left) =
          (let none : None ≡ Some name = sym (ap file_of_command (one_command call.words one.0 command one.1 asks ∙ is)) ∙ one.2 in absurd (cc))
      by _ (migrating again asks_so young before moment first image text left) = absurd (some young)
      by _ (elsewhere aside) = had

  goes_keeps : (name : List ℕ) (call : Call state gives) (command : Asked) → command_of call.words ≡ Some command
      → Goes gives (IsHired state gives call) command (state call.entry) (state call.now) → has (file_of (state call.entry) name) → ¬ (book_at (state call.entry) name ≡ unborn)
      → (Way gives (IsHired state gives call) name (state call.entry) (state call.now) → Effect has name (state call.entry) (state call.now))
      → (last : List ℕ) → Leaves state gives name call last → has last
  goes_keeps name call command asks (untouched same) had some effect last leaves = quiet_keeps name call same had some last leaves
  goes_keeps name call command asks (about file is way) had some effect last leaves = way_keeps name file call command asks is way had some effect last leaves
  goes_keeps name call command asks (carried old new is c) had some effect last leaves = carried_keeps name old new call command asks is c had some last leaves

  -- what a call leaves of a file has what the file had, where each way of a call leaves that
  pub call_keeps : (name : List ℕ) (call : Call state gives) → has (file_of (state call.entry) name) → ¬ (book_at (state call.entry) name ≡ unborn)
      → (Way gives (IsHired state gives call) name (state call.entry) (state call.now) → Effect has name (state call.entry) (state call.now))
      → (last : List ℕ) → Leaves state gives name call last → has last
  call_keeps name call had some effect last leaves = by call.behaviour
    where
      by : Behaviour state gives (WasAsked (state call.entry) (state call.now)) call.words call.files call.ports call.later call.entry call.now call.status → has last
      by (behaviour.unheard is same still) =
          quiet_keeps name call (subst (λ (k : K). NoFileChanges (state call.entry) (state k)) (sym same) (itself (state call.entry))) had some last leaves
      by (behaviour.no_command none closes still) = quiet_keeps name call still.1 had some last leaves
      by (behaviour.obeyed command asks obeys) =
          goes_keeps name call command asks
          (subst (λ (e : DeskState). Goes gives (IsHired state gives call) command e (state call.now)) (same_entry (state call.entry) (state call.now) call.told call.tells)
          (obeys_goes state gives (WasAsked (state call.entry) (state call.now)) command call.files call.ports call.later call.entry call.now call.status
          (λ want is hires n among. record { wanted = ap (option_and_then want_of) asks ∙ is; hires = hires; among = among }) call.told call.tells obeys)) had some effect last leaves

-- what a call leaves of a file that is a book is what it held, with what was recorded behind it
pub call_grows : {K : Type 0} (state : K → DeskState) (gives : Want → Order → Outcome → Type 0) {elements : List Element} (name : List ℕ) (call : Call state gives)
    → HoldsElements elements (book_at (state call.entry) name) → (last : List ℕ) → Leaves state gives name call last → Grown gives (IsHired state gives call) elements (book_in last)
call_grows state gives {elements} name call holds last leaves =
    call_keeps state gives (λ file. Grown gives (IsHired state gives call) elements (book_in file)) name call ([], holds, λ number plan is. tt)
    (λ young. (let clash = sym holds.is ∙ young in cc)) (λ way. way_effect holds way) last leaves

-- and of a board that has a command, its commands with those that were added
pub call_adds : {K : Type 0} (state : K → DeskState) (gives : Want → Order → Outcome → Type 0) {first : Command} {rest : List Command} (name : List ℕ) (call : Call state gives)
    → Holds (first ∷ rest) (board_in (file_of (state call.entry) name)) → (last : List ℕ) → Leaves state gives name call last → GrownBoard (first ∷ rest) last
call_adds state gives {first} {rest} name call holds last leaves =
    call_keeps state gives (GrownBoard (first ∷ rest)) name call ([], holds) (born first rest (file_of (state call.entry) name) holds) (λ way. board_effect first rest holds way) last leaves
