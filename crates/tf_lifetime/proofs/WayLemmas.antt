-- Which way a call goes: what it leaves of the file that it is about.
use Rattle.std.proofs.Common.{◌≡◌, ◌≢◌, ◌⊎◌, ◌<◌, ℕ, List, [], ◌++◌, Option, Some, refl, sym, ap, subst, ⊎_elim}
use Rattle.std.specs.Prelude.{Bool, IsTrue, unwrap_or}
use Rattle.tf_desk.specs.State.{DeskState, told_as}
use Rattle.tf_flow.specs.Plan.{PlanValue, PlanTree}
use Rattle.tf_states.specs.declared.record.Entry.{Entry}
use Rattle.tf_ports.specs.Ports.{Contents, DoorTold, wanted as number_of, CrewTold}
use Rattle.tf_ports.specs.declared.crews.Address.{Address}
use Rattle.tf_ports.specs.declared.crews.Want.{Want}
use Rattle.tf_actions.specs.declared.orders.Order.{Order}
use Rattle.tf_actions.specs.declared.outcomes.Outcome.{Outcome}
use Rattle.tf_journal.specs.Format.{unborn}
use Rattle.tf_journal.specs.Start.{IsStart, file_of}
use Rattle.tf_board.specs.declared.calls.BoardRequest.{BoardRequest}
use Rattle.tf_words.specs.declared.asked.Asked.{Asked}
use Rattle.tf_words.specs.declared.asked.Asked.TheVariants as asked
use Rattle.tf_board.specs.Does.{answer_of, Does}
use Rattle.tf_board.specs.Board.{AreOfBoard, board_in, Finds}
use Rattle.tf_board.specs.Does as board
use Rattle.tf_board_service.specs.Sessions as service
use Rattle.tf_board_service.specs.Sessions.{ServesBoard}
use Rattle.tf_runner.specs.Conducts as conduct
use Rattle.tf_runner.specs.Conducts.{Conducts, WorksOff}
use Rattle.tf_board.specs.declared.commands.Command.{Command}
use Rattle.tf_commands.specs.Asking.{want_of}
use Rattle.tf_commands.specs.Books as books
use Rattle.tf_details.specs.Elements.{Element}
use Rattle.tf_details.specs.Elements as held
use Rattle.tf_book.specs.Book.{begun_contents}
use Rattle.tf_commands.specs.Books.{Hires, Unopened, Unfound, Unhired, Runs, Demonstrates, Resumes, ShowsBook, ResetsBook, ListsDetails, NoFileChanges, book_at, IsBookOf, HoldsHistory, StaysAlone, Lasts}
use Rattle.tf_commands.specs.Behaviour as behaviour
use Rattle.tf_commands.specs.Behaviour.{PortsTold, Obeys, FileRead, IsUntouched}
use Rattle.tf_commands.specs.declared.reading.Source.{Source}
use Rattle.tf_commands.specs.declared.running.Request.{Request}
use Rattle.tf_migration.specs.Migrates as migrate
use Rattle.tf_migration.specs.Migrates.{Migrates}
use Rattle.tf_lifetime.proofs.ToldLemmas.{quiet_told}
use Rattle.tf_lifetime.specs.Life.{file_of_command}
use Rattle.tf_lifetime.proofs.NameLemmas.{name_same}
use Rattle.tf_lifetime.proofs.GivenLemmas.{GivesAll, run_gives, ended_gives, reset_gives}
use Rattle.tf_lifetime.proofs.ServiceLemmas.{GrownBy, all_grown, crash_grown, conducted_grown, conducted_crash}

-- ---- the ways of a call about a file

-- nothing was recorded; entries were recorded of a detail that the file holds, or of one that was begun behind its elements; or the same of a board
pub data Way (gives : Want → Order → Outcome → Type 0) (able : ℕ → Want → Type 0) (name : List ℕ) (entry now : DeskState) : Type 1 where
  alone : (closing : List ℕ) → StaysAlone name entry now closing → Way gives able name entry now
  recorded : (may : List Entry → Entry → Type 0) (contents : held.Contents) (plan : PlanValue) (quiet : Bool) (before entries : List Entry) (closing : List ℕ)
      → HoldsHistory contents plan before (book_at entry name) → GivesAll gives able may plan before entries
      → Lasts may name contents plan quiet before entries entry now closing → Way gives able name entry now
  began : (may : List Entry → Entry → Type 0) (elements : List Element) (plan : PlanValue) (quiet : Bool) (entries : List Entry) (closing : List ℕ)
      → IsBookOf elements (book_at entry name) → GivesAll gives able may plan [] entries
      → Lasts may name (begun_contents elements plan) plan quiet [] entries entry now closing → Way gives able name entry now
  unmade : (message : List ℕ) → board.StaysUnmade name entry now message → Way gives able name entry now
  jobs : (before added pending : List Command) (message : List ℕ) → Finds before (board_in (file_of entry name)) → AreOfBoard (pending ++ (added ++ before))
      → board.Lasts name before pending (added ++ before) entry now message → Way gives able name entry now
  served_jobs : (before : List Command) → Finds before (board_in (file_of entry name)) → GrownBy before (file_of now name)
      → ((other : List ℕ) → other ≢ name → now.content.files other ≡ entry.content.files other)
      → ((moment : ℕ) → IsStart name entry now moment → (image text : List ℕ) → now.crashes moment image text → Finds before (board_in image) ⊎ GrownBy before image)
      → Way gives able name entry now

-- other files stay
pub way_others : {gives : Want → Order → Outcome → Type 0} {able : ℕ → Want → Type 0} {name : List ℕ} {entry now : DeskState} → Way gives able name entry now → (other : List ℕ) → other ≢ name → now.content.files other ≡ entry.content.files other
way_others (alone closing a) = a.others
way_others (recorded may contents plan quiet before entries closing holds given l) = l.others
way_others (began may elements plan quiet entries closing found given l) = l.others
way_others (unmade message s) = s.others
way_others (jobs before added pending message finds may l) = l.others
way_others (served_jobs before finds file others crash) = others

-- such a hand may record where these hands were hired
abbrev pub Allows : (ℕ → Want → Type 0) → Want → CrewTold → CrewTold → Type 0
Allows able want crew crew_after = Hires want crew crew_after → (n : ℕ) → n < number_of want → able n want

-- ---- which way each command goes

does_way : {gives : Want → Order → Outcome → Type 0} {able : ℕ → Want → Type 0} (request : BoardRequest) (name : List ℕ) (entry now : DeskState) (status : ℕ) → IsTrue entry.tells → Does request name entry now status → Way gives able name entry now
does_way request name entry now status told (board.unopened (board.without_memory is ends)) = unmade [] (ends.stays told)
does_way request name entry now status told (board.unopened (board.without_disk ends)) = unmade _ (ends.stays told)
does_way request name entry now status told (board.unopened (board.no_board offset byte none same ends)) = unmade _ (ends.stays told)
does_way request name entry now status told (board.answered before legal may has ends) = jobs before (answer_of request before).added [] _ (has told) may (ends.lasts told)
does_way request name entry now status told (board.unrecorded before legal has is ends) = jobs before [] [] _ (has told) legal (ends.lasts told)
does_way request name entry now status told (board.disk_failed before legal may has ends) = jobs before [] (answer_of request before).added _ (has told) may (ends.lasts told)
does_way request name entry now status told (board.filled before size need legal has full ends) = jobs before [] [] _ (has told) legal (ends.lasts told)

serves_way : {gives : Want → Order → Outcome → Type 0} {able : ℕ → Want → Type 0} (name : List ℕ) (address : Address) (count : ℕ) (old new : DoorTold) (entry now : DeskState) (status : ℕ) → IsTrue entry.tells
    → ServesBoard name address count old new entry now status → Way gives able name entry now
serves_way name address count old new entry now status told (service.unopened same (board.without_memory is ends)) = unmade [] (ends.stays told)
serves_way name address count old new entry now status told (service.unopened same (board.without_disk ends)) = unmade _ (ends.stays told)
serves_way name address count old new entry now status told (service.unopened same (board.no_board offset byte none still ends)) = unmade _ (ends.stays told)
serves_way name address count old new entry now status told (service.exhausted before legal has is vain ends) = jobs before [] [] _ (has told) legal (ends.lasts told)
serves_way name address count old new entry now status told (service.unlistened before legal has vain ends) = jobs before [] [] _ (has told) legal (ends.lasts told)
serves_way name address count old new entry now status told (service.served before legal has s) =
    let kept = s.keeps told in
    served_jobs before (has told) (all_grown before s.made s.halted kept.pending s.served_over.legal kept.is_pending (file_of now name) kept.file) kept.others
    (λ moment start image text left. crash_grown before s.made s.halted kept.pending s.served_over.legal kept.is_pending entry _ image text (kept.crash moment start image text left))

works_off_way : {gives : Want → Order → Outcome → Type 0} {able : ℕ → Want → Type 0} {by : Order → Outcome → Type 0} (files : Contents) (name word : List ℕ) (count : ℕ) (entry now : DeskState) (status : ℕ) → IsTrue entry.tells
    → WorksOff by files name word count entry now status → Way gives able name entry now
works_off_way files name word count entry now status told w =
    let kept = w.ends.keeps told in
    served_jobs w.past (w.found told) (conducted_grown w.past w.made w.conducted.legal (file_of now name) kept.file) kept.others
    (λ moment start image text left. conducted_crash w.past w.made w.conducted.legal entry image text (kept.crash moment start image text left))

conducts_way : {gives : Want → Order → Outcome → Type 0} {able : ℕ → Want → Type 0} {by : Order → Outcome → Type 0} (files : Contents) (crew crew_after : CrewTold) (name word : List ℕ) (count : ℕ) (entry now : DeskState)
    (status : ℕ) → IsTrue entry.tells → Conducts by files crew crew_after name word count entry now status → Way gives able name entry now
conducts_way files crew crew_after name word count entry now status told (conduct.unopened same (board.without_memory is ends)) = unmade [] (ends.stays told)
conducts_way files crew crew_after name word count entry now status told (conduct.unopened same (board.without_disk ends)) = unmade _ (ends.stays told)
conducts_way files crew crew_after name word count entry now status told (conduct.unopened same (board.no_board offset byte none still ends)) = unmade _ (ends.stays told)
conducts_way files crew crew_after name word count entry now status told (conduct.unready same before legal has is ends) = jobs before [] [] _ (has told) legal (ends.lasts told)
conducts_way files crew crew_after name word count entry now status told (conduct.unread same before legal has ends) = jobs before [] [] _ (has told) legal (ends.lasts told)
conducts_way files crew crew_after name word count entry now status told (conduct.unhired same before legal has ends) = jobs before [] [] _ (has told) legal (ends.lasts told)
conducts_way files crew crew_after name word count entry now status told (conduct.conducted hired w) = works_off_way files name word count entry now status told w

unopened_way : {gives : Want → Order → Outcome → Type 0} {able : ℕ → Want → Type 0} (name : List ℕ) (entry now : DeskState) (status : ℕ) → IsTrue entry.tells → Unopened name entry now status → Way gives able name entry now
unopened_way name entry now status told (books.exhausted s) = alone [] (s.alone told)
unopened_way name entry now status told (books.disk_failed_opening r) = alone _ (r.alone told)
unopened_way name entry now status told (books.old_book old r) = alone _ (r.alone told)
unopened_way name entry now status told (books.no_book offset byte none r) = alone _ (r.alone told)

unfound_way : {gives : Want → Order → Outcome → Type 0} {able : ℕ → Want → Type 0} (name : List ℕ) (wanted : Option (List ℕ)) (entry now : DeskState) (status : ℕ) → IsTrue entry.tells
    → Unfound name wanted entry now status → Way gives able name entry now
unfound_way name wanted entry now status told (books.unopened_book u) = unopened_way name entry now status told u
unfound_way name wanted entry now status told (books.empty none r) = alone _ (r.alone told)
unfound_way name wanted entry now status told (books.not_there elements sought is held some none r) = alone _ (r.alone told)

unhired_way : {gives : Want → Order → Outcome → Type 0} {able : ℕ → Want → Type 0} (name : List ℕ) (entry now : DeskState) (crew crew_after : CrewTold) (status : ℕ) → IsTrue entry.tells
    → Unhired name entry now crew crew_after status → Way gives able name entry now
unhired_way name entry now crew crew_after status told (books.exhausted_hire same s) = alone [] (s.alone told)
unhired_way name entry now crew crew_after status told (books.unhired same r) = alone _ (r.alone told)

runs_way : {gives : Want → Order → Outcome → Type 0} {able : ℕ → Want → Type 0} {request : Request} {stopped : Type 0} (name : List ℕ) (crew crew_after : CrewTold) (entry now : DeskState)
    (tree : PlanTree) (status : ℕ) → Allows able request.want crew crew_after → IsTrue entry.tells → Runs (gives request.want) request stopped name crew crew_after entry now tree status → Way gives able name entry now
runs_way name crew crew_after entry now tree status allow told (books.unopened same u) = unopened_way name entry now status told u
runs_way name crew crew_after entry now tree status allow told (books.forbidden elements other number same still found is r) = alone _ (r.alone told)
runs_way name crew crew_after entry now tree status allow told (books.too_many elements other same still found none many r) = alone _ (r.alone told)
runs_way name crew crew_after entry now tree status allow told (books.unhired_run elements other same found place u) = unhired_way name entry now crew crew_after status told u
runs_way name crew crew_after entry now tree status allow told (books.hired_run elements other same found place hires (books.overfull size need fresh full r)) = alone _ (r.alone told)
runs_way name crew crew_after entry now tree status allow told (books.hired_run elements other same found place hires (books.ran p)) =
    began _ elements other _ p.entries p.closing (found told) (run_gives (allow hires) p.ran) (p.lasts told)

resumes_way : {gives : Want → Order → Outcome → Type 0} {able : ℕ → Want → Type 0} {request : Request} {stopped : Type 0} (name : List ℕ) (wanted : Option (List ℕ)) (crew crew_after : CrewTold)
    (entry now : DeskState) (status : ℕ) → Allows able request.want crew crew_after → IsTrue entry.tells → Resumes (gives request.want) request stopped name wanted crew crew_after entry now status
    → Way gives able name entry now
resumes_way name wanted crew crew_after entry now status allow told (books.unfound_again same u) = unfound_way name wanted entry now status told u
resumes_way name wanted crew crew_after entry now status allow told (books.unhired_again contents other before held going u) = unhired_way name entry now crew crew_after status told u
resumes_way name wanted crew crew_after entry now status allow told (books.resumed contents other before can held back how p) =
    recorded _ contents other _ before p.entries p.closing (held told).holds
    (⊎_elim (λ over. ended_gives over.0 p.ran) (λ going. run_gives (allow going.1) p.ran) how) (p.lasts told)

shows_way : {gives : Want → Order → Outcome → Type 0} {able : ℕ → Want → Type 0} (name : List ℕ) (wanted : Option (List ℕ)) (entry now : DeskState) (status : ℕ) → IsTrue entry.tells
    → ShowsBook name wanted entry now status → Way gives able name entry now
shows_way name wanted entry now status told (books.unfound_show u) = unfound_way name wanted entry now status told u
shows_way name wanted entry now status told (books.shown_whole contents other before held r) = alone _ (r.alone told)

resets_way : {gives : Want → Order → Outcome → Type 0} {able : ℕ → Want → Type 0} (name : List ℕ) (wanted : Option (List ℕ)) (entry now : DeskState) (status : ℕ) → IsTrue entry.tells
    → ResetsBook name wanted entry now status → Way gives able name entry now
resets_way name wanted entry now status told (books.unfound_reset u) = unfound_way name wanted entry now status told u
resets_way name wanted entry now status told (books.reset_forbidden contents other before held never r) = alone _ (r.alone told)
resets_way name wanted entry now status told (books.was_reset contents other before held may p) =
    recorded _ contents other _ before p.entries p.closing (held told).holds (reset_gives p.put_back) (p.lasts told)

lists_way : {gives : Want → Order → Outcome → Type 0} {able : ℕ → Want → Type 0} (name : List ℕ) (entry now : DeskState) (status : ℕ) → IsTrue entry.tells
    → ListsDetails name entry now status → Way gives able name entry now
lists_way name entry now status told (books.unopened_list u) = unopened_way name entry now status told u
lists_way name entry now status told (books.were_listed elements found r) = alone _ (r.alone told)

-- a migration left all files but the new book's, and that where it wasn't unborn
pub record Carried (new : List ℕ) (entry now : DeskState) : Type 0 where
  pub others : (name : List ℕ) → name ≢ new → file_of now name ≡ file_of entry name
  pub kept : ¬ (book_at entry new ≡ unborn) → file_of now new ≡ file_of entry new

same_file_of : (name : List ℕ) (entry now : DeskState) → now.content.files name ≡ entry.content.files name → file_of now name ≡ file_of entry name
same_file_of name entry now same = ap (λ (f : Option (List ℕ)). unwrap_or f []) same

-- a file that is neither of the two, or the old one
beside : (old new : List ℕ) (entry now : DeskState) → migrate.OthersStay old new entry now → (name : List ℕ) → name ≢ new → file_of now name ≡ file_of entry name
beside old new entry now stay name apart =
    ⊎_elim (λ same. subst (λ (f : List ℕ). file_of now f ≡ file_of entry f) (sym same) stay.old_file) (λ other. same_file_of name entry now (stay.others name other apart)) (name_same name old)

-- where the old book alone was picked all stay
all_alone : (old : List ℕ) (entry now : DeskState) (message : List ℕ) → migrate.StaysAlone old entry now message → (name : List ℕ) → file_of now name ≡ file_of entry name
all_alone old entry now message a name =
    ⊎_elim (λ same. subst (λ (f : List ℕ). file_of now f ≡ file_of entry f) (sym same) a.file) (λ other. same_file_of name entry now (a.others name other)) (name_same name old)

migrates_so : (old new : List ℕ) (entry now : DeskState) (status : ℕ) → IsTrue entry.tells → Migrates old new entry now status → Carried new entry now
migrates_so old new entry now status told (migrate.unread message wanted why ends stays) =
    record { others = λ name apart. all_alone old entry now message (stays told) name; kept = λ some. all_alone old entry now message (stays told) new }
migrates_so old new entry now status told (migrate.unbegun plan past message wanted held why ends stays) =
    record { others = beside old new entry now (stays told).stay; kept = λ some. (stays told).file }
migrates_so old new entry now status told (migrate.begun plan past left message wanted held young why out ends lasts) =
    record { others = beside old new entry now (lasts told).stay; kept = λ some. absurd (some (young told)) }

-- a command that is about a file goes a way of that file, or touched none; a migration goes a way of its own
pub data Goes (gives : Want → Order → Outcome → Type 0) (able : ℕ → Want → Type 0) (command : Asked) (entry now : DeskState) : Type 1 where
  untouched : NoFileChanges entry now → Goes gives able command entry now
  about : (name : List ℕ) → file_of_command command ≡ Some name → Way gives able name entry now → Goes gives able command entry now
  carried : (old new : List ℕ) → command ≡ asked.Migrate old new → Carried new entry now → Goes gives able command entry now

-- a run of what a flow file gives
file_goes : {gives : Want → Order → Outcome → Type 0} {able : ℕ → Want → Type 0} {command : Asked} {files : Contents} {source : Source} {crew crew_after : CrewTold} {does : PlanTree → ℕ → Type 0} {before after : Option (List ℕ)} (name : List ℕ) (entry now : DeskState)
    (status : ℕ) → file_of_command command ≡ Some name → ((tree : PlanTree) → does tree status → Way gives able name entry now)
    → FileRead files source (IsUntouched crew crew_after entry now) does before after status → Goes gives able command entry now
file_goes name entry now status is way (behaviour.unfinished still ends same) = untouched still.1
file_goes name entry now status is way (behaviour.unread still closes) = untouched still.1
file_goes name entry now status is way (behaviour.too_long still passes closes) = untouched still.1
file_goes name entry now status is way (behaviour.read bytes given short (behaviour.exhausted still ends same)) = untouched still.1
file_goes name entry now status is way (behaviour.read bytes given short (behaviour.refused still why none closes)) = untouched still.1
file_goes name entry now status is way (behaviour.read bytes given short (behaviour.done tree gives did)) = about name is (way tree did)

-- nothing happened
pub itself : (entry : DeskState) → NoFileChanges entry entry
itself entry told = (refl, refl)

module _ {K : Type 0} (state : K → DeskState) (gives : Want → Order → Outcome → Type 0) where
  demo_goes : {able : ℕ → Want → Type 0} {hands : Want} {stopped : Type 0} (name : List ℕ) (crew crew_after : CrewTold) (entry now : K) (seed size status : ℕ) → Allows able hands crew crew_after → IsTrue (state now).tells
      → Demonstrates state (gives hands) hands stopped name crew crew_after entry now seed size status → (command : Asked) → file_of_command command ≡ Some name
      → Goes gives able command (told_as (state now) (state entry)) (state now)
  demo_goes name crew crew_after entry now seed size status allow told (books.ungenerated is same still) command its =
      untouched (subst (λ (k : K). NoFileChanges (told_as (state k) (state entry)) (state k)) (sym still) (itself (state entry)))
  demo_goes name crew crew_after entry now seed size status allow told (books.demonstrated r) command its =
      about name its (runs_way name crew crew_after (told_as (state now) (state entry)) (state now) _ status allow told r)

  pub obeys_goes : {able : ℕ → Want → Type 0} (stopped : Type 0) (command : Asked) (files : Contents) (ports later : PortsTold) (entry now : K) (status : ℕ)
      → ((want : Want) → want_of command ≡ Some want → Allows able want ports.crew later.crew) → IsTrue (state entry).tells → IsTrue (state now).tells
      → Obeys state gives stopped command files ports later entry now status → Goes gives able command (told_as (state now) (state entry)) (state now)
  obeys_goes stopped (asked.Try file sets defer hands target) files ports later entry now status allow before told obeys = untouched (quiet_told (state entry) (state now) before obeys.1.0)
  obeys_goes stopped (asked.Check file sets target) files ports later entry now status allow before told obeys = untouched (quiet_told (state entry) (state now) before obeys.1.1)
  obeys_goes stopped (asked.Audit file log sets defer) files ports later entry now status allow before told obeys = untouched (quiet_told (state entry) (state now) before obeys.1.1)
  obeys_goes stopped (asked.Run file book sets defer hands stop target) files ports later entry now status allow before told obeys =
      file_goes book (told_as (state now) (state entry)) (state now) status refl (λ tree did. runs_way book ports.crew later.crew (told_as (state now) (state entry)) (state now) tree status (allow hands refl) told did) obeys
  obeys_goes stopped (asked.Resume book wanted hands stop) files ports later entry now status allow before told obeys = about book refl (resumes_way book wanted ports.crew later.crew (told_as (state now) (state entry)) (state now) status (allow hands refl) told obeys)
  obeys_goes stopped (asked.Show book wanted) files ports later entry now status allow before told obeys = about book refl (shows_way book wanted (told_as (state now) (state entry)) (state now) status told obeys.0)
  obeys_goes stopped (asked.Reset book wanted) files ports later entry now status allow before told obeys = about book refl (resets_way book wanted (told_as (state now) (state entry)) (state now) status told obeys.0)
  obeys_goes stopped (asked.Details book) files ports later entry now status allow before told obeys = about book refl (lists_way book (told_as (state now) (state entry)) (state now) status told obeys.0)
  obeys_goes stopped (asked.Demo seed size book hands) files ports later entry now status allow before told obeys = demo_goes book ports.crew later.crew entry now seed size status (allow _ refl) told obeys _ refl
  obeys_goes stopped (asked.Migrate old new) files ports later entry now status allow before told obeys =
      carried old new refl (migrates_so old new (told_as (state now) (state entry)) (state now) status told obeys.0)
  obeys_goes stopped (asked.Worker address sessions) files ports later entry now status allow before told obeys = untouched (quiet_told (state entry) (state now) before obeys.1)
  obeys_goes stopped (asked.Board file request) files ports later entry now status allow before told obeys = about file refl (does_way request file (told_as (state now) (state entry)) (state now) status told obeys.0)
  obeys_goes stopped (asked.Conduct file owner hands) files ports later entry now status allow before told obeys =
      about file refl (conducts_way files ports.crew later.crew file owner hands (told_as (state now) (state entry)) (state now) status told obeys.0)
  obeys_goes stopped (asked.Serve file address sessions) files ports later entry now status allow before told obeys =
      about file refl (serves_way file address sessions ports.door later.door (told_as (state now) (state entry)) (state now) status told obeys.0)
