-- What a command says: of a refusal, of an audit, and of the sessions of a worker.
use Rattle.std.specs.Prelude.{ℕ, ◌-◌, List, [], ◌∷◌, ◌++◌, codes, length, map, ◌≡◌, ◌≤◌, ◌⊎◌, Option, Some, None, ◌+◌, ◌<◌}
use Rattle.std.specs.Fmt.{decimal}
use Rattle.std.specs.List.{flat_map, AllByRecursion}
use Rattle.tf_flow.specs.declared.faults.Limit.{Limit}
use Rattle.tf_flow.specs.declared.faults.Limit.TheVariants as limit
use Rattle.tf_flow.specs.declared.faults.PlanFault.{PlanFault}
use Rattle.tf_flow.specs.declared.faults.PlanFault.TheVariants as plan_fault
use Rattle.tf_files.specs.declared.document.faults.FileFault.{FileFault}
use Rattle.tf_files.specs.declared.document.faults.FileFault.TheVariants as file_fault
use Rattle.tf_order.specs.declared.faults.CompileFault.{CompileFault}
use Rattle.tf_order.specs.declared.faults.CompileFault.TheVariants as compile_fault
use Rattle.tf_numbers.specs.Numbers.{which_below, Rises}
use Rattle.tf_model.specs.Plan.{Outline, count, is_task}
use Rattle.tf_report.specs.Lines.{flow_name, flow_word, detail_line}
use Rattle.tf_book.specs.declared.shelf.Detail.{Detail}
use Rattle.tf_states.specs.declared.state.FlowState.{FlowState}
use Rattle.tf_scopes.specs.declared.faults.ScopeFault.{ScopeFault}
use Rattle.tf_scopes.specs.declared.faults.ScopeFault.TheVariants as scope_fault
use Rattle.tf_target.specs.declared.faults.TargetFault.{TargetFault}
use Rattle.tf_target.specs.declared.faults.TargetFault.TheVariants as target_fault
use Rattle.tf_accept.specs.declared.accepting.Refusal.{Refusal}
use Rattle.tf_accept.specs.declared.accepting.Refusal.TheVariants as refused
use Rattle.tf_ports.specs.Ports.{GivenBack, IsFresh, Contents, GivesBytes, PassesLimit, SeenLink, DoorTold, told_with_all, opened_at, gave_link, took_back, CrewTold}
use Rattle.tf_ports.specs.declared.reading.TheConstants.{SOURCE_LIMIT}
use Rattle.tf_flow.specs.Plan.{PlanTree}
use Rattle.tf_target.specs.Target.{outline_in}
use Rattle.tf_audit.specs.Verdicts.{verdict_text, IsVerdict, IsBadLog}
use Rattle.tf_audit.specs.declared.verdicts.Verdict.{Verdict}
use Rattle.tf_audit.specs.declared.verdicts.Verdict.TheVariants as verdict
use Rattle.tf_audit.specs.declared.verdicts.Why.{Why}
use Rattle.tf_report.specs.Closing.{ClosesWith, cannot_read, cannot_hire, cannot_listen}
use Rattle.tf_report.specs.declared.statuses.TheConstants.{SUCCEEDED, UNREAD, OUT_OF_MEMORY, UNHIRED, UNSAID}
use Rattle.tf_words.specs.declared.asked.Asked.{Asked}
use Rattle.tf_words.specs.declared.asked.Asked.TheVariants as asked
use Rattle.tf_accept.specs.Accepted.{GivesPlan}
use Rattle.tf_commands.specs.Asking.{file_asked_for}
use Rattle.tf_words.specs.Words.{command_of}
use Rattle.tf_commands.specs.declared.auditing.TheConstants.{LOG_REFUSED}
use Rattle.tf_commands.specs.declared.reading.Source.{Source}
use Rattle.tf_desk.specs.Crash.{shown_with, ShowsPrefix}
use Rattle.tf_desk.specs.State.{DeskState}
use Rattle.tf_actions.specs.Gives.{told_with}
use Rattle.tf_ports.specs.declared.crews.Want.TheVariants as want
use Rattle.tf_actions.specs.declared.orders.Order.{Order}
use Rattle.tf_actions.specs.declared.outcomes.Outcome.{Outcome}
use Rattle.tf_ports.specs.declared.crews.Address.{Address}
use Rattle.tf_workers.specs.Session.{Seen, Serves}
use Rattle.tf_sessions.specs.declared.incoming.ServeEnd.{ServeEnd}
use Rattle.tf_sessions.specs.declared.incoming.ServeEnd.TheVariants as end

-- ---- what a command says

-- the word for a limit of a plan
abbrev pub limit_word : Limit → List ℕ
limit_word limit.Nesting = codes "nesting"
limit_word limit.Atoms = codes "atoms"
limit_word limit.Flows = codes "flows"
limit_word limit.Links = codes "links"
limit_word limit.Arguments = codes "arguments"
limit_word limit.Injects = codes "injects"
limit_word limit.Provided = codes "provided"
limit_word limit.Words = codes "words"
limit_word limit.Store = codes "store"
limit_word limit.Test = codes "test"
limit_word limit.Comparisons = codes "comparisons"
limit_word limit.Plan = codes "plan"

-- why a flow makes no plan; want of memory says nothing
abbrev pub plan_fault_text : PlanFault → List ℕ
plan_fault_text (plan_fault.TooLarge which count) = codes "too large " ++ limit_word which ++ 32 ∷ decimal count
plan_fault_text plan_fault.Empty = codes "empty"
plan_fault_text (plan_fault.Duplicate name) = codes "duplicate " ++ name
plan_fault_text (plan_fault.Unknown name) = codes "unknown item " ++ name
plan_fault_text (plan_fault.BadLink name) = codes "bad link " ++ name
plan_fault_text (plan_fault.BadAtom name) = codes "bad atom " ++ name
plan_fault_text plan_fault.Memory = []

-- why a file makes no plan; want of memory says nothing
abbrev pub file_fault_text : FileFault → List ℕ
file_fault_text file_fault.NotToml = codes "not toml"
file_fault_text (file_fault.UnknownKey path) = codes "unknown key " ++ path
file_fault_text (file_fault.MissingKey path) = codes "missing key " ++ path
file_fault_text (file_fault.WrongKind path) = codes "wrong kind " ++ path
file_fault_text (file_fault.BadName path) = codes "bad name " ++ path
file_fault_text (file_fault.BadChoice path) = codes "bad choice " ++ path
file_fault_text (file_fault.BadNumber path) = codes "bad number " ++ path
file_fault_text (file_fault.BadValue path) = codes "bad value " ++ path
file_fault_text (file_fault.Plan fault) = plan_fault_text fault
file_fault_text file_fault.Memory = []

-- names, each after a space
abbrev pub spaced : List ℕ → List ℕ
spaced name = 32 ∷ name

-- why a plan doesn't compile; want of memory says nothing
abbrev pub compile_fault_text : CompileFault → List ℕ
compile_fault_text (compile_fault.Ambiguous symbol first second) =
    codes "ambiguous " ++ symbol ++ 32 ∷ first ++ 32 ∷ second
compile_fault_text (compile_fault.Cycle names) = codes "cycle" ++ flat_map spaced names
compile_fault_text compile_fault.Memory = []

-- which symbol nobody gives; want of memory says nothing
abbrev pub scope_fault_text : ScopeFault → List ℕ
scope_fault_text (scope_fault.Missing atom symbol) = codes "missing " ++ atom ++ 32 ∷ symbol
scope_fault_text scope_fault.Memory = []

-- why nothing is left of a plan up to a target; want of memory says nothing
abbrev pub target_fault_text : TargetFault → List ℕ
target_fault_text target_fault.NotAGraph = codes "not a graph"
target_fault_text (target_fault.UnknownTarget name) = codes "unknown target " ++ name
target_fault_text target_fault.Empty = codes "empty"
target_fault_text target_fault.Memory = []

-- why a flow file is refused; want of memory says nothing
abbrev pub reason_text : Refusal → List ℕ
reason_text (refused.File fault) = file_fault_text fault
reason_text (refused.Compile fault) = compile_fault_text fault
reason_text (refused.Scope fault) = scope_fault_text fault
reason_text (refused.Target fault) = target_fault_text fault
reason_text refused.Memory = []

-- the message for a flow file that is refused
unfoldable pub refusal : List ℕ → List ℕ
refusal reason = codes "taskflow: flow file: " ++ reason ++ 10 ∷ []

-- the message for words that are no command
abbrev pub usage : List ℕ
usage = codes "taskflow: usage\n"

-- the message for a book that holds no flow
abbrev pub no_flow_text : List ℕ
no_flow_text = codes "taskflow: no flow in the book\n"

-- the message for a book that holds no flow of that name
unfoldable pub no_flow_named : List ℕ → List ℕ
no_flow_named name = codes "taskflow: no flow: " ++ name ++ 10 ∷ []

-- the message for a book that holds as many flows as it may
abbrev pub too_many_flows : List ℕ
too_many_flows = codes "taskflow: too many flows: 64\n"

-- the message for a flow whose state forbids a command: its name and the state
unfoldable pub state_forbids : List ℕ → FlowState → List ℕ
state_forbids name state = codes "taskflow: state forbids: " ++ name ++ 32 ∷ flow_word state ++ 10 ∷ []

-- the lines of the details of a book, the first of which has that number
abbrev pub detail_lines : ℕ → List Detail → List ℕ
detail_lines number [] = []
detail_lines number (first ∷ others) = detail_line number first.name first.state ++ detail_lines (number + 1) others

-- how many of the atoms below n are tasks
abbrev pub tasks_below : Outline → ℕ → ℕ
tasks_below plan n = length (which_below n (is_task plan))

-- what a generated flow's run says before its report: how many tasks it has, and how many entries its history
unfoldable pub summary : Outline → ℕ → List ℕ
summary plan entries =
    codes "demo " ++ decimal (tasks_below plan (count plan)) ++ codes " tasks, " ++ decimal entries
    ++ codes " entries\n"

-- what a check says of a plan: how many tasks, retry controllers and flows it has
unfoldable pub checked : Outline → List ℕ
checked plan =
    codes "ok " ++ flow_name plan 0 ++ codes ": " ++ decimal (tasks_below plan (count plan)) ++ codes " tasks, "
    ++ decimal (count plan - tasks_below plan (count plan)) ++ codes " retries, " ++ decimal (length plan.flows)
    ++ codes " flows\n"

-- ---- what becomes of an audit: whether a log can be that of runs of the plan that a flow file gives

-- the status that tells a verdict
abbrev pub verdict_status : Verdict → ℕ
verdict_status (verdict.Legal entries state) = SUCCEEDED
verdict_status (verdict.Bad line because) = LOG_REFUSED

-- to judge a log of a plan's runs is to say the verdict on its bytes
pub data Judges (plan : Outline) (bytes : List ℕ) (before after : Option (List ℕ)) (status : ℕ) : Type 0 where
  -- memory ran out and nothing was said
  unjudged : status ≡ OUT_OF_MEMORY → after ≡ before → Judges plan bytes before after status
  -- this is the verdict, and it is said
  judged : (found : Verdict) → IsVerdict plan bytes found
      → ClosesWith before (verdict_text plan found) (verdict_status found) after status
      → Judges plan bytes before after status

-- to audit a log of a plan's runs is to read it and to judge it
pub data Audits (files : Contents) (log : List ℕ) (before after : Option (List ℕ)) (plan : PlanTree)
    (status : ℕ) : Type 0 where
  -- memory ran out as it was read
  unfinished_log : status ≡ OUT_OF_MEMORY → after ≡ before → Audits files log before after plan status
  -- it can't be read
  unread_log : ClosesWith before cannot_read UNREAD after status → Audits files log before after plan status
  -- it is longer than a log may be
  long_log : PassesLimit files log
      → ClosesWith before (codes "taskflow: audit: too long\n") LOG_REFUSED after status
      → Audits files log before after plan status
  -- its bytes are those that the sources have under its name, and not longer than a log may be
  audited : (bytes : List ℕ) → GivesBytes files log bytes → length bytes ≤ SOURCE_LIMIT
      → Judges (outline_in plan) bytes before after status
      → Audits files log before after plan status

-- the log that a command is about
abbrev pub log_asked_for : Asked → Option (List ℕ)
log_asked_for (asked.Audit file log sets defer) = Some log
log_asked_for command = None

-- the bytes of a log aren't too many, and one of its lines can't be in a run of the plan
pub record HasBadLine (files : Contents) (log : List ℕ) (plan : PlanTree) : Type 0 where
  pub bytes : List ℕ
  pub line : ℕ
  pub because : Why
  pub given : GivesBytes files log bytes
  pub short : length bytes ≤ SOURCE_LIMIT
  pub bad : IsBadLog (outline_in plan) bytes line because

-- a flow file gives a plan, and the log is longer than one may be, or has a line that can't be in a run of the plan
pub record RefusesLog (files : Contents) (source : Source) (log : List ℕ) : Type 0 where
  pub bytes : List ℕ
  pub plan : PlanTree
  pub given : GivesBytes files source.file bytes
  pub gives : GivesPlan source.sets source.defer source.target bytes plan
  pub refuses : PassesLimit files log ⊎ HasBadLine files log plan

-- the words ask for the audit of a log that is refused so
pub record IsLogRefused (words : List (List ℕ)) (files : Contents) : Type 0 where
  pub command : Asked
  pub source : Source
  pub log : List ℕ
  pub asks : command_of words ≡ Some command
  pub file : file_asked_for command ≡ Some source
  pub about : log_asked_for command ≡ Some log
  pub refused : RefusesLog files source log

-- ---- what a worker says of its sessions, and how it ends

-- how a session ended; of one that memory ended nothing is said
abbrev pub end_word : ServeEnd → List ℕ
end_word end.Ended = codes " ended\n"
end_word end.Lost = codes " lost\n"
end_word (end.Bad at) = codes " bad " ++ decimal at ++ codes "\n"
end_word end.Memory = []

-- the line of a session of this number
unfoldable pub session_line : ℕ → ServeEnd → List ℕ
session_line number how = codes "session " ++ decimal number ++ end_word how

-- the lines of sessions in order, the first of which has this number
abbrev pub session_lines : ℕ → List ServeEnd → List ℕ
session_lines number [] = []
session_lines number (how ∷ others) = session_line number how ++ session_lines (number + 1) others

-- the session ended otherwise than for want of memory
abbrev pub IsOver : ServeEnd → Type 0
IsOver end.Ended = Unit {0}
IsOver end.Lost = Unit {0}
IsOver (end.Bad at) = Unit {0}
IsOver end.Memory = ⊥

-- A session that was served: how it ended, what was seen of its link as the door gave it and as it was given back, and
-- the orders that the hand had performed after it, where the hand tells them.
pub record Served : Type 0 where
  pub how : ServeEnd
  pub first : SeenLink
  pub last : SeenLink
  pub did : Option (List Order)

-- how each ended
abbrev pub ends_of : List Served → List ServeEnd
ends_of sessions = map (λ session. session.how) sessions

-- what is seen of a link and of a hand that had performed these orders
abbrev pub seen_with : SeenLink → Option (List Order) → Seen
seen_with link did = record { link = link; did = did }

-- Each session is as a worker serves its link, one after the other, all by one hand, which had performed these orders
-- before, and these after.
abbrev pub AreServed : (Order → Outcome → Type 0) → Option (List Order) → List Served → Option (List Order) → Type 0
AreServed gives did [] now = now ≡ did
AreServed gives did (session ∷ others) now =
    Serves gives (seen_with session.first did) (seen_with session.last session.did) session.how
    × AreServed gives session.did others now

-- The door gave the links of these sessions, each once and in order, and besides these; and was given back those, each
-- as its session left it, and besides these others.
pub record GivesLinks (sessions : List Served) (more back : List SeenLink) (old new : DoorTold) : Type 0 where
  pub opened : new.opened ≡ old.opened
  pub given : new.given ≡ told_with_all old.given (map (λ session. session.first) sessions ++ more)
  pub returned : new.returned ≡ told_with_all old.returned (map (λ session. session.last) sessions ++ back)

-- how a hand that had performed these orders came to those: it performed none; or some in a session over this link, of
-- which no end is told
abbrev pub HasServedBesides : (Order → Outcome → Type 0) → List SeenLink → (did now_did : Option (List Order)) → Type 0
HasServedBesides gives more did now_did = (now_did ≡ did)
    ⊎ ((first : SeenLink) × (last : SeenLink) × (how : ServeEnd) × (more ≡ first ∷ [])
    × Serves gives (seen_with first did) (seen_with last now_did) how)

-- these sessions were served, each over the next link that the door gave, by a hand that had performed these orders
-- before, and those after; at most one link besides was given, over which no session came to an end that is told
pub record ServesLinks (gives : Order → Outcome → Type 0) (did now_did : Option (List Order)) (sessions : List Served)
    (old new : DoorTold) : Type 0 where
  pub then_did : Option (List Order)
  pub are : AreServed gives did sessions then_did
  pub more : List SeenLink
  pub back : List SeenLink
  pub few : (length more ≤ 1) × (length back ≤ length more)
  pub besides : HasServedBesides gives more then_did now_did
  pub links : GivesLinks sessions more back old new

-- the same, and no link besides was given
abbrev pub ServesTheseLinks : (Order → Outcome → Type 0) → (did now_did : Option (List Order)) → List Served → DoorTold
    → DoorTold → Type 0
ServesTheseLinks gives did now_did sessions old new =
    AreServed gives did sessions now_did × GivesLinks sessions [] [] old new

-- sessions that ended so, one line said for each, in order
pub record SaysSessions (before now : Option (List ℕ)) (ends : List ServeEnd) : Type 0 where
  pub over : AllByRecursion IsOver ends
  pub said : now ≡ shown_with before (session_lines 1 ends)

-- The next session was served by a hand that had performed these orders before, and those after: over a link that the
-- door gave for it, and was given back.
pub record ServesNext (gives : Order → Outcome → Type 0) (did now_did : Option (List Order)) (old new : DoorTold)
    (session : Served) : Type 0 where
  pub last : session.did ≡ now_did
  pub serves : Serves gives (seen_with session.first did) (seen_with session.last now_did) session.how
  pub links : new ≡ took_back (gave_link old session.first) session.last

-- a session ended so, and the line of this number was said
pub record SaysSession (before now : Option (List ℕ)) (number : ℕ) (how : ServeEnd) : Type 0 where
  pub over : IsOver how
  pub said : now ≡ shown_with before (session_line number how)

-- its line wasn't said whole: memory ran out in it, or before the line was made, or a prefix of the line was said
pub data CutsSession (before now : Option (List ℕ)) (number : ℕ) (how : ServeEnd) (status : ℕ) : Type 0 where
  unsaid_whole : status ≡ OUT_OF_MEMORY → now ≡ before → CutsSession before now number how status
  unsaid_part : status ≡ UNSAID → IsOver how → ShowsPrefix before (session_line number how) now
      → CutsSession before now number how status

-- the next session ended, and the line of this number was said
pub record SaysNext (gives : Order → Outcome → Type 0) (did now_did : Option (List Order)) (old new : DoorTold)
    (before now : Option (List ℕ)) (number : ℕ) : Type 0 where
  pub session : Served
  pub serves : ServesNext gives did now_did old new session
  pub says : SaysSession before now number session.how

-- why there is no next session: memory ran out, no link came, or its line couldn't be said
pub data StopsNext (gives : Order → Outcome → Type 0) (did now_did : Option (List Order)) (old new : DoorTold)
    (before now : Option (List ℕ)) (number : ℕ) (status : ℕ) : Type 0 where
  exhausted_next : status ≡ OUT_OF_MEMORY → now ≡ before → (more back : List SeenLink) → length more ≤ 1
      → length back ≤ length more → HasServedBesides gives more did now_did → GivesLinks [] more back old new
      → StopsNext gives did now_did old new before now number status
  no_next_link : new ≡ old → now_did ≡ did → ClosesWith before cannot_listen UNHIRED now status
      → StopsNext gives did now_did old new before now number status
  unsaid_next : status ≡ UNSAID → (session : Served) → ServesNext gives did now_did old new session → IsOver session.how
      → ShowsPrefix before (session_line number session.how) now
      → StopsNext gives did now_did old new before now number status

-- what a status tells that ends the serving: the door or the output had a fault, or memory ran out
pub record HasStopCause (old new : DeskState) (door_then door_now status : ℕ) : Type 0 where
  pub unlinked : status ≡ UNHIRED → Rises door_then door_now
  pub unsaid : status ≡ UNSAID → Rises old.out_faults new.out_faults
  pub one : (status ≡ OUT_OF_MEMORY) ⊎ (status ≡ UNHIRED) ⊎ (status ≡ UNSAID)

-- the same, or all went well
pub record HasServeCause (old new : DeskState) (door_then door_now status : ℕ) : Type 0 where
  pub unlinked : status ≡ UNHIRED → Rises door_then door_now
  pub unsaid : status ≡ UNSAID → Rises old.out_faults new.out_faults
  pub one : (status ≡ SUCCEEDED) ⊎ (status ≡ OUT_OF_MEMORY) ⊎ (status ≡ UNHIRED) ⊎ (status ≡ UNSAID)

-- so many sessions are served, one after the other, by a hand that had performed these orders before, and those after
pub data ServesAll (gives : Order → Outcome → Type 0) (did now_did : Option (List Order)) (old new : DoorTold)
    (before now : Option (List ℕ)) (sessions : ℕ) (status : ℕ) : Type 0 where
  -- all were served, and the line of each was said
  all_served : status ≡ SUCCEEDED → (served : List Served) → length served ≡ sessions
      → ServesTheseLinks gives did now_did served old new → SaysSessions before now (ends_of served)
      → ServesAll gives did now_did old new before now sessions status
  -- memory ran out in the next one, or before it
  exhausted : status ≡ OUT_OF_MEMORY → (served : List Served) → length served < sessions
      → ServesLinks gives did now_did served old new → SaysSessions before now (ends_of served)
      → ServesAll gives did now_did old new before now sessions status
  -- no link came for the next one, and that is said
  no_link : (served : List Served) (between : Option (List ℕ)) → length served < sessions
      → ServesTheseLinks gives did now_did served old new → SaysSessions before between (ends_of served)
      → ClosesWith between cannot_listen UNHIRED now status
      → ServesAll gives did now_did old new before now sessions status
  -- a line couldn't be said, and a prefix of the lines was
  cut_short : status ≡ UNSAID → (served : List Served) → length served ≤ sessions
      → ServesTheseLinks gives did now_did served old new → AllByRecursion IsOver (ends_of served)
      → ShowsPrefix before (session_lines 1 (ends_of served)) now
      → ServesAll gives did now_did old new before now sessions status

-- one hand was given back, which had been given these orders, where the crew tells it
abbrev pub IsGivenBack : GivenBack → Option (List Order) → Type 0
IsGivenBack None did = Unit {0}
IsGivenBack (Some hands) did = hands ≡ did ∷ []

-- one hand of this process was hired, and given back, which had been given these orders
pub record HiresHere (crew crew_after : CrewTold) (did : Option (List Order)) : Type 0 where
  pub hired : crew_after.hired ≡ told_with crew.hired (want.Local 1)
  pub back : IsGivenBack crew_after.back did

-- to work is to hire one hand of this process, which was given no order yet, to open the door at the address, and to
-- serve so many sessions
pub data Works (gives : Order → Outcome → Type 0) (crew crew_after : CrewTold) (old new : DoorTold)
    (before now : Option (List ℕ)) (address : Address) (sessions : ℕ) (status : ℕ)
    : Type 0 where
  -- memory ran out as the hand was hired, and nothing was said
  unhired_memory : crew_after ≡ crew → status ≡ OUT_OF_MEMORY → new ≡ old → now ≡ before
      → Works gives crew crew_after old new before now address sessions status
  -- no hand could be hired, and that is said
  unhired : crew_after ≡ crew → new ≡ old → ClosesWith before cannot_hire UNHIRED now status
      → Works gives crew crew_after old new before now address sessions status
  -- memory ran out before the door was open, and nothing was said
  unopened_memory : (did : Option (List Order)) → IsFresh did → HiresHere crew crew_after did → status ≡ OUT_OF_MEMORY
      → new ≡ old → now ≡ before
      → Works gives crew crew_after old new before now address sessions status
  -- the door couldn't be opened, and that is said
  unopened : (did : Option (List Order)) → IsFresh did → HiresHere crew crew_after did → new ≡ old
      → ClosesWith before cannot_listen UNHIRED now status
      → Works gives crew crew_after old new before now address sessions status
  -- the door was opened there, and the hand served
  worked : (did now_did : Option (List Order)) → IsFresh did → HiresHere crew crew_after now_did
      → ServesAll gives did now_did (opened_at old address) new before now sessions status
      → Works gives crew crew_after old new before now address sessions status
