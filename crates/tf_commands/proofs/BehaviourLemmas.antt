-- The way that a command went, put together from its parts.
use Rattle.std.proofs.Common.{◌≡◌, ◌≤◌, ℕ, length, List, Option, Some, None, true, false, refl, sym, inl, inr, subst}
use Rattle.std.specs.Prelude.{Result, Ok, Err, IfErr, option_and_then}
use Rattle.tf_flow.specs.Plan.{PlanTree, plan_tree}
use Rattle.tf_ports.specs.Ports.{Contents, GivesBytes, TellsStill, CrewTold}
use Rattle.tf_ports.proofs.TellsLemmas.{gives_on}
use Rattle.tf_ports.specs.declared.reading.TheConstants.{SOURCE_LIMIT}
use Rattle.tf_desk.specs.State.{DeskState}
use Rattle.tf_ports.specs.declared.crews.Want.{Want}
use Rattle.tf_actions.specs.declared.orders.Order.{Order}
use Rattle.tf_actions.specs.declared.outcomes.Outcome.{Outcome}
use Rattle.tf_machine.specs.Machine.{MachineValue}
use Rattle.tf_words.specs.Words.{IsConduct, IsDemo}
use Rattle.tf_words.specs.declared.asked.Asked.{Asked}
use Rattle.tf_words.specs.declared.asked.Asked.TheVariants as asked
use Rattle.tf_accept.specs.Accepted.{GivesNone, is_want_of_memory, IsReason}
use Rattle.tf_commands.specs.Asking.{IsWithin, want_of, wanted_by}
use Rattle.tf_words.specs.Words.{command_of}
use Rattle.tf_commands.specs.Behaviour.{PortsTold, BytesRead, exhausted, refused, done, FileRead, unfinished, unread, too_long, read, Undone, Obeys, HiresAsWanted}
use Rattle.tf_commands.specs.Messages.{refusal, reason_text}
use Rattle.tf_commands.specs.Opened.{Opened}
use Rattle.tf_report.specs.Closing.{ClosesWithOrStops}
use Rattle.tf_report.specs.declared.statuses.TheConstants.{REFUSED, OUT_OF_MEMORY}
use Rattle.tf_accept.specs.declared.accepting.Refusal.{Refusal}
use Rattle.tf_accept.specs.declared.accepting.Refusal.TheVariants as reason
use Rattle.tf_commands.specs.declared.reading.Source.{Source}
use Rattle.tf_commands.proofs.HandLemmas.{HasHands}

-- ---- a file that is refused

refused_by : (source : Source) (bytes : List ℕ) (untouched : Type 0) (why : Refusal) (before after : Option (List ℕ)) (status : ℕ) → untouched → GivesNone source.sets source.defer source.target bytes why
    → ClosesWithOrStops before (refusal (reason_text why)) REFUSED after status → BytesRead source bytes untouched Undone before after status
refused_by source bytes untouched why before after status still none (inl out) = exhausted still out.0 out.1
refused_by source bytes untouched why before after status still none (inr closes) = refused still why none closes

-- bytes that give no plan, and what became of the message
pub refused_bytes : (source : Source) (bytes : List ℕ) (untouched : Type 0) (why : Refusal) (before after : Option (List ℕ)) (status : ℕ) → untouched → IsReason source.sets source.defer source.target bytes why
    → (is_want_of_memory why ≡ true → (status ≡ OUT_OF_MEMORY) × (after ≡ before)) → (is_want_of_memory why ≡ false → ClosesWithOrStops before (refusal (reason_text why)) REFUSED after status)
    → BytesRead source bytes untouched Undone before after status
refused_bytes source bytes untouched reason.Memory before after status still none out closes = exhausted still (out refl).0 (out refl).1
refused_bytes source bytes untouched (reason.File fault) before after status still none out closes = refused_by source bytes untouched (reason.File fault) before after status still none (closes refl)
refused_bytes source bytes untouched (reason.Compile fault) before after status still none out closes = refused_by source bytes untouched (reason.Compile fault) before after status still none (closes refl)
refused_bytes source bytes untouched (reason.Scope fault) before after status still none out closes = refused_by source bytes untouched (reason.Scope fault) before after status still none (closes refl)
refused_bytes source bytes untouched (reason.Target fault) before after status still none out closes = refused_by source bytes untouched (reason.Target fault) before after status still none (closes refl)

-- the bytes of a file that give no plan
pub closed_file : {T : Type 0} (came : Result T ℕ) (files : Contents) (source : Source) (bytes : List ℕ) (untouched : Type 0) (before after : Option (List ℕ)) → GivesBytes files source.file bytes → length bytes ≤ SOURCE_LIMIT
    → IfErr came (BytesRead source bytes untouched Undone before after) → IfErr came (FileRead files source untouched Undone before after)
closed_file (Ok made) files source bytes untouched before after given short closed = tt
closed_file (Err status) files source bytes untouched before after given short closed = read bytes given short closed

-- ---- a file

-- what was opened before some call was opened
pub opened_on : (before after : Contents) (source : Source) (m : MachineValue) → TellsStill before after → Opened before source m → Opened after source m
opened_on before after source m still o = record { bytes = o.bytes; given = gives_on before after source.file o.bytes still o.given; short = o.short; plan = o.plan }

undone_bytes : (source : Source) (bytes : List ℕ) (untouched quiet : Type 0) (does : PlanTree → ℕ → Type 0) (before after : Option (List ℕ)) (status : ℕ) → (untouched → quiet)
    → BytesRead source bytes untouched Undone before after status → BytesRead source bytes quiet does before after status
undone_bytes source bytes untouched quiet does before after status so (exhausted still is same) = exhausted (so still) is same
undone_bytes source bytes untouched quiet does before after status so (refused still why none closes) = refused (so still) why none closes
undone_bytes source bytes untouched quiet does before after status so (done plan given undone) = absurd undone

-- with a plan that isn't there all the same is done
pub undone_file : (files : Contents) (source : Source) (untouched quiet : Type 0) (does : PlanTree → ℕ → Type 0) (before after : Option (List ℕ)) (status : ℕ) → (untouched → quiet)
    → FileRead files source untouched Undone before after status → FileRead files source quiet does before after status
undone_file files source untouched quiet does before after status so (unfinished still is same) = unfinished (so still) is same
undone_file files source untouched quiet does before after status so (unread still closes) = unread (so still) closes
undone_file files source untouched quiet does before after status so (too_long still passes closes) = too_long (so still) passes closes
undone_file files source untouched quiet does before after status so (read bytes given short closed) =
    read bytes given short (undone_bytes source bytes untouched quiet does before after status so closed)

quiet_bytes : (source : Source) (bytes : List ℕ) (untouched quiet : Type 0) (does : PlanTree → ℕ → Type 0) (before after : Option (List ℕ)) (status : ℕ) → (untouched → quiet)
    → BytesRead source bytes untouched does before after status → BytesRead source bytes quiet does before after status
quiet_bytes source bytes untouched quiet does before after status so (exhausted still is same) = exhausted (so still) is same
quiet_bytes source bytes untouched quiet does before after status so (refused still why none closes) = refused (so still) why none closes
quiet_bytes source bytes untouched quiet does before after status so (done plan given did) = done plan given did

-- where a file gives no plan more is untouched
pub quiet_file : (files : Contents) (source : Source) (untouched quiet : Type 0) (does : PlanTree → ℕ → Type 0) (before after : Option (List ℕ)) (status : ℕ) → (untouched → quiet)
    → FileRead files source untouched does before after status → FileRead files source quiet does before after status
quiet_file files source untouched quiet does before after status so (unfinished still is same) = unfinished (so still) is same
quiet_file files source untouched quiet does before after status so (unread still closes) = unread (so still) closes
quiet_file files source untouched quiet does before after status so (too_long still passes closes) = too_long (so still) passes closes
quiet_file files source untouched quiet does before after status so (read bytes given short came) =
    read bytes given short (quiet_bytes source bytes untouched quiet does before after status so came)

-- the plan of a machine is dealt with
pub done_file : (files : Contents) (source : Source) (quiet : Type 0) (m : MachineValue) (does : PlanTree → ℕ → Type 0) (before after : Option (List ℕ)) (status : ℕ)
    → Opened files source m → does (plan_tree m.plan) status → FileRead files source quiet does before after status
done_file files source quiet m does before after status opened did = read opened.bytes opened.given opened.short (done (plan_tree m.plan) opened.plan did)

-- ---- what the words ask for

module _ {K : Type 0} (state : K → DeskState) where
  -- what becomes of a command that is another's
  pub obeys_so : (gives : Want → Order → Outcome → Type 0) (stopped : Type 0) (command other : Asked) (files : Contents) (ports later : PortsTold) (entry now : K) (status : ℕ) → command ≡ other
      → Obeys state gives stopped other files ports later entry now status
      → Obeys state gives stopped command files ports later entry now status
  obeys_so gives stopped command other files ports later entry now status is obeys =
      subst (λ (asks : Asked). Obeys state gives stopped asks files ports later entry now status) (sym is) obeys

-- nobody was hired
pub hires_nobody : (hands : Option Want) (crew : CrewTold) → HiresAsWanted hands crew crew
hires_nobody None crew = refl
hires_nobody (Some hands) crew = inl refl

-- the hands that the words want are those of the command that they are
pub hires_asked : (words : List (List ℕ)) (command : Asked) (crew crew_after : CrewTold) → command_of words ≡ Some command → HiresAsWanted (want_of command) crew crew_after
    → HiresAsWanted (wanted_by words) crew crew_after
hires_asked words command crew crew_after is hires =
    subst (λ (o : Option Asked). HiresAsWanted (option_and_then want_of o) crew crew_after) (sym is) hires

-- the hands that are wanted are those of an equal command
pub hires_so : (command other : Asked) (crew crew_after : CrewTold) → command ≡ other → HiresAsWanted (want_of other) crew crew_after → HiresAsWanted (want_of command) crew crew_after
hires_so command other crew crew_after is hires = subst (λ (asks : Asked). HiresAsWanted (want_of asks) crew crew_after) (sym is) hires

-- a command whose hands are within their bounds
pub few_so : (command other : Asked) → command ≡ other → IsWithin command → IsWithin other
few_so command other is within = subst IsWithin is within

-- ---- the hands and the numbers of a command

-- the hands and the numbers of the command that the words are are within their bounds
pub within_so : (found : Option Asked) (command : Asked) → ((seed size : ℕ) (book : List ℕ) (hands : ℕ) → found ≡ Some (asked.Demo seed size book hands) → IsDemo seed size)
    → ((board owner : List ℕ) (hands : ℕ) → found ≡ Some (asked.Conduct board owner hands) → IsConduct owner hands)
    → ((c : Asked) → found ≡ Some c → HasHands c) → found ≡ Some command → IsWithin command
within_so found (asked.Demo seed size book hands) bounds named few is = (bounds seed size book hands is, few (asked.Demo seed size book hands) is)
within_so found (asked.Try file sets defer hands target) bounds named few is = few (asked.Try file sets defer hands target) is
within_so found (asked.Run file book sets defer hands stop target) bounds named few is = few (asked.Run file book sets defer hands stop target) is
within_so found (asked.Resume book name hands stop) bounds named few is = few (asked.Resume book name hands stop) is
within_so found (asked.Show book name) bounds named few is = tt
within_so found (asked.Reset book name) bounds named few is = tt
within_so found (asked.Details book) bounds named few is = tt
within_so found (asked.Migrate old new) bounds named few is = tt
within_so found (asked.Check file sets target) bounds named few is = tt
within_so found (asked.Audit file log sets defer) bounds named few is = tt
within_so found (asked.Worker address sessions) bounds named few is = tt
within_so found (asked.Board board request) bounds named few is = tt
within_so found (asked.Conduct board owner hands) bounds named few is = named board owner hands is
within_so found (asked.Serve board address sessions) bounds named few is = few (asked.Serve board address sessions) is
