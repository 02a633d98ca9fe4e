-- A call that resumes a flow, and that nothing fails, ends it as stated.
use Rattle.std.proofs.Common.{◌≡◌, ◌≢◌, ◌⊎◌, ℕ, List, [], ◌++◌, map, true, false, Option, Some, None, refl, sym, ◌∙◌, ap, subst, inl, inr, ⊎_elim, arith}
use Rattle.std.specs.Prelude.{IsTrue}
use Rattle.tf_numbers.specs.Numbers.{Rises}
use Rattle.tf_desk.specs.State.{DeskState}
use Rattle.tf_flow.specs.Plan.{PlanValue}
use Rattle.tf_states.specs.declared.record.Entry.{Entry}
use Rattle.tf_states.specs.declared.state.FlowState.{FlowState}
use Rattle.tf_states.specs.declared.state.FlowState.TheVariants as flow
use Rattle.tf_ports.specs.declared.crews.Want.{Want}
use Rattle.tf_actions.specs.declared.orders.Order.{Order}
use Rattle.tf_actions.specs.declared.outcomes.Outcome.{Outcome}
use Rattle.tf_journal.specs.Start.{file_of}
use Rattle.tf_journal.specs.Format.{Recovered, old_format}
use Rattle.tf_model.specs.History.{flow_of}
use Rattle.tf_model.specs.Plan.{Outline, outline_of}
use Rattle.tf_model.specs.Steps.{Session, already_ended, entered, halted, whole, has_ended, is_last}
use Rattle.tf_words.specs.declared.asked.Asked.{Asked}
use Rattle.tf_words.specs.declared.asked.Asked.TheVariants as asked
use Rattle.tf_commands.specs.Asking.{WasAsked}
use Rattle.tf_words.specs.Words.{command_of}
use Rattle.tf_commands.specs.Books as books
use Rattle.tf_details.specs.Elements.{Element, entry as an_entry, plan_of, history, Contents, with_entries}
use Rattle.tf_details.specs.Whole.{AreAlike}
use Rattle.tf_details.proofs.FormLemmas.{same_outline}
use Rattle.tf_details.proofs.OnceLemmas.{as_many, plan_alike, named_alike}
use Rattle.tf_commands.specs.Books.{Promised, Resumes, Unfound, Unopened, book_at, HoldsElements, HoldsAsked, HoldsWith, FindsSince, IsAskedFor, spoken_run, MayRun, HasReached, stop_status, IsLastSaid, ShowsLines}
use Rattle.tf_commands.specs.Behaviour as behaviour
use Rattle.tf_commands.specs.Behaviour.{Behaviour, Obeys, IsRunComplete, HoldsFlow}
use Rattle.tf_report.specs.Closing.{ClosesWith}
use Rattle.tf_report.proofs.ClosingLemmas.{closes_status}
use Rattle.tf_lifetime.specs.Life.{Call, IsUnfailing, EndsAsStated, exhausted, filled, ended}
use Rattle.tf_lifetime.proofs.BookLemmas.{is_book}
use Rattle.tf_lifetime.proofs.OnceLemmas.{once, grows_so}
use Rattle.tf_lifetime.proofs.GrowthLemmas.{held_elements, book_elements}
use Rattle.tf_ports.specs.Ports.{CrewTold, GivenBack}

-- a status that none of the five is
five : {status : ℕ} → IsRunComplete status → (n : ℕ) → status ≡ n → (n ≡ 0) ⊎ (n ≡ 10) ⊎ (n ≡ 11) ⊎ (n ≡ 9) ⊎ (n ≡ 13)
five complete n same = subst IsRunComplete same complete

never : {status : ℕ} {X : Type 0} → IsRunComplete status → (n : ℕ) → status ≡ n → n ≢ 0 → n ≢ 10 → n ≢ 11 → n ≢ 9 → n ≢ 13 → X
never complete n same a b c d e = absurd (by (five complete n same))
  where
    by : (n ≡ 0) ⊎ (n ≡ 10) ⊎ (n ≡ 11) ⊎ (n ≡ 9) ⊎ (n ≡ 13) → ⊥
    by (inl is) = a is
    by (inr (inl is)) = b is
    by (inr (inr (inl is))) = c is
    by (inr (inr (inr (inl is)))) = d is
    by (inr (inr (inr (inr is)))) = e is

-- a message with such a status wasn't said
never_closes : {before after : Option (List ℕ)} {message : List ℕ} {wanted status : ℕ} {X : Type 0} → IsRunComplete status → ClosesWith before message wanted after status
    → wanted ≢ 0 → wanted ≢ 10 → wanted ≢ 11 → wanted ≢ 9 → wanted ≢ 13 → X
never_closes {before} {after} {message} {wanted} {status} complete closes a b c d e =
    ⊎_elim (λ is. never complete wanted is a b c d e)
    (λ is. never complete 7 is (λ n. omega arith) (λ n. omega arith) (λ n. omega arith) (λ n. omega arith) (λ n. omega arith))
    (closes_status before after message wanted status closes)

-- a run stops in a last state
stops_last : {plan : Outline} {before entries : List Entry} {last : FlowState} {stop : Option FlowState} → stop ≡ Some last → Session plan before entries stop → is_last last ≡ true
stops_last {before = before} {last = last} is (already_ended over legal) = last_of_ended (flow_of before) last (let both : Some (flow_of before) ≡ Some last = is in cc) over
  where
    last_of_ended : (state last : FlowState) → state ≡ last → has_ended state ≡ true → is_last last ≡ true
    last_of_ended state flow.Success same so = refl
    last_of_ended state flow.Failure same so = refl
    last_of_ended state flow.Reverted same so = refl
    last_of_ended state flow.Suspended same so = refl
    last_of_ended state flow.Pending same so = sym (ap has_ended same) ∙ so
    last_of_ended state flow.Running same so = sym (ap has_ended same) ∙ so
    last_of_ended state flow.Suspending same so = sym (ap has_ended same) ∙ so
    last_of_ended state flow.Resuming same so = sym (ap has_ended same) ∙ so
stops_last is (entered some others begins legal) = (let clash = is in absurd (cc))
stops_last is (halted inner going all_inner legal) = (let clash = is in absurd (cc))
stops_last {before = before} {last = last} is (whole hand other inner is_last_so inside going legal) =
    let same : other ≡ last = (let both : Some other ≡ Some last = is in cc) in subst (λ (s : FlowState). is_last s ≡ true) same is_last_so

-- where it isn't suspended the flow has ended
ended_of : (last : FlowState) → is_last last ≡ true → IsRunComplete (stop_status last) → has_ended last ≡ true
ended_of flow.Success is complete = refl
ended_of flow.Failure is complete = refl
ended_of flow.Reverted is complete = refl
ended_of flow.Suspended is complete = never complete 12 refl (λ n. omega arith) (λ n. omega arith) (λ n. omega arith) (λ n. omega arith) (λ n. omega arith)
ended_of flow.Pending is complete = is
ended_of flow.Running is complete = is
ended_of flow.Suspending is complete = is
ended_of flow.Resuming is complete = is

-- the number that is asked for is that of every book like one
asked_alike : (wanted : Option (List ℕ)) (a b : List Element) (n m : ℕ) → AreAlike a b → IsAskedFor wanted a n → IsAskedFor wanted b m → n ≡ m
asked_alike None a b n m alike first second = (let many = as_many a b alike in omega (arith, many, first, second))
asked_alike (Some name) a b n m alike first second = let both : Some n ≡ Some m = sym first ∙ named_alike a b name alike ∙ second in cc

-- two readings of the detail that a file has tell the same of it
pub record SameDetail (contents other : Contents) (plan its : PlanValue) (past before : List Entry) : Type 0 where
  pub number : contents.number ≡ other.number
  pub outline : outline_of its ≡ outline_of plan
  pub past_is : before ≡ past

pub same_detail : {wanted : Option (List ℕ)} {contents other : Contents} {plan its : PlanValue} {past before : List Entry} {found : Recovered} → HoldsAsked wanted contents plan past found
    → HoldsAsked wanted other its before found → SameDetail contents other plan its past before
same_detail {wanted} {contents} {other} {plan} {its} {past} {before} first second =
    let alike = once (held_elements first.holds) (held_elements second.holds) in
    let number = asked_alike wanted contents.elements other.elements contents.number other.number alike first.asked second.asked in
    let own = plan_alike contents.elements other.elements other.number its alike second.holds.held.of_detail in
    let both : Some own.0 ≡ Some plan = sym own.1 ∙ ap (plan_of contents.elements) (sym number) ∙ first.holds.held.of_detail in
    let same : own.0 ≡ plan = cc in
    record {
      number = number;
      outline = sym (same_outline own.0 its own.2) ∙ ap outline_of same;
      past_is = sym second.holds.past_is ∙ sym (alike.histories other.number) ∙ ap (λ (n : ℕ). history n contents.elements) (sym number) ∙ first.holds.past_is;
    }

-- the contents of one reading with entries, where the other has them
held_with : {wanted : Option (List ℕ)} {contents other : Contents} {plan its : PlanValue} {past before : List Entry} {first later : Recovered} → HoldsAsked wanted contents plan past first
    → HoldsAsked wanted other its before first → (entries : List Entry) → HoldsWith other entries later → HoldsWith contents entries later
held_with {wanted} {contents} {other} {plan} {its} {past} {before} {first} {later} holds held entries on =
    subst (λ (n : ℕ). HoldsElements (map (an_entry n) entries ++ contents.elements) later) (sym (same_detail holds held).number)
    (grows_so (map (an_entry other.number) entries) (held_elements holds.holds) (held_elements held.holds) on)

-- how a call ends that couldn't have the flow which the file holds
module _ {name : List ℕ} {wanted : Option (List ℕ)} {entry now : DeskState} {status : ℕ} (told : IsTrue entry.tells) (complete : IsRunComplete status) {contents : Contents} {plan : PlanValue} {past : List Entry}
    (holds : HoldsAsked wanted contents plan past (book_at entry name)) where
  unopened_ends : Unopened name entry now status → EndsAsStated contents plan past (file_of now name) status
  unopened_ends (books.exhausted s) = subst (EndsAsStated contents plan past (file_of now name)) (sym s.status_is) exhausted
  unopened_ends (books.disk_failed_opening r) = never_closes complete r.closes (λ n. omega arith) (λ n. omega arith) (λ n. omega arith) (λ n. omega arith) (λ n. omega arith)
  unopened_ends (books.old_book old r) = never_closes complete r.closes (λ n. omega arith) (λ n. omega arith) (λ n. omega arith) (λ n. omega arith) (λ n. omega arith)
  unopened_ends (books.no_book offset byte none r) = absurd (is_book (book_at entry name) (held_elements holds.holds) offset byte (none told))

  unfound_ends : Unfound name wanted entry now status → EndsAsStated contents plan past (file_of now name) status
  unfound_ends (books.unopened_book u) = unopened_ends u
  unfound_ends (books.empty none r) = never_closes complete r.closes (λ n. omega arith) (λ n. omega arith) (λ n. omega arith) (λ n. omega arith) (λ n. omega arith)
  unfound_ends (books.not_there elements sought is held some none r) =
      never_closes complete r.closes (λ n. omega arith) (λ n. omega arith) (λ n. omega arith) (λ n. omega arith) (λ n. omega arith)

module _ {gives : Order → Outcome → Type 0} {hands : Want} {stopped : Type 0} {name : List ℕ} {entry now : DeskState} {status : ℕ} {wanted : Option (List ℕ)} (told : IsTrue entry.tells)
    (undamaged : ¬ (Rises entry.disk_faults now.disk_faults)) (complete : IsRunComplete status) where
  -- the file after a run that met no fault of the disk
  file_then : {contents other : Contents} {plan its : PlanValue} {past before : List Entry} {back : GivenBack} → HoldsAsked wanted contents plan past (book_at entry name)
      → HoldsAsked wanted other its before (book_at entry name) → (p : Promised gives (spoken_run hands None) stopped back name other its before entry now status)
      → HoldsWith contents p.entries (book_at now name)
  file_then {contents} {other} holds held p =
      let l = p.lasts told in
      ⊎_elim (λ finds. since finds) (λ on. pending on) l.file
    where
      since : FindsSince (book_at entry name) other p.entries (book_at now name) → HoldsWith contents p.entries (book_at now name)
      since (inl on) = held_with holds held p.entries on
      since (inr (none, inl same)) =
          subst (λ (l : List Entry). HoldsWith contents l (book_at now name)) (sym none)
          (subst (λ (found : Recovered). HoldsElements contents.elements found) (sym same) (held_elements holds.holds))
      since (inr (none, inr young)) = (let clash = sym holds.holds.is ∙ young.0 in absurd (cc))

      pending : HoldsWith other ((p.lasts told).pending ++ p.entries) (book_at now name) → HoldsWith contents p.entries (book_at now name)
      pending on = ⊎_elim
          (λ none. held_with holds held p.entries (subst (λ (x : List Entry). HoldsWith other (x ++ p.entries) (book_at now name)) none on))
          (λ rose. absurd (undamaged rose))
          (p.lasts told).few.caused

  run_ends : {contents other : Contents} {plan its : PlanValue} {past before : List Entry} {back : GivenBack} → HoldsAsked wanted contents plan past (book_at entry name)
      → HoldsAsked wanted other its before (book_at entry name) → (p : Promised gives (spoken_run hands None) stopped back name other its before entry now status)
      → EndsAsStated contents plan past (file_of now name) status
  run_ends {contents} {other} {plan} {its} {past} {before} holds held p = by p.closing status complete p.ran.text
    where
      one : SameDetail contents other plan its past before
      one = same_detail holds held

      reached : (last : FlowState) → p.stop ≡ Some last → HasReached (outline_of plan) (p.entries ++ past) last
      reached last is = subst (λ (o : Outline). HasReached o (p.entries ++ past) last) one.outline
          (subst (λ (l : List Entry). HasReached (outline_of its) (p.entries ++ l) last) one.past_is (p.ran.end last is))

      said_so : (closing : List ℕ) (wanted ends : ℕ) (stop : Option FlowState) → IsRunComplete ends → p.stop ≡ stop → ends ≡ wanted
          → IsLastSaid (MayRun gives (spoken_run hands None) its) (with_entries other p.entries) its [] (p.entries ++ before) stop closing wanted
          → EndsAsStated contents plan past (file_of now name) ends
      said_so closing wanted ends _ good stops same (books.reported last) =
          subst (EndsAsStated contents plan past (file_of now name)) (sym same)
          (ended last p.entries (file_then holds held p) (ended_of last (stops_last stops p.ran.steps.session) (subst IsRunComplete same good)) (reached last stops))
      said_so closing wanted ends _ good stops same (books.disk_failed stop unended) = never good 5 same (λ n. omega arith) (λ n. omega arith) (λ n. omega arith) (λ n. omega arith) (λ n. omega arith)
      said_so closing wanted ends _ good stops same (books.filled stop size need full) = subst (EndsAsStated contents plan past (file_of now name)) (sym same) filled

      by : (closing : List ℕ) (ends : ℕ) → IsRunComplete ends
          → ShowsLines its false before p.entries entry.shown now.shown
          (IsLastSaid (MayRun gives (spoken_run hands None) its) (with_entries other p.entries) its [] (p.entries ++ before) p.stop) closing ends
          → EndsAsStated contents plan past (file_of now name) ends
      by _ ends good (books.closed closing wanted _ last closes) =
          ⊎_elim (λ same. said_so closing wanted ends p.stop good refl same last)
          (λ is. never good 7 is (λ n. omega arith) (λ n. omega arith) (λ n. omega arith) (λ n. omega arith) (λ n. omega arith))
          (closes_status _ now.shown closing wanted ends closes)
      by _ _ good (books.line_cut prefix) = never good 7 refl (λ n. omega arith) (λ n. omega arith) (λ n. omega arith) (λ n. omega arith) (λ n. omega arith)
      by _ _ good (books.stopped same) = exhausted

  resume_ends : {contents : Contents} {plan : PlanValue} {past : List Entry} {crew crew_after : CrewTold} → HoldsAsked wanted contents plan past (book_at entry name)
      → Resumes gives (spoken_run hands None) stopped name wanted crew crew_after entry now status → EndsAsStated contents plan past (file_of now name) status
  resume_ends holds (books.unfound_again same u) = unfound_ends told complete holds u
  resume_ends {contents} {plan} {past} holds (books.unhired_again other its before held going (books.exhausted_hire same s)) =
      subst (EndsAsStated contents plan past (file_of now name)) (sym s.status_is) exhausted
  resume_ends holds (books.unhired_again other its before held going (books.unhired same r)) =
      never_closes complete r.closes (λ n. omega arith) (λ n. omega arith) (λ n. omega arith) (λ n. omega arith) (λ n. omega arith)
  resume_ends holds (books.resumed other its before can held back how p) = run_ends holds (held told) p

-- a file that holds the flow which is asked for is a book of it
has_flow : {wanted : Option (List ℕ)} {contents : Contents} {plan : PlanValue} {past : List Entry} {found : Recovered} → HoldsAsked wanted contents plan past found → HoldsFlow wanted found
has_flow {wanted} {contents} {found = found} holds = (
  (is_none_old, λ offset byte none. is_book found (held_elements holds.holds) offset byte none),
  λ elements is. asked_there wanted contents.elements elements contents.number (once (held_elements holds.holds) (book_elements (held_elements holds.holds) is)) holds.asked,
)
  where
    is_none_old : found ≢ old_format
    is_none_old is = (let clash = sym holds.holds.is ∙ is in cc)

    asked_there : (sought : Option (List ℕ)) (a b : List Element) (n : ℕ) → AreAlike a b → IsAskedFor sought a n → (m : ℕ) × IsAskedFor sought b m
    asked_there None a b n alike is = (n, is ∙ as_many a b alike)
    asked_there (Some sought) a b n alike is = (n, sym (named_alike a b sought alike) ∙ is)

-- the call
pub call_ends : {K : Type 0} (state : K → DeskState) (gives : Want → Order → Outcome → Type 0) (name : List ℕ) (wanted : Option (List ℕ)) (hands : Want) (call : Call state gives)
    (contents : Contents) (plan : PlanValue) (past : List Entry) → command_of call.words ≡ Some (asked.Resume name wanted hands None)
    → HoldsAsked wanted contents plan past (book_at (state call.entry) name) → IsUnfailing state gives call
    → EndsAsStated contents plan past (file_of (state call.now) name) call.status
call_ends {K} state gives name wanted hands call contents plan past asks holds unfailing = by call.behaviour
  where
    complete : IsRunComplete call.status
    complete = call.complete (asked.Resume name wanted hands None) asks (call.told, has_flow holds) unfailing.unasked (λ work. unfailing.door) unfailing.counts

    obeyed_so : (command : Asked) → command ≡ asked.Resume name wanted hands None
        → Obeys state gives (WasAsked (state call.entry) (state call.now)) command call.files call.ports call.later call.entry call.now call.status
        → EndsAsStated contents plan past (file_of (state call.now) name) call.status
    obeyed_so command same obeys =
        resume_ends call.tells unfailing.counts.disk complete holds
        (subst (λ (c : Asked). Obeys state gives (WasAsked (state call.entry) (state call.now)) c call.files call.ports call.later call.entry call.now call.status) same obeys)

    by : Behaviour state gives (WasAsked (state call.entry) (state call.now)) call.words call.files call.ports call.later call.entry call.now call.status
        → EndsAsStated contents plan past (file_of (state call.now) name) call.status
    by (behaviour.unheard is same still) = subst (EndsAsStated contents plan past (file_of (state call.now) name)) (sym is) exhausted
    by (behaviour.no_command none closes still) = (let both : None ≡ Some (asked.Resume name wanted hands None) = sym none ∙ asks in absurd (cc))
    by (behaviour.obeyed command asks_so obeys) =
        obeyed_so command (let both : Some command ≡ Some (asked.Resume name wanted hands None) = sym asks_so ∙ asks in cc) obeys
