-- A trial, put together from the run of a book that keeps nothing.
use Rattle.std.proofs.Common.{◌≡◌, ◌≢◌, true, ℕ, List, [], ◌++◌, Option, Some, None, refl, sym, ap, ◌∙◌, subst, ⊎_elim, arith}
use Rattle.tf_desk.specs.State.{DeskState}
use Rattle.tf_flow.specs.Plan.{plan_tree, PlanValue}
use Rattle.tf_states.specs.declared.record.Entry.{Entry}
use Rattle.tf_ports.specs.declared.crews.Want.{Want}
use Rattle.tf_actions.specs.declared.orders.Order.{Order}
use Rattle.tf_actions.specs.declared.outcomes.Outcome.{Outcome}
use Rattle.tf_numbers.specs.Numbers.{Rises}
use Rattle.tf_entries.specs.Heads.{head_bytes}
use Rattle.tf_entries.specs.declared.heads.Head.TheVariants as head
use Rattle.tf_entries.specs.Plans.{plan_bytes}
use Rattle.tf_entries.proofs.LengthLemmas.{plan_bounds}
use Rattle.std.proofs.lemmas.List.{length-append}
use Rattle.tf_details.specs.Elements.{Element, Contents}
use Rattle.tf_book.specs.Book.{BookValue, begun_contents, HasPlaceFor, IsFullToBegin}
use Rattle.tf_book.specs.Shelf.{ShelfValue}
use Rattle.tf_book.specs.Starting.{FailsToStart}
use Rattle.tf_book.specs.declared.faults.BookFault.{BookFault}
use Rattle.tf_book.specs.declared.faults.BookFault.TheVariants as fault
use Rattle.tf_book.specs.declared.faults.Halt.{Halt}
use Rattle.tf_book.specs.declared.faults.Halt.TheVariants as halt
use Rattle.tf_book.proofs.SpokenLemmas.{shown_none}
use Rattle.tf_commands.specs.Begun.{cause_in}
use Rattle.tf_commands.specs.Asking.{HasEachCause, counts_of}
use Rattle.tf_commands.specs.Behaviour.{Tried}
use Rattle.std.specs.List.{AllByRecursion}
use Rattle.tf_model.specs.Plan.{outline_of}
use Rattle.tf_ports.specs.Ports.{IsFresh}
use Rattle.tf_commands.proofs.OrderLemmas.{none_given}
use Rattle.tf_commands.specs.Books.{HasStopped, WereGiven, TouchesNoFile, spoken_run, Ran, RunShows, closed, stopped, disk_failed}
use Rattle.tf_report.specs.Closing.{disk_fault_text, ClosesWith}
use Rattle.tf_report.specs.declared.statuses.TheConstants.{UNREAD, DISK_FAILED, UNSAID, UNHIRED, OUT_OF_MEMORY}
use Rattle.tf_commands.specs.declared.running.Request.{Request}
use Rattle.tf_commands.specs.Runs.{HasSaidHalt, book_desk, RunsOn}
use Rattle.tf_commands.proofs.AskedLemmas.{ran_more}
use Rattle.tf_commands.proofs.CountLemmas.{reaches_itself, ran_causes}
use Rattle.tf_commands.proofs.RunLemmas.{unbegun}

-- a book without an element isn't full for a plan
pub none_full : (plan : PlanValue) (size need : ℕ) → IsFullToBegin [] plan size need → ⊥
none_full plan size need full =
    omega (arith, full.size_is, full.need_is, full.over, length-append (head_bytes head.Detail) (plan_bytes plan), (plan_bounds plan full.history.accepted).1)

-- it has place for every plan
pub place_in_none : (elements : List Element) (plan : PlanValue) → elements ≡ [] → HasPlaceFor elements plan
place_in_none elements plan none = subst (λ (l : List Element). HasPlaceFor l plan) (sym none) (record { few = omega arith; unnamed = refl })

-- it couldn't begin
tried_ends : (gives : Order → Outcome → Type 0) (hands : Want) (asked : Type 0) (did : List (Option (List Order))) (plan : PlanValue) (before after : Option (List ℕ)) (closing : List ℕ) (status : ℕ)
    → RunShows gives (spoken_run hands None) (begun_contents [] plan) plan [] [] before after None closing status → AllByRecursion IsFresh did
    → Tried gives hands asked (Some did) (plan_tree plan) before after status
tried_ends gives hands asked did plan before after closing status text fresh = record {
  plan = plan;
  same = refl;
  entries = [];
  stop = None;
  closing = closing;
  ran = unbegun gives (spoken_run hands None) asked (begun_contents [] plan) plan before after closing status text;
  orders_given = none_given (HasStopped status) (outline_of plan) [] did fresh;
}

pub tried_exhausted : (gives : Order → Outcome → Type 0) (hands : Want) (asked : Type 0) (did : List (Option (List Order))) (plan : PlanValue) (before after : Option (List ℕ)) (status : ℕ) → status ≡ OUT_OF_MEMORY → after ≡ before → AllByRecursion IsFresh did
    → Tried gives hands asked (Some did) (plan_tree plan) before after status
tried_exhausted gives hands asked did plan before after status out quiet fresh =
    tried_ends gives hands asked did plan before after [] status
    (subst (λ (n : ℕ). RunShows gives (spoken_run hands None) (begun_contents [] plan) plan [] [] before after None [] n) (sym out) (stopped (quiet ∙ sym (shown_none before)))) fresh

tried_unbegun : {K : Type 0} (state : K → DeskState) (gives : Order → Outcome → Type 0) (hands : Want) (asked : Type 0) (did : List (Option (List Order))) (shelf : ShelfValue K) (plan : PlanValue) (why : BookFault) (old mid : K) (now : DeskState) (status : ℕ)
    → shelf.elements ≡ [] → FailsToStart state shelf plan why old mid → HasSaidHalt (cause_in why) (state mid) now status → AllByRecursion IsFresh did
    → Tried gives hands asked (Some did) (plan_tree plan) (state mid).shown now.shown status
tried_unbegun state gives hands asked did shelf plan fault.Disk old mid now status none fails s fresh =
    tried_ends gives hands asked did plan (state mid).shown now.shown s.closing status
    (subst (λ (c : List ℕ). RunShows gives (spoken_run hands None) (begun_contents [] plan) plan [] [] (state mid).shown now.shown None c status) (sym s.ends.0)
    (closed disk_fault_text DISK_FAILED status (disk_failed None refl) (subst (λ (o : Option (List ℕ)). ClosesWith o disk_fault_text DISK_FAILED now.shown status) (sym (shown_none (state mid).shown)) s.ends.1))) fresh
tried_unbegun state gives hands asked did shelf plan fault.Memory old mid now status none fails s fresh =
    tried_exhausted gives hands asked did plan (state mid).shown now.shown status s.ends.1 s.ends.2 fresh
tried_unbegun state gives hands asked did shelf plan (fault.Full size need) old mid now status none fails s fresh =
    absurd (none_full plan size need (subst (λ (e : List Element). IsFullToBegin e plan size need) none fails.0))
tried_unbegun state gives hands asked did shelf plan fault.Out old mid now status none fails s fresh = absurd fails
tried_unbegun state gives hands asked did shelf plan (fault.Halted cause) old mid now status none fails s fresh = absurd fails

-- what a start that failed tells of faults, and that it only said so
pub start_said : {K : Type 0} (state : K → DeskState) (shelf : ShelfValue K) (plan : PlanValue) (why : BookFault) (old mid : K) (now : DeskState) (status : ℕ)
    → FailsToStart state shelf plan why old mid → HasSaidHalt (cause_in why) (state mid) now status → (status ≡ UNSAID → Rises (state mid).out_faults now.out_faults) × (status ≡ DISK_FAILED → Rises (state old).disk_faults (state mid).disk_faults)
start_said state shelf plan fault.Disk old mid now status fails s = (λ is. ⊎_elim (λ out. absurd (cc)) (λ rose. rose) (s.unsaid is), λ is. fails.1)
start_said state shelf plan fault.Memory old mid now status fails s = (λ is. ⊎_elim (λ out. absurd (cc)) (λ rose. rose) (s.unsaid is), λ is. (let same : halt.Memory ≡ halt.Disk = s.failed is in absurd (cc)))
start_said state shelf plan (fault.Full size need) old mid now status fails s = (λ is. ⊎_elim (λ out. absurd (cc)) (λ rose. rose) (s.unsaid is), λ is. (let same : halt.Full size need ≡ halt.Disk = s.failed is in absurd (cc)))
start_said state shelf plan fault.Out old mid now status fails s = absurd fails
start_said state shelf plan (fault.Halted cause) old mid now status fails s = absurd fails

module _ {K : Type 0} (state : K → DeskState) where
  -- it ran
  pub tried_run : (gives : Order → Outcome → Type 0) (request : Request) (asked more : Type 0) (did : List (Option (List Order))) (plan : PlanValue) (entry : K) (book : BookValue K) (now : DeskState) (status : ℕ)
      → request ≡ spoken_run request.want None → book.plan ≡ plan → book.past ≡ [] → book.contents ≡ begun_contents [] plan → book.journal.desk ≡ entry
      → RunsOn state gives request asked did book now status → (asked → more) → Tried gives request.want more (Some did) (plan_tree plan) (state entry).shown now.shown status
  tried_run gives request asked more did plan entry book now status said plan_is past_is contents_is desk_is r widens = record {
    plan = plan;
    same = refl;
    entries = r.entries;
    stop = r.stop;
    closing = r.closing;
    ran = subst (λ (q : Request). Ran gives q more (begun_contents [] plan) plan [] r.entries r.stop (state entry).shown now.shown r.closing status) said
        (ran_more gives request asked more (begun_contents [] plan) plan [] r.entries r.stop (state entry).shown now.shown r.closing status widens
        (subst (λ (c : Contents). Ran gives request asked c plan [] r.entries r.stop (state entry).shown now.shown r.closing status) contents_is
        (subst (λ (q : PlanValue). Ran gives request asked book.contents q [] r.entries r.stop (state entry).shown now.shown r.closing status) plan_is
        (subst (λ (d : K). Ran gives request asked book.contents book.plan [] r.entries r.stop (state d).shown now.shown r.closing status) desk_is
        (subst (λ (p : List Entry). Ran gives request asked book.contents book.plan p r.entries r.stop (book_desk state book).shown now.shown r.closing status) past_is r.ran)))));
    orders_given = subst (λ (q : PlanValue). WereGiven (HasStopped status) (outline_of q) [] (r.entries ++ []) did) plan_is
        (subst (λ (p : List Entry). WereGiven (HasStopped status) (outline_of book.plan) p (r.entries ++ p) did) past_is r.orders_given);
  }

  -- what a status tells of faults
  pub causes_run : {gives : Order → Outcome → Type 0} {request : Request} {asked : Type 0} {did : List (Option (List Order))} (entry : K) {book : BookValue K} {now : DeskState} {status : ℕ} → book.journal.desk ≡ entry
      → RunsOn state gives request asked did book now status → (status ≢ UNREAD) × (status ≢ UNHIRED)
      → HasEachCause status (counts_of (state entry) 0 0) (counts_of now 0 0)
  causes_run entry {book} {now} {status} desk_is r apart =
      subst (λ (d : K). HasEachCause status (counts_of (state d) 0 0) (counts_of now 0 0)) desk_is
      (ran_causes reaches_itself r.continues r.ended (omega arith) apart)

  -- a run of which nothing is kept touches no file
  pub stays_run : {gives : Order → Outcome → Type 0} {request : Request} {asked : Type 0} {did : List (Option (List Order))} (entry : K) {book : BookValue K} {now : DeskState} {status : ℕ}
      → book.journal.desk ≡ entry → book.journal.volatile ≡ true
      → RunsOn state gives request asked did book now status → TouchesNoFile (state entry) now
  stays_run entry {book} {now} desk_is volatile r =
      let off = r.off_disk volatile in
      subst (λ (d : K). TouchesNoFile (state d) now) desk_is (off.files, off.disk_faults)

  -- and what the desk tells stays
  pub tells_run : {gives : Order → Outcome → Type 0} {request : Request} {asked : Type 0} {did : List (Option (List Order))} (entry : K) {book : BookValue K} {now : DeskState} {status : ℕ} → book.journal.desk ≡ entry
      → RunsOn state gives request asked did book now status → now.tells ≡ (state entry).tells
  tells_run entry {book} {now} desk_is r = subst (λ (d : K). now.tells ≡ (state d).tells) desk_is r.continues.extends.tells

  -- it couldn't begin, and only said so
  pub stays_unbegun : {why : Halt} (entry mid : K) (now : DeskState) (status : ℕ) → mid ≡ entry → HasSaidHalt why (state mid) now status → TouchesNoFile (state entry) now
  stays_unbegun entry mid now status same s =
      subst (λ (d : K). TouchesNoFile (state d) now) same ((λ told. ((s.says.files told).files, s.says.marks told)), s.says.disk_faults)

  -- its causes
  pub unbegun_causes : {why : Halt} (entry mid : K) (now : DeskState) (status : ℕ) → mid ≡ entry → HasSaidHalt why (state mid) now status
      → (status ≡ UNSAID → Rises (state mid).out_faults now.out_faults) × (status ≡ DISK_FAILED → Rises (state entry).disk_faults (state mid).disk_faults)
      → HasEachCause status (counts_of (state entry) 0 0) (counts_of now 0 0)
  unbegun_causes entry mid now status same s told = record {
    none_falls = record { disk = omega (arith, ap (λ (d : K). (state d).disk_faults) same, s.says.disk_faults); out = omega (arith, ap (λ (d : K). (state d).out_faults) same, s.says.out_faults); sources = omega arith; crew = omega arith; asks = omega (arith, ap (λ (d : K). (state d).asks) same, s.says.asks) };
    unread = λ is. absurd (s.apart.0 is);
    failed = λ is. (let rose : Rises (state entry).disk_faults (state mid).disk_faults = told.1 is in omega (arith, rose, s.says.disk_faults));
    unsaid = λ is. (let rose : Rises (state mid).out_faults now.out_faults = told.0 is in omega (arith, rose, ap (λ (d : K). (state d).out_faults) same));
    unhired = λ is. absurd (s.apart.1 is);
  }

  -- it couldn't begin on a desk that is the one at entry
  pub tried_unbegun_on : (gives : Order → Outcome → Type 0) (hands : Want) (asked : Type 0) (did : List (Option (List Order))) (shelf : ShelfValue K) (plan : PlanValue) (why : BookFault) (entry old mid : K) (now : DeskState) (status : ℕ)
      → shelf.elements ≡ [] → mid ≡ entry → FailsToStart state shelf plan why old mid → HasSaidHalt (cause_in why) (state mid) now status → AllByRecursion IsFresh did
      → Tried gives hands asked (Some did) (plan_tree plan) (state entry).shown now.shown status
  tried_unbegun_on gives hands asked did shelf plan why entry old mid now status none same fails s fresh =
      subst (λ (d : K). Tried gives hands asked (Some did) (plan_tree plan) (state d).shown now.shown status) same
      (tried_unbegun state gives hands asked did shelf plan why old mid now status none fails s fresh)
