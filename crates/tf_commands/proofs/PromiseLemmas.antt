-- What is promised of a command on a book: how it was opened, and how the run went.
use Rattle.std.proofs.Common.{◌≡◌, ◌⊎◌, ℕ, ◌≤◌, List, [], ◌++◌, length, Bool, Option, Some, None, refl, sym, ap, ◌∙◌, subst, inl, inr, ⊎_elim, append-nil, arith}
use Rattle.std.specs.Prelude.{IsTrue, false, unwrap_or}
use Rattle.std.specs.List.{AllByRecursion}
use Rattle.tf_model.specs.Plan.{outline_of}
use Rattle.tf_ports.specs.Ports.{GivenBack, IsFresh}
use Rattle.tf_desk.proofs.StateLemmas.{extends_told}
use Rattle.tf_desk.specs.Crash.{Pairs, ShowsPrefix}
use Rattle.tf_desk.specs.State.{DeskState, told_as, Continues, Says}
use Rattle.tf_flow.specs.Plan.{PlanValue}
use Rattle.tf_journal.specs.Format.{Recovered, bodies, LeavesBodies}
use Rattle.tf_journal.specs.Start.{Path, IsSet, Untouched, Open, file_of, IsStart}
use Rattle.tf_journal.specs.declared.title.Title.TheVariants.{Book2 as book_title}
use Rattle.tf_actions.specs.declared.orders.Order.{Order}
use Rattle.tf_actions.specs.declared.outcomes.Outcome.{Outcome}
use Rattle.tf_states.specs.declared.record.Entry.{Entry}
use Rattle.tf_details.specs.Elements.{Element, detail, Contents}
use Rattle.tf_book.specs.Book.{BookValue, bodies_with, begun_contents}
use Rattle.tf_book.specs.SessionInvariant.{IsExact}
use Rattle.tf_book.proofs.SpokenLemmas.{shown_none}
use Rattle.tf_journal.proofs.PathLemmas.{set_start, path_said}
use Rattle.tf_book.specs.declared.faults.BookFault.{BookFault}
use Rattle.tf_book.specs.declared.faults.BookFault.TheVariants as fault
use Rattle.tf_book.specs.declared.faults.Halt.TheVariants as halt
use Rattle.tf_commands.specs.Begun.{cause_in, FailsToBegin, Begins, Unbegun}
use Rattle.tf_commands.specs.Books.{Promised, RunsAnew, overfull, ran, HasStopped, book_in, book_at, HoldsNoFlow, FindsSince, MayLeave, Lasts, MayRun, Ran, RunShows, closed, stopped, disk_failed}
use Rattle.tf_report.specs.Closing.{disk_fault_text, book_full, ClosesWith}
use Rattle.tf_report.specs.declared.statuses.TheConstants.{DISK_FAILED, OUT_OF_MEMORY, FULL}
use Rattle.tf_commands.specs.declared.running.Request.{Request}
use Rattle.tf_commands.specs.Runs.{SaysHalt, HasSaidHalt, book_desk, HoldsBook, RunLasts, LastsFrom, RunsOn}
use Rattle.tf_commands.proofs.AloneLemmas.{refuses_untouched}
use Rattle.tf_commands.proofs.AskedLemmas.{ran_more}
use Rattle.tf_commands.proofs.FlowLemmas.{none_held, flow_held}
use Rattle.tf_commands.proofs.HaltLemmas.{none_so}
use Rattle.tf_commands.proofs.HeldLemmas.{legal_before}
use Rattle.tf_commands.proofs.OrderLemmas.{none_given}
use Rattle.tf_commands.proofs.PathLemmas.{ReadsPicked, reads_as, set_continues, path_continues}
use Rattle.tf_commands.proofs.RunLemmas.{unbegun}

-- a crash that left the file as a run found it
found_leaves : (first : Recovered) (contents : Contents) (plan : PlanValue) (quiet : Bool) (before entries pending : List Entry) (shown : Option (List ℕ)) (closing image text : List ℕ)
    → FindsSince first contents [] (book_in image) → shown ≡ Some text
    → MayLeave first contents plan quiet before entries pending shown closing image text
found_leaves first contents plan quiet before entries pending shown closing image text finds is = record {
  lost = pending ++ entries;
  kept = [];
  oldest = sym (append-nil (pending ++ entries));
  finds = finds;
  spoken = inl (record { count = 0; prefix = sym is ∙ sym (shown_none shown) });
}

-- the same promise, by equal contents, plan and history
promised_as : {gives : Order → Outcome → Type 0} {request : Request} {asked : Type 0} {back : GivenBack} {name : List ℕ} {contents held : Contents} {plan same : PlanValue} {before past : List Entry} {entry now : DeskState} {status : ℕ}
    → contents ≡ held → plan ≡ same → before ≡ past
    → Promised gives request asked back name contents plan before entry now status → Promised gives request asked back name held same past entry now status
promised_as {gives} {request} {asked} {back} {name} {contents} {held} {plan} {same} {before} {past} {entry} {now} {status} contents_is plan_is past_is p =
    subst (λ (l : List Entry). Promised gives request asked back name held same l entry now status) past_is
    (subst (λ (q : PlanValue). Promised gives request asked back name held q before entry now status) plan_is
    (subst (λ (c : Contents). Promised gives request asked back name c plan before entry now status) contents_is p))

-- a run that couldn't begin: its message was said or cut, or memory ran out
pub unbegun_promised : (gives : Order → Outcome → Type 0) (request : Request) (asked : Type 0) (did : List (Option (List Order))) (name : List ℕ) (elements : List Element) (plan : PlanValue) (entry mid now : DeskState) (closing : List ℕ) (status : ℕ)
    → Unbegun name entry elements plan mid
    → ((closing ≡ disk_fault_text) × ClosesWith mid.shown disk_fault_text DISK_FAILED now.shown status) ⊎ ((closing ≡ []) × (status ≡ OUT_OF_MEMORY) × (now.shown ≡ mid.shown))
    → Says closing mid now → ReadsPicked name now → AllByRecursion IsFresh did
    → Promised gives request asked (Some did) name (begun_contents elements plan) plan [] entry now status
unbegun_promised gives request asked did name elements plan entry mid now closing status u ends says laws fresh = record {
  entries = [];
  stop = None;
  closing = closing;
  ran = unbegun gives request asked (begun_contents elements plan) plan entry.shown now.shown closing status (text ends);
  orders_given = none_given (HasStopped status) (outline_of plan) [] did fresh;
  lasts = λ told.
      let contents = begun_contents elements plan in
      let told_mid : IsTrue mid.tells = subst IsTrue (sym u.quiet.told) told in
      let told_now : IsTrue now.tells = subst IsTrue (sym says.tells) told_mid in
      let still = says.files told_mid in
      let picked : now.content.picked ≡ Some name = still.picked ∙ (u.quiet.set told).picked in
      let read = reads_as picked laws told_now in
      let path = path_said {wider = MayLeave (book_at entry name) contents plan request.quiet [] [] [] entry.shown closing} (u.path told) told_mid says
      (λ image text may. found_leaves (book_at entry name) contents plan request.quiet [] [] [] entry.shown closing image text may.0 may.1)
      (λ image text finds prefix. record {
        lost = [];
        kept = [];
        oldest = refl;
        finds = finds;
        spoken = inr (
          [],
          refl,
          subst (λ (o : Option (List ℕ)). ShowsPrefix o closing (Some text)) (sym (shown_none entry.shown))
              (subst (λ (o : Option (List ℕ)). ShowsPrefix o closing (Some text)) u.quiet.shown prefix),
        );
      }) in
      let start = set_start (u.quiet.set told) in
      let start_now : IsStart name entry now start.0 = record { more = start.1.more; added = says.marks told_mid ∙ start.1.added; first = start.1.first } in
      record {
        pending = [];
        few = none_so (MayRun gives request plan) plan [] [] entry now refl;
        file = inl (path.still start.0 start_now (file_of now name) read.0);
        exact = λ none short unrisen holds.
            let same : file_of now name ≡ file_of entry name =
            ap (λ (f : List ℕ → Option (List ℕ)). unwrap_or (f name) []) still.files ∙ u.same (λ rose. unrisen (omega (arith, rose, says.disk_faults))) told in
            absurd (none_held (book_at entry name) (detail plan) elements none (ap book_in (sym same) ∙ holds.is));
        others = path.others;
        crash = path.crash;
      };
}
  where
    text : ((closing ≡ disk_fault_text) × ClosesWith mid.shown disk_fault_text DISK_FAILED now.shown status) ⊎ ((closing ≡ []) × (status ≡ OUT_OF_MEMORY) × (now.shown ≡ mid.shown))
        → RunShows gives request (begun_contents elements plan) plan [] [] entry.shown now.shown None closing status
    text (inl said) = subst (λ (c : List ℕ). RunShows gives request (begun_contents elements plan) plan [] [] entry.shown now.shown None c status) (sym said.0)
        (closed disk_fault_text DISK_FAILED status (disk_failed None refl)
        (subst (λ (o : Option (List ℕ)). ClosesWith o disk_fault_text DISK_FAILED now.shown status) (u.quiet.shown ∙ sym (shown_none entry.shown)) said.1))
    text (inr out) = subst (λ (c : List ℕ). RunShows gives request (begun_contents elements plan) plan [] [] entry.shown now.shown None c status) (sym out.0)
        (subst (λ (n : ℕ). RunShows gives request (begun_contents elements plan) plan [] [] entry.shown now.shown None [] n) (sym out.1) (stopped (out.2 ∙ u.quiet.shown ∙ sym (shown_none entry.shown))))

-- a new detail that couldn't begin, and why that was said
pub unbegun_anew : {K : Type 0} (state : K → DeskState) (gives : Order → Outcome → Type 0) (request : Request) (asked : Type 0) (did : List (Option (List Order))) (name : List ℕ) (elements : List Element) (plan : PlanValue) (why : BookFault)
    (entry : DeskState) (opened mid now : K) (status : ℕ) → Open name entry (told_as (state mid) (state opened)) → Unbegun name entry elements plan (state mid) → FailsToBegin state elements plan why opened mid
    → HasSaidHalt (cause_in why) (state mid) (state now) status → ReadsPicked name (state now) → AllByRecursion IsFresh did
    → RunsAnew gives request asked (Some did) name elements plan entry (state now) status
unbegun_anew state gives request asked did name elements plan fault.Disk entry opened mid now status o u fails s laws fresh =
    ran (unbegun_promised gives request asked did name elements plan entry (state mid) (state now) s.closing status u (inl s.ends) s.says laws fresh)
unbegun_anew state gives request asked did name elements plan fault.Memory entry opened mid now status o u fails s laws fresh =
    ran (unbegun_promised gives request asked did name elements plan entry (state mid) (state now) s.closing status u (inr s.ends) s.says laws fresh)
unbegun_anew {K} state gives request asked did name elements plan (fault.Full size need) entry opened mid now status o u fails s laws fresh = by s.ends
  where
    untouched : Untouched name entry (state mid)
    untouched = subst (λ (d : K). Untouched name entry (told_as (state mid) (state d))) (sym fails.1) o.untouched

    by : SaysHalt (state mid).shown (state now).shown (halt.Full size need) s.closing status → RunsAnew gives request asked (Some did) name elements plan entry (state now) status
    by (inl out) = ran (unbegun_promised gives request asked did name elements plan entry (state mid) (state now) s.closing status u (inr out) s.says laws fresh)
    by (inr said) = overfull size need fresh fails.0
        (refuses_untouched (book_full size need) FULL status untouched said.1 (subst (λ (text : List ℕ). Says text (state mid) (state now)) said.0 s.says))
unbegun_anew state gives request asked did name elements plan fault.Out entry opened mid now status o u fails s laws fresh = absurd fails
unbegun_anew state gives request asked did name elements plan (fault.Halted cause) entry opened mid now status o u fails s laws fresh = absurd fails

module _ {K : Type 0} (state : K → DeskState) where
  -- how the file lasts through a run that went on from one that was set
  run_lasts : (may_be : List Entry → Entry → Type 0) (name : List ℕ) (entry : DeskState) (book : BookValue K) (now : DeskState) (entries : List Entry) (closing : List ℕ) {may : Pairs} {held : List ℕ → Type 0}
      → Path name entry (book_desk state book) may held → IsSet name entry (book_desk state book)
      → (book_desk state book).shown ≡ entry.shown → entry.disk_faults ≤ (book_desk state book).disk_faults
      → Continues (book_desk state book) now → IsTrue (book_desk state book).tells
      → (r : RunLasts state may_be (book_at entry name) book now entries closing)
      → ((image text : List ℕ) → may image text → MayLeave (book_at entry name) book.contents book.plan book.quiet book.past entries r.pending entry.shown closing image text)
      → (HoldsNoFlow (book_at entry name) → length (file_of entry name) ≤ 18 → IsExact (book_desk state book) book.contents)
      → ReadsPicked name now
      → Lasts may_be name book.contents book.plan book.quiet book.past entries entry now closing
  run_lasts may_be name entry book now entries closing path set quiet before call told r widens known laws =
      let set_now = set_continues set call told in
      let read = reads_as set_now.picked laws (extends_told call.extends told) in
      let on = path_continues {wider = MayLeave (book_at entry name) book.contents book.plan book.quiet book.past entries r.pending entry.shown closing} {holds = λ image. Unit {0}} path set call told r.passes widens
      (λ image text leaves. subst (λ (o : Option (List ℕ)). MayLeave (book_at entry name) book.contents book.plan book.quiet book.past entries r.pending o closing image text) quiet leaves) (λ image is. tt) in
      record {
        pending = r.pending;
        few = record { few = r.few.few; caused = ⊎_elim (λ none. inl none) (λ rose. inr (omega (arith, rose, before))) r.few.caused };
        file = ⊎_elim (λ found. inl (inl (record { is = found; legal = legal_before book.contents r.pending entries r.legal })))
            (λ found. inr (record { is = found; legal = r.legal })) (r.leaves (file_of now name) read.0);
        exact = λ none short unrisen holds. read.1 ∙ r.exact (λ rose. unrisen (omega (arith, rose, before))) (known none short);
        others = on.others;
        crash = on.crash;
      }

  -- a run that began in this call
  pub begun_promised : (gives : Order → Outcome → Type 0) (request : Request) (asked more : Type 0) (did : List (Option (List Order))) (name : List ℕ) (elements : List Element) (plan : PlanValue) (entry : DeskState) (book : BookValue K) (now : DeskState) (status : ℕ)
      → Begins state name entry elements plan book
      → RunsOn state gives request asked did book now status → ReadsPicked name now
      → book.quiet ≡ request.quiet → (asked → more)
      → Promised gives request more (Some did) name (begun_contents elements plan) plan [] entry now status
  begun_promised gives request asked more did name elements plan entry book now status b r laws speaks widens = promised_as b.contents_is b.plan_is b.past_is (record {
    entries = r.entries;
    stop = r.stop;
    closing = r.closing;
    ran = ran_more gives request asked more book.contents book.plan book.past r.entries r.stop entry.shown now.shown r.closing status widens
        (subst (λ (o : Option (List ℕ)). Ran gives request asked book.contents book.plan book.past r.entries r.stop o now.shown r.closing status) b.quiet.shown r.ran);
    orders_given = r.orders_given;
    lasts = λ told.
        let told_book : IsTrue (book_desk state book).tells = subst IsTrue (sym b.quiet.told) told in
        let start = set_start (b.quiet.set told) in
        let at_rest : LeavesBodies book_title (book_desk state book) (bodies_with book.contents []) =
        (λ image is. ((b.path told).still start.0 start.1 image is).is ∙ ap (λ (c : Contents). bodies (bodies_with c [])) (sym b.contents_is)) in
        let l = r.lasts told_book b.kept at_rest (book_at entry name) in
        subst (λ (q : Bool). Lasts (MayRun gives request book.plan) name book.contents book.plan q book.past r.entries entry now r.closing) speaks
        (run_lasts (MayRun gives request book.plan) name entry book now r.entries r.closing (b.path told) (b.quiet.set told) b.quiet.shown b.quiet.disk r.continues told_book l
        (λ image text may. found_leaves (book_at entry name) book.contents book.plan book.quiet book.past r.entries l.pending entry.shown r.closing image text
        (subst (λ (c : Contents). FindsSince (book_at entry name) c [] (book_in image)) (sym b.contents_is) may.0) may.1)
        (λ none short. subst (IsExact (book_desk state book)) (sym b.contents_is) (b.exact told none short))
        laws);
  })

  -- how the file lasts through what went on from the contents which the file held
  pub opened_lasts : (may_be : List Entry → Entry → Type 0) (name : List ℕ) (wanted : Option (List ℕ)) (entry : DeskState) (book : BookValue K) (now : DeskState) (entries : List Entry) (closing : List ℕ)
      → Open name entry (book_desk state book) → book.journal.volatile ≡ false → HoldsBook name wanted entry book
      → LastsFrom state may_be book now entries closing → Continues (book_desk state book) now → ReadsPicked name now
      → IsTrue entry.tells
      → Lasts may_be name book.contents book.plan book.quiet book.past entries entry now closing
  opened_lasts may_be name wanted entry book now entries closing o kept holds lasts call laws told =
      let h = (holds told).holds in
      let told_book : IsTrue (book_desk state book).tells = subst IsTrue (sym o.untouched.told) told in
      let start = set_start (o.set told) in
      let path = o.untouched.path told in
      let at_rest : LeavesBodies book_title (book_desk state book) (bodies_with book.contents []) =
      (λ image is. ap book_in (path.still start.0 start.1 image is) ∙ h.is) in
      let l = lasts told_book kept at_rest (book_at entry name) in
      run_lasts may_be name entry book now entries closing path (o.set told) o.untouched.quiet o.untouched.disk call told_book l
      (λ image text may. found_leaves (book_at entry name) book.contents book.plan book.quiet book.past entries l.pending entry.shown closing image text
      (inl (record { is = ap book_in may.0 ∙ h.is; legal = h.held.legal })) may.1)
      (λ none short. absurd (flow_held (book_at entry name) book.plan book.contents none h.held h.is))
      laws

  -- a run that went on from the history which the file held
  pub resumed_promised : (gives : Order → Outcome → Type 0) (request : Request) (asked : Type 0) (did : List (Option (List Order))) (name : List ℕ) (wanted : Option (List ℕ)) (entry : DeskState) (book : BookValue K) (now : DeskState) (status : ℕ)
      → Open name entry (book_desk state book) → book.journal.volatile ≡ false → HoldsBook name wanted entry book
      → RunsOn state gives request asked did book now status → ReadsPicked name now
      → book.quiet ≡ request.quiet
      → Promised gives request asked (Some did) name book.contents book.plan book.past entry now status
  resumed_promised gives request asked did name wanted entry book now status o kept holds r laws speaks = record {
    entries = r.entries;
    stop = r.stop;
    closing = r.closing;
    ran = subst (λ (t : Option (List ℕ)). Ran gives request asked book.contents book.plan book.past r.entries r.stop t now.shown r.closing status) o.untouched.quiet r.ran;
    orders_given = r.orders_given;
    lasts = λ told.
        subst (λ (q : Bool). Lasts (MayRun gives request book.plan) name book.contents book.plan q book.past r.entries entry now r.closing) speaks
        (opened_lasts (MayRun gives request book.plan) name wanted entry book now r.entries r.closing o kept holds r.lasts r.continues laws told);
  }
