-- A log has one verdict.
use Rattle.std.proofs.Common.{◌≡◌, ℕ, ◌+◌, ◌-◌, ◌<◌, ◌^◌, List, [], ◌∷◌, ◌++◌, length, filter, Bool, true, cond, None, refl, sym, ap, subst, ◌∙◌, arith, append_assoc, append-nil, length-append}
use Rattle.std.specs.List.{AllByRecursion}
use Rattle.std.proofs.lemmas.List.Elements.{filter-append}
use Rattle.tf_flow.specs.Plan.{PlanValue}
use Rattle.tf_flow.specs.Rules.{first_refusal}
use Rattle.tf_states.specs.declared.record.Entry.{Entry}
use Rattle.tf_states.specs.declared.state.FlowState.{FlowState}
use Rattle.tf_actions.specs.Gives.{GivesFar}
use Rattle.tf_model.specs.History.{snapshot, flow_of}
use Rattle.tf_model.specs.Scope.{IsGiven, HasOutcomes}
use Rattle.tf_model.specs.Plan.{Outline, outline_of}
use Rattle.tf_model.specs.Steps.{Step, LegalPast}
use Rattle.tf_report.specs.Lines.{line}
use Rattle.tf_audit.specs.Verdicts.{log_lines, is_examined, IsPlanEntry, IsLineOf, AreOfRun, IsFaulty, IsLegalLog, IsBadLog, IsVerdict}
use Rattle.tf_audit.specs.Names.{AreNamed}
use Rattle.tf_audit.specs.declared.verdicts.Verdict.{Verdict}
use Rattle.tf_audit.specs.declared.verdicts.Verdict.TheVariants as verdict
use Rattle.tf_audit.specs.declared.verdicts.Why.{Why}
use Rattle.tf_audit.specs.declared.verdicts.Why.TheVariants as why
use Rattle.tf_audit.proofs.EntryLemmas.{line_one}
use Rattle.tf_audit.proofs.FaultLemmas.{because_one}
use Rattle.tf_audit.proofs.LawLemmas.{printed}
use Rattle.tf_audit.proofs.LogLineLemmas.{all_back, run_short, run_lines}
use Rattle.tf_audit.proofs.OneLemmas.{snoc_one, nothing_snoc}

-- ---- lists

-- a list is empty, or has a last item
data Ends {A : Type 0} (xs : List A) : Type 0 where
  nothing : xs ≡ [] → Ends xs
  last : (init : List A) (x : A) → xs ≡ init ++ x ∷ [] → Ends xs

ends_more : {A : Type 0} (x : A) (xs : List A) → Ends xs → Ends (x ∷ xs)
ends_more x xs (nothing is) = last [] x (ap (λ r. x ∷ r) is)
ends_more x xs (last init y is) = last (x ∷ init) y (ap (λ r. x ∷ r) is)

ends : {A : Type 0} (xs : List A) → Ends xs
ends [] = nothing refl
ends (x ∷ xs) = ends_more x xs (ends xs)

nothing_middle : {A : Type 0} (xs ys : List A) (x : A) → [] ≡ xs ++ x ∷ ys → ⊥
nothing_middle [] ys x is = cc
nothing_middle (y ∷ xs) ys x is = cc

-- two items of one list, by what stands before them: they are one, or one stands later
data Meets {A : Type 0} (before other : List A) (x y : A) : Type 0 where
  both : before ≡ other → x ≡ y → Meets before other x y
  later : (more : List A) → other ≡ before ++ x ∷ more → Meets before other x y
  earlier : (more : List A) → before ≡ other ++ y ∷ more → Meets before other x y

meets_more : {A : Type 0} (before other : List A) (x y a b : A) → a ≡ b → Meets before other x y → Meets (a ∷ before) (b ∷ other) x y
meets_more before other x y a b heads (both is same) = both (λ i. heads i ∷ is i) same
meets_more before other x y a b heads (later more is) = later more (λ i. sym heads i ∷ is i)
meets_more before other x y a b heads (earlier more is) = earlier more (λ i. heads i ∷ is i)

meets : {A : Type 0} (before other behind after : List A) (x y : A) → before ++ x ∷ behind ≡ other ++ y ∷ after → Meets before other x y
meets [] [] behind after x y is = let heads : x ≡ y = cc in both refl heads
meets [] (b ∷ other) behind after x y is = let heads : x ≡ b = cc in later other (ap (λ c. c ∷ other) (sym heads))
meets (a ∷ before) [] behind after x y is = let heads : a ≡ y = cc in earlier before (ap (λ c. c ∷ before) heads)
meets (a ∷ before) (b ∷ other) behind after x y is =
    let heads : a ≡ b = cc in
    let tails : before ++ x ∷ behind ≡ other ++ y ∷ after = cc in
    meets_more before other x y a b heads (meets before other behind after x y tails)

-- ---- the older part of a legal history

legal_rest : (plan : Outline) (newer past : List Entry) → LegalPast plan (newer ++ past) → LegalPast plan past
legal_rest plan [] past legal = legal
legal_rest plan (e ∷ newer) past legal = legal_rest plan newer past legal.1

given_rest : (plan : Outline) (newer past : List Entry) → HasOutcomes GivesFar plan (newer ++ past) → HasOutcomes GivesFar plan past
given_rest plan [] past given = given
given_rest plan (e ∷ newer) past given = given_rest plan newer past given.1

-- a history goes on behind another one by the entry of this line
record GoesOn (plan : Outline) (past whole : List Entry) (text : List ℕ) : Type 0 where
  newer : List Entry
  entry : Entry
  is : whole ≡ newer ++ entry ∷ past
  printed_so : text ≡ line plan (length past + 1) entry

goes_more : (plan : Outline) (past whole : List Entry) (text : List ℕ) (e : Entry) → GoesOn plan past whole text → GoesOn plan past (e ∷ whole) text
goes_more plan past whole text e g = record { newer = e ∷ g.newer; entry = g.entry; is = ap (λ (r : List Entry). e ∷ r) g.is; printed_so = g.printed_so }

module _ (plan : PlanValue) (accepted : first_refusal plan.root plan.store ≡ None) (named : AreNamed (outline_of plan)) where
  -- histories that print the same are one
  past_one : (past other : List Entry) → length past < 2 ^ 64 - 1 → length other < 2 ^ 64 - 1 → AllByRecursion (IsPlanEntry (outline_of plan)) past → AllByRecursion (IsPlanEntry (outline_of plan)) other
      → printed (outline_of plan) past ≡ printed (outline_of plan) other → past ≡ other
  past_one [] [] few few_too all all_too is = refl
  past_one [] (f ∷ other) few few_too all all_too is = absurd (nothing_snoc (printed (outline_of plan) other) (line (outline_of plan) (length other + 1) f) is)
  past_one (e ∷ past) [] few few_too all all_too is = absurd (nothing_snoc (printed (outline_of plan) past) (line (outline_of plan) (length past + 1) e) (sym is))
  past_one (e ∷ past) (f ∷ other) few few_too all all_too is =
      let p = snoc_one (printed (outline_of plan) past) (printed (outline_of plan) other) (line (outline_of plan) (length past + 1) e) (line (outline_of plan) (length other + 1) f) is in
      let rest : past ≡ other = past_one past other (omega arith) (omega arith) all.1 all_too.1 p.0 in
      let text = line (outline_of plan) (length past + 1) e in
      let first : IsLineOf (outline_of plan) (length past + 1) e text = record { fits = omega arith; entry = all.0; printed = refl } in
      let second : IsLineOf (outline_of plan) (length other + 1) f text = record { fits = omega arith; entry = all_too.0; printed = p.1 } in
      let heads : e ≡ f = (line_one plan accepted named (length past + 1) (length other + 1) e f text first second).1 in
      (λ i. heads i ∷ rest i)

  goes_last : (past whole : List Entry) (e : Entry) (text : List ℕ) → length past < 2 ^ 64 - 1 → length whole < 2 ^ 64 - 1 → AllByRecursion (IsPlanEntry (outline_of plan)) past → AllByRecursion (IsPlanEntry (outline_of plan)) whole
      → printed (outline_of plan) (e ∷ whole) ≡ printed (outline_of plan) past ++ text ∷ [] → GoesOn (outline_of plan) past (e ∷ whole) text
  goes_last past whole e text few few_too all all_too is =
      let p = snoc_one (printed (outline_of plan) whole) (printed (outline_of plan) past) (line (outline_of plan) (length whole + 1) e) text is in
      let same : whole ≡ past = past_one whole past few_too few all_too all p.0 in
      record {
        newer = [];
        entry = e;
        is = ap (λ (r : List Entry). e ∷ r) same;
        printed_so = sym p.1 ∙ ap (λ (r : List Entry). line (outline_of plan) (length r + 1) e) same;
      }

  goes_by : (past whole : List Entry) (e : Entry) (text : List ℕ) (more : List (List ℕ)) → length past < 2 ^ 64 - 1 → length whole < 2 ^ 64 - 1 → AllByRecursion (IsPlanEntry (outline_of plan)) past → AllByRecursion (IsPlanEntry (outline_of plan)) whole
      → ((init : List (List ℕ)) → printed (outline_of plan) whole ≡ printed (outline_of plan) past ++ text ∷ init → GoesOn (outline_of plan) past whole text)
      → printed (outline_of plan) (e ∷ whole) ≡ printed (outline_of plan) past ++ text ∷ more → Ends more → GoesOn (outline_of plan) past (e ∷ whole) text
  goes_by past whole e text more few few_too all all_too earlier_so is (nothing none) =
      goes_last past whole e text few few_too all all_too (is ∙ ap (λ (r : List (List ℕ)). printed (outline_of plan) past ++ text ∷ r) none)
  goes_by past whole e text more few few_too all all_too earlier_so is (last init final some) =
      let p = snoc_one (printed (outline_of plan) whole) (printed (outline_of plan) past ++ text ∷ init) (line (outline_of plan) (length whole + 1) e) final
      (is ∙ (ap (λ (r : List (List ℕ)). printed (outline_of plan) past ++ text ∷ r) some ∙ sym (append_assoc (printed (outline_of plan) past) (text ∷ init) (final ∷ [])))) in
      goes_more (outline_of plan) past whole text e (earlier_so init p.0)

  goes_on : (past whole : List Entry) (text : List ℕ) (more : List (List ℕ)) → length past < 2 ^ 64 - 1 → length whole < 2 ^ 64 - 1 → AllByRecursion (IsPlanEntry (outline_of plan)) past → AllByRecursion (IsPlanEntry (outline_of plan)) whole
      → printed (outline_of plan) whole ≡ printed (outline_of plan) past ++ text ∷ more → GoesOn (outline_of plan) past whole text
  goes_on past [] text more few few_too all all_too is = absurd (nothing_middle (printed (outline_of plan) past) more text is)
  goes_on past (e ∷ whole) text more few few_too all all_too is =
      goes_by past whole e text more few (omega arith) all all_too.1 (λ init so. goes_on past whole text init few (omega arith) all all_too.1 so) is (ends more)

  -- what a line of a legal run says can follow the lines before it
  unfaulty : (past : List Entry) (e : Entry) (text : List ℕ) (because : Why) → IsLineOf (outline_of plan) (length past + 1) e text → Step (outline_of plan) (snapshot (outline_of plan) past) e → IsGiven GivesFar (outline_of plan) past e.what
      → IsFaulty (outline_of plan) past text because → ⊥
  unfaulty past e text why.Unreadable here step given faulty = faulty (length past + 1) e here
  unfaulty past e text why.Number here step given (n, f, said, other) = other (line_one plan accepted named n (length past + 1) f e text said here).0
  unfaulty past e text (why.Forced w) here step given (f, said, (unfit, instead)) =
      unfit (subst (λ (x : Entry). Step (outline_of plan) (snapshot (outline_of plan) past) x) (line_one plan accepted named (length past + 1) (length past + 1) e f text here said).1 step)
  unfaulty past e text (why.First start) here step given (f, said, (unfit, instead)) =
      unfit (subst (λ (x : Entry). Step (outline_of plan) (snapshot (outline_of plan) past) x) (line_one plan accepted named (length past + 1) (length past + 1) e f text here said).1 step)
  unfaulty past e text why.NoStep here step given (f, said, (unfit, instead)) =
      unfit (subst (λ (x : Entry). Step (outline_of plan) (snapshot (outline_of plan) past) x) (line_one plan accepted named (length past + 1) (length past + 1) e f text here said).1 step)
  unfaulty past e text why.Value here step given (f, said, (fits, wrong)) =
      wrong (subst (λ (x : Entry). IsGiven GivesFar (outline_of plan) past x.what) (line_one plan accepted named (length past + 1) (length past + 1) e f text here said).1 given)

  goes_right : (past whole : List Entry) (text : List ℕ) (because : Why) → length whole < 2 ^ 64 - 1 → AllByRecursion (IsPlanEntry (outline_of plan)) whole → LegalPast (outline_of plan) whole → HasOutcomes GivesFar (outline_of plan) whole
      → GoesOn (outline_of plan) past whole text → IsFaulty (outline_of plan) past text because → ⊥
  goes_right past whole text because few all legal given g faulty =
      let entries : AllByRecursion (IsPlanEntry (outline_of plan)) (g.newer ++ g.entry ∷ past) = subst (λ (r : List Entry). AllByRecursion (IsPlanEntry (outline_of plan)) r) g.is all in
      let steps : LegalPast (outline_of plan) (g.newer ++ g.entry ∷ past) = subst (LegalPast (outline_of plan)) g.is legal in
      let outcomes : HasOutcomes GivesFar (outline_of plan) (g.newer ++ g.entry ∷ past) = subst (HasOutcomes GivesFar (outline_of plan)) g.is given in
      let long : length whole ≡ length (g.newer ++ g.entry ∷ past) = ap length g.is in
      let here : IsLineOf (outline_of plan) (length past + 1) g.entry text = record {
        fits = omega (arith, few, long, length-append g.newer (g.entry ∷ past));
        entry = (all_back (IsPlanEntry (outline_of plan)) g.newer (g.entry ∷ past) entries).0;
        printed = g.printed_so;
      } in
      unfaulty past g.entry text because here (legal_rest (outline_of plan) g.newer (g.entry ∷ past) steps).0 (given_rest (outline_of plan) g.newer (g.entry ∷ past) outcomes).0 faulty

  module _ (log : List ℕ) (few : length log < 2 ^ 64 - 1) where
    -- a line behind which a legal run goes on can be
    no_fault : (before texts more rest behind : List (List ℕ)) (past whole : List Entry) (text : List ℕ) (because : Why) → log_lines log ≡ before ++ rest → log_lines log ≡ texts ++ behind → texts ≡ before ++ text ∷ more
        → is_examined text ≡ true → AreOfRun (outline_of plan) before past → AreOfRun (outline_of plan) texts whole → IsFaulty (outline_of plan) past text because → ⊥
    no_fault before texts more rest behind past whole text because is_before is_texts is examined run ran faulty =
        let short = run_short (outline_of plan) log before rest past is_before run in
        let short_too = run_short (outline_of plan) log texts behind whole is_texts ran in
        let first = run_lines (outline_of plan) log before rest past named (omega arith) is_before run in
        let second = run_lines (outline_of plan) log texts behind whole named (omega arith) is_texts ran in
        let kept : filter is_examined (text ∷ more) ≡ text ∷ filter is_examined more = ap (λ (b : Bool). cond b (text ∷ filter is_examined more) (filter is_examined more)) examined in
        let goes : printed (outline_of plan) whole ≡ printed (outline_of plan) past ++ text ∷ filter is_examined more =
        sym second
        ∙ (ap (filter is_examined) is
        ∙ (filter-append is_examined before (text ∷ more)
        ∙ ((λ i. first i ++ kept i)))) in
        goes_right past whole text because (omega arith) ran.entries ran.legal ran.given
        (goes_on past whole text (filter is_examined more) (omega arith) (omega arith) run.entries ran.entries goes) faulty

    same_past : (texts rest : List (List ℕ)) (past other : List Entry) → log_lines log ≡ texts ++ rest → AreOfRun (outline_of plan) texts past → AreOfRun (outline_of plan) texts other → past ≡ other
    same_past texts rest past other is run ran =
        let short = run_short (outline_of plan) log texts rest past is run in
        let short_too = run_short (outline_of plan) log texts rest other is ran in
        past_one past other (omega arith) (omega arith) run.entries ran.entries
        (sym (run_lines (outline_of plan) log texts rest past named (omega arith) is run) ∙ run_lines (outline_of plan) log texts rest other named (omega arith) is ran)

    whole_log : log_lines log ≡ log_lines log ++ []
    whole_log = sym (append-nil (log_lines log))

    legal_or_bad : (entries : ℕ) (state : FlowState) (number : ℕ) (because : Why) → IsLegalLog (outline_of plan) log entries state → IsBadLog (outline_of plan) log number because → ⊥
    legal_or_bad entries state number because legal bad =
        no_fault bad.before (log_lines log) bad.behind (bad.text ∷ bad.behind) [] bad.past legal.past bad.text because bad.lines whole_log bad.lines bad.examined bad.run legal.run bad.faulty

    bad_one : (number other : ℕ) (because why_else : Why) (one : IsBadLog (outline_of plan) log number because) (two : IsBadLog (outline_of plan) log other why_else) → Meets one.before two.before one.text two.text → verdict.Bad number because ≡ verdict.Bad other why_else
    bad_one number other because why_else one two (both befores texts) =
        let pasts : one.past ≡ two.past = same_past one.before (one.text ∷ one.behind) one.past two.past one.lines one.run (subst (λ (r : List (List ℕ)). AreOfRun (outline_of plan) r two.past) (sym befores) two.run) in
        let short = run_short (outline_of plan) log one.before (one.text ∷ one.behind) one.past one.lines one.run in
        let faulty : IsFaulty (outline_of plan) one.past one.text why_else = subst (λ (r : List Entry). IsFaulty (outline_of plan) r one.text why_else) (sym pasts) (subst (λ (t : List ℕ). IsFaulty (outline_of plan) two.past t why_else) (sym texts) two.faulty) in
        let reasons : because ≡ why_else = because_one plan accepted named one.past one.text because why_else one.faulty faulty in
        let numbers : number ≡ other = one.numbered ∙ (ap (λ (r : List (List ℕ)). length r + 1) befores ∙ sym two.numbered) in
        (λ i. verdict.Bad (numbers i) (reasons i))
    bad_one number other because why_else one two (later more is) =
        absurd (no_fault one.before two.before more (one.text ∷ one.behind) (two.text ∷ two.behind) one.past two.past one.text because one.lines two.lines is one.examined one.run two.run one.faulty)
    bad_one number other because why_else one two (earlier more is) =
        absurd (no_fault two.before one.before more (two.text ∷ two.behind) (one.text ∷ one.behind) two.past one.past two.text why_else two.lines one.lines is two.examined two.run one.run two.faulty)

    pub one_verdict : (one two : Verdict) → IsVerdict (outline_of plan) log one → IsVerdict (outline_of plan) log two → one ≡ two
    one_verdict (verdict.Legal entries state) (verdict.Legal others ended) legal again =
        let pasts : legal.past ≡ again.past = same_past (log_lines log) [] legal.past again.past whole_log legal.run again.run in
        let counts : entries ≡ others = legal.as_many ∙ (ap (λ (r : List Entry). length r) pasts ∙ sym again.as_many) in
        let states : state ≡ ended = legal.stands ∙ (ap flow_of pasts ∙ sym again.stands) in
        (λ i. verdict.Legal (counts i) (states i))
    one_verdict (verdict.Legal entries state) (verdict.Bad number because) legal bad = absurd (legal_or_bad entries state number because legal bad)
    one_verdict (verdict.Bad number because) (verdict.Legal entries state) bad legal = absurd (legal_or_bad entries state number because legal bad)
    one_verdict (verdict.Bad number because) (verdict.Bad other why_else) one two = bad_one number other because why_else one two (meets one.before two.before one.behind two.behind one.text two.text (sym one.lines ∙ two.lines))
