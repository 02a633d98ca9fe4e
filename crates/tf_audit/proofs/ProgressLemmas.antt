-- An audit goes on line by line.
use Rattle.std.proofs.Common.{◌≡◌, ◌≢◌, ℕ, ◌+◌, List, [], ◌∷◌, ◌++◌, length, filter, Bool, true, not, Option, Some, None, refl, sym, ap, cond, subst, ◌∙◌, arith, append_assoc, append-nil, length-append}
use Rattle.std.specs.Prelude.{◌↔◌, IsTrue, IfSome, IfOk, OnOk, Result, Ok, Err}
use Rattle.std.specs.List.{concat}
use Rattle.std.proofs.lemmas.List.Elements.{filter-append}
use Rattle.std.proofs.lemmas.List.Folds.{concat-append}
use Rattle.tf_flow.specs.Plan.{PlanValue}
use Rattle.tf_flow.specs.Plan as numbering
use Rattle.tf_states.specs.declared.record.Entry.{Entry}
use Rattle.tf_states.specs.declared.state.FlowState.{FlowState}
use Rattle.tf_actions.specs.declared.orders.Order.{Order}
use Rattle.tf_actions.specs.Gives.{GivesFar}
use Rattle.tf_model.specs.History.{snapshot, flow_of, Snapshot}
use Rattle.tf_model.specs.Scope.{IsGiven}
use Rattle.tf_model.specs.Plan.{Outline, outline_of, count}
use Rattle.tf_model.proofs.PlanLemmas.{atoms_counted}
use Rattle.tf_model.specs.Steps.{Step}
use Rattle.tf_machine.specs.Machine.{outline, shown, StandsFor}
use Rattle.tf_report.specs.Lines.{lines}
use Rattle.tf_audit.specs.declared.progress.Progress.{Progress}
use Rattle.tf_audit.specs.declared.verdicts.Verdict.{Verdict}
use Rattle.tf_audit.specs.declared.verdicts.Verdict.TheVariants as verdict
use Rattle.tf_audit.specs.declared.verdicts.Why.{Why}
use Rattle.tf_audit.specs.declared.verdicts.Why.TheVariants as why
use Rattle.tf_audit.specs.Kept.{KeepsOrders, Follows as MayFollow}
use Rattle.tf_audit.specs.Verdicts.{log_lines, is_passed_over, is_examined, IsLineOf, IsUnreadable, AreOfRun, IsExpected, MayNot, IsFaulty, IsVerdict}
use Rattle.tf_audit.specs.Names.{AreNamed}
use Rattle.tf_audit.specs.Progress.{CanGoOn, AreWhole, orders_with, IsKeptOf, HasTaken, TakesEntry, HasCome, CannotBe, TakesLine, HasFollowed, IsLegalSoFar}
use Rattle.tf_audit.specs.Starts.{TakesNone, IsTakenUp}
use Rattle.tf_audit.proofs.KeepLemmas.{keeps_with, keeps_none, whole_with, asked_below, asked_whole, length_with}

-- ---- one line more of a run

kept_one : (text : List ℕ) → is_examined text ≡ true → filter is_examined (text ∷ []) ≡ text ∷ []
kept_one text is = ap (λ (b : Bool). cond b (text ∷ []) []) is

dropped_one : (text : List ℕ) → is_passed_over text ≡ true → filter is_examined (text ∷ []) ≡ []
dropped_one text is = ap (λ (b : Bool). cond (not b) (text ∷ []) []) is

joined : (texts : List (List ℕ)) (text : List ℕ) (kept : List (List ℕ)) → filter is_examined (text ∷ []) ≡ kept → concat (filter is_examined (texts ++ text ∷ [])) ≡ concat (filter is_examined texts) ++ concat kept
joined texts text kept is =
    ap concat (filter-append is_examined texts (text ∷ []))
    ∙ (concat-append (filter is_examined texts) (filter is_examined (text ∷ [])) ∙ ap (λ (r : List (List ℕ)). concat (filter is_examined texts) ++ concat r) is)

-- it is the line of an entry that may follow
run_more : (plan : Outline) (texts : List (List ℕ)) (past : List Entry) (text : List ℕ) (e : Entry) → AreOfRun plan texts past → is_examined text ≡ true → IsLineOf plan (length past + 1) e text → Step plan (snapshot plan past) e
    → IsGiven GivesFar plan past e.what → AreOfRun plan (texts ++ text ∷ []) (e ∷ past)
run_more plan texts past text e run examined said step given = record {
  printed =
      joined texts text (text ∷ []) (kept_one text examined)
      ∙ (ap (λ (r : List ℕ). r ++ (text ++ [])) run.printed ∙ ap (λ (r : List ℕ). lines plan past ++ r) (append-nil text ∙ said.printed));
  entries = (said.entry, run.entries);
  legal = (step, run.legal);
  given = (given, run.given);
}

-- it is passed over
run_over : (plan : Outline) (texts : List (List ℕ)) (past : List Entry) (text : List ℕ) → AreOfRun plan texts past → is_passed_over text ≡ true → AreOfRun plan (texts ++ text ∷ []) past
run_over plan texts past text run passed = record {
  printed = joined texts text [] (dropped_one text passed) ∙ (append-nil (concat (filter is_examined texts)) ∙ run.printed);
  entries = run.entries;
  legal = run.legal;
  given = run.given;
}

-- ---- one entry

module _ (old new : Progress) (e : Entry) (asked : Option (ℕ × Order)) (fits : Bool) where
  -- the outcome fits exactly where it may be carried
  abbrev Decides : Type 0
  Decides = (past : List Entry) → MayFollow old.machine old.orders.items past e → IsTrue fits ↔ IsGiven GivesFar (outline old.machine) past e.what

  follows_here : (past : List Entry) → IsKeptOf old past → Step (outline old.machine) (shown old.machine) e → MayFollow old.machine old.orders.items past e
  follows_here past kept step = record { stands = kept.stands; keeps = kept.keeps; step = step }

  step_here : (past : List Entry) → IsKeptOf old past → Step (outline old.machine) (shown old.machine) e → Step (outline old.machine) (snapshot (outline old.machine) past) e
  step_here past kept step = subst (λ (s : Snapshot). Step (outline old.machine) s e) kept.stands.shows step

  keeps_on : CanGoOn old → (asked ≡ None → TakesNone (outline old.machine) e.what) → IfSome asked (λ p. IsTakenUp (outline old.machine) (shown old.machine) e.what p.0 p.1) → new.machine.plan ≡ old.machine.plan → new.orders.items ≡ orders_with old.orders.items asked
      → (past : List Entry) → IsKeptOf old past → KeepsOrders (outline new.machine) new.orders.items (e ∷ past)
  keeps_on ready none some plan orders past kept =
      let here = subst (λ (s : Snapshot). IfSome asked (λ p. IsTakenUp (outline old.machine) s e.what p.0 p.1)) kept.stands.shows some in
      let keeps : KeepsOrders (outline old.machine) (orders_with old.orders.items asked) (e ∷ past) = keeps_with (outline old.machine) old.orders.items past e asked kept.keeps ready.places none here in
      subst (λ (p : PlanValue). KeepsOrders (outline_of p) new.orders.items (e ∷ past)) (sym plan) (subst (λ (os : List (Option Order)). KeepsOrders (outline old.machine) os (e ∷ past)) (sym orders) keeps)

  pub taken : CanGoOn old → (asked ≡ None → TakesNone (outline old.machine) e.what) → IfSome asked (λ p. IsTakenUp (outline old.machine) (shown old.machine) e.what p.0 p.1) → Decides → fits ≡ true → Step (outline old.machine) (shown old.machine) e
      → new.machine.plan ≡ old.machine.plan → ((past : List Entry) → StandsFor old.machine past → StandsFor new.machine (e ∷ past)) → new.orders.items ≡ orders_with old.orders.items asked → new.entries ≡ old.entries + 1
      → (past : List Entry) → IsKeptOf old past → HasTaken old new past e
  taken ready none some decides fit step plan stands orders entries past kept = record {
    plan = plan;
    step = step_here past kept step;
    given = (decides past (follows_here past kept step)).0 fit;
    kept = record {
      stands = stands past kept.stands;
      keeps = keeps_on ready none some plan orders past kept;
      as_many = let before = kept.as_many in omega arith;
    };
  }

pub taken_ready : (old new : Progress) (e : Entry) (asked : Option (ℕ × Order)) → CanGoOn old → IfSome asked (λ p. IsTakenUp (outline old.machine) (shown old.machine) e.what p.0 p.1) → new.machine.plan ≡ old.machine.plan → new.flows.keys ≡ old.flows.keys
    → new.orders.items ≡ orders_with old.orders.items asked → CanGoOn new
taken_ready old new e asked ready some plan flows orders =
    let below = asked_below (outline old.machine) (shown old.machine) e.what asked old.orders.items ready.places some in
    let good = asked_whole (outline old.machine) (shown old.machine) e.what asked some in
    record {
      named = subst (λ (p : PlanValue). AreNamed (outline_of p)) (sym plan) ready.named;
      flows = flows ∙ (ready.flows ∙ ap numbering.flows (sym plan));
      places = ap (λ (os : List (Option Order)). length os) orders ∙ (length_with old.orders.items asked ∙ (ready.places ∙ ap (λ (p : PlanValue). count (outline_of p)) (sym plan)));
      whole = subst AreWhole (sym orders) (whole_with old.orders.items asked ready.whole good below);
    }

-- what should stand in the place of an entry that may not follow
pub not_taken : (plan : Outline) (past : List Entry) (e : Entry) (because : Why) → ¬ (Step plan (snapshot plan past) e) → IsExpected plan (snapshot plan past) because → MayNot plan past e because
not_taken plan past e why.Unreadable unfit is = absurd is
not_taken plan past e why.Number unfit is = absurd is
not_taken plan past e (why.Forced w) unfit is = (unfit, is)
not_taken plan past e (why.First start) unfit is = (unfit, is)
not_taken plan past e why.NoStep unfit is = (unfit, is)
not_taken plan past e why.Value unfit is = absurd is

pub refused : (old : Progress) (e : Entry) (because : Why) → ((past : List Entry) → StandsFor old.machine past → ¬ (Step (outline old.machine) (snapshot (outline old.machine) past) e)) → IsExpected (outline old.machine) (shown old.machine) because
    → (past : List Entry) → IsKeptOf old past → MayNot (outline old.machine) past e because
refused old e because unfit is past kept = not_taken (outline old.machine) past e because (unfit past kept.stands) (subst (λ (s : Snapshot). IsExpected (outline old.machine) s because) kept.stands.shows is)

-- ---- one line

faulty_of : (plan : Outline) (past : List Entry) (e : Entry) (text : List ℕ) (because : Why) → IsLineOf plan (length past + 1) e text → MayNot plan past e because → IsFaulty plan past text because
faulty_of plan past e text why.Unreadable said unfit = absurd unfit
faulty_of plan past e text why.Number said unfit = absurd unfit
faulty_of plan past e text (why.Forced w) said unfit = (e, said, unfit)
faulty_of plan past e text (why.First start) said unfit = (e, said, unfit)
faulty_of plan past e text why.NoStep said unfit = (e, said, unfit)
faulty_of plan past e text why.Value said unfit = (e, said, unfit)

module _ (plan : Outline) (texts : List (List ℕ)) (old : Progress) (text : List ℕ) (come : HasCome plan texts old) where
  pub unreadable : is_examined text ≡ true → IsUnreadable (outline old.machine) text → CannotBe plan texts text why.Unreadable
  unreadable examined is = record { past = come.past; run = come.run; examined = examined; faulty = subst (λ (p : Outline). IsUnreadable p text) come.plan_is is }

  pub misnumbered : (number : ℕ) (e : Entry) → is_examined text ≡ true → IsLineOf (outline old.machine) number e text → number ≢ old.entries + 1 → CannotBe plan texts text why.Number
  misnumbered number e examined said other = record {
    past = come.past;
    run = come.run;
    examined = examined;
    faulty = (number, e, subst (λ (p : Outline). IsLineOf p number e text) come.plan_is said, λ same. other (same ∙ ap (λ (n : ℕ). n + 1) (sym come.kept.as_many)));
  }

  placed : (number : ℕ) (e : Entry) → IsLineOf (outline old.machine) number e text → number ≡ old.entries + 1 → IsLineOf plan (length come.past + 1) e text
  placed number e said is = subst (λ (p : Outline). IsLineOf p (length come.past + 1) e text) come.plan_is (subst (λ (n : ℕ). IsLineOf (outline old.machine) n e text) (is ∙ ap (λ (n : ℕ). n + 1) come.kept.as_many) said)

  pub impossible : (number : ℕ) (e : Entry) (because : Why) → is_examined text ≡ true → IsLineOf (outline old.machine) number e text → number ≡ old.entries + 1 → MayNot (outline old.machine) come.past e because → CannotBe plan texts text because
  impossible number e because examined said is unfit = record {
    past = come.past;
    run = come.run;
    examined = examined;
    faulty = faulty_of plan come.past e text because (placed number e said is) (subst (λ (p : Outline). MayNot p come.past e because) come.plan_is unfit);
  }

  pub come_more : (new : Progress) (number : ℕ) (e : Entry) → is_examined text ≡ true → IsLineOf (outline old.machine) number e text → number ≡ old.entries + 1 → HasTaken old new come.past e → HasCome plan (texts ++ text ∷ []) new
  come_more new number e examined said is took = record {
    plan_is = ap outline_of took.plan ∙ come.plan_is;
    past = e ∷ come.past;
    run = run_more plan texts come.past text e come.run examined (placed number e said is) (subst (λ (p : Outline). Step p (snapshot p come.past) e) come.plan_is took.step) (subst (λ (p : Outline). IsGiven GivesFar p come.past e.what) come.plan_is took.given);
    kept = took.kept;
  }

  pub come_over : is_passed_over text ≡ true → HasCome plan (texts ++ text ∷ []) old
  come_over passed = record { plan_is = come.plan_is; past = come.past; run = run_over plan texts come.past text come.run passed; kept = come.kept }

-- what comes of an entry comes of its line
pub line_follows : (old new : Progress) (text : List ℕ) (number : ℕ) (e : Entry) (found : Option Why) → is_examined text ≡ true → IsLineOf (outline old.machine) number e text → number ≡ old.entries + 1 → TakesEntry old new e found → TakesLine old new text found
line_follows old new text number e None examined said is takes = λ plan texts come. come_more plan texts old text come new number e examined said is (takes come.past come.kept)
line_follows old new text number e (Some because) examined said is takes = λ plan texts come. impossible plan texts old text come number e because examined said is (takes come.past come.kept)

-- the same of the answers
pub answer_follows : {E : Type 0} (r : Result (Option Why) E) (old new : Progress) (text : List ℕ) (number : ℕ) (e : Entry) → is_examined text ≡ true → IsLineOf (outline old.machine) number e text → number ≡ old.entries + 1 → IfOk r (TakesEntry old new e)
    → IfOk r (TakesLine old new text)
answer_follows (Ok found) old new text number e examined said is takes = line_follows old new text number e found examined said is takes
answer_follows (Err fault) old new text number e examined said is takes = tt

pub on_ok_always : {A E : Type 0} (r : Result A E) (P : Type 0) → P → OnOk r P
on_ok_always (Ok a) P is = is
on_ok_always (Err e) P is = tt

-- ---- all lines

pub begun_ready : (progress : Progress) (plan : PlanValue) (atoms : ℕ) → plan ≡ progress.machine.plan → AreNamed (outline_of plan) → progress.flows.keys ≡ numbering.flows plan → atoms ≡ length (numbering.atoms plan) → length progress.orders.items ≡ atoms
    → AreWhole progress.orders.items → CanGoOn progress
begun_ready progress plan atoms is named flows counted many whole = record {
  named = subst (λ (p : PlanValue). AreNamed (outline_of p)) is named;
  flows = flows ∙ ap numbering.flows is;
  places = many ∙ (counted ∙ (atoms_counted plan ∙ ap (λ (p : PlanValue). count (outline_of p)) is));
  whole = whole;
}

pub come_none : (progress : Progress) → StandsFor progress.machine [] → progress.entries ≡ 0 → HasCome (outline progress.machine) [] progress
come_none progress stands none = record {
  plan_is = refl;
  past = [];
  run = record { printed = refl; entries = tt; legal = tt; given = tt };
  kept = record { stands = stands; keeps = keeps_none (outline progress.machine) progress.orders.items; as_many = none };
}

pub followed_none : (plan : Outline) (log : List ℕ) (progress : Progress) → HasCome plan [] progress → HasFollowed plan log log 0 progress
followed_none plan log progress come = record { texts = []; lines = refl; as_many = refl; come = come }

pub followed_more : (plan : Outline) (log rest text behind : List ℕ) (count : ℕ) (old new : Progress) → HasFollowed plan log rest count old → log_lines rest ≡ text ∷ log_lines behind → TakesLine old new text None → HasFollowed plan log behind (count + 1) new
followed_more plan log rest text behind count old new before first follows = record {
  texts = before.texts ++ text ∷ [];
  lines = before.lines ∙ (ap (λ (r : List (List ℕ)). before.texts ++ r) first ∙ sym (append_assoc before.texts (text ∷ []) (log_lines behind)));
  as_many = let many = before.as_many in omega (arith, length-append before.texts (text ∷ []));
  come = follows plan before.texts before.come;
}

pub followed_bad : (plan : Outline) (log rest text behind : List ℕ) (count : ℕ) (old new : Progress) (because : Why) → HasFollowed plan log rest count old → log_lines rest ≡ text ∷ log_lines behind → TakesLine old new text (Some because)
    → IsVerdict plan log (verdict.Bad (count + 1) because)
followed_bad plan log rest text behind count old new because before first follows =
    let cannot : CannotBe plan before.texts text because = follows plan before.texts before.come in
    record {
      before = before.texts;
      text = text;
      behind = log_lines behind;
      lines = before.lines ∙ ap (λ (r : List (List ℕ)). before.texts ++ r) first;
      numbered = ap (λ (n : ℕ). n + 1) before.as_many;
      past = cannot.past;
      run = cannot.run;
      examined = cannot.examined;
      faulty = cannot.faulty;
    }

flow_shown : (plan : Outline) (past : List Entry) → (snapshot plan past).flow ≡ flow_of past
unfolding snapshot
flow_shown plan past = refl

pub legal_so_far : (plan : Outline) (texts : List (List ℕ)) (progress : Progress) (state : FlowState) → HasCome plan texts progress → state ≡ (shown progress.machine).flow → IsLegalSoFar plan texts (verdict.Legal progress.entries state)
legal_so_far plan texts progress state come is = record {
  past = come.past;
  run = come.run;
  as_many = come.kept.as_many;
  stands = is ∙ (ap (λ (s : Snapshot). s.flow) come.kept.stands.shows ∙ flow_shown (outline progress.machine) come.past);
}

pub followed_all : (plan : Outline) (log rest : List ℕ) (count : ℕ) (progress : Progress) (found : Verdict) → HasFollowed plan log rest count progress → log_lines rest ≡ [] → ((texts : List (List ℕ)) → HasCome plan texts progress → IsLegalSoFar plan texts found)
    → IsVerdict plan log found
followed_all plan log rest count progress (verdict.Legal entries state) before none legal =
    let so_far = legal before.texts before.come in
    let all : before.texts ≡ log_lines log = sym (before.lines ∙ (ap (λ (r : List (List ℕ)). before.texts ++ r) none ∙ append-nil before.texts)) in
    record { past = so_far.past; run = subst (λ (texts : List (List ℕ)). AreOfRun plan texts so_far.past) all so_far.run; as_many = so_far.as_many; stands = so_far.stands }
followed_all plan log rest count progress (verdict.Bad number because) before none legal = absurd (legal before.texts before.come)
