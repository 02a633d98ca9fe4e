-- What `show` says of a legal history is a legal log.
use Rattle.std.proofs.Common.{◌≡◌, ℕ, ◌+◌, ◌<◌, ◌≤◌, ◌^◌, List, [], ◌∷◌, ◌++◌, length, filter, Bool, true, false, cond, not, refl, sym, ap, ◌∙◌, inl, inr, arith, append_assoc, append-nil}
use Rattle.std.specs.Prelude.{codes, nat_eq}
use Rattle.std.specs.Fmt.{decimal}
use Rattle.std.specs.List.{concat, flat_map, AllByRecursion}
use Rattle.std.specs.Str.{all_ascii_digits}
use Rattle.std.proofs.lemmas.Bool.Decides.{nat_tests}
use Rattle.std.proofs.lemmas.Fmt.{digits_decimal, decimal_nonempty}
use Rattle.std.proofs.lemmas.List.Elements.{filter-append}
use Rattle.std.proofs.lemmas.Bool.{cases_lt}
use Rattle.std.proofs.lemmas.Option.{slice_get_past}
use Rattle.tf_numbers.specs.Numbers.{numbers_below}
use Rattle.tf_states.specs.declared.record.Entry.{Entry}
use Rattle.tf_states.specs.declared.record.Payload.{Payload}
use Rattle.tf_states.specs.declared.record.What.{What}
use Rattle.tf_states.specs.declared.record.What.TheVariants as what
use Rattle.tf_states.specs.declared.state.AtomState.{AtomState}
use Rattle.tf_states.specs.declared.state.AtomState.TheVariants as atom
use Rattle.tf_states.specs.declared.state.FlowState.{FlowState}
use Rattle.tf_values.proofs.WordLemmas.{own_digits}
use Rattle.tf_model.specs.History.{snapshot, state_of, flow_of, payload_of, held_after, payload_after}
use Rattle.tf_model.specs.Plan.{Outline, count, atom_name}
use Rattle.tf_entries.specs.Entries.{IsPayload, HasItsPayload}
use Rattle.tf_model.proofs.Told.{name_in}
use Rattle.tf_report.specs.Lines.{line, lines, what_text, flow_name, flow_word, atom_word, payload_text, atom_line, atom_lines_below, table_shown, table}
use Rattle.tf_audit.specs.Verdicts.{log_lines, is_unfed, is_passed_over, is_examined, IsPlanEntry, IsLegalLog}
use Rattle.tf_audit.specs.Names.{AreNamed}
use Rattle.tf_actions.specs.Gives.{GivesFar}
use Rattle.tf_model.specs.Scope.{HasOutcomes}
use Rattle.tf_model.specs.Steps.{LegalPast}
use Rattle.tf_audit.proofs.FeedLemmas.{said, line_said, said_unfed, unfed_both, unbroken_unfed, payload_unfed}
use Rattle.tf_audit.proofs.LogLemmas.{line_first}
use Rattle.tf_audit.proofs.WordLemmas.{name_unbroken, flow_word_unbroken, atom_word_unbroken}

-- ---- the lines of a history, one after another

-- the lines of a history, the oldest first
abbrev pub printed : Outline → List Entry → List (List ℕ)
printed plan [] = []
printed plan (e ∷ past) = printed plan past ++ line plan (length past + 1) e ∷ []

concat_both : (a b : List (List ℕ)) → concat (a ++ b) ≡ concat a ++ concat b
concat_both [] b = refl
concat_both (x ∷ xs) b = ap (λ (r : List ℕ). x ++ r) (concat_both xs b) ∙ sym (append_assoc x (concat xs) (concat b))

pub printed_lines : (plan : Outline) (past : List Entry) → concat (printed plan past) ≡ lines plan past
printed_lines plan [] = refl
printed_lines plan (e ∷ past) =
    concat_both (printed plan past) (line plan (length past + 1) e ∷ [])
    ∙ (ap (λ (r : List ℕ). r ++ (line plan (length past + 1) e ++ [])) (printed_lines plan past)
    ∙ ap (λ (r : List ℕ). lines plan past ++ r) (append-nil (line plan (length past + 1) e)))

-- a log that begins with the lines of a history has these as its first lines
pub printed_first : (plan : Outline) (past : List Entry) (rest : List ℕ) → AreNamed plan → length past < 2 ^ 64 → AllByRecursion (IsPlanEntry plan) past → log_lines (lines plan past ++ rest) ≡ printed plan past ++ log_lines rest
printed_first plan [] rest named few all = refl
printed_first plan (e ∷ past) rest named few all =
    let text = line plan (length past + 1) e in
    let prefix = said plan (length past + 1) e in
    let one : log_lines (text ++ rest) ≡ text ∷ log_lines rest =
    ap (λ (t : List ℕ). log_lines (t ++ rest)) (line_said plan (length past + 1) e)
    ∙ (ap log_lines (append_assoc prefix (10 ∷ []) rest)
    ∙ (line_first prefix rest (said_unfed plan (length past + 1) e named (omega arith) all.0)
    ∙ ap (λ (t : List ℕ). t ∷ log_lines rest) (sym (line_said plan (length past + 1) e)))) in
    ap log_lines (append_assoc (lines plan past) text rest)
    ∙ (printed_first plan past (text ++ rest) named (omega arith) all.1
    ∙ (ap (λ (r : List (List ℕ)). printed plan past ++ r) one ∙ sym (append_assoc (printed plan past) (text ∷ []) (log_lines rest))))

-- ---- lines of entries are examined

-- bytes that begin with a digit
record BeginsDigit (text : List ℕ) : Type 0 where
  first : ℕ
  others : List ℕ
  is : text ≡ first ∷ others
  high : first ≤ 57

digits_begin : (ds : List ℕ) → all_ascii_digits ds ≡ true → 0 < length ds → BeginsDigit ds
digits_begin [] is some = absurd (omega arith)
digits_begin (d ∷ ds) is some = record { first = d; others = ds; is = refl; high = grind (arith, nat_tests) }

not_begun : (first : ℕ) (others : List ℕ) → first ≤ 57 → is_passed_over (first ∷ others) ≡ false
not_begun first others high =
    let e : nat_eq 101 first ≡ false = grind (arith, nat_tests) in
    let u : nat_eq 117 first ≡ false = grind (arith, nat_tests) in
    let s : nat_eq 115 first ≡ false = grind (arith, nat_tests) in
    let a : nat_eq 97 first ≡ false = grind (arith, nat_tests) in
    rw (e, u, s, a) refl

line_examined : (plan : Outline) (number : ℕ) (e : Entry) → number < 2 ^ 64 → is_examined (line plan number e) ≡ true
line_examined plan number e fits =
    let begins = digits_begin (decimal number) (digits_decimal own_digits number fits) (decimal_nonempty number fits) in
    ap is_examined (line_said plan number e)
    ∙ (ap (λ (ds : List ℕ). is_examined (ds ++ 32 ∷ decimal e.hand ++ 32 ∷ what_text plan e.what ++ 10 ∷ [])) begins.is
    ∙ ap not (not_begun begins.first (begins.others ++ 32 ∷ decimal e.hand ++ 32 ∷ what_text plan e.what ++ 10 ∷ []) begins.high))

kept_one : (text : List ℕ) → is_examined text ≡ true → filter is_examined (text ∷ []) ≡ text ∷ []
kept_one text is = ap (λ (b : Bool). cond b (text ∷ []) []) is

printed_kept : (plan : Outline) (past : List Entry) → length past < 2 ^ 64 → filter is_examined (printed plan past) ≡ printed plan past
printed_kept plan [] few = refl
printed_kept plan (e ∷ past) few =
    filter-append is_examined (printed plan past) (line plan (length past + 1) e ∷ [])
    ∙ (ap (λ (r : List (List ℕ)). r ++ filter is_examined (line plan (length past + 1) e ∷ [])) (printed_kept plan past (omega arith))
    ∙ ap (λ (r : List (List ℕ)). printed plan past ++ r) (kept_one (line plan (length past + 1) e) (line_examined plan (length past + 1) e (omega arith))))

-- ---- lines of tables are passed over

-- what an atom holds is within the limits, as what the entries carry is
held_either : (state : AtomState) (held : Payload) (was : AtomState) (before : Payload) → IsPayload held → IsPayload before → IsPayload (held_after state held was before)
held_either atom.Retrying held was before p q = q
held_either atom.Running held atom.Retrying before p q = q
held_either state held was before p q = p

payload_later : (w : What) (a : ℕ) (was : AtomState) (before : Payload) → HasItsPayload w → IsPayload before → IsPayload (payload_after w a was before)
payload_later (what.Atom entered state held) a was before good kept = by (nat_eq entered a)
  where
    by : (b : Bool) → IsPayload (cond b (held_after state held was before) before)
    by true = held_either state held was before good.2 kept
    by false = kept
payload_later (what.Flow state) a was before good kept = kept
payload_later (what.Resolve named resolved) a was before good kept = kept
payload_later (what.Restart again) a was before good kept = kept

payload_within : (plan : Outline) (past : List Entry) (a : ℕ) → AllByRecursion (IsPlanEntry plan) past → IsPayload (payload_of past a)
payload_within plan [] a all = tt
payload_within plan (e ∷ past) a all = payload_later e.what a (state_of past a) (payload_of past a) all.0.payload (payload_within plan past a all.1)

name_unfed : (plan : Outline) (a : ℕ) → AreNamed plan → is_unfed (atom_name plan a) ≡ true
name_unfed plan a named = elim (cases_lt a (count plan)) [
  | inl below ↦ unbroken_unfed (atom_name plan a) (name_unbroken (atom_name plan a) (named.atoms a below))
  | inr past ↦ ap is_unfed (ap name_in (slice_get_past plan.atoms a past))
]

-- a line, and what follows it
after_line : (prefix rest : List ℕ) → is_unfed prefix ≡ true → log_lines (prefix ++ 10 ∷ [] ++ rest) ≡ (prefix ++ 10 ∷ []) ∷ log_lines rest
after_line prefix rest is = ap log_lines (append_assoc prefix (10 ∷ []) rest) ∙ line_first prefix rest is

atom_line_first : (plan : Outline) (a : ℕ) (state : AtomState) (held : Payload) (rest : List ℕ) → AreNamed plan → IsPayload held → log_lines (atom_line plan a state held ++ rest) ≡ atom_line plan a state held ∷ log_lines rest
atom_line_first plan a state held rest named within =
    after_line (codes "atom " ++ atom_name plan a ++ 32 ∷ atom_word state ++ payload_text held) rest
    (unfed_both (codes "atom " ++ atom_name plan a ++ 32 ∷ atom_word state) (payload_text held)
    (unfed_both (codes "atom " ++ atom_name plan a) (32 ∷ atom_word state) (name_unfed plan a named) (unbroken_unfed (atom_word state) (atom_word_unbroken state)))
    (payload_unfed held within))

atoms_passed : (plan : Outline) (state : ℕ → AtomState) (held : ℕ → Payload) (numbers : List ℕ) → AreNamed plan → ((a : ℕ) → IsPayload (held a)) → filter is_examined (log_lines (flat_map (λ a. atom_line plan a (state a) (held a)) numbers)) ≡ []
atoms_passed plan state held [] named within = refl
atoms_passed plan state held (a ∷ numbers) named within =
    ap (filter is_examined) (atom_line_first plan a (state a) (held a) (flat_map (λ b. atom_line plan b (state b) (held b)) numbers) named (within a))
    ∙ atoms_passed plan state held numbers named within

table_passed : (plan : Outline) (state : FlowState) (states : ℕ → AtomState) (held : ℕ → Payload) → AreNamed plan → ((a : ℕ) → IsPayload (held a)) → filter is_examined (log_lines (table_shown plan state states held)) ≡ []
table_passed plan state states held named within =
    ap (filter is_examined) (after_line (codes "state " ++ flow_name plan 0 ++ 32 ∷ flow_word state) (atom_lines_below plan states held (count plan))
    (unfed_both (codes "state " ++ flow_name plan 0) (32 ∷ flow_word state) (unbroken_unfed (flow_name plan 0) (name_unbroken (flow_name plan 0) (named.flows 0 named.root))) (unbroken_unfed (flow_word state) (flow_word_unbroken state))))
    ∙ atoms_passed plan states held (numbers_below (count plan)) named within

-- ---- what is shown

shown_passed : (plan : Outline) (past : List Entry) → AreNamed plan → AllByRecursion (IsPlanEntry plan) past → filter is_examined (log_lines (table plan (snapshot plan past))) ≡ []
unfolding table snapshot
shown_passed plan past named all = table_passed plan (flow_of past) (state_of past) (payload_of past) named (λ a. payload_within plan past a all)

pub shown_printed : (plan : Outline) (past : List Entry) → AreNamed plan → length past < 2 ^ 64 → AllByRecursion (IsPlanEntry plan) past
    → concat (filter is_examined (log_lines (lines plan past ++ table plan (snapshot plan past)))) ≡ lines plan past
shown_printed plan past named few all =
    ap (λ (texts : List (List ℕ)). concat (filter is_examined texts)) (printed_first plan past (table plan (snapshot plan past)) named few all)
    ∙ (ap concat (filter-append is_examined (printed plan past) (log_lines (table plan (snapshot plan past))))
    ∙ (ap (λ (r : List (List ℕ)). concat (r ++ filter is_examined (log_lines (table plan (snapshot plan past))))) (printed_kept plan past few)
    ∙ (ap (λ (r : List (List ℕ)). concat (printed plan past ++ r)) (shown_passed plan past named all)
    ∙ (ap concat (append-nil (printed plan past)) ∙ printed_lines plan past))))

pub shown_legal : (plan : Outline) (past : List Entry) → AreNamed plan → length past < 2 ^ 64 → AllByRecursion (IsPlanEntry plan) past → LegalPast plan past → HasOutcomes GivesFar plan past
    → IsLegalLog plan (lines plan past ++ table plan (snapshot plan past)) (length past) (flow_of past)
shown_legal plan past named few all legal given = record {
  past = past;
  run = record { printed = shown_printed plan past named few all; entries = all; legal = legal; given = given };
  as_many = refl;
  stands = refl;
}
