-- The entry that a line says is read from its words.
use Rattle.std.proofs.Common.{◌≡◌, ℕ, ◌<◌, ◌^◌, List, [], ◌∷◌, ◌++◌, length, Option, Some, refl, ap, ◌∙◌, arith, append_assoc}
use Rattle.std.specs.Prelude.{◌↔◌, IsTrue, Bool}
use Rattle.std.specs.Fmt.{decimal}
use Rattle.std.proofs.Common.{subst}
use Rattle.tf_flow.specs.Plan.{PlanValue}
use Rattle.tf_flow.specs.Plan as numbering
use Rattle.tf_states.specs.declared.record.Entry.{Entry}
use Rattle.tf_states.specs.declared.record.What.{What}
use Rattle.tf_model.specs.Plan.{Outline, outline_of, count}
use Rattle.tf_model.proofs.PlanLemmas.{atoms_counted}
use Rattle.tf_entries.specs.Entries.{IsEntry, IsAmong, HasItsPayload}
use Rattle.tf_report.specs.Lines.{line, what_text}
use Rattle.tf_report.proofs.LineLemmas.{flows_counted}
use Rattle.tf_audit.specs.Verdicts.{IsPlanEntry, IsLineOf, numbered_with}
use Rattle.tf_audit.specs.Words.{IsFirstWord}
use Rattle.tf_audit.proofs.NumberLemmas.{number_unbroken}

-- the words of a line, one behind another
pub line_words : (plan : Outline) (number : ℕ) (e : Entry) (text : List ℕ) → text ≡ line plan number e → text ≡ decimal number ++ 32 ∷ (decimal e.hand ++ 32 ∷ (what_text plan e.what ++ 10 ∷ []))
unfolding line
line_words plan number e text is =
    is
    ∙ (append_assoc (decimal number ++ 32 ∷ decimal e.hand) (32 ∷ what_text plan e.what) (10 ∷ [])
    ∙ append_assoc (decimal number) (32 ∷ decimal e.hand) (32 ∷ (what_text plan e.what ++ 10 ∷ [])))

with_all : (number hand : Option ℕ) (w : Option What) (m h : ℕ) (v : What) → number ≡ Some m → hand ≡ Some h → w ≡ Some v → numbered_with number hand w ≡ Some (record { number = m; entry = record { hand = h; what = v } })
with_all number hand w m h v first second third =
    ap (λ (o : Option ℕ). numbered_with o hand w) first ∙ (ap (λ (o : Option ℕ). numbered_with (Some m) o w) second ∙ ap (numbered_with (Some m) (Some h)) third)

pub line_read : (plan : Outline) (number : ℕ) (e : Entry) (text word behind hand last : List ℕ) (n h : Option ℕ) (w : Option What) → IsFirstWord text word behind → IsFirstWord behind hand last
    → ((m : ℕ) → m < 2 ^ 64 → word ≡ decimal m → n ≡ Some m) → ((m : ℕ) → m < 64 → hand ≡ decimal m → h ≡ Some m)
    → ((v : What) → IsAmong (count plan) (length plan.flows) v → HasItsPayload v → last ≡ what_text plan v ++ 10 ∷ [] → w ≡ Some v)
    → IsLineOf plan number e text → numbered_with n h w ≡ Some (record { number = number; entry = e })
line_read plan number e text word behind hand last n h w first second reads_number reads_hand reads_what said =
    let small = said.entry.hand in
    let p = first.one (decimal number) (decimal e.hand ++ 32 ∷ (what_text plan e.what ++ 10 ∷ [])) 32 (number_unbroken number said.fits) refl (line_words plan number e text said.printed) in
    let q = second.one (decimal e.hand) (what_text plan e.what ++ 10 ∷ []) 32 (number_unbroken e.hand (omega arith)) refl p.1 in
    with_all n h w number e.hand e.what (reads_number number said.fits p.0) (reads_hand e.hand said.entry.hand q.0) (reads_what e.what said.entry.among said.entry.payload q.1)

-- ---- entries of a plan

pub entry_of_plan : (plan : PlanValue) (e : Entry) (b : Bool) (n m : ℕ) → n ≡ length (numbering.atoms plan) → m ≡ length (numbering.flows plan) → IsTrue b ↔ IsEntry n m e → IsTrue b ↔ IsPlanEntry (outline_of plan) e
entry_of_plan plan e b n m atoms flows is =
    subst (λ (k : ℕ). IsTrue b ↔ IsEntry k (length (outline_of plan).flows) e) (atoms ∙ atoms_counted plan) (subst (λ (k : ℕ). IsTrue b ↔ IsEntry n k e) (flows ∙ flows_counted plan) is)
