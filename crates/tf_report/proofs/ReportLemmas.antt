-- The report and the table by what the views show.
use Rattle.std.proofs.Common.{◌≡◌, ℕ, suc, ◌+◌, List, [], ◌∷◌, ◌++◌, OnErr, Result, Ok, Err, codes, sym, ap, ◌∙◌, append_assoc, arith}
use Rattle.std.proofs.Math.Path.{fun_ext}
use Rattle.std.proofs.lemmas.List.{flat_map_more}
use Rattle.std.specs.List.{flat_map}
use Rattle.tf_numbers.specs.Numbers.{numbers_below}
use Rattle.tf_states.specs.declared.record.AtomView.{AtomView}
use Rattle.tf_states.specs.declared.record.Payload.{Payload}
use Rattle.tf_states.specs.declared.state.AtomState.{AtomState}
use Rattle.tf_states.specs.declared.state.FlowState.{FlowState}
use Rattle.tf_model.specs.Plan.{Outline, atom_name}
use Rattle.tf_model.specs.History.{Snapshot, Shows}
use Rattle.tf_report.specs.Lines.{payload_text, failed, state_shown, payload_shown, report_shown, report, table_shown, table}

by_four : (prefix a b c d : List ℕ) → (((prefix ++ a) ++ b) ++ c) ++ d ≡ prefix ++ (a ++ b ++ c ++ d)
by_four prefix a b c d = simp append_assoc

-- the four texts of a failed reversion's line
pub failed_told : (plan : Outline) (a : ℕ) (held : Payload) (prefix one two three name : List ℕ) → one ≡ prefix ++ codes "unreverted " → two ≡ one ++ name → name ≡ atom_name plan a → three ≡ two ++ payload_text held
    → three ++ 10 ∷ [] ≡ prefix ++ failed plan a held
failed_told plan a held prefix one two three name begun named is carried =
    ap (λ (text : List ℕ). text ++ 10 ∷ [])
    (carried ∙ ap (λ (text : List ℕ). text ++ payload_text held) (named ∙ (ap (λ (text : List ℕ). text ++ name) begun ∙ ap (λ (text : List ℕ). (prefix ++ codes "unreverted ") ++ text) is)))
    ∙ by_four prefix (codes "unreverted ") (atom_name plan a) (payload_text held) (10 ∷ [])

pub on_err_always : {T E P : Type 0} (r : Result T E) → P → OnErr r P
on_err_always (Ok x) p = tt
on_err_always (Err e) p = p

-- the line of one number more
pub lines_next : (line : ℕ → List ℕ) (before : List ℕ) (a : ℕ) → (before ++ flat_map line (numbers_below a)) ++ line a ≡ before ++ flat_map line (numbers_below (a + 1))
lines_next line before a = let next : a + 1 ≡ suc a = omega arith in rw next (flat_map_more line before (numbers_below a) a)

-- what the views show of a moment is the report at this moment
pub report_told : (plan : Outline) (views : List AtomView) (state : FlowState) (s : Snapshot) → Shows views s → s.flow ≡ state → report_shown plan state (state_shown views) (payload_shown views) ≡ report plan s
unfolding report
report_told plan views state s shows flow =
    ap (λ (f : FlowState). report_shown plan f (state_shown views) (payload_shown views)) (sym flow)
    ∙ ap (λ (f : ℕ → AtomState). report_shown plan s.flow f (payload_shown views)) (fun_ext (λ a. sym (shows.state a)))
    ∙ ap (λ (f : ℕ → Payload). report_shown plan s.flow s.state f) (fun_ext (λ a. sym (shows.payload a)))

-- and their table is the table at this moment
pub table_told : (plan : Outline) (views : List AtomView) (state : FlowState) (s : Snapshot) → Shows views s → s.flow ≡ state → table_shown plan state (state_shown views) (payload_shown views) ≡ table plan s
unfolding table
table_told plan views state s shows flow =
    ap (λ (f : FlowState). table_shown plan f (state_shown views) (payload_shown views)) (sym flow)
    ∙ ap (λ (f : ℕ → AtomState). table_shown plan s.flow f (payload_shown views)) (fun_ext (λ a. sym (shows.state a)))
    ∙ ap (λ (f : ℕ → Payload). table_shown plan s.flow s.state f) (fun_ext (λ a. sym (shows.payload a)))
