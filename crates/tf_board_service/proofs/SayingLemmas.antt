-- The lines of sessions, one more at the end.
use Rattle.std.proofs.Common.{◌≡◌, ◌<◌, ◌+◌, ◌++◌, ◌∷◌, ◌∙◌, ℕ, List, [], length, take, slice_index_or, ap, sym, arith, append_assoc, append-nil}
use Rattle.std.proofs.lemmas.List.{length-take-le, take_more}
use Rattle.tf_board_service.specs.Sessions.{session_line, session_lines}
use Rattle.tf_board_service.specs.declared.sessions.Session.{Session}

lines_more : (number : ℕ) (sessions : List Session) (s : Session) → session_lines number (sessions ++ s ∷ []) ≡ session_lines number sessions ++ session_line (number + length sessions) s.end
lines_more number [] s = append-nil (session_line number s.end) ∙ ap (λ (n : ℕ). session_line n s.end) (let same : number ≡ number + 0 = omega arith in same)
lines_more number (first ∷ sessions) s =
    ap (λ (rest : List ℕ). session_line number first.end ++ rest) (lines_more (number + 1) sessions s)
    ∙ sym (append_assoc (session_line number first.end) (session_lines (number + 1) sessions) (session_line (number + 1 + length sessions) s.end))
    ∙ ap (λ (n : ℕ). (session_line number first.end ++ session_lines (number + 1) sessions) ++ session_line n s.end) (let same : number + 1 + length sessions ≡ number + length (first ∷ sessions) = omega arith in same)

-- the line of the next session behind those of the first few
pub lines_taken : (sessions : List Session) (i number : ℕ) (s : Session) (before now after : List ℕ) → i < length sessions → s ≡ slice_index_or sessions i s → number ≡ i + 1
    → now ≡ before ++ session_lines 1 (take i sessions) → after ≡ now ++ session_line number s.end → after ≡ before ++ session_lines 1 (take (i + 1) sessions)
lines_taken sessions i number s before now after within is counted had more =
    let long : length (take i sessions) ≡ i = length-take-le i sessions (omega (arith, within)) in
    let same : number ≡ 1 + length (take i sessions) = omega (arith, counted, long) in
    let next : take (i + 1) sessions ≡ take i sessions ++ s ∷ [] = take_more sessions i s within ∙ ap (λ (x : Session). take i sessions ++ x ∷ []) (sym is) in
    more ∙ ap (λ (l : List ℕ). l ++ session_line number s.end) had
    ∙ append_assoc before (session_lines 1 (take i sessions)) (session_line number s.end)
    ∙ ap (λ (n : ℕ). before ++ (session_lines 1 (take i sessions) ++ session_line n s.end)) same
    ∙ ap (λ (l : List ℕ). before ++ l) (sym (lines_more 1 (take i sessions) s) ∙ ap (session_lines 1) (sym next))
