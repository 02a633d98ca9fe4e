-- The lines of a log, and those that a history prints.
use Rattle.std.proofs.Common.{◌≡◌, ℕ, ◌+◌, ◌<◌, ◌≤◌, ◌^◌, List, [], ◌∷◌, ◌++◌, length, filter, Bool, true, false, cond, not, ◌==◌, eqb-true, refl, sym, ap, subst, ◌∙◌, arith, append_assoc, append-nil, length-append}
use Rattle.std.specs.List.{concat, AllByRecursion}
use Rattle.tf_numbers.proofs.TruthLemmas.{true_both}
use Rattle.tf_states.specs.declared.record.Entry.{Entry}
use Rattle.tf_model.specs.Plan.{Outline}
use Rattle.tf_report.specs.Lines.{line, lines}
use Rattle.tf_audit.specs.Verdicts.{begun_with, log_lines, is_unfed, is_examined, AreOfRun}
use Rattle.tf_audit.specs.Names.{AreNamed}
use Rattle.tf_audit.proofs.FeedLemmas.{said, line_said}
use Rattle.tf_audit.proofs.LawLemmas.{printed, printed_first}
use Rattle.tf_audit.proofs.LogLemmas.{line_first}

-- bytes before a line feed
record IsLine (text : List ℕ) : Type 0 where
  prefix : List ℕ
  is : text ≡ prefix ++ 10 ∷ []
  unfed : is_unfed prefix ≡ true

begun_lines : (byte : ℕ) (texts : List (List ℕ)) → (byte == 10) ≡ false → AllByRecursion IsLine texts → AllByRecursion IsLine (begun_with byte texts)
begun_lines byte [] other all = tt
begun_lines byte (first ∷ others) other all =
    (record { prefix = byte ∷ all.0.prefix; is = ap (λ (t : List ℕ). byte ∷ t) all.0.is; unfed = true_both (not (byte == 10)) (is_unfed all.0.prefix) (ap not other) all.0.unfed }, all.1)

more_lines : (byte : ℕ) (texts : List (List ℕ)) (feed : Bool) → (byte == 10) ≡ feed → AllByRecursion IsLine texts → AllByRecursion IsLine (cond feed ((byte ∷ []) ∷ texts) (begun_with byte texts))
more_lines byte texts true is all = (record { prefix = []; is = ap (λ (b : ℕ). b ∷ []) (eqb-true byte 10 is); unfed = refl }, all)
more_lines byte texts false is all = begun_lines byte texts is all

-- what a log has are lines
log_has_lines : (log : List ℕ) → AllByRecursion IsLine (log_lines log)
log_has_lines [] = tt
log_has_lines (byte ∷ bytes) = more_lines byte (log_lines bytes) (byte == 10) refl (log_has_lines bytes)

-- lines, one behind another, are the lines of what they are together
lines_again : (texts : List (List ℕ)) → AllByRecursion IsLine texts → log_lines (concat texts) ≡ texts
lines_again [] all = refl
lines_again (text ∷ texts) all =
    let l = all.0 in
    ap (λ (t : List ℕ). log_lines (t ++ concat texts)) l.is
    ∙ (ap log_lines (append_assoc l.prefix (10 ∷ []) (concat texts))
    ∙ (line_first l.prefix (concat texts) l.unfed
    ∙ (ap (λ (t : List ℕ). t ∷ log_lines (concat texts)) (sym l.is)
    ∙ ap (λ (r : List (List ℕ)). text ∷ r) (lines_again texts all.1))))

-- ---- some of the lines

pub all_prefix : {A : Type 0} (P : A → Type 0) (xs ys : List A) → AllByRecursion P (xs ++ ys) → AllByRecursion P xs
all_prefix P [] ys all = tt
all_prefix P (x ∷ xs) ys all = (all.0, all_prefix P xs ys all.1)

pub all_back : {A : Type 0} (P : A → Type 0) (xs ys : List A) → AllByRecursion P (xs ++ ys) → AllByRecursion P ys
all_back P [] ys all = all
all_back P (x ∷ xs) ys all = all_back P xs ys all.1

kept_more : {A : Type 0} (P : A → Type 0) (b : Bool) (x : A) (xs : List A) → P x → AllByRecursion P xs → AllByRecursion P (cond b (x ∷ xs) xs)
kept_more P true x xs one all = (one, all)
kept_more P false x xs one all = all

all_kept : {A : Type 0} (P : A → Type 0) (test : A → Bool) (xs : List A) → AllByRecursion P xs → AllByRecursion P (filter test xs)
all_kept P test [] all = tt
all_kept P test (x ∷ xs) all = kept_more P (test x) x (filter test xs) all.0 (all_kept P test xs all.1)

-- ---- how many bytes they have

concat_prefix : (xs ys : List (List ℕ)) → length (concat xs) ≤ length (concat (xs ++ ys))
concat_prefix [] ys = omega arith
concat_prefix (x ∷ xs) ys =
    let more = concat_prefix xs ys in
    omega (arith, more, length-append x (concat xs), length-append x (concat (xs ++ ys)))

concat_more : (b : Bool) (x : List ℕ) (xs : List (List ℕ)) (n : ℕ) → length (concat xs) ≤ n → length (concat (cond b (x ∷ xs) xs)) ≤ length x + n
concat_more true x xs n few = omega (arith, few, length-append x (concat xs))
concat_more false x xs n few = omega (arith, few)

concat_kept : (test : List ℕ → Bool) (xs : List (List ℕ)) → length (concat (filter test xs)) ≤ length (concat xs)
concat_kept test [] = omega arith
concat_kept test (x ∷ xs) =
    let more = concat_more (test x) x (filter test xs) (length (concat xs)) (concat_kept test xs) in
    omega (arith, more, length-append x (concat xs))

begun_short : (byte : ℕ) (texts : List (List ℕ)) (n : ℕ) → length (concat texts) ≤ n → length (concat (begun_with byte texts)) ≤ n + 1
begun_short byte [] n few = omega arith
begun_short byte (first ∷ others) n few = omega (arith, few)

more_short : (byte : ℕ) (texts : List (List ℕ)) (feed : Bool) (n : ℕ) → length (concat texts) ≤ n → length (concat (cond feed ((byte ∷ []) ∷ texts) (begun_with byte texts))) ≤ n + 1
more_short byte texts true n few = omega (arith, few)
more_short byte texts false n few = begun_short byte texts n few

lines_short : (log : List ℕ) → length (concat (log_lines log)) ≤ length log
lines_short [] = omega arith
lines_short (byte ∷ bytes) =
    let more = more_short byte (log_lines bytes) (byte == 10) (length bytes) (lines_short bytes) in
    omega (arith, more)

lines_long : (plan : Outline) (past : List Entry) → length past ≤ length (lines plan past)
lines_long plan [] = omega arith
lines_long plan (e ∷ past) =
    let before = lines_long plan past in
    let text = line plan (length past + 1) e in
    let prefix = said plan (length past + 1) e in
    let long : length text ≡ length prefix + 1 = ap length (line_said plan (length past + 1) e) ∙ length-append prefix (10 ∷ []) in
    omega (arith, before, long, length-append (lines plan past) text)

-- a history whose lines a log has is no longer than the log
pub run_short : (plan : Outline) (log : List ℕ) (texts more : List (List ℕ)) (past : List Entry) → log_lines log ≡ texts ++ more → AreOfRun plan texts past → length past ≤ length log
run_short plan log texts more past is run =
    let all : length (concat (log_lines log)) ≡ length (concat (texts ++ more)) = ap (λ (r : List (List ℕ)). length (concat r)) is in
    let said_so : length (concat (filter is_examined texts)) ≡ length (lines plan past) = ap length run.printed in
    omega (arith, lines_long plan past, said_so, concat_kept is_examined texts, concat_prefix texts more, all, lines_short log)

-- ---- the lines of a run

-- the lines that are examined are those that the history prints, line by line
pub run_lines : (plan : Outline) (log : List ℕ) (texts more : List (List ℕ)) (past : List Entry) → AreNamed plan → length log < 2 ^ 64 → log_lines log ≡ texts ++ more → AreOfRun plan texts past → filter is_examined texts ≡ printed plan past
run_lines plan log texts more past named few is run =
    let short = run_short plan log texts more past is run in
    let are_lines : AllByRecursion IsLine texts = all_prefix IsLine texts more (subst (λ (r : List (List ℕ)). AllByRecursion IsLine r) is (log_has_lines log)) in
    sym (lines_again (filter is_examined texts) (all_kept IsLine is_examined texts are_lines))
    ∙ (ap log_lines run.printed
    ∙ (ap log_lines (sym (append-nil (lines plan past)))
    ∙ (printed_first plan past [] named (omega arith) run.entries
    ∙ append-nil (printed plan past))))
