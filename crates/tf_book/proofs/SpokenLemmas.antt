-- What is said of entries, and what a crash leaves of them, when one more is recorded.
use Rattle.std.proofs.Common.{◌≡◌, ⊎_elim, ℕ, ◌+◌, Bool, List, [], ◌∷◌, ◌++◌, length, take, Option, Some, None, refl, sym, ◌∙◌, ap, subst, append_assoc, append-nil}
use Rattle.std.proofs.Math.Seq.{take-append-add, take-length}
use Rattle.tf_desk.specs.Crash.{shown_with, ShowsPrefix}
use Rattle.tf_flow.specs.Plan.{PlanValue}
use Rattle.tf_states.specs.declared.record.Entry.{Entry}
use Rattle.tf_journal.specs.Format.{bodies, recovered}
use Rattle.tf_journal.specs.declared.title.Title.{Title}
use Rattle.tf_journal.specs.declared.title.Title.TheVariants.{Book2 as book_title}
use Rattle.tf_model.specs.Plan.{Outline, outline_of}
use Rattle.tf_report.specs.Lines.{line}
use Rattle.tf_details.specs.Elements.{Contents}
use Rattle.tf_book.specs.Book.{entry_body, bodies_with}
use Rattle.tf_book.specs.SessionInvariant.{said_of, LeavesLogged, said, IsCut, LeavesEntries, IsPending}
use Rattle.tf_book.specs.declared.faults.Halt.{Halt}

-- ---- the shown text

-- bytes shown after others
pub shown_twice : (before : Option (List ℕ)) (a b : List ℕ) → shown_with (shown_with before a) b ≡ shown_with before (a ++ b)
shown_twice None a b = refl
shown_twice (Some text) a b = ap Some (append_assoc text a b)

-- nothing more is shown
pub shown_none : (before : Option (List ℕ)) → shown_with before [] ≡ before
shown_none None = refl
shown_none (Some text) = ap Some (append-nil text)

-- all bytes are a prefix of themselves
pub prefix_whole : (before : Option (List ℕ)) (bytes text : List ℕ) → Some text ≡ shown_with before bytes → ShowsPrefix before bytes (Some text)
prefix_whole before bytes text is = record { count = length bytes; prefix = is ∙ ap (shown_with before) (sym (take-length bytes)) }

-- a prefix of what follows is a prefix of all
pub prefix_further : (before mid : Option (List ℕ)) (a b text : List ℕ) → mid ≡ shown_with before a → ShowsPrefix mid b (Some text) → ShowsPrefix before (a ++ b) (Some text)
prefix_further before mid a b text is then = record {
  count = length a + then.count;
  prefix = then.prefix ∙ ap (λ (s : Option (List ℕ)). shown_with s (take then.count b)) is ∙ shown_twice before a (take then.count b)
      ∙ ap (shown_with before) (sym (take-append-add a b then.count));
}

-- what is said of an entry, by other names of the same
pub same_line : (quiet q : Bool) (plan p : PlanValue) (past before entries : List Entry) (e : Entry) → quiet ≡ q → plan ≡ p → past ≡ entries ++ before
    → said_of quiet (line (outline_of plan) (length past + 1) e) ≡ said_of q (line (outline_of p) (length (entries ++ before) + 1) e)
same_line quiet q plan p past before entries e a b c =
    ap (λ (x : Bool). said_of x (line (outline_of plan) (length past + 1) e)) a
    ∙ ap (λ (x : PlanValue). said_of q (line (outline_of x) (length past + 1) e)) b
    ∙ ap (λ (x : List Entry). said_of q (line (outline_of p) (length x + 1) e)) c

pub said_more : (q : Bool) (plan : Outline) (before entries : List Entry) (s0 old now : Option (List ℕ)) (e : Entry) (bytes : List ℕ)
    → bytes ≡ said_of q (line plan (length (entries ++ before) + 1) e) → old ≡ shown_with s0 (said q plan before entries) → now ≡ shown_with old bytes
    → now ≡ shown_with s0 (said q plan before (e ∷ entries))
said_more q plan before entries s0 old now e bytes same was is =
    is ∙ ap (λ (s : Option (List ℕ)). shown_with s bytes) was ∙ shown_twice s0 (said q plan before entries) bytes ∙ ap (λ (b : List ℕ). shown_with s0 (said q plan before entries ++ b)) same

pub said_cut : (q : Bool) (plan : Outline) (before entries : List Entry) (s0 old now : Option (List ℕ)) (e : Entry) (bytes : List ℕ)
    → bytes ≡ said_of q (line plan (length (entries ++ before) + 1) e) → old ≡ shown_with s0 (said q plan before entries) → ShowsPrefix old bytes now
    → IsCut q plan before s0 (e ∷ entries) now
said_cut q plan before entries s0 old now e bytes same was cut =
    subst (λ (b : List ℕ). ShowsPrefix (shown_with s0 (said q plan before entries)) b now) same (subst (λ (s : Option (List ℕ)). ShowsPrefix s bytes now) was cut)

-- ---- what a crash may leave

one_more : (e : Entry) (entries pending lost kept : List Entry) → pending ≡ [] → pending ++ entries ≡ lost ++ kept → e ∷ entries ≡ (e ∷ lost) ++ kept
one_more e entries pending lost kept none splits = ap (λ (l : List Entry). e ∷ l) (ap (λ (p : List Entry). p ++ entries) (sym none) ∙ splits)

-- what was left before is left with one entry more
pub left_before : (contents : Contents) (plan : PlanValue) (q : Bool) (before entries pending : List Entry) (s0 : Option (List ℕ)) (e : Entry) → pending ≡ [] → (image text : List ℕ)
    → LeavesEntries contents plan q before (pending ++ entries) s0 image text → LeavesEntries contents plan q before (e ∷ entries) s0 image text
left_before contents plan q before entries pending s0 e none image text left = record {
  lost = e ∷ left.lost;
  kept = left.kept;
  splits = one_more e entries pending left.lost left.kept none left.splits;
  recovers = left.recovers;
  spoken = left.spoken;
}

-- what the append and the line leave
pub left_now : (contents : Contents) (plan : PlanValue) (q : Bool) (before entries : List Entry) (s0 old : Option (List ℕ)) (e : Entry) (title : Title) (bytes : List ℕ) (held : List (List ℕ))
    → title ≡ book_title → held ≡ bodies_with contents entries → bytes ≡ said_of q (line (outline_of plan) (length (entries ++ before) + 1) e)
    → old ≡ shown_with s0 (said q (outline_of plan) before entries) → (image text : List ℕ)
    → LeavesLogged title held (entry_body contents.number e) bytes old image text → LeavesEntries contents plan q before (e ∷ entries) s0 image text
left_now contents plan q before entries s0 old e title bytes held titled lies same was image text left = ⊎_elim without with_it left
  where
    without : (recovered title image ≡ bodies held) × (old ≡ Some text) → LeavesEntries contents plan q before (e ∷ entries) s0 image text
    without is = record {
      lost = e ∷ [];
      kept = entries;
      splits = refl;
      recovers = ap (λ (t : Title). recovered t image) (sym titled) ∙ is.0 ∙ ap bodies lies;
      spoken = prefix_whole s0 (said q (outline_of plan) before entries) text (sym is.1 ∙ was);
    }

    with_it : (recovered title image ≡ bodies (held ++ entry_body contents.number e ∷ [])) × ShowsPrefix old bytes (Some text) → LeavesEntries contents plan q before (e ∷ entries) s0 image text
    with_it is = record {
      lost = [];
      kept = e ∷ entries;
      splits = refl;
      recovers = ap (λ (t : Title). recovered t image) (sym titled) ∙ is.0 ∙ ap (λ (h : List (List ℕ)). bodies (h ++ entry_body contents.number e ∷ [])) lies;
      spoken = subst (λ (b : List ℕ). ShowsPrefix s0 (said q (outline_of plan) before entries ++ b) (Some text)) same
          (prefix_further s0 old (said q (outline_of plan) before entries) bytes text was is.1);
    }

pub none_pending : (plan : PlanValue) (past : List Entry) (halted : Option Halt) (failed : Option Entry) (pending : List Entry) → halted ≡ None
    → IsPending plan past halted failed pending → pending ≡ []
none_pending plan past None failed pending is few = few
none_pending plan past (Some h) failed pending is few = absurd (cc)
