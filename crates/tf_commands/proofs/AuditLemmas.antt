-- How an audit goes, and what its status tells.
use Rattle.std.proofs.Common.{◌≡◌, ◌≤◌, ◌⊎◌, ℕ, List, [], ◌++◌, length, Option, Some, inl, inr, sym, ap, ◌∙◌, subst, arith, ⊎_elim}
use Rattle.tf_numbers.specs.Numbers.{Rises}
use Rattle.tf_desk.specs.State.{DeskState, Says}
use Rattle.tf_flow.specs.Plan.{PlanTree}
use Rattle.tf_model.specs.Plan.{Outline}
use Rattle.tf_ports.specs.Ports.{Contents, GivesBytes, PassesLimit}
use Rattle.tf_ports.specs.declared.reading.TheConstants.{SOURCE_LIMIT}
use Rattle.tf_target.specs.Target.{outline_in}
use Rattle.tf_report.specs.Closing.{ClosesWith}
use Rattle.tf_report.proofs.ClosingLemmas.{closes_status}
use Rattle.tf_audit.specs.Verdicts.{verdict_text, IsVerdict}
use Rattle.tf_audit.specs.declared.verdicts.Verdict.{Verdict}
use Rattle.tf_audit.specs.declared.verdicts.Verdict.TheVariants as verdict
use Rattle.tf_words.specs.declared.asked.Asked.{Asked}
use Rattle.tf_accept.specs.Accepted.{GivesPlan, GivesNone}
use Rattle.tf_commands.specs.Asking.{file_asked_for}
use Rattle.tf_commands.specs.Messages.{Judges, unjudged, judged, Audits, unfinished_log, unread_log, long_log, audited, log_asked_for, verdict_status, RefusesLog, IsLogRefused}
use Rattle.tf_words.specs.Words.{command_of}
use Rattle.tf_commands.specs.Behaviour as behaviour
use Rattle.tf_commands.specs.Behaviour.{BytesRead, FileRead, IsRefused, passes_limit, gives_none, IsDoneComplete}
use Rattle.tf_commands.specs.Books.{HasSaid}
use Rattle.tf_accept.specs.declared.accepting.Refusal.{Refusal}
use Rattle.tf_commands.specs.declared.reading.Source.{Source}
use Rattle.tf_commands.proofs.WorkLemmas.{says_only}

-- ---- the judgement

-- a verdict that was found is said, where its text was put into an empty buffer
pub judged_so : (plan : Outline) (bytes : List ℕ) (found : Verdict) (before after : Option (List ℕ)) (text out fresh : List ℕ) (said : Outline) (wanted status : ℕ) → IsVerdict plan bytes found
    → said ≡ plan → text ≡ out → out ≡ fresh ++ verdict_text said found → fresh ≡ [] → wanted ≡ verdict_status found → ClosesWith before text wanted after status
    → Judges plan bytes before after status
judged_so plan bytes found before after text out fresh said wanted status is same text_is out_is fresh_is wanted_is closes =
    let text_so : text ≡ verdict_text plan found =
    text_is ∙ out_is ∙ ap (λ (f : List ℕ). f ++ verdict_text said found) fresh_is ∙ ap (λ (p : Outline). verdict_text p found) same in
    judged found is (subst (λ (t : List ℕ). ClosesWith before t (verdict_status found) after status) text_so
    (subst (λ (w : ℕ). ClosesWith before text w after status) wanted_is closes))

-- the status of a verdict is 0 or 17
status_apart : (found : Verdict) (other : ℕ) → ¬ (other ≡ 0) → ¬ (other ≡ 17) → verdict_status found ≡ other → ⊥
status_apart (verdict.Legal entries state) other legal bad is = legal (sym is)
status_apart (verdict.Bad line because) other legal bad is = bad (sym is)

-- a message with the status of a verdict closes with that one or with that of a failed output
pub closed_apart : (found : Verdict) (wanted status other : ℕ) → wanted ≡ verdict_status found → (¬ (status ≡ 7) → status ≡ wanted) → ¬ (other ≡ 0) → ¬ (other ≡ 17) → ¬ (other ≡ 7)
    → status ≡ other → ⊥
closed_apart found wanted status other same told legal bad unsaid is =
    status_apart found other legal bad (sym same ∙ sym (told (λ seven. unsaid (sym is ∙ seven))) ∙ is)

-- a message with the status of a verdict is the last that a command says
pub verdict_said : (found : Verdict) (bytes : List ℕ) (old now : DeskState) (wanted status : ℕ) → wanted ≡ verdict_status found → Says bytes old now
    → (status ≡ 7 → ¬ (wanted ≡ 7) → Rises old.out_faults now.out_faults) → (¬ (status ≡ 7) → status ≡ wanted) → HasSaid old now status
verdict_said found bytes old now wanted status same says fails told = record {
  says = says_only says;
  unsaid = λ is. fails is (λ seven. status_apart found 7 (λ e. omega arith) (λ e. omega arith) (sym same ∙ seven));
  read = λ is. closed_apart found wanted status 3 same told (λ e. omega arith) (λ e. omega arith) (λ e. omega arith) is;
}

-- ---- what a status tells

-- how the audit of a log by a flow file ended
pub data AuditStatus (files : Contents) (source : Source) (log : List ℕ) (status : ℕ) : Type 0 where
  -- it was done, or something couldn't be read or said, or memory ran out
  audit_done : (status ≡ 0) ⊎ (status ≡ 3) ⊎ (status ≡ 7) ⊎ (status ≡ 9) → AuditStatus files source log status
  file_long : status ≡ 4 → PassesLimit files source.file → AuditStatus files source log status
  file_refused : status ≡ 4 → (bytes : List ℕ) (why : Refusal) → GivesBytes files source.file bytes → GivesNone source.sets source.defer source.target bytes why → AuditStatus files source log status
  log_refused : status ≡ 17 → RefusesLog files source log → AuditStatus files source log status

module _ (files : Contents) (source : Source) (log : List ℕ) (before after : Option (List ℕ)) (status : ℕ) where
  out_so : status ≡ 9 → AuditStatus files source log status
  out_so is = audit_done (inr (inr (inr is)))

  unread_so : (message : List ℕ) → ClosesWith before message 3 after status → AuditStatus files source log status
  unread_so message closes = ⊎_elim (λ is. audit_done (inr (inl is))) (λ is. audit_done (inr (inr (inl is)))) (closes_status before after message 3 status closes)

  log_refused_so : (message : List ℕ) → RefusesLog files source log → ClosesWith before message 17 after status → AuditStatus files source log status
  log_refused_so message refuses closes = ⊎_elim (λ is. log_refused is refuses) (λ is. audit_done (inr (inr (inl is)))) (closes_status before after message 17 status closes)

  judged_status : (bytes written : List ℕ) (plan : PlanTree) → GivesBytes files source.file bytes → GivesPlan source.sets source.defer source.target bytes plan
      → GivesBytes files log written → length written ≤ SOURCE_LIMIT → Judges (outline_in plan) written before after status → AuditStatus files source log status
  judged_status bytes written plan given gives has short (unjudged is same) = out_so is
  judged_status bytes written plan given gives has short (judged (verdict.Legal entries state) is closes) =
      ⊎_elim (λ done. audit_done (inl done)) (λ unsaid. audit_done (inr (inr (inl unsaid)))) (closes_status before after _ 0 status closes)
  judged_status bytes written plan given gives has short (judged (verdict.Bad line because) is closes) =
      log_refused_so _ (record {
        bytes = bytes;
        plan = plan;
        given = given;
        gives = gives;
        refuses = inr (record { bytes = written; line = line; because = because; given = has; short = short; bad = is });
      }) closes

  audits_status : (bytes : List ℕ) (plan : PlanTree) → GivesBytes files source.file bytes → GivesPlan source.sets source.defer source.target bytes plan
      → Audits files log before after plan status → AuditStatus files source log status
  audits_status bytes plan given gives (unfinished_log is same) = out_so is
  audits_status bytes plan given gives (unread_log closes) = unread_so _ closes
  audits_status bytes plan given gives (long_log passes closes) =
      log_refused_so _ (record { bytes = bytes; plan = plan; given = given; gives = gives; refuses = inl passes }) closes
  audits_status bytes plan given gives (audited written has short judges) = judged_status bytes written plan given gives has short judges

  refused_so : (bytes : List ℕ) (why : Refusal) (message : List ℕ) → GivesBytes files source.file bytes → GivesNone source.sets source.defer source.target bytes why
      → ClosesWith before message 4 after status → AuditStatus files source log status
  refused_so bytes why message given none closes = ⊎_elim (λ is. file_refused is bytes why given none) (λ is. audit_done (inr (inr (inl is)))) (closes_status before after message 4 status closes)

  audit_bytes : (untouched : Type 0) (bytes : List ℕ) → GivesBytes files source.file bytes → BytesRead source bytes untouched (Audits files log before after) before after status → AuditStatus files source log status
  audit_bytes untouched bytes given (behaviour.exhausted still is same) = out_so is
  audit_bytes untouched bytes given (behaviour.refused still why none closes) = refused_so bytes why _ given none closes
  audit_bytes untouched bytes given (behaviour.done plan gives did) = audits_status bytes plan given gives did

  pub audit_status : (untouched : Type 0) → FileRead files source untouched (Audits files log before after) before after status → AuditStatus files source log status
  audit_status untouched (behaviour.unfinished still is same) = out_so is
  audit_status untouched (behaviour.unread still closes) = unread_so _ closes
  audit_status untouched (behaviour.too_long still passes closes) = ⊎_elim (λ is. file_long is passes) (λ is. audit_done (inr (inr (inl is)))) (closes_status before after _ 4 status closes)
  audit_status untouched (behaviour.read bytes given short came) = audit_bytes untouched bytes given came

one_of : (status wanted : ℕ) → ¬ (wanted ≡ 0) → ¬ (wanted ≡ 3) → ¬ (wanted ≡ 7) → ¬ (wanted ≡ 9) → (status ≡ 0) ⊎ (status ≡ 3) ⊎ (status ≡ 7) ⊎ (status ≡ 9) → status ≡ wanted → ⊥
one_of status wanted a b c d (inl is) same = a (omega (arith, is, same))
one_of status wanted a b c d (inr (inl is)) same = b (omega (arith, is, same))
one_of status wanted a b c d (inr (inr (inl is))) same = c (omega (arith, is, same))
one_of status wanted a b c d (inr (inr (inr is))) same = d (omega (arith, is, same))

pub audit_usage : (files : Contents) (source : Source) (log : List ℕ) (status : ℕ) → AuditStatus files source log status → status ≡ 2 → ⊥
audit_usage files source log status (audit_done one) is = one_of status 2 (λ e. omega arith) (λ e. omega arith) (λ e. omega arith) (λ e. omega arith) one is
audit_usage files source log status (file_long four passes) is = omega (arith, four, is)
audit_usage files source log status (file_refused four bytes why given none) is = omega (arith, four, is)
audit_usage files source log status (log_refused last refuses) is = omega (arith, last, is)

pub audit_unrefused : (files : Contents) (source : Source) (log : List ℕ) (status : ℕ) → AuditStatus files source log status → status ≡ 15 → ⊥
audit_unrefused files source log status (audit_done one) is = one_of status 15 (λ e. omega arith) (λ e. omega arith) (λ e. omega arith) (λ e. omega arith) one is
audit_unrefused files source log status (file_long four passes) is = omega (arith, four, is)
audit_unrefused files source log status (file_refused four bytes why given none) is = omega (arith, four, is)
audit_unrefused files source log status (log_refused last refuses) is = omega (arith, last, is)

pub audit_new : (files : Contents) (source : Source) (log : List ℕ) (status : ℕ) → AuditStatus files source log status → status ≡ 16 → ⊥
audit_new files source log status (audit_done one) is = one_of status 16 (λ e. omega arith) (λ e. omega arith) (λ e. omega arith) (λ e. omega arith) one is
audit_new files source log status (file_long four passes) is = omega (arith, four, is)
audit_new files source log status (file_refused four bytes why given none) is = omega (arith, four, is)
audit_new files source log status (log_refused last refuses) is = omega (arith, last, is)

-- status 4 comes where the flow file is refused
pub audit_refused : (words : List (List ℕ)) (files : Contents) (command : Asked) (source : Source) (log : List ℕ) (status : ℕ) → command_of words ≡ Some command → file_asked_for command ≡ Some source
    → AuditStatus files source log status → status ≡ 4 → IsRefused words files
audit_refused words files command source log status asks about (audit_done one) is = absurd (one_of status 4 (λ e. omega arith) (λ e. omega arith) (λ e. omega arith) (λ e. omega arith) one is)
audit_refused words files command source log status asks about (file_long four passes) is = passes_limit command source asks about passes
audit_refused words files command source log status asks about (file_refused four bytes why given none) is = gives_none command source bytes why asks about given none
audit_refused words files command source log status asks about (log_refused last refuses) is = absurd (omega (arith, last, is))

-- status 17 comes where the log is refused
pub audit_log_refused : (words : List (List ℕ)) (files : Contents) (command : Asked) (source : Source) (log : List ℕ) (status : ℕ) → command_of words ≡ Some command → file_asked_for command ≡ Some source
    → log_asked_for command ≡ Some log → AuditStatus files source log status → status ≡ 17 → IsLogRefused words files
audit_log_refused words files command source log status asks file about (audit_done one) is = absurd (one_of status 17 (λ e. omega arith) (λ e. omega arith) (λ e. omega arith) (λ e. omega arith) one is)
audit_log_refused words files command source log status asks file about (file_long four passes) is = absurd (omega (arith, four, is))
audit_log_refused words files command source log status asks file about (file_refused four bytes why given none) is = absurd (omega (arith, four, is))
audit_log_refused words files command source log status asks file about (log_refused last refuses) is = record { command = command; source = source; log = log; asks = asks; file = file; about = about; refused = refuses }

-- what is done with a log never refuses a flow file
pub audits_whole : (files : Contents) (log : List ℕ) (before after : Option (List ℕ)) (plan : PlanTree) (status : ℕ) → Audits files log before after plan status → status ≡ 4 → ⊥
audits_whole files log before after plan status (unfinished_log is same) four = omega (arith, is, four)
audits_whole files log before after plan status (unread_log closes) four = ⊎_elim (λ is. omega (arith, is, four)) (λ is. omega (arith, is, four)) (closes_status before after _ 3 status closes)
audits_whole files log before after plan status (long_log passes closes) four = ⊎_elim (λ is. omega (arith, is, four)) (λ is. omega (arith, is, four)) (closes_status before after _ 17 status closes)
audits_whole files log before after plan status (audited bytes has short judges) four = by judges
  where
    by : Judges (outline_in plan) bytes before after status → ⊥
    by (unjudged is same) = omega (arith, is, four)
    by (judged (verdict.Legal entries state) is closes) = ⊎_elim (λ is. omega (arith, is, four)) (λ is. omega (arith, is, four)) (closes_status before after _ 0 status closes)
    by (judged (verdict.Bad line because) is closes) = ⊎_elim (λ is. omega (arith, is, four)) (λ is. omega (arith, is, four)) (closes_status before after _ 17 status closes)

-- where no file is refused and no fault came, the log is said to be legal, or memory runs out
pub audits_well : (files : Contents) (source : Source) (log : List ℕ) (status : ℕ) → ¬ (status ≡ 3) → ¬ (status ≡ 7) → ¬ (status ≡ 4) → ¬ (RefusesLog files source log) → AuditStatus files source log status → IsDoneComplete status
audits_well files source log status readable sayable whole legal (audit_done (inl is)) = inl is
audits_well files source log status readable sayable whole legal (audit_done (inr (inl is))) = absurd (readable is)
audits_well files source log status readable sayable whole legal (audit_done (inr (inr (inl is)))) = absurd (sayable is)
audits_well files source log status readable sayable whole legal (audit_done (inr (inr (inr is)))) = inr is
audits_well files source log status readable sayable whole legal (file_long four passes) = absurd (whole four)
audits_well files source log status readable sayable whole legal (file_refused four bytes why given none) = absurd (whole four)
audits_well files source log status readable sayable whole legal (log_refused last refuses) = absurd (legal refuses)
