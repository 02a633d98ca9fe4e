-- What a status tells of a flow file.
use Rattle.std.proofs.Common.{◌≡◌, ◌⊎◌, ℕ, List, length, Option, Some, None, inl, inr, refl, ◌∙◌, sym, ap, subst, arith, ⊎_elim}
use Rattle.tf_flow.specs.Plan.{PlanTree}
use Rattle.tf_ports.specs.Ports.{Contents, GivesBytes, PassesLimit}
use Rattle.tf_words.specs.declared.asked.Asked.{Asked}
use Rattle.tf_accept.specs.Accepted.{GivesPlan, GivesWhole, GivesNone}
use Rattle.tf_commands.specs.Asking.{file_asked_for}
use Rattle.tf_words.specs.Words.{command_of}
use Rattle.tf_commands.specs.Behaviour as behaviour
use Rattle.tf_commands.specs.Behaviour.{BytesRead, FileRead, IsRefused, passes_limit, gives_none, IsAccepted}
use Rattle.tf_accept.specs.declared.accepting.Refusal.{Refusal}
use Rattle.tf_commands.specs.declared.reading.Source.{Source}
use Rattle.tf_accept.proofs.AcceptLemmas.{gives_one}
use Rattle.tf_commands.proofs.EndLemmas.{Ended, is_unsaid, out_ends, ended_apart, ended_unrefused, ended_no_log, ended_old}
use Rattle.tf_report.proofs.ClosingLemmas.{closes_status}

-- what a status tells of a flow file
pub data FileStatus (old : Type 0) (files : Contents) (source : Source) (status : ℕ) : Type 0 where
  done_so : Ended old status → FileStatus old files source status
  not_read : status ≡ 3 → FileStatus old files source status
  not_short : status ≡ 4 → PassesLimit files source.file → FileStatus old files source status
  not_plan : status ≡ 4 → (bytes : List ℕ) (why : Refusal) → GivesBytes files source.file bytes → GivesNone source.sets source.defer source.target bytes why → FileStatus old files source status

bytes_status : {old : Type 0} (files : Contents) (source : Source) (bytes : List ℕ) (untouched : Type 0) (does : PlanTree → ℕ → Type 0) (before after : Option (List ℕ)) (status : ℕ) → ((plan : PlanTree) → does plan status → Ended old status)
    → GivesBytes files source.file bytes → BytesRead source bytes untouched does before after status → FileStatus old files source status
bytes_status files source bytes untouched does before after status ends given (behaviour.exhausted still is same) = done_so (out_ends status is)
bytes_status files source bytes untouched does before after status ends given (behaviour.refused still why none closes) =
    ⊎_elim (λ is. not_plan is bytes why given none) (λ is. done_so (is_unsaid is)) (closes_status before after _ 4 status closes)
bytes_status files source bytes untouched does before after status ends given (behaviour.done plan gives did) = done_so (ends plan did)

pub file_status : {old : Type 0} (files : Contents) (source : Source) (untouched : Type 0) (does : PlanTree → ℕ → Type 0) (before after : Option (List ℕ)) (status : ℕ) → ((plan : PlanTree) → does plan status → Ended old status)
    → FileRead files source untouched does before after status → FileStatus old files source status
file_status files source untouched does before after status ends (behaviour.unfinished still is same) = done_so (out_ends status is)
file_status files source untouched does before after status ends (behaviour.unread still closes) =
    ⊎_elim (λ is. not_read is) (λ is. done_so (is_unsaid is)) (closes_status before after _ 3 status closes)
file_status files source untouched does before after status ends (behaviour.too_long still passes closes) =
    ⊎_elim (λ is. not_short is passes) (λ is. done_so (is_unsaid is)) (closes_status before after _ 4 status closes)
file_status files source untouched does before after status ends (behaviour.read bytes given short came) = bytes_status files source bytes untouched does before after status ends given came

-- the plan that a flow file gives was dealt with
pub record Deals (files : Contents) (source : Source) (does : PlanTree → ℕ → Type 0) (status : ℕ) : Type 0 where
  pub plan : PlanTree
  pub bytes : List ℕ
  pub given : GivesBytes files source.file bytes
  pub gives : GivesPlan source.sets source.defer source.target bytes plan
  pub did : does plan status

-- what gives a plan is dealt with, unless memory ran out, or a fault came
pub accepted_done : (files : Contents) (source : Source) (untouched : Type 0) (does : PlanTree → ℕ → Type 0) (before after : Option (List ℕ)) (status : ℕ) → IsAccepted source files → ¬ (status ≡ 3) → ¬ (status ≡ 7)
    → FileRead files source untouched does before after status → (status ≡ 9) ⊎ Deals files source does status
accepted_done files source untouched does before after status accepted readable sayable (behaviour.unfinished still is same) = inl is
accepted_done files source untouched does before after status accepted readable sayable (behaviour.unread still closes) =
    absurd (⊎_elim readable sayable (closes_status before after _ 3 status closes))
accepted_done files source untouched does before after status accepted readable sayable (behaviour.too_long still passes closes) =
    absurd (too_short files source accepted passes)
  where
    too_short : (f : Contents) (src : Source) (a : IsAccepted src f) → PassesLimit f src.file → ⊥
    too_short f src a passes = by f a.sources passes
      where
        by : (g : Contents) → g ≡ Some a.told → PassesLimit g src.file → ⊥
        by None is pass = cc
        by (Some told) is pass =
            let same : told ≡ a.told = cc in
            let under : Some pass.0 ≡ Some a.bytes = sym pass.1 ∙ ap (λ (t : List ℕ → Option (List ℕ)). t src.file) same ∙ a.under in
            let bytes : pass.0 ≡ a.bytes = cc in
            omega (arith, pass.2, ap length bytes, a.short)
accepted_done files source untouched does before after status accepted readable sayable (behaviour.read bytes given short came) = by came
  where
    by : BytesRead source bytes untouched does before after status → (status ≡ 9) ⊎ Deals files source does status
    by (behaviour.exhausted still is same) = inl is
    by (behaviour.refused still why none closes) = absurd (gives_one source.sets source.defer source.target bytes accepted.plan why (gives_here files accepted given) accepted.target none)
      where
        gives_here : (f : Contents) (a : IsAccepted source f) → GivesBytes f source.file bytes → GivesWhole source.sets source.defer bytes a.plan
        gives_here f a has = on f a.sources has
          where
            on : (g : Contents) → g ≡ Some a.told → GivesBytes g source.file bytes → GivesWhole source.sets source.defer bytes a.plan
            on None is got = absurd (cc)
            on (Some told) is got =
                let same : told ≡ a.told = cc in
                let under : Some bytes ≡ Some a.bytes = sym got ∙ ap (λ (t : List ℕ → Option (List ℕ)). t source.file) same ∙ a.under in
                let bytes_are : bytes ≡ a.bytes = cc in
                subst (λ (b : List ℕ). GivesWhole source.sets source.defer b a.plan) (sym bytes_are) a.given
    by (behaviour.done plan gives did) = inr (record { plan = plan; bytes = bytes; given = given; gives = gives; did = did })

pub file_unrefused : {old : Type 0} (files : Contents) (source : Source) (status : ℕ) → FileStatus old files source status → status ≡ 15 → ⊥
file_unrefused files source status (done_so ended) is = ended_unrefused status ended is
file_unrefused files source status (not_read three) is = omega (arith, three, is)
file_unrefused files source status (not_short four passes) is = omega (arith, four, is)
file_unrefused files source status (not_plan four bytes why given none) is = omega (arith, four, is)

pub file_no_log : {old : Type 0} (files : Contents) (source : Source) (status : ℕ) → FileStatus old files source status → status ≡ 17 → ⊥
file_no_log files source status (done_so ended) is = ended_no_log status ended is
file_no_log files source status (not_read three) is = omega (arith, three, is)
file_no_log files source status (not_short four passes) is = omega (arith, four, is)
file_no_log files source status (not_plan four bytes why given none) is = omega (arith, four, is)

pub file_old : {old : Type 0} (files : Contents) (source : Source) (status : ℕ) → FileStatus old files source status → status ≡ 16 → old
file_old files source status (done_so ended) is = ended_old status ended is
file_old files source status (not_read three) is = absurd (omega (arith, three, is))
file_old files source status (not_short four passes) is = absurd (omega (arith, four, is))
file_old files source status (not_plan four bytes why given none) is = absurd (omega (arith, four, is))

pub file_usage : {old : Type 0} (files : Contents) (source : Source) (status : ℕ) → FileStatus old files source status → status ≡ 2 → ⊥
file_usage files source status (done_so ended) two = ended_apart status 2 ended two (inl refl)
file_usage files source status (not_read is) two = omega arith
file_usage files source status (not_short is passes) two = omega arith
file_usage files source status (not_plan is bytes why given none) two = omega arith

pub file_refused : {old : Type 0} (words : List (List ℕ)) (files : Contents) (command : Asked) (source : Source) (status : ℕ) → command_of words ≡ Some command → file_asked_for command ≡ Some source → FileStatus old files source status
    → status ≡ 4 → IsRefused words files
file_refused words files command source status asks about (done_so ended) four = absurd (ended_apart status 4 ended four (inr (inr refl)))
file_refused words files command source status asks about (not_read is) four = absurd (omega arith)
file_refused words files command source status asks about (not_short is passes) four = passes_limit command source asks about passes
file_refused words files command source status asks about (not_plan is bytes why given none) four = gives_none command source bytes why asks about given none
