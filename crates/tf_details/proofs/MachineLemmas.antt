-- What the machines of a book tell of its details.
use Rattle.std.proofs.Common.{◌≡◌, inl, inr, ◌≤◌, ◌<◌, ℕ, ◌+◌, List, [], ◌∷◌, ◌++◌, length, get_or, Bool, true, false, cond, Some, None, refl, sym, ap, ◌∙◌, subst, arith, length-append, slice_get, position}
use Rattle.std.specs.Prelude.{nat_eq, nat_lt, not, if◌then◌else◌, option_map}
use Rattle.std.specs.List.{slice_set, position_or_len}
use Rattle.std.proofs.Math.Seq.{map-set_same, get_or-append_seam}
use Rattle.std.proofs.lemmas.Bool.{eqb-true, eqb-false, cases_lt}
use Rattle.std.proofs.lemmas.List.{length-map, length-set, map-append, get_or_append_left, get_or-set_same, get_or-set_other}
use Rattle.std.proofs.lemmas.Option.{slice_get-map, slice_get-get_or, slice_get_past}
use Rattle.tf_flow.specs.Plan.{PlanValue}
use Rattle.tf_states.specs.declared.record.Entry.{Entry}
use Rattle.tf_machine.specs.Machine.{MachineValue, StandsFor}
use Rattle.tf_model.specs.History.{snapshot, flow_of}
use Rattle.tf_model.specs.Plan.{Outline}
use Rattle.tf_details.specs.Elements.{Element, detail, entry, details, plan_of, history, has_name, number_among, IsLegalBook}
use Rattle.tf_details.specs.Reading.{plan_in, plans_in, is_named, AreMachinesOf, HasReadDetail, IsReadEntry, HasTaken}
use Rattle.tf_details.proofs.ElementLemmas.{none_past}

-- as many machines as details
pub as_many : (machines : List MachineValue) (book : List Element) → AreMachinesOf machines book → length machines ≡ length (details book)
as_many machines book are = sym (length-map machines plan_in) ∙ ap length are.plans

-- the plan of a detail is that of its machine
pub plan_found : (machines : List MachineValue) (book : List Element) → AreMachinesOf machines book → (n : ℕ) (d : MachineValue) → n < length machines
    → plan_of book n ≡ Some (get_or machines n d).plan
plan_found machines book are n d below =
    ap (λ (plans : List PlanValue). slice_get plans n) (sym are.plans) ∙ slice_get-map plan_in machines n ∙ ap (option_map plan_in) (slice_get-get_or machines n d below)

-- a machine that is there doesn't hang on the one that stands for none
pub same_machine : (machines : List MachineValue) (n : ℕ) (a b : MachineValue) → n < length machines → get_or machines n a ≡ get_or machines n b
same_machine machines n a b below =
    let both : Some (get_or machines n a) ≡ Some (get_or machines n b) = sym (slice_get-get_or machines n a below) ∙ slice_get-get_or machines n b below in
    cc

-- there is no detail of a number that no machine has
pub none_found : (machines : List MachineValue) (book : List Element) → AreMachinesOf machines book → (n : ℕ) → length machines ≤ n → plan_of book n ≡ None
none_found machines book are n past = slice_get_past (details book) n (omega (arith, as_many machines book are, past))

-- the first machine with a name
first_named : (name : List ℕ) (machines : List MachineValue) → position_or_len (is_named name) machines ≡ position_or_len (has_name name) (plans_in machines)
first_named name [] = refl
first_named name (m ∷ machines) = ap (λ (n : ℕ). cond (not (has_name name m.plan)) (1 + n) 0) (first_named name machines)

pub named_found : (name : List ℕ) (machines : List MachineValue) → position (is_named name) machines ≡ number_among (plans_in machines) name
named_found name machines =
    ap (λ (n : ℕ). cond (nat_lt n (length machines)) (Some n) None) (first_named name machines)
    ∙ ap (λ (len : ℕ). cond (nat_lt (position_or_len (has_name name) (plans_in machines)) len) (Some (position_or_len (has_name name) (plans_in machines))) None) (sym (length-map machines plan_in))

-- ---- a new detail

began_stand : (old : List MachineValue) (m : MachineValue) (book : List Element) → IsLegalBook book → AreMachinesOf old book → StandsFor m []
    → (n : ℕ) (d : MachineValue) → n < length (old ++ m ∷ []) → StandsFor (get_or (old ++ m ∷ []) n d) (history n book)
began_stand old m book legal are fresh n d within = elim (cases_lt n (length old)) [
  | inl below ↦ subst (λ (x : MachineValue). StandsFor x (history n book)) (sym (get_or_append_left old (m ∷ []) d n below)) (are.stand n d below)
  | inr past ↦ let at : n ≡ length old = omega (arith, past, within, length-append old (m ∷ [])) in
      let here : get_or (old ++ m ∷ []) n d ≡ m = ap (λ (k : ℕ). get_or (old ++ m ∷ []) k d) at ∙ get_or-append_seam old m [] d in
      let none : history n book ≡ [] = none_past book n legal (omega (arith, as_many old book are, past)) in
      subst (λ (x : MachineValue). StandsFor x (history n book)) (sym here) (subst (λ (l : List Entry). StandsFor m l) (sym none) fresh)
]

-- the details with a new one
pub began : (old new : List MachineValue) (form : List ℕ) (book : List Element) → IsLegalBook book → AreMachinesOf old book → (read : HasReadDetail old new form)
    → IsLegalBook (detail read.machine.plan ∷ book) × AreMachinesOf new (detail read.machine.plan ∷ book)
began old new form book legal are read =
    let m = read.machine in (
      (
        record {
          accepted = read.history.accepted;
          limits = read.history.limits;
          runs = read.history.runs;
          few = omega (arith, read.few, as_many old book are);
          unnamed = ap (λ (plans : List PlanValue). number_among plans m.plan.root.name) (sym are.plans) ∙ read.unnamed;
        },
        legal,
      ),
      subst (λ (machines : List MachineValue). AreMachinesOf machines (detail m.plan ∷ book)) (sym read.added) (record {
        plans = map-append plan_in old (m ∷ []) ∙ ap (λ (plans : List PlanValue). plans ++ m.plan ∷ []) are.plans;
        stand = began_stand old m book legal are read.fresh;
      }),
    )

-- ---- a new entry

took_stand : (old : List MachineValue) (m : MachineValue) (number : ℕ) (e : Entry) (book : List Element) → AreMachinesOf old book → number < length old → StandsFor m (e ∷ history number book)
    → (n : ℕ) (d : MachineValue) → n < length old → (b : Bool) → nat_eq number n ≡ b → StandsFor (get_or (slice_set old number m) n d) (if b then e ∷ history n book else history n book)
took_stand old m number e book are within now n d below true is =
    subst (λ (k : ℕ). StandsFor (get_or (slice_set old number m) k d) (e ∷ history k book)) (eqb-true number n is)
    (subst (λ (x : MachineValue). StandsFor x (e ∷ history number book)) (sym (get_or-set_same old number m d within)) now)
took_stand old m number e book are within now n d below false is =
    subst (λ (x : MachineValue). StandsFor x (history n book)) (sym (get_or-set_other old number n m d (λ same. eqb-false number n is (sym same)))) (are.stand n d below)

-- the details with one entry more
pub took : (old new : List MachineValue) (number : ℕ) (form : List ℕ) (e : Entry) (book : List Element) → IsLegalBook book → AreMachinesOf old book
    → IsReadEntry old number form e → HasTaken old new number e → IsLegalBook (entry number e ∷ book) × AreMachinesOf new (entry number e ∷ book)
took old new number form e book legal are read taken =
    let m = taken.machine in
    let now : StandsFor m (e ∷ history number book) = taken.stands m (history number book) (are.stand number m read.within) in (
      (
        record {
          plan = m.plan;
          of_detail = plan_found old book are number m read.within ∙ ap Some (sym (taken.plan m));
          step = now.legal.0;
          form = ((read.is_entry m).hand, (read.is_entry m).payload);
        },
        legal,
      ),
      subst (λ (machines : List MachineValue). AreMachinesOf machines (entry number e ∷ book)) (sym taken.replaced) (record {
        plans = map-set_same plan_in old number m m (taken.plan m) ∙ are.plans;
        stand = λ n d below. took_stand old m number e book are read.within now n d (omega (arith, below, length-set old number m)) (nat_eq number n) refl;
      }),
    )

-- ---- one machine

-- the machine that stands at a number has the plan of the detail, and stands for its history
pub machine_found : (machines : List MachineValue) (n : ℕ) (m : MachineValue) → n < length machines → m ≡ get_or machines n m → (book : List Element) → AreMachinesOf machines book
    → plan_of book n ≡ Some m.plan
machine_found machines n m below is book are = plan_found machines book are n m below ∙ ap (λ (x : MachineValue). Some x.plan) (sym is)

pub machine_stands : (machines : List MachineValue) (n : ℕ) (m : MachineValue) → n < length machines → m ≡ get_or machines n m → (book : List Element) → AreMachinesOf machines book
    → StandsFor m (history n book)
machine_stands machines n m below is book are = subst (λ (x : MachineValue). StandsFor x (history n book)) (sym is) (are.stand n m below)

-- the flow's state is that of the history
pub flow_told : (outline : Outline) (past : List Entry) → (snapshot outline past).flow ≡ flow_of past
unfolding snapshot
flow_told outline past = refl

-- the number of a name among the details
pub details_named : (machines : List MachineValue) (book : List Element) (name : List ℕ) → AreMachinesOf machines book → number_among (plans_in machines) name ≡ number_among (details book) name
details_named machines book name are = ap (λ (plans : List PlanValue). number_among plans name) are.plans

-- no machine yet
pub none_yet : (machines : List MachineValue) → machines ≡ [] → AreMachinesOf machines []
none_yet machines is = subst (λ (l : List MachineValue). AreMachinesOf l []) (sym is) (record { plans = refl; stand = λ n d below. absurd (omega (arith, below)) })
