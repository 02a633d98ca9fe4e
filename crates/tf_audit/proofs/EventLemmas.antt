-- What a line says is read from its words.
use Rattle.std.proofs.Common.{◌≡◌, ℕ, ℤ, ◌<◌, ◌^◌, List, [], ◌∷◌, ◌++◌, length, Bool, true, false, Option, Some, refl, sym, ap, ◌∙◌, arith, append_assoc, slice_get}
use Rattle.std.specs.Prelude.{option_map, codes, FitsSigned}
use Rattle.std.specs.Int.{w32}
use Rattle.std.specs.Fmt.{decimal, signed_decimal}
use Rattle.tf_values.specs.Text.{is_name, is_text}
use Rattle.tf_values.specs.Value.{quoted}
use Rattle.tf_flow.specs.Plan.{PlanValue}
use Rattle.tf_flow.specs.Plan as numbering
use Rattle.tf_states.specs.declared.record.Failure.{Failure}
use Rattle.tf_states.specs.declared.record.Failure.TheVariants as failure
use Rattle.tf_states.specs.declared.record.Kind.{Kind}
use Rattle.tf_states.specs.declared.record.Payload.{Payload}
use Rattle.tf_states.specs.declared.record.Payload.TheVariants as payload
use Rattle.tf_states.specs.declared.record.What.{What}
use Rattle.tf_states.specs.declared.record.What.TheVariants as what
use Rattle.tf_states.specs.declared.state.AtomState.{AtomState}
use Rattle.tf_states.specs.declared.state.FlowState.{FlowState}
use Rattle.tf_model.specs.Plan.{outline_of, count, is_task, atom_name}
use Rattle.tf_entries.specs.Entries.{IsFailure, IsPayload, is_payload_of, IsAmong, HasItsPayload}
use Rattle.tf_report.specs.Lines.{failure_text, payload_text, what_text, part_word, atom_word, flow_word, kind_word, flow_name}
use Rattle.tf_audit.specs.Names.{AreNamed}
use Rattle.tf_audit.specs.Words.{is_blank, is_unbroken, IsFirstWord, flow_state_named, resolution_named}
use Rattle.tf_audit.specs.Events.{payload_rest, failure_with, resolve_with, event_with}
use Rattle.tf_audit.proofs.WordLemmas.{name_unbroken, atom_word_unbroken, flow_word_unbroken, flow_word_named, kind_word_unbroken, kind_word_named}
use Rattle.tf_audit.proofs.NumberLemmas.{number_unbroken, status_unbroken}
use Rattle.tf_audit.proofs.NameLemmas.{atom_at, flow_at}

-- ---- failures

-- what may stand behind the word of a failure, as it is read
pub record ReadsParts (behind rest : List ℕ) (said named : Option (List ℕ)) (ended : Option ℤ) (reached : Option ℕ) : Type 0 where
  pub text : (t : List ℕ) → is_text t ≡ true → behind ≡ quoted t ++ 10 ∷ [] → said ≡ Some t
  pub name : (n : List ℕ) → is_name n ≡ true → rest ≡ n → named ≡ Some n
  pub status : (z : ℤ) → FitsSigned w32 z → rest ≡ signed_decimal z → ended ≡ Some z
  pub place : (n : ℕ) → n < 2 ^ 32 → rest ≡ decimal n → reached ≡ Some n

-- a failure that is a word alone
alone : (f : Failure) (word bytes behind rest : List ℕ) (text name : Option (List ℕ)) (status : Option ℤ) (place : Option ℕ) (w : List ℕ) → is_unbroken w ≡ true → IsFirstWord bytes word behind → bytes ≡ w ++ 10 ∷ []
    → failure_with w text name status place ≡ Some f → failure_with word text name status place ≡ Some f
alone f word bytes behind rest text name status place w unbroken cut is found =
    let p = cut.one w [] 10 unbroken refl is in
    ap (λ (u : List ℕ). failure_with u text name status place) p.0 ∙ found

pub failure_read : (f : Failure) → IsFailure f → (bytes word behind rest other : List ℕ) (text name : Option (List ℕ)) (status : Option ℤ) (place : Option ℕ) → IsFirstWord bytes word behind → IsFirstWord behind rest other
    → ReadsParts behind rest text name status place → bytes ≡ failure_text f ++ 10 ∷ [] → failure_with word text name status place ≡ Some f
failure_read (failure.Raised t) good bytes word behind rest other text name status place cut next parts is =
    let p = cut.one (codes "raised") (quoted t ++ 10 ∷ []) 32 refl refl is in
    ap (λ (u : List ℕ). failure_with u text name status place) p.0 ∙ ap (option_map failure.Raised) (parts.text t good p.1)
failure_read (failure.WrongKind n) good bytes word behind rest other text name status place cut next parts is =
    let p = cut.one (codes "type") (n ++ 10 ∷ []) 32 refl refl is in
    let q = next.one n [] 10 (name_unbroken n good) refl p.1 in
    ap (λ (u : List ℕ). failure_with u text name status place) p.0 ∙ ap (option_map failure.WrongKind) (parts.name n good q.0)
failure_read failure.Overflow good bytes word behind rest other text name status place cut next parts is =
    alone failure.Overflow word bytes behind rest text name status place (codes "overflow") refl cut is refl
failure_read failure.Range good bytes word behind rest other text name status place cut next parts is =
    alone failure.Range word bytes behind rest text name status place (codes "range") refl cut is refl
failure_read failure.TooLong good bytes word behind rest other text name status place cut next parts is =
    alone failure.TooLong word bytes behind rest text name status place (codes "too-long") refl cut is refl
failure_read (failure.Lookup n) good bytes word behind rest other text name status place cut next parts is =
    let p = cut.one (codes "lookup") (n ++ 10 ∷ []) 32 refl refl is in
    let q = next.one n [] 10 (name_unbroken n good) refl p.1 in
    ap (λ (u : List ℕ). failure_with u text name status place) p.0 ∙ ap (option_map failure.Lookup) (parts.name n good q.0)
failure_read (failure.Exit z) good bytes word behind rest other text name status place cut next parts is =
    let p = cut.one (codes "exit") (signed_decimal z ++ 10 ∷ []) 32 refl refl is in
    let q = next.one (signed_decimal z) [] 10 (status_unbroken z good) refl p.1 in
    ap (λ (u : List ℕ). failure_with u text name status place) p.0 ∙ ap (option_map failure.Exit) (parts.status z good q.0)
failure_read failure.Spawn good bytes word behind rest other text name status place cut next parts is =
    alone failure.Spawn word bytes behind rest text name status place (codes "spawn") refl cut is refl
failure_read failure.NotText good bytes word behind rest other text name status place cut next parts is =
    alone failure.NotText word bytes behind rest text name status place (codes "not-text") refl cut is refl
failure_read failure.Lost good bytes word behind rest other text name status place cut next parts is =
    alone failure.Lost word bytes behind rest text name status place (codes "lost") refl cut is refl
failure_read (failure.BadReply n) good bytes word behind rest other text name status place cut next parts is =
    let p = cut.one (codes "bad-reply") (decimal n ++ 10 ∷ []) 32 refl refl is in
    let q = next.one (decimal n) [] 10 (number_unbroken n (omega arith)) refl p.1 in
    ap (λ (u : List ℕ). failure_with u text name status place) p.0 ∙ ap (option_map failure.BadReply) (parts.place n good q.0)
failure_read failure.Exhausted good bytes word behind rest other text name status place cut next parts is =
    alone failure.Exhausted word bytes behind rest text name status place (codes "exhausted") refl cut is refl

-- ---- payloads

-- what stands behind the word of a state begins with a space or a line feed
abbrev payload_blank : Payload → ℕ
payload_blank payload.Empty = 10
payload_blank (payload.Value value) = 32
payload_blank (payload.Fault fault) = 32

blank_breaks : (held : Payload) → is_blank (payload_blank held) ≡ true
blank_breaks payload.Empty = refl
blank_breaks (payload.Value value) = refl
blank_breaks (payload.Fault fault) = refl

payload_stands : (held : Payload) → payload_text held ++ 10 ∷ [] ≡ payload_blank held ∷ payload_rest held
payload_stands payload.Empty = refl
payload_stands (payload.Value value) = refl
payload_stands (payload.Fault fault) = refl

-- ---- events

-- the number of an atom, as its name is read
pub record ReadsAtom (plan : PlanValue) (name : List ℕ) (found : Option ℕ) : Type 0 where
  pub is : (a : ℕ) → slice_get (numbering.atoms plan) a ≡ Some name → is_name name ≡ true → found ≡ Some a

-- the number of a flow
pub record ReadsFlow (plan : PlanValue) (name : List ℕ) (found : Option ℕ) : Type 0 where
  pub is : (g : ℕ) → slice_get (numbering.flows plan) g ≡ Some name → is_name name ≡ true → found ≡ Some g

-- what an atom enters
pub record ReadsEntered (found : Option ℕ) (word rest : List ℕ) (entered : Option What) : Type 0 where
  pub is : (a : ℕ) (s : AtomState) (held : Payload) → found ≡ Some a → word ≡ atom_word s → is_payload_of s held ≡ true → IsPayload held → rest ≡ payload_rest held → entered ≡ Some (what.Atom a s held)

-- the parts of a text with two words behind the first
pub two_words : (a b : List ℕ) → (a ++ 32 ∷ b) ++ 10 ∷ [] ≡ a ++ 32 ∷ (b ++ 10 ∷ [])
two_words a b = append_assoc a (32 ∷ b) (10 ∷ [])

pub three_words : (a b c : List ℕ) → ((a ++ 32 ∷ b) ++ c) ++ 10 ∷ [] ≡ a ++ 32 ∷ (b ++ (c ++ 10 ∷ []))
three_words a b c = append_assoc (a ++ 32 ∷ b) c (10 ∷ []) ∙ append_assoc a (32 ∷ b) (c ++ 10 ∷ [])

atom_read : (plan : PlanValue) (task : Bool) (a : ℕ) (s : AtomState) (held : Payload) (n : List ℕ) → slice_get (numbering.atoms plan) a ≡ Some n → is_name n ≡ true → is_payload_of s held ≡ true → IsPayload held
    → (bytes word behind name rest state last : List ℕ) (atom : Option ℕ) (entered : Option What) (turned : Option FlowState) (resolved : Option What)
    → IsFirstWord bytes word behind → IsFirstWord behind name rest → IsFirstWord rest state last → ReadsAtom plan name atom → ReadsEntered atom state last entered
    → bytes ≡ (part_word task ++ n ++ 32 ∷ atom_word s ++ payload_text held) ++ 10 ∷ [] → event_with word entered turned resolved atom ≡ Some (what.Atom a s held)
atom_read plan true a s held n at good fits within bytes word behind name rest state last atom entered turned resolved first second third ra re is =
    let p = first.one (codes "task") (n ++ 32 ∷ (atom_word s ++ (payload_text held ++ 10 ∷ []))) 32 refl refl (is ∙ ap (λ (x : List ℕ). codes "task" ++ 32 ∷ x) (three_words n (atom_word s) (payload_text held))) in
    let q = second.one n (atom_word s ++ (payload_text held ++ 10 ∷ [])) 32 (name_unbroken n good) refl p.1 in
    let r = third.one (atom_word s) (payload_rest held) (payload_blank held) (atom_word_unbroken s) (blank_breaks held) (q.1 ∙ ap (λ (x : List ℕ). atom_word s ++ x) (payload_stands held)) in
    let found = ra.is a (at ∙ ap (λ (x : List ℕ). Some x) (sym q.0)) (ap is_name q.0 ∙ good) in
    ap (λ (u : List ℕ). event_with u entered turned resolved atom) p.0 ∙ re.is a s held found r.0 fits within r.1
atom_read plan false a s held n at good fits within bytes word behind name rest state last atom entered turned resolved first second third ra re is =
    let p = first.one (codes "retry") (n ++ 32 ∷ (atom_word s ++ (payload_text held ++ 10 ∷ []))) 32 refl refl (is ∙ ap (λ (x : List ℕ). codes "retry" ++ 32 ∷ x) (three_words n (atom_word s) (payload_text held))) in
    let q = second.one n (atom_word s ++ (payload_text held ++ 10 ∷ [])) 32 (name_unbroken n good) refl p.1 in
    let r = third.one (atom_word s) (payload_rest held) (payload_blank held) (atom_word_unbroken s) (blank_breaks held) (q.1 ∙ ap (λ (x : List ℕ). atom_word s ++ x) (payload_stands held)) in
    let found = ra.is a (at ∙ ap (λ (x : List ℕ). Some x) (sym q.0)) (ap is_name q.0 ∙ good) in
    ap (λ (u : List ℕ). event_with u entered turned resolved atom) p.0 ∙ re.is a s held found r.0 fits within r.1

resolved_both : (flow : Option ℕ) (resolved : Option Kind) (g : ℕ) (k : Kind) → flow ≡ Some g → resolved ≡ Some k → resolve_with flow resolved ≡ Some (what.Resolve g k)
resolved_both flow resolved g k first second = ap (λ (o : Option ℕ). resolve_with o resolved) first ∙ ap (resolve_with (Some g)) second

pub event_read : (plan : PlanValue) → AreNamed (outline_of plan) → (w : What) → IsAmong (count (outline_of plan)) (length (outline_of plan).flows) w → HasItsPayload w
    → (bytes word behind name rest state last : List ℕ) (atom flow : Option ℕ) (entered : Option What)
    → IsFirstWord bytes word behind → IsFirstWord behind name rest → IsFirstWord rest state last → ReadsAtom plan name atom → ReadsFlow plan name flow → ReadsEntered atom state last entered
    → bytes ≡ what_text (outline_of plan) w ++ 10 ∷ []
    → event_with word entered (flow_state_named state) (resolve_with flow (resolution_named state)) atom ≡ Some w
event_read plan named (what.Atom a s held) among good bytes word behind name rest state last atom flow entered first second third ra rf re is =
    atom_read plan (is_task (outline_of plan) a) a s held (atom_name (outline_of plan) a) (atom_at plan a among) (named.atoms a among) good.1 good.2
    bytes word behind name rest state last atom entered (flow_state_named state) (resolve_with flow (resolution_named state)) first second third ra re is
event_read plan named (what.Flow s) among good bytes word behind name rest state last atom flow entered first second third ra rf re is =
    let n = flow_name (outline_of plan) 0 in
    let p = first.one (codes "flow") (n ++ 32 ∷ (flow_word s ++ 10 ∷ [])) 32 refl refl (is ∙ ap (λ (x : List ℕ). codes "flow" ++ 32 ∷ x) (two_words n (flow_word s))) in
    let q = second.one n (flow_word s ++ 10 ∷ []) 32 (name_unbroken n (named.flows 0 named.root)) refl p.1 in
    let r = third.one (flow_word s) [] 10 (flow_word_unbroken s) refl q.1 in
    ap (λ (u : List ℕ). event_with u entered (flow_state_named state) (resolve_with flow (resolution_named state)) atom) p.0
    ∙ ap (option_map what.Flow) (ap flow_state_named r.0 ∙ flow_word_named s)
event_read plan named (what.Resolve g k) among good bytes word behind name rest state last atom flow entered first second third ra rf re is =
    let n = flow_name (outline_of plan) g in
    let p = first.one (codes "resolve") (n ++ 32 ∷ (kind_word k ++ 10 ∷ [])) 32 refl refl (is ∙ ap (λ (x : List ℕ). codes "resolve" ++ 32 ∷ x) (two_words n (kind_word k))) in
    let q = second.one n (kind_word k ++ 10 ∷ []) 32 (name_unbroken n (named.flows g among)) refl p.1 in
    let r = third.one (kind_word k) [] 10 (kind_word_unbroken k) refl q.1 in
    let found = rf.is g (flow_at plan g among ∙ ap (λ (x : List ℕ). Some x) (sym q.0)) (ap is_name q.0 ∙ named.flows g among) in
    ap (λ (u : List ℕ). event_with u entered (flow_state_named state) (resolve_with flow (resolution_named state)) atom) p.0
    ∙ resolved_both flow (resolution_named state) g k found (ap resolution_named r.0 ∙ kind_word_named k)
event_read plan named (what.Restart a) among good bytes word behind name rest state last atom flow entered first second third ra rf re is =
    let n = atom_name (outline_of plan) a in
    let p = first.one (codes "restart") (n ++ 10 ∷ []) 32 refl refl is in
    let q = second.one n [] 10 (name_unbroken n (named.atoms a among)) refl p.1 in
    let found = ra.is a (atom_at plan a among ∙ ap (λ (x : List ℕ). Some x) (sym q.0)) (ap is_name q.0 ∙ named.atoms a among) in
    ap (λ (u : List ℕ). event_with u entered (flow_state_named state) (resolve_with flow (resolution_named state)) atom) p.0 ∙ ap (option_map what.Restart) found
