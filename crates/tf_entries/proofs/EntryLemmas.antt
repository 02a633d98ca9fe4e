-- Entries are read where they stand, and only where they stand.
use Rattle.std.proofs.Common.{◌≡◌, ℕ, ◌<◌, ◌^◌, List, [], ◌∷◌, ◌++◌, true, false, Option, Some, None, refl, sym, ap, subst, ◌∙◌, append_assoc, append-nil, w16}
use Rattle.std.specs.Prelude.{nat_lt, Result, Ok, Err, IfOk, IfErr, IsErrOf}
use Rattle.std.specs.Int.{to_be_bytes}
use Rattle.std.proofs.lemmas.Bool.{lt-ltb, ltb-true}
use Rattle.tf_states.specs.declared.record.Entry.{Entry}
use Rattle.tf_states.specs.declared.record.Failure.{Failure}
use Rattle.tf_states.specs.declared.record.Failure.TheVariants as failure
use Rattle.tf_states.specs.declared.record.Kind.{Kind}
use Rattle.tf_states.specs.declared.record.Kind.TheVariants as kind
use Rattle.tf_states.specs.declared.record.Payload.{Payload}
use Rattle.tf_states.specs.declared.record.Payload.TheVariants as payload
use Rattle.tf_states.specs.declared.record.What.{What}
use Rattle.tf_states.specs.declared.record.What.TheVariants as what
use Rattle.tf_states.specs.declared.state.AtomState.{AtomState}
use Rattle.tf_states.specs.declared.state.AtomState.TheVariants as atom
use Rattle.tf_states.specs.declared.state.FlowState.{FlowState}
use Rattle.tf_states.specs.declared.state.FlowState.TheVariants as flow
use Rattle.tf_entries.specs.Entries.{atom_state_byte, flow_state_byte, kind_byte, failure_bytes, payload_bytes, what_bytes, entry_bytes, is_payload_of, has_its_payload, IsFailure, IsPayload, HasItsPayload, IsAmong, IsEntry}
use Rattle.tf_entries.specs.EntryReading.{atom_state_of, flow_state_of, kind_of, read_atom_state, read_flow_state, read_kind, read_failure_of, read_failure, read_result, read_fault, read_payload, read_below, read_atom, read_resolve, read_what_of, read_what, read_entry}
use Rattle.tf_values.specs.declared.faults.MakeFault.{MakeFault}
use Rattle.tf_values.specs.declared.faults.MakeFault.TheVariants as fault
use Rattle.tf_entries.specs.Reading.{RefusesForm, chain, where_true, whole}
use Rattle.tf_entries.proofs.ReadingLemmas.{Reads, same_read, began, went_on, went_past, on_tag, no_tag, bare, with_part, kept, keeps, whole_is, whole_of}
use Rattle.tf_entries.proofs.FieldLemmas.{number_read, found_at}
use Rattle.tf_entries.proofs.NumberLemmas.{number_16, number_32, signed_32, name_read, text_read}
use Rattle.tf_entries.proofs.ValueLemmas.{value_read}

-- ---- states and kinds

atom_state_back : (s : AtomState) → atom_state_of (atom_state_byte s) ≡ Some s
atom_state_back atom.Pending = refl
atom_state_back atom.Running = refl
atom_state_back atom.Success = refl
atom_state_back atom.Failure = refl
atom_state_back atom.Reverting = refl
atom_state_back atom.Reverted = refl
atom_state_back atom.RevertFailure = refl
atom_state_back atom.Ignore = refl
atom_state_back atom.Retrying = refl

atom_state_there : (n : ℕ) (s : AtomState) → atom_state_of n ≡ Some s → n ≡ atom_state_byte s
atom_state_there n s is =
    on_tag (n ≡ atom_state_byte s) n 0 _ _ s is (λ at found. found_at atom_state_byte atom.Pending s n 0 at refl found)
    (λ is1. on_tag (n ≡ atom_state_byte s) n 1 _ _ s is1 (λ at found. found_at atom_state_byte atom.Running s n 1 at refl found)
    (λ is2. on_tag (n ≡ atom_state_byte s) n 2 _ _ s is2 (λ at found. found_at atom_state_byte atom.Success s n 2 at refl found)
    (λ is3. on_tag (n ≡ atom_state_byte s) n 3 _ _ s is3 (λ at found. found_at atom_state_byte atom.Failure s n 3 at refl found)
    (λ is4. on_tag (n ≡ atom_state_byte s) n 4 _ _ s is4 (λ at found. found_at atom_state_byte atom.Reverting s n 4 at refl found)
    (λ is5. on_tag (n ≡ atom_state_byte s) n 5 _ _ s is5 (λ at found. found_at atom_state_byte atom.Reverted s n 5 at refl found)
    (λ is6. on_tag (n ≡ atom_state_byte s) n 6 _ _ s is6 (λ at found. found_at atom_state_byte atom.RevertFailure s n 6 at refl found)
    (λ is7. on_tag (n ≡ atom_state_byte s) n 7 _ _ s is7 (λ at found. found_at atom_state_byte atom.Ignore s n 7 at refl found)
    (λ is8. on_tag (n ≡ atom_state_byte s) n 8 _ _ s is8 (λ at found. found_at atom_state_byte atom.Retrying s n 8 at refl found)
    (no_tag (n ≡ atom_state_byte s) s)))))))))

atom_state_read : Reads (λ s. atom_state_byte s ∷ []) (λ s. Unit {0}) read_atom_state
atom_state_read = number_read atom_state_byte atom_state_of atom_state_back atom_state_there read_atom_state refl (λ n rest. refl)

flow_state_back : (s : FlowState) → flow_state_of (flow_state_byte s) ≡ Some s
flow_state_back flow.Pending = refl
flow_state_back flow.Running = refl
flow_state_back flow.Success = refl
flow_state_back flow.Failure = refl
flow_state_back flow.Reverted = refl
flow_state_back flow.Suspending = refl
flow_state_back flow.Suspended = refl
flow_state_back flow.Resuming = refl

flow_state_there : (n : ℕ) (s : FlowState) → flow_state_of n ≡ Some s → n ≡ flow_state_byte s
flow_state_there n s is =
    on_tag (n ≡ flow_state_byte s) n 0 _ _ s is (λ at found. found_at flow_state_byte flow.Pending s n 0 at refl found)
    (λ is1. on_tag (n ≡ flow_state_byte s) n 1 _ _ s is1 (λ at found. found_at flow_state_byte flow.Running s n 1 at refl found)
    (λ is2. on_tag (n ≡ flow_state_byte s) n 2 _ _ s is2 (λ at found. found_at flow_state_byte flow.Success s n 2 at refl found)
    (λ is3. on_tag (n ≡ flow_state_byte s) n 3 _ _ s is3 (λ at found. found_at flow_state_byte flow.Failure s n 3 at refl found)
    (λ is4. on_tag (n ≡ flow_state_byte s) n 4 _ _ s is4 (λ at found. found_at flow_state_byte flow.Reverted s n 4 at refl found)
    (λ is5. on_tag (n ≡ flow_state_byte s) n 5 _ _ s is5 (λ at found. found_at flow_state_byte flow.Suspending s n 5 at refl found)
    (λ is6. on_tag (n ≡ flow_state_byte s) n 6 _ _ s is6 (λ at found. found_at flow_state_byte flow.Suspended s n 6 at refl found)
    (λ is7. on_tag (n ≡ flow_state_byte s) n 7 _ _ s is7 (λ at found. found_at flow_state_byte flow.Resuming s n 7 at refl found)
    (no_tag (n ≡ flow_state_byte s) s))))))))

flow_state_read : Reads (λ s. flow_state_byte s ∷ []) (λ s. Unit {0}) read_flow_state
flow_state_read = number_read flow_state_byte flow_state_of flow_state_back flow_state_there read_flow_state refl (λ n rest. refl)

kind_back : (k : Kind) → kind_of (kind_byte k) ≡ Some k
kind_back kind.Retry = refl
kind_back kind.Revert = refl
kind_back kind.RevertAll = refl

kind_there : (n : ℕ) (k : Kind) → kind_of n ≡ Some k → n ≡ kind_byte k
kind_there n k is =
    on_tag (n ≡ kind_byte k) n 0 _ _ k is (λ at found. found_at kind_byte kind.Retry k n 0 at refl found)
    (λ is1. on_tag (n ≡ kind_byte k) n 1 _ _ k is1 (λ at found. found_at kind_byte kind.Revert k n 1 at refl found)
    (λ is2. on_tag (n ≡ kind_byte k) n 2 _ _ k is2 (λ at found. found_at kind_byte kind.RevertAll k n 2 at refl found)
    (no_tag (n ≡ kind_byte k) k)))

kind_read : Reads (λ k. kind_byte k ∷ []) (λ k. Unit {0}) read_kind
kind_read = number_read kind_byte kind_of kind_back kind_there read_kind refl (λ n rest. refl)

-- ---- failures

failure_again : (f : Failure) (rest : List ℕ) → IsFailure f → read_failure (failure_bytes f ++ rest) ≡ Some (f, rest)
failure_again (failure.Raised text) rest good = went_on text_read (λ t after. Some (failure.Raised t, after)) text rest good
failure_again (failure.WrongKind name) rest good = went_on name_read (λ n after. Some (failure.WrongKind n, after)) name rest good
failure_again failure.Overflow rest good = refl
failure_again failure.Range rest good = refl
failure_again failure.TooLong rest good = refl
failure_again (failure.Lookup name) rest good = went_on name_read (λ n after. Some (failure.Lookup n, after)) name rest good
failure_again (failure.Exit status) rest good = went_on signed_32 (λ z after. Some (failure.Exit z, after)) status rest good
failure_again failure.Spawn rest good = refl
failure_again failure.NotText rest good = refl
failure_again failure.Lost rest good = refl
failure_again (failure.BadReply place) rest good = went_on number_32 (λ n after. Some (failure.BadReply n, after)) place rest good
failure_again failure.Exhausted rest good = refl

-- a failure with its form
abbrev IsFailureAt : ℕ → List ℕ → Failure → List ℕ → Type 0
IsFailureAt tag bytes f rest = IsFailure f × (tag ∷ bytes ≡ failure_bytes f ++ rest)

failure_of_sound : (tag : ℕ) (bytes : List ℕ) (f : Failure) (rest : List ℕ) → read_failure_of tag bytes ≡ Some (f, rest) → IsFailureAt tag bytes f rest
failure_of_sound tag bytes f rest is =
    on_tag (IsFailureAt tag bytes f rest) tag 0 _ _ (f, rest) is (λ at found. with_part text_read failure_bytes IsFailure failure.Raised 0 (λ t good. good) (λ t. refl) tag bytes f rest at found)
    (λ is1. on_tag (IsFailureAt tag bytes f rest) tag 1 _ _ (f, rest) is1 (λ at found. with_part name_read failure_bytes IsFailure failure.WrongKind 1 (λ n good. good) (λ n. refl) tag bytes f rest at found)
    (λ is2. on_tag (IsFailureAt tag bytes f rest) tag 2 _ _ (f, rest) is2 (λ at found. bare failure_bytes IsFailure failure.Overflow 2 tt refl tag bytes f rest at found)
    (λ is3. on_tag (IsFailureAt tag bytes f rest) tag 3 _ _ (f, rest) is3 (λ at found. bare failure_bytes IsFailure failure.Range 3 tt refl tag bytes f rest at found)
    (λ is4. on_tag (IsFailureAt tag bytes f rest) tag 4 _ _ (f, rest) is4 (λ at found. bare failure_bytes IsFailure failure.TooLong 4 tt refl tag bytes f rest at found)
    (λ is5. on_tag (IsFailureAt tag bytes f rest) tag 5 _ _ (f, rest) is5 (λ at found. with_part name_read failure_bytes IsFailure failure.Lookup 5 (λ n good. good) (λ n. refl) tag bytes f rest at found)
    (λ is6. on_tag (IsFailureAt tag bytes f rest) tag 6 _ _ (f, rest) is6 (λ at found. with_part signed_32 failure_bytes IsFailure failure.Exit 6 (λ z good. good) (λ z. refl) tag bytes f rest at found)
    (λ is7. on_tag (IsFailureAt tag bytes f rest) tag 7 _ _ (f, rest) is7 (λ at found. bare failure_bytes IsFailure failure.Spawn 7 tt refl tag bytes f rest at found)
    (λ is8. on_tag (IsFailureAt tag bytes f rest) tag 8 _ _ (f, rest) is8 (λ at found. bare failure_bytes IsFailure failure.NotText 8 tt refl tag bytes f rest at found)
    (λ is9. on_tag (IsFailureAt tag bytes f rest) tag 9 _ _ (f, rest) is9 (λ at found. bare failure_bytes IsFailure failure.Lost 9 tt refl tag bytes f rest at found)
    (λ is10. on_tag (IsFailureAt tag bytes f rest) tag 10 _ _ (f, rest) is10 (λ at found. with_part number_32 failure_bytes IsFailure failure.BadReply 10 (λ n good. good) (λ n. refl) tag bytes f rest at found)
    (λ is11. on_tag (IsFailureAt tag bytes f rest) tag 11 _ _ (f, rest) is11 (λ at found. bare failure_bytes IsFailure failure.Exhausted 11 tt refl tag bytes f rest at found)
    (no_tag (IsFailureAt tag bytes f rest) (f, rest)))))))))))))

failure_sound : (bytes : List ℕ) (f : Failure) (rest : List ℕ) → read_failure bytes ≡ Some (f, rest) → IsFailure f × (bytes ≡ failure_bytes f ++ rest)
failure_sound [] f rest is = absurd (cc)
failure_sound (tag ∷ bytes) f rest is = failure_of_sound tag bytes f rest is

failure_read : Reads failure_bytes IsFailure read_failure
failure_read = record { again = failure_again; sound = failure_sound }

-- ---- payloads

-- the payload that a state names, within the limits
abbrev IsHeld : AtomState → Payload → Type 0
IsHeld s p = (is_payload_of s p ≡ true) × IsPayload p

result_again : (p : Payload) (rest : List ℕ) → IsHeld atom.Success p → read_result (payload_bytes p ++ rest) ≡ Some (p, rest)
result_again payload.Empty rest good = absurd (let no = good.0 in cc)
result_again (payload.Value v) rest good = went_on value_read (λ u after. Some (payload.Value u, after)) v rest good.1
result_again (payload.Fault f) rest good = absurd (let no = good.0 in cc)

result_read : Reads payload_bytes (IsHeld atom.Success) read_result
result_read = record {
  again = result_again;
  sound = λ bytes p rest is.
      let b = began value_read (λ u after. Some (payload.Value u, after)) bytes p rest is in
      let same = same_read (payload.Value b.first) p b.behind rest b.goes in
      subst (λ q. IsHeld atom.Success q × (bytes ≡ payload_bytes q ++ rest)) same.0 ((refl, b.good), b.prefix ∙ ap (λ more. payload_bytes (payload.Value b.first) ++ more) same.1);
}

module _ (s : AtomState) (none : is_payload_of s payload.Empty ≡ false) (no_value : (v : _) → is_payload_of s (payload.Value v) ≡ false) (fault : (f : Failure) → is_payload_of s (payload.Fault f) ≡ true) where
  fault_again : (p : Payload) (rest : List ℕ) → IsHeld s p → read_fault (payload_bytes p ++ rest) ≡ Some (p, rest)
  fault_again payload.Empty rest good = absurd (let no : true ≡ false = sym good.0 ∙ none in cc)
  fault_again (payload.Value v) rest good = absurd (let no : true ≡ false = sym good.0 ∙ no_value v in cc)
  fault_again (payload.Fault f) rest good = went_on failure_read (λ g after. Some (payload.Fault g, after)) f rest good.1

  fault_read : Reads payload_bytes (IsHeld s) read_fault
  fault_read = record {
    again = fault_again;
    sound = λ bytes p rest is.
        let b = began failure_read (λ g after. Some (payload.Fault g, after)) bytes p rest is in
        let same = same_read (payload.Fault b.first) p b.behind rest b.goes in
        subst (λ q. IsHeld s q × (bytes ≡ payload_bytes q ++ rest)) same.0 ((fault b.first, b.good), b.prefix ∙ ap (λ more. payload_bytes (payload.Fault b.first) ++ more) same.1);
  }

module _ (s : AtomState) (empty : is_payload_of s payload.Empty ≡ true) (no_value : (v : _) → is_payload_of s (payload.Value v) ≡ false) (no_fault : (f : Failure) → is_payload_of s (payload.Fault f) ≡ false) where
  nothing_again : (p : Payload) (rest : List ℕ) → IsHeld s p → ◌≡◌ {A = Option (Payload × List ℕ)} (Some (payload.Empty, payload_bytes p ++ rest)) (Some (p, rest))
  nothing_again payload.Empty rest good = refl
  nothing_again (payload.Value v) rest good = absurd (let no : true ≡ false = sym good.0 ∙ no_value v in cc)
  nothing_again (payload.Fault f) rest good = absurd (let no : true ≡ false = sym good.0 ∙ no_fault f in cc)

  nothing_read : Reads payload_bytes (IsHeld s) (λ bytes. Some (payload.Empty, bytes))
  nothing_read = record {
    again = nothing_again;
    sound = λ bytes p rest is.
        let same = same_read payload.Empty p bytes rest is in
        subst (λ q. IsHeld s q × (bytes ≡ payload_bytes q ++ rest)) same.0 ((empty, tt), same.1);
  }

payload_read : (s : AtomState) → Reads payload_bytes (IsHeld s) (read_payload s)
payload_read atom.Pending = nothing_read atom.Pending refl (λ v. refl) (λ f. refl)
payload_read atom.Running = nothing_read atom.Running refl (λ v. refl) (λ f. refl)
payload_read atom.Success = result_read
payload_read atom.Failure = fault_read atom.Failure refl (λ v. refl) (λ f. refl)
payload_read atom.Reverting = nothing_read atom.Reverting refl (λ v. refl) (λ f. refl)
payload_read atom.Reverted = nothing_read atom.Reverted refl (λ v. refl) (λ f. refl)
payload_read atom.RevertFailure = fault_read atom.RevertFailure refl (λ v. refl) (λ f. refl)
payload_read atom.Ignore = nothing_read atom.Ignore refl (λ v. refl) (λ f. refl)
payload_read atom.Retrying = nothing_read atom.Retrying refl (λ v. refl) (λ f. refl)

-- ---- what was recorded

-- a number below a count, of 16 bits
abbrev IsBelow : ℕ → ℕ → Type 0
IsBelow count n = (n < count) × (n < 2 ^ 16)

below_read : (count : ℕ) → Reads (to_be_bytes w16) (IsBelow count) (read_below count)
below_read count = record {
  again = λ n rest good. went_on number_16 (λ m after. where_true (nat_lt m count) (Some (m, after))) n rest good.1 ∙ keeps (nat_lt n count) (Some (n, rest)) (lt-ltb n count good.0);
  sound = λ bytes n rest is.
      let b = began number_16 (λ m after. where_true (nat_lt m count) (Some (m, after))) bytes n rest is in
      let both = kept (nat_lt b.first count) (Some (b.first, b.behind)) (n, rest) b.goes in
      let same = same_read b.first n b.behind rest both.1 in
      subst (λ m. IsBelow count m × (bytes ≡ to_be_bytes w16 m ++ rest)) same.0 ((ltb-true b.first count both.0, b.good), b.prefix ∙ ap (λ more. to_be_bytes w16 b.first ++ more) same.1);
}

-- what was recorded, in a plan of so many atoms and flows
abbrev IsWhat : ℕ → ℕ → What → Type 0
IsWhat atoms flows w = IsAmong atoms flows w × HasItsPayload w

-- what has its payload within the limits has its payload
pub payload_there : (w : What) → HasItsPayload w → has_its_payload w ≡ true
payload_there (what.Atom number state held) is = is.1
payload_there (what.Flow state) is = refl
payload_there (what.Resolve number k) is = refl
payload_there (what.Restart number) is = refl

module _ (atoms flows : ℕ) where
  -- what stands behind the tag
  abbrev behind_number : ℕ → List ℕ → Option (What × List ℕ)
  behind_number number rest = chain (read_atom_state rest) (λ state more. chain (read_payload state more) (λ held after. Some (what.Atom number state held, after)))

  abbrev behind_state : ℕ → AtomState → List ℕ → Option (What × List ℕ)
  behind_state number state more = chain (read_payload state more) (λ held after. Some (what.Atom number state held, after))

  abbrev behind_flow : ℕ → List ℕ → Option (What × List ℕ)
  behind_flow number rest = chain (read_kind rest) (λ k after. Some (what.Resolve number k, after))

  what_again : (w : What) (rest : List ℕ) → IsWhat atoms flows w → read_what atoms flows (what_bytes w ++ rest) ≡ Some (w, rest)
  what_again (what.Atom number state held) rest good =
      went_past (below_read atoms) behind_number number (atom_state_byte state ∷ payload_bytes held) rest (good.0, good.1.0)
      ∙ went_past atom_state_read (behind_state number) state (payload_bytes held) rest tt
      ∙ went_on (payload_read state) (λ p after. Some (what.Atom number state p, after)) held rest (good.1.1, good.1.2)
  what_again (what.Flow state) rest good = went_on flow_state_read (λ s after. Some (what.Flow s, after)) state rest tt
  what_again (what.Resolve number k) rest good =
      went_past (below_read flows) behind_flow number (kind_byte k ∷ []) rest (good.0, good.1)
      ∙ went_on kind_read (λ found after. Some (what.Resolve number found, after)) k rest tt
  what_again (what.Restart number) rest good = went_on (below_read atoms) (λ n after. Some (what.Restart n, after)) number rest (good.0, good.1)

  -- what was recorded, with its form
  abbrev IsWhatAt : ℕ → List ℕ → What → List ℕ → Type 0
  IsWhatAt tag bytes w rest = IsWhat atoms flows w × (tag ∷ bytes ≡ what_bytes w ++ rest)

  atom_sound : (bytes : List ℕ) (w : What) (rest : List ℕ) → read_atom atoms bytes ≡ Some (w, rest) → IsWhatAt 1 bytes w rest
  atom_sound bytes w rest is =
      let n = began (below_read atoms) behind_number bytes w rest is in
      let s = began atom_state_read (behind_state n.first) n.behind w rest n.goes in
      let p = began (payload_read s.first) (λ held after. Some (what.Atom n.first s.first held, after)) s.behind w rest s.goes in
      let same = same_read (what.Atom n.first s.first p.first) w p.behind rest p.goes in
      subst (λ v. IsWhatAt 1 bytes v rest) same.0 (
        (n.good.0, (n.good.1, p.good.0, p.good.1)),
        ap (λ more. 1 ∷ more) (n.prefix ∙ ap (λ more. to_be_bytes w16 n.first ++ more) (s.prefix ∙ ap (λ more. atom_state_byte s.first ∷ more) (p.prefix ∙ ap (λ more. payload_bytes p.first ++ more) same.1))
            ∙ sym (append_assoc (to_be_bytes w16 n.first) (atom_state_byte s.first ∷ payload_bytes p.first) rest)),
      )

  resolve_sound : (bytes : List ℕ) (w : What) (rest : List ℕ) → read_resolve flows bytes ≡ Some (w, rest) → IsWhatAt 3 bytes w rest
  resolve_sound bytes w rest is =
      let n = began (below_read flows) behind_flow bytes w rest is in
      let k = began kind_read (λ found after. Some (what.Resolve n.first found, after)) n.behind w rest n.goes in
      let same = same_read (what.Resolve n.first k.first) w k.behind rest k.goes in
      subst (λ v. IsWhatAt 3 bytes v rest) same.0 (
        (n.good.0, n.good.1),
        ap (λ more. 3 ∷ more) (n.prefix ∙ ap (λ more. to_be_bytes w16 n.first ++ more) (k.prefix ∙ ap (λ more. kind_byte k.first ∷ more) same.1)
            ∙ sym (append_assoc (to_be_bytes w16 n.first) (kind_byte k.first ∷ []) rest)),
      )

  -- the tag that was found
  at_tag : (tag k : ℕ) (bytes : List ℕ) (w : What) (rest : List ℕ) → tag ≡ k → IsWhatAt k bytes w rest → IsWhatAt tag bytes w rest
  at_tag tag k bytes w rest at is = subst (λ (n : ℕ). IsWhatAt n bytes w rest) (sym at) is

  what_of_sound : (tag : ℕ) (bytes : List ℕ) (w : What) (rest : List ℕ) → read_what_of atoms flows tag bytes ≡ Some (w, rest) → IsWhatAt tag bytes w rest
  what_of_sound tag bytes w rest is =
      on_tag (IsWhatAt tag bytes w rest) tag 1 _ _ (w, rest) is (λ at found. at_tag tag 1 bytes w rest at (atom_sound bytes w rest found))
      (λ is2. on_tag (IsWhatAt tag bytes w rest) tag 2 _ _ (w, rest) is2 (λ at found. with_part flow_state_read what_bytes (IsWhat atoms flows) what.Flow 2 (λ s good. (tt, tt)) (λ s. refl) tag bytes w rest at found)
      (λ is3. on_tag (IsWhatAt tag bytes w rest) tag 3 _ _ (w, rest) is3 (λ at found. at_tag tag 3 bytes w rest at (resolve_sound bytes w rest found))
      (λ is4. on_tag (IsWhatAt tag bytes w rest) tag 4 _ _ (w, rest) is4 (λ at found. with_part (below_read atoms) what_bytes (IsWhat atoms flows) what.Restart 4 (λ n good. good) (λ n. refl) tag bytes w rest at found)
      (no_tag (IsWhatAt tag bytes w rest) (w, rest)))))

  what_sound : (bytes : List ℕ) (w : What) (rest : List ℕ) → read_what atoms flows bytes ≡ Some (w, rest) → IsWhat atoms flows w × (bytes ≡ what_bytes w ++ rest)
  what_sound [] w rest is = absurd (cc)
  what_sound (tag ∷ bytes) w rest is = what_of_sound tag bytes w rest is

  what_read : Reads what_bytes (IsWhat atoms flows) (read_what atoms flows)
  what_read = record { again = what_again; sound = what_sound }

  -- ---- entries

  entry_again : (e : Entry) (rest : List ℕ) → IsEntry atoms flows e → read_entry atoms flows (entry_bytes e ++ rest) ≡ Some (e, rest)
  entry_again e rest good =
      keeps (nat_lt e.hand 64) _ (lt-ltb e.hand 64 good.hand)
      ∙ went_on what_read (λ w after. Some (record { hand = e.hand; what = w }, after)) e.what rest (good.among, good.payload)

  entry_sound : (bytes : List ℕ) (e : Entry) (rest : List ℕ) → read_entry atoms flows bytes ≡ Some (e, rest) → IsEntry atoms flows e × (bytes ≡ entry_bytes e ++ rest)
  entry_sound [] e rest is = absurd (cc)
  entry_sound (hand ∷ bytes) e rest is =
      let both = kept (nat_lt hand 64) _ (e, rest) is in
      let b = began what_read (λ w after. Some (record { hand = hand; what = w }, after)) bytes e rest both.1 in
      let made : Entry = record { hand = hand; what = b.first } in
      let same = same_read made e b.behind rest b.goes in
      subst (λ x. IsEntry atoms flows x × (hand ∷ bytes ≡ entry_bytes x ++ rest)) same.0
      (record { hand = ltb-true hand 64 both.0; among = b.good.0; payload = b.good.1 }, ap (λ more. hand ∷ more) (b.prefix ∙ ap (λ more. what_bytes b.first ++ more) same.1))

  pub entry_read : Reads entry_bytes (IsEntry atoms flows) (read_entry atoms flows)
  entry_read = record { again = entry_again; sound = entry_sound }

  -- the entry with this form is read
  pub entry_found : (e : Entry) → IsEntry atoms flows e → whole (read_entry atoms flows (entry_bytes e)) ≡ Some e
  entry_found e good = ap (λ bytes. whole (read_entry atoms flows bytes)) (sym (append-nil (entry_bytes e))) ∙ whole_of (read_entry atoms flows (entry_bytes e ++ [])) e (entry_again e [] good)

  -- what is read has this form
  pub entry_made : (bytes : List ℕ) (e : Entry) → whole (read_entry atoms flows bytes) ≡ Some e → IsEntry atoms flows e × (entry_bytes e ≡ bytes)
  entry_made bytes e is =
      let found = entry_sound bytes e [] (whole_is (read_entry atoms flows bytes) e is) in
      (found.0, sym (found.1 ∙ append-nil (entry_bytes e)))

  -- a form is that of one entry
  pub entry_one : (a b : Entry) → IsEntry atoms flows a → IsEntry atoms flows b → entry_bytes a ≡ entry_bytes b → a ≡ b
  entry_one a b good_a good_b same =
      let both : Some a ≡ Some b = sym (entry_found a good_a) ∙ ap (λ bytes. whole (read_entry atoms flows bytes)) same ∙ entry_found b good_b in
      cc

  -- where nothing is read there is no form
  pub entry_none : (bytes : List ℕ) → whole (read_entry atoms flows bytes) ≡ None → (e : Entry) → IsEntry atoms flows e → entry_bytes e ≡ bytes → ⊥
  entry_none bytes none e good is =
      let no : Some e ≡ None = sym (entry_found e good) ∙ ap (λ xs. whole (read_entry atoms flows xs)) is ∙ none in
      cc

  -- ---- what the code reads

  pub read_as_entry : (bytes : List ℕ) (r : Result Entry MakeFault) → IfOk r (λ e. whole (read_entry atoms flows bytes) ≡ Some e) → IfOk r (λ e. IsEntry atoms flows e × (entry_bytes e ≡ bytes))
  read_as_entry bytes (Ok e) is = entry_made bytes e is
  read_as_entry bytes (Err f) is = tt

  pub no_entry : (bytes : List ℕ) (r : Result Entry MakeFault) → IfErr r (RefusesForm (whole (read_entry atoms flows bytes))) → IsErrOf r fault.No
      → (e : Entry) → IsEntry atoms flows e → entry_bytes e ≡ bytes → ⊥
  no_entry bytes (Ok x) refused is = absurd (cc)
  no_entry bytes (Err fault.No) refused is = entry_none bytes refused
  no_entry bytes (Err fault.Memory) refused is = absurd (cc)
