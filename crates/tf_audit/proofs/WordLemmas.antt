-- The words of a line: where they end, and that what a line has between spaces has no break.
use Rattle.std.proofs.Common.{◌≡◌, ℕ, List, [], ◌∷◌, ◌++◌, Bool, true, false, not, ◌||◌, ◌==◌, length, eqb-true, refl, sym, ap, ◌∙◌, arith}
use Rattle.std.specs.List.{list_all}
use Rattle.std.proofs.lemmas.Bool.Decides.{nat_tests}
use Rattle.tf_values.specs.Text.{is_name, begins_name, stands_in_name}
use Rattle.tf_values.proofs.ListLemmas.{differ}
use Rattle.tf_states.specs.declared.record.Kind.{Kind}
use Rattle.tf_states.specs.declared.record.Kind.TheVariants as kind
use Rattle.tf_states.specs.declared.state.AtomState.{AtomState}
use Rattle.tf_states.specs.declared.state.AtomState.TheVariants as atom
use Rattle.tf_states.specs.declared.state.FlowState.{FlowState}
use Rattle.tf_states.specs.declared.state.FlowState.TheVariants as flow
use Rattle.tf_report.specs.Lines.{atom_word, flow_word, kind_word}
use Rattle.tf_audit.specs.Words.{is_blank, is_unbroken, breaks_here, IsFirstWord, atom_state_named, flow_state_named, resolution_named}
use Rattle.std.specs.Prelude.{Some}

-- ---- where a word ends

word_rest : (x : ℕ) (xs : List ℕ) → is_unbroken (x ∷ xs) ≡ true → is_unbroken xs ≡ true
word_rest x xs is = grind (arith, nat_tests)

no_blank : (x : ℕ) (xs rest : List ℕ) → is_unbroken (x ∷ xs) ≡ true → breaks_here (x ∷ xs ++ rest) ≡ true → ⊥
no_blank x xs rest is ends = differ (is_blank x) (grind (arith, nat_tests)) ends

pub word_one : (u w a b : List ℕ) → is_unbroken u ≡ true → is_unbroken w ≡ true → breaks_here a ≡ true → breaks_here b ≡ true → u ++ a ≡ w ++ b → (u ≡ w) × (a ≡ b)
word_one [] [] a b iu iw ea eb e = (refl, e)
word_one [] (y ∷ w) a b iu iw ea eb e = absurd (no_blank y w b iw (ap breaks_here (sym e) ∙ ea))
word_one (x ∷ u) [] a b iu iw ea eb e = absurd (no_blank x u a iu (ap breaks_here e ∙ eb))
word_one (x ∷ u) (y ∷ w) a b iu iw ea eb e =
    let same_heads : x ≡ y = cc in
    let same_tails : u ++ a ≡ w ++ b = cc in
    let rest = word_one u w a b (word_rest x u iu) (word_rest y w iw) ea eb same_tails in
    (rw (same_heads, rest.0) refl, rest.1)

-- what is cut at the first break is the word before it and what stands behind it
pub cut_there : (bytes word rest behind : List ℕ) (first : ℕ) → bytes ≡ word ++ rest → is_unbroken word ≡ true → breaks_here rest ≡ true → rest ≡ first ∷ behind → IsFirstWord bytes word behind
cut_there bytes word rest behind first whole unbroken ends is = record {
  one = λ u r b iu ib e.
      let p = word_one word u rest (b ∷ r) unbroken iu ends ib (sym whole ∙ e) in
      let same : first ∷ behind ≡ b ∷ r = sym is ∙ p.1 in
      let tails : behind ≡ r = cc in
      (p.0, tails);
}

-- where nothing stands behind a word there is no break
pub cut_nowhere : (bytes word rest other : List ℕ) → bytes ≡ word ++ rest → is_unbroken word ≡ true → breaks_here rest ≡ true → length rest ≡ 0 → IsFirstWord bytes word other
cut_nowhere bytes word rest other whole unbroken ends is = record {
  one = λ u r b iu ib e.
      let p = word_one word u rest (b ∷ r) unbroken iu ends ib (sym whole ∙ e) in
      let long : length rest ≡ length (b ∷ r) = ap length p.1 in
      absurd (omega arith);
}

-- ---- names have no break

stands_unbroken : (byte : ℕ) → stands_in_name byte ≡ true → not (is_blank byte) ≡ true
stands_unbroken byte is = by (byte == 32) (byte == 10) refl refl
  where
    by : (space feed : Bool) → (byte == 32) ≡ space → (byte == 10) ≡ feed → not (space || feed) ≡ true
    by false false p q = refl
    by true feed p q = absurd (let e : byte ≡ 32 = eqb-true byte 32 p in let none : false ≡ true = sym (ap stands_in_name e) ∙ is in cc)
    by false true p q = absurd (let e : byte ≡ 10 = eqb-true byte 10 q in let none : false ≡ true = sym (ap stands_in_name e) ∙ is in cc)

all_unbroken : (bytes : List ℕ) → list_all stands_in_name bytes ≡ true → is_unbroken bytes ≡ true
all_unbroken [] is = refl
all_unbroken (byte ∷ bytes) is =
    let first : stands_in_name byte ≡ true = grind (arith, nat_tests) in
    let others : list_all stands_in_name bytes ≡ true = grind (arith, nat_tests) in
    let one : not (is_blank byte) ≡ true = stands_unbroken byte first in
    let rest : is_unbroken bytes ≡ true = all_unbroken bytes others in
    grind (arith, nat_tests)

begins_unbroken : (byte : ℕ) → begins_name byte ≡ true → not (is_blank byte) ≡ true
begins_unbroken byte is = by (byte == 32) (byte == 10) refl refl
  where
    by : (space feed : Bool) → (byte == 32) ≡ space → (byte == 10) ≡ feed → not (space || feed) ≡ true
    by false false p q = refl
    by true feed p q = absurd (let e : byte ≡ 32 = eqb-true byte 32 p in let none : false ≡ true = sym (ap begins_name e) ∙ is in cc)
    by false true p q = absurd (let e : byte ≡ 10 = eqb-true byte 10 q in let none : false ≡ true = sym (ap begins_name e) ∙ is in cc)

pub name_unbroken : (name : List ℕ) → is_name name ≡ true → is_unbroken name ≡ true
name_unbroken [] is = absurd (cc)
name_unbroken (first ∷ others) is =
    let begins : begins_name first ≡ true = grind (arith, nat_tests) in
    let stand : list_all stands_in_name others ≡ true = grind (arith, nat_tests) in
    let one : not (is_blank first) ≡ true = begins_unbroken first begins in
    let rest : is_unbroken others ≡ true = all_unbroken others stand in
    grind (arith, nat_tests)

-- ---- the words for states and kinds

pub atom_word_unbroken : (s : AtomState) → is_unbroken (atom_word s) ≡ true
atom_word_unbroken atom.Pending = refl
atom_word_unbroken atom.Running = refl
atom_word_unbroken atom.Success = refl
atom_word_unbroken atom.Failure = refl
atom_word_unbroken atom.Reverting = refl
atom_word_unbroken atom.Reverted = refl
atom_word_unbroken atom.RevertFailure = refl
atom_word_unbroken atom.Ignore = refl
atom_word_unbroken atom.Retrying = refl

pub atom_word_named : (s : AtomState) → atom_state_named (atom_word s) ≡ Some s
atom_word_named atom.Pending = refl
atom_word_named atom.Running = refl
atom_word_named atom.Success = refl
atom_word_named atom.Failure = refl
atom_word_named atom.Reverting = refl
atom_word_named atom.Reverted = refl
atom_word_named atom.RevertFailure = refl
atom_word_named atom.Ignore = refl
atom_word_named atom.Retrying = refl

pub flow_word_unbroken : (s : FlowState) → is_unbroken (flow_word s) ≡ true
flow_word_unbroken flow.Pending = refl
flow_word_unbroken flow.Running = refl
flow_word_unbroken flow.Success = refl
flow_word_unbroken flow.Failure = refl
flow_word_unbroken flow.Reverted = refl
flow_word_unbroken flow.Suspending = refl
flow_word_unbroken flow.Suspended = refl
flow_word_unbroken flow.Resuming = refl

pub flow_word_named : (s : FlowState) → flow_state_named (flow_word s) ≡ Some s
flow_word_named flow.Pending = refl
flow_word_named flow.Running = refl
flow_word_named flow.Success = refl
flow_word_named flow.Failure = refl
flow_word_named flow.Reverted = refl
flow_word_named flow.Suspending = refl
flow_word_named flow.Suspended = refl
flow_word_named flow.Resuming = refl

pub kind_word_unbroken : (k : Kind) → is_unbroken (kind_word k) ≡ true
kind_word_unbroken kind.Retry = refl
kind_word_unbroken kind.Revert = refl
kind_word_unbroken kind.RevertAll = refl

pub kind_word_named : (k : Kind) → resolution_named (kind_word k) ≡ Some k
kind_word_named kind.Retry = refl
kind_word_named kind.Revert = refl
kind_word_named kind.RevertAll = refl
