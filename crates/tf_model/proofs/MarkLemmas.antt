-- From which resolve an atom's mark comes.
use Rattle.std.proofs.Common.{◌≡◌, ℕ, List, [], ◌∷◌, ◌++◌, Bool, true, false, ◌&&◌, ◌||◌, Option, Some, None, refl, ap, ◌∙◌}
use Rattle.std.specs.Prelude.{if◌then◌else◌}
use Rattle.std.specs.List.{list_any}
use Rattle.tf_states.specs.declared.record.Entry.{Entry}
use Rattle.tf_states.specs.declared.record.What.{What}
use Rattle.tf_states.specs.declared.record.What.TheVariants as what
use Rattle.tf_states.specs.declared.state.AtomState.TheVariants as atom
use Rattle.tf_states.specs.declared.state.FlowState.TheVariants as flow
use Rattle.tf_numbers.proofs.TruthLemmas.{neither_first, neither_second}
use Rattle.tf_model.specs.Plan.{Outline, holds, is_retry, own_flow}
use Rattle.tf_model.specs.History.{Resolve, mark_after, begun_again, is_retry_of, mark_of}
use Rattle.tf_model.specs.Laws.{resolves_over, resolves_atom, ends_mark, ends_mark_of}

-- what is left of a mark
abbrev pub left_of : Bool → Resolve → Option Resolve
left_of over mark = if over then None else Some mark

unheld : (b : Bool) (x y : Option Resolve) → b ≡ false → (if b then x else y) ≡ y
unheld true x y is = absurd (cc)
unheld false x y is = refl

begun : (b c over : Bool) (own : Option ℕ) (mark : Resolve) → is_retry_of own mark ≡ c → (if b then begun_again own (left_of over mark) else left_of over mark) ≡ left_of ((b && c) || over) mark
begun true true true own mark is = refl
begun true true false own mark is = ap (λ (x : Bool). if x then None else Some mark) is
begun true false true own mark is = refl
begun true false false own mark is = ap (λ (x : Bool). if x then None else Some mark) is
begun false c over own mark is = refl

-- one event that resolves no flow that holds the atom
event_left : (plan : Outline) (w : What) (a : ℕ) (over : Bool) (mark : Resolve) → resolves_over plan a w ≡ false → mark_after plan w a (left_of over mark) ≡ left_of (ends_mark plan mark w || over) mark
unfolding mark_after
event_left plan (what.Resolve named resolved) a over mark is = unheld (holds plan named a) (Some (record { flow = named; kind = resolved })) (left_of over mark) is
event_left plan (what.Restart again) a over mark is = refl
event_left plan (what.Flow flow.Pending) a over mark is = refl
event_left plan (what.Flow flow.Running) a over mark is = refl
event_left plan (what.Flow flow.Success) a over mark is = refl
event_left plan (what.Flow flow.Failure) a over mark is = refl
event_left plan (what.Flow flow.Reverted) a over mark is = refl
event_left plan (what.Flow flow.Suspending) a over mark is = refl
event_left plan (what.Flow flow.Suspended) a over mark is = refl
event_left plan (what.Flow flow.Resuming) a over mark is = refl
event_left plan (what.Atom entered atom.Running held) a over mark is = begun (is_retry plan entered) (is_retry_of (own_flow plan entered) mark) over (own_flow plan entered) mark refl
event_left plan (what.Atom entered atom.Pending held) a over mark is = refl
event_left plan (what.Atom entered atom.Success held) a over mark is = refl
event_left plan (what.Atom entered atom.Failure held) a over mark is = refl
event_left plan (what.Atom entered atom.Reverting held) a over mark is = refl
event_left plan (what.Atom entered atom.Reverted held) a over mark is = refl
event_left plan (what.Atom entered atom.RevertFailure held) a over mark is = refl
event_left plan (what.Atom entered atom.Ignore held) a over mark is = refl
event_left plan (what.Atom entered atom.Retrying held) a over mark is = refl

held_mark : (b : Bool) (mark : Resolve) (before : Option Resolve) → b ≡ true → (if b then Some mark else before) ≡ Some mark
held_mark true mark before is = refl
held_mark false mark before is = absurd (cc)

pub mark_from_last : (plan : Outline) (newer older : List Entry) (a hand : ℕ) (mark : Resolve) → holds plan mark.flow a ≡ true → list_any (resolves_atom plan a) newer ≡ false
    → mark_of plan (newer ++ record { hand = hand; what = what.Resolve mark.flow mark.kind } ∷ older) a ≡ (if list_any (ends_mark_of plan mark) newer then None else Some mark)
unfolding mark_after
mark_from_last plan [] older a hand mark holding none = held_mark (holds plan mark.flow a) mark (mark_of plan older a) holding
mark_from_last plan (e ∷ newer) older a hand mark holding none =
    ap (mark_after plan e.what a) (mark_from_last plan newer older a hand mark holding (neither_second (resolves_atom plan a e) (list_any (resolves_atom plan a) newer) none))
    ∙ event_left plan e.what a (list_any (ends_mark_of plan mark) newer) mark (neither_first (resolves_atom plan a e) (list_any (resolves_atom plan a) newer) none)

event_none : (plan : Outline) (w : What) (a : ℕ) → resolves_over plan a w ≡ false → mark_after plan w a None ≡ None
unfolding mark_after
event_none plan (what.Resolve named resolved) a is = unheld (holds plan named a) (Some (record { flow = named; kind = resolved })) None is
event_none plan (what.Restart again) a is = refl
event_none plan (what.Flow flow.Pending) a is = refl
event_none plan (what.Flow flow.Running) a is = refl
event_none plan (what.Flow flow.Success) a is = refl
event_none plan (what.Flow flow.Failure) a is = refl
event_none plan (what.Flow flow.Reverted) a is = refl
event_none plan (what.Flow flow.Suspending) a is = refl
event_none plan (what.Flow flow.Suspended) a is = refl
event_none plan (what.Flow flow.Resuming) a is = refl
event_none plan (what.Atom entered atom.Running held) a is = either (is_retry plan entered)
  where
    either : (b : Bool) → (if b then begun_again (own_flow plan entered) None else None) ≡ None
    either true = refl
    either false = refl
event_none plan (what.Atom entered atom.Pending held) a is = refl
event_none plan (what.Atom entered atom.Success held) a is = refl
event_none plan (what.Atom entered atom.Failure held) a is = refl
event_none plan (what.Atom entered atom.Reverting held) a is = refl
event_none plan (what.Atom entered atom.Reverted held) a is = refl
event_none plan (what.Atom entered atom.RevertFailure held) a is = refl
event_none plan (what.Atom entered atom.Ignore held) a is = refl
event_none plan (what.Atom entered atom.Retrying held) a is = refl

pub unmarked_unresolved : (plan : Outline) (past : List Entry) (a : ℕ) → list_any (resolves_atom plan a) past ≡ false → mark_of plan past a ≡ None
unmarked_unresolved plan [] a none = refl
unmarked_unresolved plan (e ∷ past) a none =
    ap (mark_after plan e.what a) (unmarked_unresolved plan past a (neither_second (resolves_atom plan a e) (list_any (resolves_atom plan a) past) none))
    ∙ event_none plan e.what a (neither_first (resolves_atom plan a e) (list_any (resolves_atom plan a) past) none)
