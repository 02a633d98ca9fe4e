-- Tasks and retry controllers are read where they stand, and only where they stand.
use Rattle.std.proofs.Common.{◌≡◌, ℕ, ℤ, List, [], ◌∷◌, ◌++◌, Option, Some, refl, sym, ap, subst, ◌∙◌, append_assoc, w16, w32}
use Rattle.std.specs.Int.{to_be_bytes, cast_unsigned}
use Rattle.tf_values.specs.Scalars.{text_bytes, list_bytes}
use Rattle.tf_values.specs.Value.{IsValue, byte_form}
use Rattle.tf_values.specs.declared.elements.Scalar.{Scalar}
use Rattle.tf_values.specs.declared.value.Val.{Val}
use Rattle.tf_values.specs.declared.value.Val.TheVariants as value
use Rattle.tf_flow.specs.declared.atoms.Arg.{Arg}
use Rattle.tf_flow.specs.declared.atoms.Bind.{Bind}
use Rattle.tf_flow.specs.declared.atoms.Provides.{Provides}
use Rattle.tf_flow.specs.declared.atoms.Provides.TheVariants as provides
use Rattle.tf_flow.specs.declared.atoms.Retry.{Retry}
use Rattle.tf_flow.specs.declared.atoms.RetryKind.{RetryKind}
use Rattle.tf_flow.specs.declared.atoms.RetryKind.TheVariants as retry
use Rattle.tf_flow.specs.declared.atoms.Task.{Task}
use Rattle.tf_flow.specs.declared.atoms.TaskKind.{TaskKind}
use Rattle.tf_flow.specs.declared.atoms.TaskKind.TheVariants as kind
use Rattle.tf_flow.specs.declared.atoms.Undo.{Undo}
use Rattle.tf_flow.specs.declared.atoms.Undo.TheVariants as undo
use Rattle.tf_entries.specs.Plans.{arg_bytes, bind_bytes, provides_bytes, undo_bytes, task_kind_byte, task_bytes, retry_kind_bytes, retry_bytes, IsName, IsText, IsArg, IsBind, IsProvides, IsUndo, IsTask, IsRetryKind, IsRetry, name_bytes, truth_byte, listed, AreFew}
use Rattle.tf_entries.specs.AtomReading.{read_truth, read_arg, read_bind, read_words, read_names, read_args, read_binds, read_provides_of, read_provides, read_undo_of, read_undo, task_kind_of, read_task_kind, read_task, read_times, scalars_in, read_values, read_for_each, read_retry_kind_of, read_retry_kind, read_retry}
use Rattle.tf_entries.specs.Reading.{chain, read_signed, read_name, read_value}
use Rattle.tf_entries.proofs.FieldLemmas.{number_read, found_at, truth_read, list_read}
use Rattle.tf_entries.proofs.NumberLemmas.{number_16, signed_32, name_read, text_read}
use Rattle.tf_entries.proofs.ReadingLemmas.{Reads, same_read, began, went_on, went_past, on_tag, no_tag, bare, with_part, joined, ends_with}
use Rattle.tf_entries.proofs.ValueLemmas.{AreScalars, value_read}

-- ---- what tasks and retry controllers have alike

arg_read : Reads arg_bytes IsArg read_arg
arg_read = record {
  again = λ a rest good.
      went_past name_read (λ name more. chain (read_name more) (λ symbol after. Some (record { name = name; symbol = symbol }, after))) a.name (name_bytes a.symbol) rest good.0
      ∙ went_on name_read (λ symbol after. Some (record { name = a.name; symbol = symbol }, after)) a.symbol rest good.1;
  sound = λ bytes a rest is.
      let n = began name_read (λ name more. chain (read_name more) (λ symbol after. Some (record { name = name; symbol = symbol }, after))) bytes a rest is in
      let s = began name_read (λ symbol after. Some (record { name = n.first; symbol = symbol }, after)) n.behind a rest n.goes in
      let made : Arg = record { name = n.first; symbol = s.first } in
      let same = same_read made a s.behind rest s.goes in
      subst (λ x. IsArg x × (bytes ≡ arg_bytes x ++ rest)) same.0 ((n.good, s.good), n.prefix ∙ ap (λ more. name_bytes n.first ++ more) (s.prefix ∙ ap (λ more. name_bytes s.first ++ more) same.1) ∙ sym (append_assoc (name_bytes n.first) (name_bytes s.first) rest));
}

bind_read : Reads bind_bytes IsBind read_bind
bind_read = record {
  again = λ b rest good.
      went_past name_read (λ symbol more. chain (read_value more) (λ value after. Some (record { symbol = symbol; value = value }, after))) b.symbol (byte_form b.value) rest good.0
      ∙ went_on value_read (λ value after. Some (record { symbol = b.symbol; value = value }, after)) b.value rest good.1;
  sound = λ bytes b rest is.
      let s = began name_read (λ symbol more. chain (read_value more) (λ value after. Some (record { symbol = symbol; value = value }, after))) bytes b rest is in
      let v = began value_read (λ value after. Some (record { symbol = s.first; value = value }, after)) s.behind b rest s.goes in
      let made : Bind = record { symbol = s.first; value = v.first } in
      let same = same_read made b v.behind rest v.goes in
      subst (λ x. IsBind x × (bytes ≡ bind_bytes x ++ rest)) same.0 ((s.good, v.good), s.prefix ∙ ap (λ more. name_bytes s.first ++ more) (v.prefix ∙ ap (λ more. byte_form v.first ++ more) same.1) ∙ sym (append_assoc (name_bytes s.first) (byte_form v.first) rest));
}

words_read : Reads (listed text_bytes) (AreFew IsText) read_words
unfolding read_words
words_read = list_read text_read

names_read : Reads (listed name_bytes) (AreFew IsName) read_names
unfolding read_names
names_read = list_read name_read

args_read : Reads (listed arg_bytes) (AreFew IsArg) read_args
unfolding read_args
args_read = list_read arg_read

pub binds_read : Reads (listed bind_bytes) (AreFew IsBind) read_binds
unfolding read_binds
binds_read = list_read bind_read

provides_again : (p : Provides) (rest : List ℕ) → IsProvides p → read_provides (provides_bytes p ++ rest) ≡ Some (p, rest)
provides_again provides.Nothing rest good = refl
provides_again (provides.Whole name) rest good = went_on name_read (λ n after. Some (provides.Whole n, after)) name rest good
provides_again (provides.Parts names) rest good = went_on names_read (λ ns after. Some (provides.Parts ns, after)) names rest good

abbrev IsProvidesAt : ℕ → List ℕ → Provides → List ℕ → Type 0
IsProvidesAt tag bytes p rest = IsProvides p × (tag ∷ bytes ≡ provides_bytes p ++ rest)

provides_of_sound : (tag : ℕ) (bytes : List ℕ) (p : Provides) (rest : List ℕ) → read_provides_of tag bytes ≡ Some (p, rest) → IsProvidesAt tag bytes p rest
provides_of_sound tag bytes p rest is =
    on_tag (IsProvidesAt tag bytes p rest) tag 0 _ _ (p, rest) is (λ at found. bare provides_bytes IsProvides provides.Nothing 0 tt refl tag bytes p rest at found)
    (λ is1. on_tag (IsProvidesAt tag bytes p rest) tag 1 _ _ (p, rest) is1 (λ at found. with_part name_read provides_bytes IsProvides provides.Whole 1 (λ n good. good) (λ n. refl) tag bytes p rest at found)
    (λ is2. on_tag (IsProvidesAt tag bytes p rest) tag 2 _ _ (p, rest) is2 (λ at found. with_part names_read provides_bytes IsProvides provides.Parts 2 (λ ns good. good) (λ ns. refl) tag bytes p rest at found)
    (no_tag (IsProvidesAt tag bytes p rest) (p, rest))))

provides_sound : (bytes : List ℕ) (p : Provides) (rest : List ℕ) → read_provides bytes ≡ Some (p, rest) → IsProvides p × (bytes ≡ provides_bytes p ++ rest)
provides_sound [] p rest is = absurd (cc)
provides_sound (tag ∷ bytes) p rest is = provides_of_sound tag bytes p rest is

provides_read : Reads provides_bytes IsProvides read_provides
provides_read = record { again = provides_again; sound = provides_sound }

-- ---- tasks

undo_again : (u : Undo) (rest : List ℕ) → IsUndo u → read_undo (undo_bytes u ++ rest) ≡ Some (u, rest)
undo_again undo.Pass rest good = refl
undo_again undo.Fail rest good = refl
undo_again (undo.Run words) rest good = went_on words_read (λ ws after. Some (undo.Run ws, after)) words rest good

abbrev IsUndoAt : ℕ → List ℕ → Undo → List ℕ → Type 0
IsUndoAt tag bytes u rest = IsUndo u × (tag ∷ bytes ≡ undo_bytes u ++ rest)

undo_of_sound : (tag : ℕ) (bytes : List ℕ) (u : Undo) (rest : List ℕ) → read_undo_of tag bytes ≡ Some (u, rest) → IsUndoAt tag bytes u rest
undo_of_sound tag bytes u rest is =
    on_tag (IsUndoAt tag bytes u rest) tag 0 _ _ (u, rest) is (λ at found. bare undo_bytes IsUndo undo.Pass 0 tt refl tag bytes u rest at found)
    (λ is1. on_tag (IsUndoAt tag bytes u rest) tag 1 _ _ (u, rest) is1 (λ at found. bare undo_bytes IsUndo undo.Fail 1 tt refl tag bytes u rest at found)
    (λ is2. on_tag (IsUndoAt tag bytes u rest) tag 2 _ _ (u, rest) is2 (λ at found. with_part words_read undo_bytes IsUndo undo.Run 2 (λ ws good. good) (λ ws. refl) tag bytes u rest at found)
    (no_tag (IsUndoAt tag bytes u rest) (u, rest))))

undo_sound : (bytes : List ℕ) (u : Undo) (rest : List ℕ) → read_undo bytes ≡ Some (u, rest) → IsUndo u × (bytes ≡ undo_bytes u ++ rest)
undo_sound [] u rest is = absurd (cc)
undo_sound (tag ∷ bytes) u rest is = undo_of_sound tag bytes u rest is

undo_read : Reads undo_bytes IsUndo read_undo
undo_read = record { again = undo_again; sound = undo_sound }

task_kind_back : (k : TaskKind) → task_kind_of (task_kind_byte k) ≡ Some k
task_kind_back kind.Echo = refl
task_kind_back kind.Concat = refl
task_kind_back kind.Sum = refl
task_kind_back kind.Length = refl
task_kind_back kind.Pick = refl
task_kind_back kind.List = refl
task_kind_back kind.Fail = refl
task_kind_back kind.FailBelow = refl
task_kind_back kind.FailUnless = refl
task_kind_back kind.Command = refl

task_kind_there : (n : ℕ) (k : TaskKind) → task_kind_of n ≡ Some k → n ≡ task_kind_byte k
task_kind_there n k is =
    on_tag (n ≡ task_kind_byte k) n 0 _ _ k is (λ at found. found_at task_kind_byte kind.Echo k n 0 at refl found)
    (λ is1. on_tag (n ≡ task_kind_byte k) n 1 _ _ k is1 (λ at found. found_at task_kind_byte kind.Concat k n 1 at refl found)
    (λ is2. on_tag (n ≡ task_kind_byte k) n 2 _ _ k is2 (λ at found. found_at task_kind_byte kind.Sum k n 2 at refl found)
    (λ is3. on_tag (n ≡ task_kind_byte k) n 3 _ _ k is3 (λ at found. found_at task_kind_byte kind.Length k n 3 at refl found)
    (λ is4. on_tag (n ≡ task_kind_byte k) n 4 _ _ k is4 (λ at found. found_at task_kind_byte kind.Pick k n 4 at refl found)
    (λ is5. on_tag (n ≡ task_kind_byte k) n 5 _ _ k is5 (λ at found. found_at task_kind_byte kind.List k n 5 at refl found)
    (λ is6. on_tag (n ≡ task_kind_byte k) n 6 _ _ k is6 (λ at found. found_at task_kind_byte kind.Fail k n 6 at refl found)
    (λ is7. on_tag (n ≡ task_kind_byte k) n 7 _ _ k is7 (λ at found. found_at task_kind_byte kind.FailBelow k n 7 at refl found)
    (λ is8. on_tag (n ≡ task_kind_byte k) n 8 _ _ k is8 (λ at found. found_at task_kind_byte kind.FailUnless k n 8 at refl found)
    (λ is9. on_tag (n ≡ task_kind_byte k) n 9 _ _ k is9 (λ at found. found_at task_kind_byte kind.Command k n 9 at refl found)
    (no_tag (n ≡ task_kind_byte k) k))))))))))

task_kind_read : Reads (λ k. task_kind_byte k ∷ []) (λ k. Unit {0}) read_task_kind
task_kind_read = number_read task_kind_byte task_kind_of task_kind_back task_kind_there read_task_kind refl (λ n rest. refl)

-- what is read behind each part of a task
abbrev behind_priority : List ℕ → TaskKind → List (List ℕ) → List Arg → List Bind → Provides → ℤ → List ℕ → Option (Task × List ℕ)
behind_priority name kind words args inject provides priority bytes =
    chain (read_undo bytes) (λ undo rest. Some (record { name = name; kind = kind; words = words; args = args; inject = inject; provides = provides; priority = priority; undo = undo }, rest))

abbrev behind_provides : List ℕ → TaskKind → List (List ℕ) → List Arg → List Bind → Provides → List ℕ → Option (Task × List ℕ)
behind_provides name kind words args inject provides bytes = chain (read_signed w32 bytes) (behind_priority name kind words args inject provides)

abbrev behind_inject : List ℕ → TaskKind → List (List ℕ) → List Arg → List Bind → List ℕ → Option (Task × List ℕ)
behind_inject name kind words args inject bytes = chain (read_provides bytes) (behind_provides name kind words args inject)

abbrev behind_args : List ℕ → TaskKind → List (List ℕ) → List Arg → List ℕ → Option (Task × List ℕ)
behind_args name kind words args bytes = chain (read_binds bytes) (behind_inject name kind words args)

abbrev behind_words : List ℕ → TaskKind → List (List ℕ) → List ℕ → Option (Task × List ℕ)
behind_words name kind words bytes = chain (read_args bytes) (behind_args name kind words)

abbrev behind_kind : List ℕ → TaskKind → List ℕ → Option (Task × List ℕ)
behind_kind name kind bytes = chain (read_words bytes) (behind_words name kind)

abbrev behind_name : List ℕ → List ℕ → Option (Task × List ℕ)
behind_name name bytes = chain (read_task_kind bytes) (behind_kind name)

-- the bytes of its last parts
abbrev from_priority : Task → List ℕ
from_priority t = to_be_bytes w32 (cast_unsigned w32 t.priority) ++ undo_bytes t.undo

abbrev from_provides : Task → List ℕ
from_provides t = provides_bytes t.provides ++ from_priority t

abbrev from_inject : Task → List ℕ
from_inject t = listed bind_bytes t.inject ++ from_provides t

abbrev from_args : Task → List ℕ
from_args t = listed arg_bytes t.args ++ from_inject t

abbrev from_words : Task → List ℕ
from_words t = listed text_bytes t.words ++ from_args t

task_again : (t : Task) (rest : List ℕ) → IsTask t → read_task (task_bytes t ++ rest) ≡ Some (t, rest)
task_again t rest good =
    went_past name_read behind_name t.name (task_kind_byte t.kind ∷ from_words t) rest good.name
    ∙ went_past task_kind_read (behind_kind t.name) t.kind (from_words t) rest tt
    ∙ went_past words_read (behind_words t.name t.kind) t.words (from_args t) rest good.words
    ∙ went_past args_read (behind_args t.name t.kind t.words) t.args (from_inject t) rest good.args
    ∙ went_past binds_read (behind_inject t.name t.kind t.words t.args) t.inject (from_provides t) rest good.inject
    ∙ went_past provides_read (behind_provides t.name t.kind t.words t.args t.inject) t.provides (from_priority t) rest good.provides
    ∙ went_past signed_32 (behind_priority t.name t.kind t.words t.args t.inject t.provides) t.priority (undo_bytes t.undo) rest good.priority
    ∙ went_on undo_read (λ undo after. Some (record { name = t.name; kind = t.kind; words = t.words; args = t.args; inject = t.inject; provides = t.provides; priority = t.priority; undo = undo }, after)) t.undo rest good.undo

task_sound : (bytes : List ℕ) (t : Task) (rest : List ℕ) → read_task bytes ≡ Some (t, rest) → IsTask t × (bytes ≡ task_bytes t ++ rest)
task_sound bytes t rest is =
    let n = began name_read behind_name bytes t rest is in
    let k = began task_kind_read (behind_kind n.first) n.behind t rest n.goes in
    let w = began words_read (behind_words n.first k.first) k.behind t rest k.goes in
    let a = began args_read (behind_args n.first k.first w.first) w.behind t rest w.goes in
    let i = began binds_read (behind_inject n.first k.first w.first a.first) a.behind t rest a.goes in
    let p = began provides_read (behind_provides n.first k.first w.first a.first i.first) i.behind t rest i.goes in
    let r = began signed_32 (behind_priority n.first k.first w.first a.first i.first p.first) p.behind t rest p.goes in
    let u = began undo_read (λ undo after. Some (record { name = n.first; kind = k.first; words = w.first; args = a.first; inject = i.first; provides = p.first; priority = r.first; undo = undo }, after)) r.behind t rest r.goes in
    let made : Task = record { name = n.first; kind = k.first; words = w.first; args = a.first; inject = i.first; provides = p.first; priority = r.first; undo = u.first } in
    let same = same_read made t u.behind rest u.goes in
    subst (λ x. IsTask x × (bytes ≡ task_bytes x ++ rest)) same.0 (
      record { name = n.good; words = w.good; args = a.good; inject = i.good; provides = p.good; priority = r.good; undo = u.good },
      joined bytes (name_bytes n.first) n.behind (task_kind_byte k.first ∷ from_words made) rest n.prefix
          (joined n.behind (task_kind_byte k.first ∷ []) k.behind (from_words made) rest k.prefix
          (joined k.behind (listed text_bytes w.first) w.behind (from_args made) rest w.prefix
          (joined w.behind (listed arg_bytes a.first) a.behind (from_inject made) rest a.prefix
          (joined a.behind (listed bind_bytes i.first) i.behind (from_provides made) rest i.prefix
          (joined i.behind (provides_bytes p.first) p.behind (from_priority made) rest p.prefix
          (joined p.behind (to_be_bytes w32 (cast_unsigned w32 r.first)) r.behind (undo_bytes u.first) rest r.prefix
          (ends_with r.behind (undo_bytes u.first) u.behind rest u.prefix same.1))))))),
    )

pub task_read : Reads task_bytes IsTask read_task
task_read = record { again = task_again; sound = task_sound }

-- ---- retry controllers

abbrev behind_attempts : ℕ → List ℕ → Option (RetryKind × List ℕ)
behind_attempts attempts rest = chain (read_truth rest) (λ all after. Some (retry.Times attempts all, after))

abbrev behind_values : List Scalar → List ℕ → Option (RetryKind × List ℕ)
behind_values values rest = chain (read_truth rest) (λ all after. Some (retry.ForEach values all, after))

-- a list as a value
in_list : (v : Val) (behind rest : List ℕ) (values : List Scalar) → scalars_in v behind ≡ Some (values, rest) → (v ≡ value.List values) × (behind ≡ rest)
in_list value.Nothing behind rest values is = absurd (cc)
in_list (value.Truth truth) behind rest values is = absurd (cc)
in_list (value.Int number) behind rest values is = absurd (cc)
in_list (value.Text text) behind rest values is = absurd (cc)
in_list (value.List scalars) behind rest values is = let same = same_read scalars values behind rest is in (ap value.List same.0, same.1)

values_read : Reads list_bytes AreScalars read_values
values_read = record {
  again = λ values rest good. went_on value_read scalars_in (value.List values) rest good;
  sound = λ bytes values rest is.
      let v = began value_read scalars_in bytes values rest is in
      let found = in_list v.first v.behind rest values v.goes in
      (subst IsValue found.0 v.good, v.prefix ∙ ap (λ u. byte_form u ++ v.behind) found.0 ∙ ap (λ more. list_bytes values ++ more) found.1);
}

retry_kind_again : (k : RetryKind) (rest : List ℕ) → IsRetryKind k → read_retry_kind (retry_kind_bytes k ++ rest) ≡ Some (k, rest)
retry_kind_again retry.AlwaysRevert rest good = refl
retry_kind_again retry.AlwaysRevertAll rest good = refl
retry_kind_again (retry.Times attempts all) rest good =
    went_past number_16 behind_attempts attempts (truth_byte all ∷ []) rest good ∙ went_on truth_read (λ b after. Some (retry.Times attempts b, after)) all rest tt
retry_kind_again (retry.ForEach values all) rest good =
    went_past values_read behind_values values (truth_byte all ∷ []) rest good ∙ went_on truth_read (λ b after. Some (retry.ForEach values b, after)) all rest tt
retry_kind_again (retry.Parameterized all) rest good = went_on truth_read (λ b after. Some (retry.Parameterized b, after)) all rest tt

abbrev IsRetryKindAt : ℕ → List ℕ → RetryKind → List ℕ → Type 0
IsRetryKindAt tag bytes k rest = IsRetryKind k × (tag ∷ bytes ≡ retry_kind_bytes k ++ rest)

times_sound : (bytes : List ℕ) (k : RetryKind) (rest : List ℕ) → read_times bytes ≡ Some (k, rest) → IsRetryKindAt 2 bytes k rest
times_sound bytes k rest is =
    let n = began number_16 behind_attempts bytes k rest is in
    let b = began truth_read (λ all after. Some (retry.Times n.first all, after)) n.behind k rest n.goes in
    let same = same_read (retry.Times n.first b.first) k b.behind rest b.goes in
    subst (λ x. IsRetryKindAt 2 bytes x rest) same.0 (
      n.good,
      ap (λ more. 2 ∷ more) (joined bytes (to_be_bytes w16 n.first) n.behind (truth_byte b.first ∷ []) rest n.prefix (ends_with n.behind (truth_byte b.first ∷ []) b.behind rest b.prefix same.1)),
    )

for_each_sound : (bytes : List ℕ) (k : RetryKind) (rest : List ℕ) → read_for_each bytes ≡ Some (k, rest) → IsRetryKindAt 3 bytes k rest
for_each_sound bytes k rest is =
    let v = began values_read behind_values bytes k rest is in
    let b = began truth_read (λ all after. Some (retry.ForEach v.first all, after)) v.behind k rest v.goes in
    let same = same_read (retry.ForEach v.first b.first) k b.behind rest b.goes in
    subst (λ x. IsRetryKindAt 3 bytes x rest) same.0 (
      v.good,
      ap (λ more. 3 ∷ more) (joined bytes (list_bytes v.first) v.behind (truth_byte b.first ∷ []) rest v.prefix (ends_with v.behind (truth_byte b.first ∷ []) b.behind rest b.prefix same.1)),
    )

at_retry_tag : (tag k : ℕ) (bytes : List ℕ) (r : RetryKind) (rest : List ℕ) → tag ≡ k → IsRetryKindAt k bytes r rest → IsRetryKindAt tag bytes r rest
at_retry_tag tag k bytes r rest at is = subst (λ (n : ℕ). IsRetryKindAt n bytes r rest) (sym at) is

retry_kind_of_sound : (tag : ℕ) (bytes : List ℕ) (k : RetryKind) (rest : List ℕ) → read_retry_kind_of tag bytes ≡ Some (k, rest) → IsRetryKindAt tag bytes k rest
retry_kind_of_sound tag bytes k rest is =
    on_tag (IsRetryKindAt tag bytes k rest) tag 0 _ _ (k, rest) is (λ at found. bare retry_kind_bytes IsRetryKind retry.AlwaysRevert 0 tt refl tag bytes k rest at found)
    (λ is1. on_tag (IsRetryKindAt tag bytes k rest) tag 1 _ _ (k, rest) is1 (λ at found. bare retry_kind_bytes IsRetryKind retry.AlwaysRevertAll 1 tt refl tag bytes k rest at found)
    (λ is2. on_tag (IsRetryKindAt tag bytes k rest) tag 2 _ _ (k, rest) is2 (λ at found. at_retry_tag tag 2 bytes k rest at (times_sound bytes k rest found))
    (λ is3. on_tag (IsRetryKindAt tag bytes k rest) tag 3 _ _ (k, rest) is3 (λ at found. at_retry_tag tag 3 bytes k rest at (for_each_sound bytes k rest found))
    (λ is4. on_tag (IsRetryKindAt tag bytes k rest) tag 4 _ _ (k, rest) is4 (λ at found. with_part truth_read retry_kind_bytes IsRetryKind retry.Parameterized 4 (λ b good. tt) (λ b. refl) tag bytes k rest at found)
    (no_tag (IsRetryKindAt tag bytes k rest) (k, rest))))))

retry_kind_sound : (bytes : List ℕ) (k : RetryKind) (rest : List ℕ) → read_retry_kind bytes ≡ Some (k, rest) → IsRetryKind k × (bytes ≡ retry_kind_bytes k ++ rest)
retry_kind_sound [] k rest is = absurd (cc)
retry_kind_sound (tag ∷ bytes) k rest is = retry_kind_of_sound tag bytes k rest is

retry_kind_read : Reads retry_kind_bytes IsRetryKind read_retry_kind
retry_kind_read = record { again = retry_kind_again; sound = retry_kind_sound }

-- what is read behind each part of a retry controller
abbrev behind_retry_inject : List ℕ → RetryKind → List Arg → List Bind → List ℕ → Option (Retry × List ℕ)
behind_retry_inject name kind args inject bytes = chain (read_provides bytes) (λ provides rest. Some (record { name = name; kind = kind; args = args; inject = inject; provides = provides }, rest))

abbrev behind_retry_args : List ℕ → RetryKind → List Arg → List ℕ → Option (Retry × List ℕ)
behind_retry_args name kind args bytes = chain (read_binds bytes) (behind_retry_inject name kind args)

abbrev behind_retry_kind : List ℕ → RetryKind → List ℕ → Option (Retry × List ℕ)
behind_retry_kind name kind bytes = chain (read_args bytes) (behind_retry_args name kind)

abbrev behind_retry_name : List ℕ → List ℕ → Option (Retry × List ℕ)
behind_retry_name name bytes = chain (read_retry_kind bytes) (behind_retry_kind name)

-- the bytes of its last parts
abbrev from_retry_inject : Retry → List ℕ
from_retry_inject r = listed bind_bytes r.inject ++ provides_bytes r.provides

abbrev from_retry_args : Retry → List ℕ
from_retry_args r = listed arg_bytes r.args ++ from_retry_inject r

retry_again : (r : Retry) (rest : List ℕ) → IsRetry r → read_retry (retry_bytes r ++ rest) ≡ Some (r, rest)
retry_again r rest good =
    went_past name_read behind_retry_name r.name (retry_kind_bytes r.kind ++ from_retry_args r) rest good.name
    ∙ went_past retry_kind_read (behind_retry_kind r.name) r.kind (from_retry_args r) rest good.kind
    ∙ went_past args_read (behind_retry_args r.name r.kind) r.args (from_retry_inject r) rest good.args
    ∙ went_past binds_read (behind_retry_inject r.name r.kind r.args) r.inject (provides_bytes r.provides) rest good.inject
    ∙ went_on provides_read (λ provides after. Some (record { name = r.name; kind = r.kind; args = r.args; inject = r.inject; provides = provides }, after)) r.provides rest good.provides

retry_sound : (bytes : List ℕ) (r : Retry) (rest : List ℕ) → read_retry bytes ≡ Some (r, rest) → IsRetry r × (bytes ≡ retry_bytes r ++ rest)
retry_sound bytes r rest is =
    let n = began name_read behind_retry_name bytes r rest is in
    let k = began retry_kind_read (behind_retry_kind n.first) n.behind r rest n.goes in
    let a = began args_read (behind_retry_args n.first k.first) k.behind r rest k.goes in
    let i = began binds_read (behind_retry_inject n.first k.first a.first) a.behind r rest a.goes in
    let p = began provides_read (λ provides after. Some (record { name = n.first; kind = k.first; args = a.first; inject = i.first; provides = provides }, after)) i.behind r rest i.goes in
    let made : Retry = record { name = n.first; kind = k.first; args = a.first; inject = i.first; provides = p.first } in
    let same = same_read made r p.behind rest p.goes in
    subst (λ x. IsRetry x × (bytes ≡ retry_bytes x ++ rest)) same.0 (
      record { name = n.good; kind = k.good; args = a.good; inject = i.good; provides = p.good },
      joined bytes (name_bytes n.first) n.behind (retry_kind_bytes k.first ++ from_retry_args made) rest n.prefix
          (joined n.behind (retry_kind_bytes k.first) k.behind (from_retry_args made) rest k.prefix
          (joined k.behind (listed arg_bytes a.first) a.behind (from_retry_inject made) rest a.prefix
          (joined a.behind (listed bind_bytes i.first) i.behind (provides_bytes p.first) rest i.prefix
          (ends_with i.behind (provides_bytes p.first) p.behind rest p.prefix same.1)))),
    )

pub retry_read : Reads retry_bytes IsRetry read_retry
retry_read = record { again = retry_again; sound = retry_sound }
