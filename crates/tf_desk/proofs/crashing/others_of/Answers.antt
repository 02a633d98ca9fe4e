use Rattle.std.proofs.Common.{◌≡◌, ◌+◌, List, [], ◌∷◌, ◌++◌, take, reverse, Option, Some, None, sym, ◌∙◌, ap, subst, arith}
use Rattle.std.specs.Prelude.{option_map, IfSome}
use Rattle.std.specs.List.{sum_by}
use Rattle.std.proofs.lemmas.List.{take_all, take_more}
use Rattle.tf_desk.specs.declared.past.MemoryFile.{MemoryFile}
use Rattle.tf_desk.specs.Acts.{Act}
use Rattle.tf_desk.specs.MemoryDesk.{acts_of, written_count}
use Rattle.tf_desk.specs.Crashed.{other_file, AreOthers}
use Rattle.tf_desk.proofs.OtherLemmas.{others_none, others_some}
use Rattle.tf_desk.proofs.crashing.others_of.Goals as goal
use Rattle.tf_desk.proofs.crashing.others_of.Goals.{in-Some+in_ok-push, in_default}

pub loop-file-preserved : goal.loop-file-preserved
loop-file-preserved c = λ shown.
    let i = c.loop-file.file-index in
    let file = c.file-item.result in
    let past : List Act = acts_of (reverse c.args.log.now) (take (sum_by written_count c.args.log.now) c.args.tape.now) shown in
    let name = c.args.name.now in
    let before : AreOthers (take i c.args.files.now) past name c.loop-file.others.items = c.loop-file.invariant shown in
    let more : take (i + 1) c.args.files.now ≡ take i c.args.files.now ++ file ∷ [] =
    take_more c.args.files.now i file (omega arith) ∙ ap (λ (f : MemoryFile). take i c.args.files.now ++ f ∷ []) (sym c.file-item.is) in
    let told = c.in_ok-other.ensures.bytes shown in
    subst (λ (files : List MemoryFile). AreOthers files past name c.match-branch-2.others.items) (sym more)
    (elim c.match-branch-2.branch [
      | in-Some+in_ok-push w ↦
          let found : c.in_ok-other.field-0 ≡ Some w.in-Some.other = w.in-Some.is in
          let bytes : Some w.in-Some.other.bytes.items ≡ other_file past name file.name = ap (option_map (λ (f : MemoryFile). f.bytes.items)) (sym found) ∙ told in
          let named : w.in-Some.other.name ≡ file.name = subst (λ (o : Option MemoryFile). IfSome o (λ f. f.name ≡ file.name)) found c.in_ok-other.ensures.named in
          let pushed : c.match-branch-2.others.items ≡ c.loop-file.others.items ++ w.in-Some.other ∷ [] = ap (λ v. v.items) w.others-is ∙ w.in_ok-push.ensures.items in
          subst (λ (others : List MemoryFile). AreOthers (take i c.args.files.now ++ file ∷ []) past name others) (sym pushed)
          (others_some (take i c.args.files.now) past name c.loop-file.others.items file before w.in-Some.other named bytes)
      | in_default w ↦
          let none : other_file past name file.name ≡ None = sym told ∙ ap (option_map (λ (f : MemoryFile). f.bytes.items)) w.in_default.is in
          let same : c.match-branch-2.others.items ≡ c.loop-file.others.items = ap (λ v. v.items) w.others-is in
          subst (λ (others : List MemoryFile). AreOthers (take i c.args.files.now ++ file ∷ []) past name others) (sym same)
          (others_none (take i c.args.files.now) past name c.loop-file.others.items file before none)
    ])

pub returns : goal.returns
returns c = λ shown.
    subst (λ (files : List MemoryFile). AreOthers files (acts_of (reverse c.args.log.now) (take (sum_by written_count c.args.log.now) c.args.tape.now) shown) c.args.name.now c.loop-file.others.items)
    (take_all c.loop-file.file-index c.args.files.now (omega arith)) (c.loop-file.invariant shown)
