use Rattle.std.proofs.Common.{◌≡◌, ℕ, ◌++◌, ◌∷◌, [], List, length, reverse, Some, None, arith, sym, ◌∙◌, ap, subst}
use Rattle.tf_desk.specs.declared.past.MemoryFile.{MemoryFile}
use Rattle.tf_desk.specs.declared.past.Noted.{Noted}
use Rattle.tf_desk.specs.declared.past.Noted.TheVariants.{Picked}
use Rattle.tf_desk.specs.Acts.{Act, picked}
use Rattle.std.specs.List.{sum_by}
use Rattle.std.proofs.lemmas.List.Sums.{sum_by_push}
use Rattle.tf_desk.specs.MemoryDesk.{acts_of, written_count, said_count, file_at, IsFirst}
use Rattle.tf_desk.specs.Sound.{acts, Keeps}
use Rattle.tf_desk.proofs.KeepsLemmas.{keeps_picked, keeps_made, acts_picked}
use Rattle.tf_desk.proofs.past.Past.pick.Goals as goal

pub invariant_of-self-in-Some : goal.invariant_of-self-in-Some
invariant_of-self-in-Some c =
    let p = c.self.inside in
    let name = c.args.name.now in
    let first = subst (λ (files : List MemoryFile). IsFirst files c.in-Some.place name) c.deref.ensures.value c.in-Some.ensures.found in
    let kept = keeps_picked (acts p) p.shown.items p.files.items p.picked c.self.invariant.keeps name c.in-Some.place first in
    let entry : c.push.new.self.items ≡ p.log.items ++ Picked name ∷ [] = c.in_ok-push.ensures.items ∙ ap (λ (n : List ℕ). p.log.items ++ Picked n ∷ []) c.in_ok-copy.ensures in
    let past_is = ap (λ (log : List Noted). acts_of (reverse log) p.written.items p.shown.items) entry ∙ acts_picked p.log.items p.written.items p.shown.items name in
    record {
      keeps = subst (λ (past : List Act). Keeps past p.shown.items p.files.items (Some c.in-Some.place)) (sym past_is) kept;
      wrote = omega (arith, ap (sum_by written_count) entry, sum_by_push written_count p.log.items (Picked name), c.self.invariant.wrote);
      said = omega (arith, ap (sum_by said_count) entry, sum_by_push said_count p.log.items (Picked name), c.self.invariant.said);
    }

pub invariant_of-self-2 : goal.invariant_of-self-2
invariant_of-self-2 c =
    let p = c.self.inside in
    let name = c.args.name.now in
    let file : MemoryFile = record { name = c.in_ok-copy-2.field-0; bytes = c.in_ok-with_capacity.field-0 } in
    let none : file_at p.files.items name ≡ None = ap (λ (files : List MemoryFile). file_at files name) (sym c.deref.ensures.value) ∙ c.in_default.ensures.missing in
    let made = keeps_made (acts p) p.shown.items p.files.items p.picked c.self.invariant.keeps name file c.in_ok-copy-2.ensures c.in_ok-with_capacity.ensures.items none in
    let entry : c.add.new.log.items ≡ p.log.items ++ Picked name ∷ [] = c.in_ok-add.ensures.log ∙ ap (λ (n : List ℕ). p.log.items ++ Picked n ∷ []) c.in_ok-copy.ensures in
    let past_is = ap (λ (log : List Noted). acts_of (reverse log) p.written.items p.shown.items) entry ∙ acts_picked p.log.items p.written.items p.shown.items name in
    let files_are : c.add.new.files.items ≡ p.files.items ++ file ∷ [] = c.in_ok-add.ensures.files in
    let place_is : c.len-place.result ≡ length p.files.items = omega (arith, c.len-place.ensures, p.files.ok.0) in
    let P : List Act → List MemoryFile → ℕ → Type 0 = λ past files place. Keeps past p.shown.items files (Some place) in
    record {
      keeps = subst (λ (past : List Act). P past c.add.new.files.items c.len-place.result) (sym past_is)
          (subst (λ (files : List MemoryFile). P (picked name ∷ acts p) files c.len-place.result) (sym files_are)
          (subst (λ (place : ℕ). P (picked name ∷ acts p) (p.files.items ++ file ∷ []) place) (sym place_is) made));
      wrote = omega (arith, ap (sum_by written_count) entry, sum_by_push written_count p.log.items (Picked name), c.self.invariant.wrote);
      said = omega (arith, ap (sum_by said_count) entry, sum_by_push said_count p.log.items (Picked name), c.self.invariant.said);
    }
