-- What the fields of a desk in memory keep, act by act.
use Rattle.std.proofs.Common.{◌≡◌, ℕ, ◌<◌, Bool, true, false, List, [], ◌∷◌, ◌++◌, length, get_or, set, Option, Some, None, unwrap_or, if◌then◌else◌, ◌==◌, reverse, take, drop, ◌-◌, refl, sym, ◌∙◌, ap, subst, arith, length-append}
use Rattle.std.specs.Cmp.Lexicographic.{pointwise, bytes_decides}
use Rattle.std.proofs.lemmas.List.{reverse-append, drop_at, take_at}
use Rattle.tf_desk.specs.declared.past.MemoryFile.{MemoryFile}
use Rattle.tf_desk.specs.declared.past.Noted.{Noted}
use Rattle.tf_desk.specs.declared.past.Noted.TheVariants.{Picked, Wrote}
use Rattle.tf_desk.specs.Crash.{written, bytes_of}
use Rattle.tf_desk.specs.Acts.{Act, picked, wrote, names, picked_after, files_after, content_after}
use Rattle.tf_desk.specs.MemoryDesk.{acts_of, file_at, IsFirst, IsPlace}
use Rattle.tf_desk.specs.ActLaws.{bytes_of-picked}
use Rattle.tf_desk.specs.Sound.{Keeps}
use Rattle.tf_desk.proofs.FileLemmas.{first_within, first_name, first_bytes, first_there, chosen, passed, first_set, file_at-set, first_push, file_at-push, file_at-picked}

-- the picked place is of a name's first file
abbrev PlacedBy : List MemoryFile → ℕ → Option (List ℕ) → Type 0
PlacedBy files place name_picked = (name : List ℕ) × (name_picked ≡ Some name) × IsFirst files place name

placed : (files : List MemoryFile) (place : ℕ) (name_picked : Option (List ℕ)) → IsPlace files (Some place) name_picked → PlacedBy files place name_picked
placed files place None is = absurd is
placed files place (Some name) is = (name, refl, is)

placed_at : (files : List MemoryFile) (place_picked : Option ℕ) (place : ℕ) (name_picked : Option (List ℕ)) → place_picked ≡ Some place → IsPlace files place_picked name_picked → PlacedBy files place name_picked
placed_at files place_picked place name_picked same is = placed files place name_picked (subst (λ (p : Option ℕ). IsPlace files p name_picked) same is)

module _ (past : List Act) (shown : List ℕ) (files : List MemoryFile) (place_picked : Option ℕ) (keeps : Keeps past shown files place_picked) (place : ℕ) (at_place : place_picked ≡ Some place) where
  by : PlacedBy files place (picked_after past)
  by = placed_at files place_picked place (picked_after past) at_place keeps.picked

  -- the place is within the files
  pub keeps_within : place < length files
  keeps_within = first_within files place by.0 by.2

  -- some name is picked
  pub keeps_name : (name : List ℕ) × (picked_after past ≡ Some name)
  keeps_name = (by.0, by.1)

  file_under : (d : MemoryFile) → files_after past by.0 ≡ Some ((get_or files place d).bytes.items)
  file_under d = sym (keeps.named by.0) ∙ first_bytes files place by.0 d by.2

  -- the file there has the bytes as read
  pub keeps_bytes : (d : MemoryFile) → bytes_of (content_after past) ≡ (get_or files place d).bytes.items
  keeps_bytes d = bytes_of-picked (content_after past) by.0 by.1 ∙ ap (λ (f : Option (List ℕ)). unwrap_or f []) (file_under d)

  -- bytes written into the file there
  pub keeps_wrote : (file d : MemoryFile) (at : ℕ) (bytes : List ℕ) → file.name ≡ (get_or files place d).name → file.bytes.items ≡ written ((get_or files place d).bytes.items) at bytes
      → Keeps (wrote at bytes ∷ past) shown (set files place file) place_picked
  keeps_wrote file d at bytes same_name same_bytes = record {
    text = keeps.text;
    named = λ other. file_at-set files place by.0 file its_name by.2 other ∙ agrees other (pointwise ◌==◌ by.0 other) refl;
    picked = subst (λ (p : Option ℕ). IsPlace (set files place file) p (picked_after past)) (sym at_place)
        (subst (λ (p : Option (List ℕ)). IsPlace (set files place file) (Some place) p) (sym by.1) (first_set files place place by.0 file d same_name by.2));
  }
    where
      its_name : file.name ≡ by.0
      its_name = same_name ∙ first_name files place by.0 d by.2

      agrees : (other : List ℕ) (b : Bool) → pointwise ◌==◌ by.0 other ≡ b
          → (if pointwise ◌==◌ by.0 other then Some file.bytes.items else file_at files other) ≡ files_after (wrote at bytes ∷ past) other
      agrees other true is =
          let same : by.0 ≡ other = (bytes_decides by.0 other).0 is in
          let under : files_after past other ≡ Some ((get_or files place d).bytes.items) = ap (files_after past) (sym same) ∙ file_under d in
          let test : names (picked_after past) other ≡ true = ap (λ (p : Option (List ℕ)). names p other) by.1 ∙ is in
          chosen (pointwise ◌==◌ by.0 other) (Some file.bytes.items) (file_at files other) is
          ∙ ap (λ (l : List ℕ). Some l) (same_bytes ∙ ap (λ (f : Option (List ℕ)). written (unwrap_or f []) at bytes) (sym under))
          ∙ sym (chosen (names (picked_after past) other) (Some (written (unwrap_or (files_after past other) []) at bytes)) (files_after past other) test)
      agrees other false is =
          let test : names (picked_after past) other ≡ false = ap (λ (p : Option (List ℕ)). names p other) by.1 ∙ is in
          passed (pointwise ◌==◌ by.0 other) (Some file.bytes.items) (file_at files other) is
          ∙ keeps.named other
          ∙ sym (passed (names (picked_after past) other) (Some (written (unwrap_or (files_after past other) []) at bytes)) (files_after past other) test)

  -- a file of the same name and bytes in its place
  pub keeps_set : (file d : MemoryFile) → file.name ≡ (get_or files place d).name → file.bytes.items ≡ (get_or files place d).bytes.items → Keeps past shown (set files place file) place_picked
  keeps_set file d same_name same_bytes = record {
    text = keeps.text;
    named = λ other. file_at-set files place by.0 file its_name by.2 other ∙ agrees other (pointwise ◌==◌ by.0 other) refl;
    picked = subst (λ (p : Option ℕ). IsPlace (set files place file) p (picked_after past)) (sym at_place)
        (subst (λ (p : Option (List ℕ)). IsPlace (set files place file) (Some place) p) (sym by.1) (first_set files place place by.0 file d same_name by.2));
  }
    where
      its_name : file.name ≡ by.0
      its_name = same_name ∙ first_name files place by.0 d by.2

      agrees : (other : List ℕ) (b : Bool) → pointwise ◌==◌ by.0 other ≡ b
          → (if pointwise ◌==◌ by.0 other then Some file.bytes.items else file_at files other) ≡ files_after past other
      agrees other true is =
          let same : by.0 ≡ other = (bytes_decides by.0 other).0 is in
          chosen (pointwise ◌==◌ by.0 other) (Some file.bytes.items) (file_at files other) is
          ∙ ap (λ (l : List ℕ). Some l) same_bytes ∙ sym (file_under d) ∙ ap (files_after past) same
      agrees other false is = passed (pointwise ◌==◌ by.0 other) (Some file.bytes.items) (file_at files other) is ∙ keeps.named other

-- a pick of a file that is there
pub keeps_picked : (past : List Act) (shown : List ℕ) (files : List MemoryFile) (old_place : Option ℕ) → Keeps past shown files old_place
    → (name : List ℕ) (place : ℕ) → IsFirst files place name → Keeps (picked name ∷ past) shown files (Some place)
keeps_picked past shown files old_place keeps name place first = record {
  text = keeps.text;
  named = λ other.
      file_at-picked files name (first_there files place name first).0 (first_there files place name first).1 other
      ∙ ap (λ (f : Option (List ℕ)). if pointwise ◌==◌ name other then Some (unwrap_or f []) else f) (keeps.named other);
  picked = first;
}

-- a pick of a file that is made
pub keeps_made : (past : List Act) (shown : List ℕ) (files : List MemoryFile) (old_place : Option ℕ) → Keeps past shown files old_place
    → (name : List ℕ) (file : MemoryFile) → file.name ≡ name → file.bytes.items ≡ [] → file_at files name ≡ None
    → Keeps (picked name ∷ past) shown (files ++ file ∷ []) (Some (length files))
keeps_made past shown files old_place keeps name file same empty none = record {
  text = keeps.text;
  named = λ other.
      file_at-push files file name same empty none other
      ∙ ap (λ (f : Option (List ℕ)). if pointwise ◌==◌ name other then Some (unwrap_or f []) else f) (keeps.named other);
  picked = first_push files file name same none;
}

-- ---- one entry more of the log

newest : (log : List Noted) (entry : Noted) → reverse (log ++ entry ∷ []) ≡ entry ∷ reverse log
newest log entry = reverse-append log (entry ∷ [])

tail_of : (w bytes : List ℕ) → drop (length (w ++ bytes) - length bytes) (w ++ bytes) ≡ bytes
tail_of w bytes = drop_at w bytes (length (w ++ bytes) - length bytes) (omega (arith, length-append w bytes))

prefix_of : (w bytes : List ℕ) → take (length (w ++ bytes) - length bytes) (w ++ bytes) ≡ w
prefix_of w bytes = take_at w bytes (length (w ++ bytes) - length bytes) (omega (arith, length-append w bytes))

pub acts_picked : (log : List Noted) (w s name : List ℕ) → acts_of (reverse (log ++ Picked name ∷ [])) w s ≡ picked name ∷ acts_of (reverse log) w s
acts_picked log w s name = ap (λ (l : List Noted). acts_of l w s) (newest log (Picked name))

pub acts_wrote : (log : List Noted) (w s bytes : List ℕ) (at : ℕ) → acts_of (reverse (log ++ Wrote at (length bytes) ∷ [])) (w ++ bytes) s ≡ wrote at bytes ∷ acts_of (reverse log) w s
acts_wrote log w s bytes at =
    ap (λ (l : List Noted). acts_of l (w ++ bytes) s) (newest log (Wrote at (length bytes)))
    ∙ ap (λ (b : List ℕ). wrote at b ∷ acts_of (reverse log) (take (length (w ++ bytes) - length bytes) (w ++ bytes)) s) (tail_of w bytes)
    ∙ ap (λ (f : List ℕ). wrote at bytes ∷ acts_of (reverse log) f s) (prefix_of w bytes)

-- what the fields keep after a write that was noted, or wasn't
pub keeps_put : (noted : Bool) (log new_log : List Noted) (w new_w shown : List ℕ) (files : List MemoryFile) (picked_place : Option ℕ) → Keeps (acts_of (reverse log) w shown) shown files picked_place
    → (place : ℕ) → picked_place ≡ Some place → (file old : MemoryFile) (at : ℕ) (bytes : List ℕ)
    → old ≡ get_or files place old → file.name ≡ old.name
    → file.bytes.items ≡ (if noted then written old.bytes.items at bytes else old.bytes.items)
    → new_log ≡ (if noted then log ++ Wrote at (length bytes) ∷ [] else log)
    → new_w ≡ (if noted then w ++ bytes else w)
    → Keeps (acts_of (reverse new_log) new_w shown) shown (set files place file) picked_place
keeps_put true log new_log w new_w shown files picked_place keeps place at_place file old at bytes its same_name same_bytes log_is w_is =
    let wrote_one = keeps_wrote (acts_of (reverse log) w shown) shown files picked_place keeps place at_place file old at bytes
    (same_name ∙ ap (λ (f : MemoryFile). f.name) its) (same_bytes ∙ ap (λ (f : MemoryFile). written f.bytes.items at bytes) its) in
    let past_is : acts_of (reverse new_log) new_w shown ≡ wrote at bytes ∷ acts_of (reverse log) w shown =
    ap (λ (l : List Noted). acts_of (reverse l) new_w shown) log_is ∙ ap (λ (t : List ℕ). acts_of (reverse (log ++ Wrote at (length bytes) ∷ [])) t shown) w_is ∙ acts_wrote log w shown bytes at in
    subst (λ (past : List Act). Keeps past shown (set files place file) picked_place) (sym past_is) wrote_one
keeps_put false log new_log w new_w shown files picked_place keeps place at_place file old at bytes its same_name same_bytes log_is w_is =
    let past_is : acts_of (reverse new_log) new_w shown ≡ acts_of (reverse log) w shown =
    ap (λ (l : List Noted). acts_of (reverse l) new_w shown) log_is ∙ ap (λ (t : List ℕ). acts_of (reverse log) t shown) w_is in
    subst (λ (past : List Act). Keeps past shown (set files place file) picked_place) (sym past_is)
    (keeps_set (acts_of (reverse log) w shown) shown files picked_place keeps place at_place file old (same_name ∙ ap (λ (f : MemoryFile). f.name) its) (same_bytes ∙ ap (λ (f : MemoryFile). f.bytes.items) its))
