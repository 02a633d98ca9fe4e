-- The files beside the picked one, which a crash leaves as they read.
use Rattle.std.proofs.Common.{◌≡◌, ◌⊎◌, ℕ, ◌+◌, ◌-◌, ◌≤◌, zero, suc, Bool, true, false, List, [], ◌∷◌, ◌++◌, length, take, drop, reverse, Option, Some, None, unwrap_or, if◌then◌else◌, MatchBool, ◌==◌, inl, inr, refl, sym, ◌∙◌, ap, subst, arith, append-nil}
use Rattle.std.specs.Prelude.{is_some, ◌||◌}
use Rattle.std.specs.List.{All, list_any}
use Rattle.std.specs.Cmp.Lexicographic.{pointwise, bytes_decides}
use Rattle.std.proofs.lemmas.List.{drop_all, reverse-append}
use Rattle.std.proofs.lemmas.List.Elements.{All-nil, All-head, All-tail, All-append, All-push, All-cons}
use Rattle.std.proofs.lemmas.List.Folds.{list_any-append}
use Rattle.tf_desk.specs.declared.past.MemoryFile.{MemoryFile}
use Rattle.tf_desk.specs.declared.past.Noted.{Noted}
use Rattle.tf_desk.specs.declared.past.Noted.TheVariants.{Picked, Wrote, Synced, Said}
use Rattle.tf_desk.specs.Crash.{written}
use Rattle.tf_desk.specs.Acts.{Act, picked, wrote, synced, said, names, picked_after, files_after, shown_after, left_after}
use Rattle.tf_desk.specs.ActLaws.{has_file, names_picked}
use Rattle.tf_desk.specs.MemoryDesk.{acts_of, has_name, file_at}
use Rattle.tf_desk.specs.Crashed.{other_file, AreOthers, acts_keeping, notes_pick}
use Rattle.tf_desk.proofs.FileLemmas.{chosen, passed}

-- ---- tests

or_left : (a b : Bool) → a ≡ true → (a || b) ≡ true
or_left true b is = refl
or_left false b is = cc

or_last : (a b : Bool) → b ≡ true → (a || (b || false)) ≡ true
or_last true b is = refl
or_last false true is = refl
or_last false false is = cc

last_or : (a b : Bool) → (a || (b || false)) ≡ true → (a ≡ true) ⊎ (b ≡ true)
last_or true b is = inl refl
last_or false true is = inr refl
last_or false false is = cc

any_reverse : {X : Type 0} (p : X → Bool) (xs : List X) → list_any p (reverse xs) ≡ list_any p xs
any_reverse p [] = refl
any_reverse p (x ∷ xs) =
    ap (list_any p) (reverse-append (x ∷ []) xs) ∙ list_any-append p (reverse xs) (x ∷ []) ∙ ap (λ (b : Bool). b || (p x || false)) (any_reverse p xs)
    ∙ swapped (list_any p xs) (p x)
  where
    swapped : (a b : Bool) → (a || (b || false)) ≡ (b || a)
    swapped true true = refl
    swapped true false = refl
    swapped false true = refl
    swapped false false = refl

all_reverse : {X : Type 0} (P : X → Type 0) (xs : List X) → All P xs → All P (reverse xs)
all_reverse P [] each = each
all_reverse P (x ∷ xs) each =
    subst (All P) (sym (reverse-append (x ∷ []) xs))
    (All-append P (reverse xs) (x ∷ []) (all_reverse P xs (All-tail P x xs each)) (All-cons P x [] (All-head P x xs each) (All-nil P)))

-- ---- which files were there

-- a file was there after a log's entries where one of them notes a pick of it
pub there_of : (log : List Noted) (w s name : List ℕ) → is_some (files_after (acts_of log w s) name) ≡ list_any (notes_pick name) log
there_of [] w s name = refl
there_of (Picked new ∷ log) w s name =
    made (pointwise ◌==◌ new name) (files_after (acts_of log w s) name) ∙ ap (λ (b : Bool). pointwise ◌==◌ new name || b) (there_of log w s name)
  where
    made : (b : Bool) (file : Option (List ℕ)) → is_some (if b then Some (unwrap_or file []) else file) ≡ (b || is_some file)
    made true file = refl
    made false file = refl
there_of (Wrote at count ∷ log) w s name =
    let older : List Act = acts_of log (take (length w - count) w) s in
    stays (names (picked_after older) name) (files_after older name) (written (unwrap_or (files_after older name) []) at (drop (length w - count) w))
    (λ is. has_file older name (names_picked (picked_after older) name is))
    ∙ there_of log (take (length w - count) w) s name
  where
    stays : (b : Bool) (file : Option (List ℕ)) (new : List ℕ) → (b ≡ true → is_some file ≡ true) → is_some (if b then Some new else file) ≡ is_some file
    stays true file new there = sym (there refl)
    stays false file new there = refl
there_of (Synced ∷ log) w s name = there_of log w s name
there_of (Said count ∷ log) w s name = there_of log w (take (length s - count) s) name

-- a file that was there still is
there_on : (past : List Act) (n : ℕ) (name : List ℕ) → is_some (files_after (drop n past) name) ≡ true → is_some (files_after past name) ≡ true
there_on past zero name there = there
there_on [] (suc n) name there = there
there_on (act ∷ past) (suc n) name there = one act (there_on past n name there)
  where
    either : (b : Bool) (new : List ℕ) (file : Option (List ℕ)) → is_some file ≡ true → is_some (if b then Some new else file) ≡ true
    either true new file is = refl
    either false new file is = is

    one : (act : Act) → is_some (files_after past name) ≡ true → is_some (files_after (act ∷ past) name) ≡ true
    one (picked new) is = either (pointwise ◌==◌ new name) (unwrap_or (files_after past name) []) (files_after past name) is
    one (wrote at bytes) is = either (names (picked_after past) name) (written (unwrap_or (files_after past name) []) at bytes) (files_after past name) is
    one synced is = is
    one (said bytes) is = is

-- where no file is picked there is none
pub none_there : (past : List Act) (name : List ℕ) → picked_after past ≡ None → files_after past name ≡ None
none_there [] name none = refl
none_there (picked new ∷ past) name none = absurd (cc)
none_there (wrote at bytes ∷ past) name none =
    passed (names (picked_after past) name) (Some (written (unwrap_or (files_after past name) []) at bytes)) (files_after past name) (ap (λ (p : Option (List ℕ)). names p name) none)
    ∙ none_there past name none
none_there (synced ∷ past) name none = none_there past name none
none_there (said bytes ∷ past) name none = none_there past name none

-- a file with bytes stands in the list
file_there : (files : List MemoryFile) (name : List ℕ) → is_some (file_at files name) ≡ true → list_any (has_name name) files ≡ true
file_there [] name there = cc
file_there (file ∷ files) name there = either (has_name name file) file.bytes.items (file_at files name) (list_any (has_name name) files) (file_there files name) there
  where
    either : (b : Bool) (x : List ℕ) (rest : Option (List ℕ)) (l : Bool) → (is_some rest ≡ true → l ≡ true) → is_some (if b then Some x else rest) ≡ true → (b || l) ≡ true
    either true x rest l further is = refl
    either false x rest l further is = further is

-- ---- a file beside that one

-- that one isn't
pub other_itself : (past : List Act) (name other : List ℕ) → other ≡ name → None ≡ other_file past name other
other_itself past name other same = sym (chosen (pointwise ◌==◌ name other) None (files_after past other) ((bytes_decides name other).1 (sym same)))

-- one that wasn't there
pub other_missing : (log : List Noted) (w s name other : List ℕ) → list_any (notes_pick other) log ≡ false → None ≡ other_file (acts_of (reverse log) w s) name other
other_missing log w s name other none =
    either (pointwise ◌==◌ name other) (files_after (acts_of (reverse log) w s) other) (there_of (reverse log) w s other ∙ any_reverse (notes_pick other) log ∙ none)
  where
    either : (b : Bool) (file : Option (List ℕ)) → is_some file ≡ false → None ≡ (if b then None else file)
    either true file is = refl
    either false None is = refl
    either false (Some bytes) is = cc

-- one that was
pub other_there : (log : List Noted) (w s name other bytes : List ℕ) → ¬ (other ≡ name) → list_any (notes_pick other) log ≡ true
    → bytes ≡ unwrap_or (files_after (acts_of (reverse log) w s) other) [] → Some bytes ≡ other_file (acts_of (reverse log) w s) name other
other_there log w s name other bytes apart some reads =
    either (pointwise ◌==◌ name other) (files_after (acts_of (reverse log) w s) other) (λ is. apart (sym ((bytes_decides name other).0 is)))
    (there_of (reverse log) w s other ∙ any_reverse (notes_pick other) log ∙ some) reads
  where
    either : (b : Bool) (file : Option (List ℕ)) → ¬ (b ≡ true) → is_some file ≡ true → bytes ≡ unwrap_or file [] → Some bytes ≡ (if b then None else file)
    either true file not is read = absurd (not refl)
    either false None not is read = cc
    either false (Some own) not is read = ap Some read

-- ---- all of them

module _ (files : List MemoryFile) (past : List Act) (name : List ℕ) (others : List MemoryFile) (file : MemoryFile) (are : AreOthers files past name others) where
  cases_last : (other : List ℕ) → list_any (has_name other) (files ++ file ∷ []) ≡ true → (list_any (has_name other) files ≡ true) ⊎ (file.name ≡ other)
  cases_last other among = elim (last_or (list_any (has_name other) files) (has_name other file) (sym (list_any-append (has_name other) files (file ∷ [])) ∙ among)) [
    | inl before ↦ inl before
    | inr last ↦ inr ((bytes_decides file.name other).0 last)
  ]

  -- one more file isn't beside it
  pub others_none : other_file past name file.name ≡ None → AreOthers (files ++ file ∷ []) past name others
  others_none none = record {
    each = are.each;
    all = λ other among there. elim (cases_last other among) [
      | inl before ↦ are.all other before there
      | inr same ↦ absurd (never (other_file past name other) (ap (other_file past name) (sym same) ∙ none) there)
    ];
  }
    where
      never : (found : Option (List ℕ)) → found ≡ None → is_some found ≡ true → ⊥
      never None is some = cc
      never (Some bytes) is some = cc

  -- or it is
  pub others_some : (found : MemoryFile) → found.name ≡ file.name → Some found.bytes.items ≡ other_file past name file.name → AreOthers (files ++ file ∷ []) past name (others ++ found ∷ [])
  others_some found same reads = record {
    each = All-push (λ (f : MemoryFile). other_file past name f.name ≡ Some f.bytes.items) others found are.each (ap (other_file past name) same ∙ sym reads);
    all = λ other among there. list_any-append (has_name other) others (found ∷ []) ∙ elim (cases_last other among) [
      | inl before ↦ or_left (list_any (has_name other) others) (has_name other found || false) (are.all other before there)
      | inr last ↦ or_last (list_any (has_name other) others) (has_name other found) ((bytes_decides found.name other).1 (same ∙ last))
    ];
  }

-- no files, so far
pub others_begun : (past : List Act) (name : List ℕ) → AreOthers [] past name []
others_begun past name = record { each = All-nil (λ (f : MemoryFile). other_file past name f.name ≡ Some f.bytes.items); all = λ other among there. among }

-- all that were there, where these are of the files that are there now
pub all_others : (files : List MemoryFile) (past : List Act) (moment : ℕ) (name : List ℕ) (others : List MemoryFile) → ((other : List ℕ) → file_at files other ≡ files_after past other)
    → AreOthers files (drop (length past - moment) past) name others
    → (other : List ℕ) → is_some (other_file (drop (length past - moment) past) name other) ≡ true → list_any (has_name other) others ≡ true
all_others files past moment name others named are other there =
    are.all other
    (file_there files other (ap is_some (named other) ∙ there_on past (length past - moment) other (own (pointwise ◌==◌ name other) (files_after (drop (length past - moment) past) other) there)))
    there
  where
    own : (b : Bool) (file : Option (List ℕ)) → is_some (if b then None else file) ≡ true → is_some file ≡ true
    own true file is = cc
    own false file is = is

-- ---- a file that is written anew and synced

module _ (past : List Act) (name bytes : List ℕ) where
  abbrev anew : List Act
  anew = synced ∷ wrote 0 bytes ∷ picked name ∷ past

  -- it has these bytes, where it had no more
  pub anew_itself : (other : List ℕ) → pointwise ◌==◌ name other ≡ true → length (unwrap_or (files_after past other) []) ≤ length bytes → files_after anew other ≡ Some bytes
  anew_itself other is short =
      chosen (pointwise ◌==◌ name other) (Some (written (unwrap_or (files_after (picked name ∷ past) other) []) 0 bytes)) (files_after (picked name ∷ past) other) is
      ∙ ap (λ (f : Option (List ℕ)). Some (written (unwrap_or f []) 0 bytes)) (chosen (pointwise ◌==◌ name other) (Some (unwrap_or (files_after past other) [])) (files_after past other) is)
      ∙ ap (λ (l : List ℕ). Some (bytes ++ l)) (drop_all (0 + length bytes) (unwrap_or (files_after past other) []) (omega (arith, short)))
      ∙ ap Some (append-nil bytes)

  -- the others have theirs
  pub anew_apart : (other : List ℕ) → pointwise ◌==◌ name other ≡ false → files_after anew other ≡ files_after past other
  anew_apart other is =
      passed (pointwise ◌==◌ name other) (Some (written (unwrap_or (files_after (picked name ∷ past) other) []) 0 bytes)) (files_after (picked name ∷ past) other) is
      ∙ passed (pointwise ◌==◌ name other) (Some (unwrap_or (files_after past other) [])) (files_after past other) is

  chosen_of : (b : Bool) (P Q : Type 0) → b ≡ true → MatchBool b P Q → P
  chosen_of true P Q is p = p
  chosen_of false P Q is q = absurd (cc)

  passed_of : (b : Bool) (P Q : Type 0) → b ≡ false → MatchBool b P Q → Q
  passed_of true P Q is p = absurd (cc)
  passed_of false P Q is q = q

  -- and a crash leaves what reads, where it left that of the others
  pub anew_left : (other image : List ℕ) → (left_after past other image → files_after past other ≡ Some image) → left_after anew other image → files_after anew other ≡ Some image
  anew_left other image older left = by (pointwise ◌==◌ name other) refl
    where
      by : (b : Bool) → pointwise ◌==◌ name other ≡ b → files_after anew other ≡ Some image
      by true is = chosen_of (pointwise ◌==◌ name other) (files_after anew other ≡ Some image) (left_after (wrote 0 bytes ∷ picked name ∷ past) other image) is left
      by false is =
          let torn = passed_of (pointwise ◌==◌ name other) (files_after anew other ≡ Some image) (left_after (wrote 0 bytes ∷ picked name ∷ past) other image) is left in
          elim (passed_of (pointwise ◌==◌ name other) _ (left_after (picked name ∷ past) other image) is torn) [
            | inl before ↦ anew_apart other is ∙ older before
            | inr made ↦ (let told : pointwise ◌==◌ name other ≡ true = (bytes_decides name other).1 (sym made.0) in absurd (cc))
          ]

-- ---- a desk on whose disk files were put

keeping_reads : (past : List Act) (name text : List ℕ) (files : List MemoryFile) → All (λ file. other_file past name file.name ≡ Some file.bytes.items) files → (other : List ℕ)
    → files_after (acts_keeping files text) other ≡ (if list_any (has_name other) files then other_file past name other else None)
keeping_reads past name text [] each other = refl
keeping_reads past name text (file ∷ files) each other =
    by (pointwise ◌==◌ file.name other) refl
    (keeping_reads past name text files (All-tail (λ (f : MemoryFile). other_file past name f.name ≡ Some f.bytes.items) file files each) other)
  where
    short : (l : Bool) (found : Option (List ℕ)) (bytes : List ℕ) → found ≡ Some bytes → length (unwrap_or (if l then found else None) []) ≤ length bytes
    short true None bytes is = absurd (cc)
    short true (Some own) bytes is = (let same : own ≡ bytes = cc in omega (arith, ap length same))
    short false found bytes is = omega arith

    by : (b : Bool) → pointwise ◌==◌ file.name other ≡ b
        → files_after (acts_keeping files text) other ≡ (if list_any (has_name other) files then other_file past name other else None)
        → files_after (acts_keeping (file ∷ files) text) other ≡ (if (pointwise ◌==◌ file.name other || list_any (has_name other) files) then other_file past name other else None)
    by true is older =
        let here : other_file past name other ≡ Some file.bytes.items =
        ap (other_file past name) (sym ((bytes_decides file.name other).0 is)) ∙ All-head (λ (f : MemoryFile). other_file past name f.name ≡ Some f.bytes.items) file files each in
        anew_itself (acts_keeping files text) file.name file.bytes.items other is
        (subst (λ (f : Option (List ℕ)). length (unwrap_or f []) ≤ length file.bytes.items) (sym older) (short (list_any (has_name other) files) (other_file past name other) file.bytes.items here))
        ∙ sym here
        ∙ sym (chosen (pointwise ◌==◌ file.name other || list_any (has_name other) files) (other_file past name other) None (or_left (pointwise ◌==◌ file.name other) (list_any (has_name other) files) is))
    by false is older =
        anew_apart (acts_keeping files text) file.name file.bytes.items other is ∙ older
        ∙ ap (λ (b : Bool). if (b || list_any (has_name other) files) then other_file past name other else None) (sym is)

-- a crash leaves of each file what reads
pub keeping_left : (files : List MemoryFile) (text other image : List ℕ) → left_after (acts_keeping files text) other image → files_after (acts_keeping files text) other ≡ Some image
keeping_left [] text other image left = absurd left
keeping_left (file ∷ files) text other image left = anew_left (acts_keeping files text) file.name file.bytes.items other image (keeping_left files text other image) left

-- the text is shown
pub keeping_shows : (files : List MemoryFile) (text : List ℕ) → shown_after (acts_keeping files text) ≡ text
keeping_shows [] text = refl
keeping_shows (file ∷ files) text = keeping_shows files text

module _ (past : List Act) (name text : List ℕ) (others : List MemoryFile) (each : All (λ file. other_file past name file.name ≡ Some file.bytes.items) others) where
  reversed : (other : List ℕ) → files_after (acts_keeping (reverse others) text) other ≡ (if list_any (has_name other) others then other_file past name other else None)
  reversed other =
      keeping_reads past name text (reverse others) (all_reverse (λ (f : MemoryFile). other_file past name f.name ≡ Some f.bytes.items) others each) other
      ∙ ap (λ (b : Bool). if b then other_file past name other else None) (any_reverse (has_name other) others)

  -- that file isn't among them
  pub keeping_none : files_after (acts_keeping (reverse others) text) name ≡ None
  keeping_none = reversed name ∙ either (list_any (has_name name) others) (other_file past name name) (sym (other_itself past name name refl))
    where
      either : (l : Bool) (found : Option (List ℕ)) → found ≡ None → (if l then found else None) ≡ None
      either true found is = is
      either false found is = refl

  -- every other one reads as it did
  pub keeping_others : ((other : List ℕ) → is_some (other_file past name other) ≡ true → list_any (has_name other) others ≡ true) → (other : List ℕ) → pointwise ◌==◌ name other ≡ false
      → files_after (acts_keeping (reverse others) text) other ≡ files_after past other
  keeping_others all other apart =
      reversed other ∙ whole (list_any (has_name other) others) (other_file past name other) (all other) ∙ passed (pointwise ◌==◌ name other) None (files_after past other) apart
    where
      whole : (l : Bool) (found : Option (List ℕ)) → (is_some found ≡ true → l ≡ true) → (if l then found else None) ≡ found
      whole true found further = refl
      whole false None further = refl
      whole false (Some bytes) further = (let never : false ≡ true = further refl in absurd (cc))
