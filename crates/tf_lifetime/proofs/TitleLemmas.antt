-- A file isn't both a book and a board.
use Rattle.std.proofs.Common.{◌≡◌, ℕ, ◌+◌, List, [], ◌∷◌, ◌++◌, Bool, true, false, Option, Some, None, refl, sym, ◌∙◌, ap, eqb-true, ⊎_elim, arith, subst}
use Rattle.std.proofs.lemmas.Bool.Decides.{Decides-eqb, not_from_Decides, eqb_tells}
use Rattle.std.specs.Prelude.{◌==◌, ◌&&◌, ◌||◌, nat_eq, length}
use Rattle.tf_journal.specs.Format.{OPEN, Recovered, unborn, old_format, bodies, not_a_book, title_of, title_fault, titled, is_old, is_unborn, recovered, records_from}
use Rattle.tf_journal.specs.declared.title.Title.{Title}
use Rattle.tf_journal.specs.declared.title.Title.TheVariants.{Book2 as book_title, Jobs as jobs_title}

-- a letter that agrees, and one that doesn't
letter_on : (z byte : ℕ) (letters rest : List ℕ) (offset : ℕ) → (z == byte) ≡ true → title_fault (z ∷ letters) (byte ∷ rest) offset ≡ title_fault letters rest (offset + 1)
letter_on z byte letters rest offset is = rw is refl

letter_off : (z byte : ℕ) (letters rest : List ℕ) (offset : ℕ) → (z == byte) ≡ false → title_fault (z ∷ letters) (byte ∷ rest) offset ≡ Some (offset, Some byte)
letter_off z byte letters rest offset is = rw is refl

-- a title that agrees up to a letter disagrees with one that has another letter there
other_title : (prefix : List ℕ) (x y : ℕ) (a b rest : List ℕ) (offset : ℕ) → (x == y) ≡ false → title_fault (prefix ++ x ∷ a) rest offset ≡ None
    → (fault : ℕ × Option ℕ) × (title_fault (prefix ++ y ∷ b) rest offset ≡ Some fault)
other_title [] x y a b [] offset apart none = ((offset, None), refl)
other_title [] x y a b (byte ∷ rest) offset apart none = by (x == byte) (y == byte) refl refl
  where
    by : (s t : Bool) → (x == byte) ≡ s → (y == byte) ≡ t → (fault : ℕ × Option ℕ) × (title_fault (y ∷ b) (byte ∷ rest) offset ≡ Some fault)
    by s false is isnt = ((offset, Some byte), letter_off y byte b rest offset isnt)
    by false true is isnt = let fault = letter_off x byte a rest offset is in absurd (cc)
    by true true is isnt = absurd (not_from_Decides (x == y) (Decides-eqb x y) apart (eqb-true x byte is ∙ sym (eqb-true y byte isnt)))
other_title (z ∷ prefix) x y a b [] offset apart none = ((offset, None), refl)
other_title (z ∷ prefix) x y a b (byte ∷ rest) offset apart none = by (z == byte) refl (λ later. other_title prefix x y a b rest (offset + 1) apart later)
  where
    by : (t : Bool) → (z == byte) ≡ t
        → (title_fault (prefix ++ x ∷ a) rest (offset + 1) ≡ None → (fault : ℕ × Option ℕ) × (title_fault (prefix ++ y ∷ b) rest (offset + 1) ≡ Some fault))
        → (fault : ℕ × Option ℕ) × (title_fault (z ∷ (prefix ++ y ∷ b)) (byte ∷ rest) offset ≡ Some fault)
    by true is later =
        let on = later (sym (letter_on z byte (prefix ++ x ∷ a) rest offset is) ∙ none) in
        (on.0, letter_on z byte (prefix ++ y ∷ b) rest offset is ∙ on.1)
    by false is later = let fault = letter_off z byte (prefix ++ x ∷ a) rest offset is in absurd (cc)

-- the title of boards isn't that of a book
jobs_apart : (rest : List ℕ) → title_fault (title_of book_title) rest 1 ≡ None → (fault : ℕ × Option ℕ) × (title_fault (title_of jobs_title) rest 1 ≡ Some fault)
jobs_apart rest none =
    other_title (84 ∷ 65 ∷ 83 ∷ 75 ∷ 70 ∷ 76 ∷ 79 ∷ 87 ∷ 32 ∷ []) 66 74 (79 ∷ 79 ∷ 75 ∷ 32 ∷ 50 ∷ 10 ∷ []) (79 ∷ 66 ∷ 83 ∷ 32 ∷ 49 ∷ 10 ∷ []) rest 1 refl none

-- and the other way round
book_apart : (rest : List ℕ) → title_fault (title_of jobs_title) rest 1 ≡ None → (fault : ℕ × Option ℕ) × (title_fault (title_of book_title) rest 1 ≡ Some fault)
book_apart rest none =
    other_title (84 ∷ 65 ∷ 83 ∷ 75 ∷ 70 ∷ 76 ∷ 79 ∷ 87 ∷ 32 ∷ []) 74 66 (79 ∷ 66 ∷ 83 ∷ 32 ∷ 49 ∷ 10 ∷ []) (79 ∷ 79 ∷ 75 ∷ 32 ∷ 50 ∷ 10 ∷ []) rest 1 refl none

-- a list with a first has a length above 0
never_none : (byte : ℕ) (rest : List ℕ) → nat_eq (length (byte ∷ rest)) 0 ≡ false
never_none byte rest = ⊎_elim (λ none. absurd (omega (arith, none.1))) (λ some. some.0) (eqb_tells (length (byte ∷ rest)) 0)

-- two tests that fail by their second halves, and one that fails
neither : (a b c : Bool) → a ≡ false → ((a || (b && false)) || (c && false)) ≡ false
neither false false false is = refl
neither false false true is = refl
neither false true false is = refl
neither false true true is = refl
neither true b c is = absurd (cc)

-- what a file is that has an open gate first, and is neither unborn nor of another format
titled_so : (title : Title) (gate : ℕ) (rest : List ℕ) → is_unborn title (gate ∷ rest) ≡ false → is_old title rest ≡ false → (gate == OPEN) ≡ true
    → recovered title (gate ∷ rest) ≡ titled (title_fault (title_of title) rest 1) (records_from title (length (gate ∷ rest)) (gate ∷ rest) 17)
titled_so title gate rest born young opened = rw (born, young, opened) refl

-- what a file is that is of another format, and not unborn
old_so : (title : Title) (gate : ℕ) (rest : List ℕ) → is_unborn title (gate ∷ rest) ≡ false → is_old title rest ≡ true → recovered title (gate ∷ rest) ≡ old_format
old_so title gate rest born old = rw (born, old) refl

-- it is neither unborn nor a journal
pub data IsNeither : Recovered → Type 0 where
  other_format : IsNeither old_format
  no_journal : (offset : ℕ) (byte : Option ℕ) → IsNeither (not_a_book offset byte)

pub neither_bodies : {found : Recovered} {held : List (List ℕ)} → IsNeither found → found ≡ bodies held → ⊥
neither_bodies other_format is = cc
neither_bodies (no_journal offset byte) is = cc

pub neither_unborn : {found : Recovered} → IsNeither found → found ≡ unborn → ⊥
neither_unborn other_format is = cc
neither_unborn (no_journal offset byte) is = cc

-- a file that is a journal of one title is none of a title that disagrees with it
no_other : (one other : Title) → ((rest : List ℕ) → title_fault (title_of one) rest 1 ≡ None → (fault : ℕ × Option ℕ) × (title_fault (title_of other) rest 1 ≡ Some fault))
    → (title_fault (title_of one) [] 1 ≡ None → ⊥) → (bytes : List ℕ) (held : List (List ℕ)) → recovered one bytes ≡ bodies held → IsNeither (recovered other bytes)
no_other one other apart long [] held is = absurd (cc)
no_other one other apart long (gate ∷ rest) held is = by (is_unborn one (gate ∷ rest)) (is_old one rest) (gate == OPEN) refl refl refl
  where
    all : List ℕ
    all = gate ∷ rest

    found : (records : Recovered) (fault : Option (ℕ × Option ℕ)) → title_fault (title_of one) rest 1 ≡ fault → titled fault records ≡ bodies held → fault ≡ None
    found records None told is_so = refl
    found records (Some fault) told is_so = absurd (cc)

    never_unborn : (gate == OPEN) ≡ true → title_fault (title_of one) rest 1 ≡ None → is_unborn other all ≡ false
    never_unborn opened none = some rest none
      where
        gate_is : gate ≡ OPEN
        gate_is = eqb-true gate OPEN opened

        some : (r : List ℕ) → title_fault (title_of one) r 1 ≡ None → is_unborn other (gate ∷ r) ≡ false
        some [] told = absurd (long told)
        some (byte ∷ r) told = rw gate_is (neither (nat_eq (length (byte ∷ r)) 0) _ _ (never_none byte r))

    -- what the other title makes of it
    other_is : (y : Bool) → is_old other rest ≡ y → (gate == OPEN) ≡ true → title_fault (title_of one) rest 1 ≡ None → IsNeither (recovered other all)
    other_is true old opened told = subst IsNeither (sym (old_so other gate rest (never_unborn opened told) old)) other_format
    other_is false young opened told =
        let fault = apart rest told in
        let whole : recovered other all ≡ not_a_book fault.0.0 fault.0.1 = titled_so other gate rest (never_unborn opened told) young opened
        ∙ ap (λ (f : Option (ℕ × Option ℕ)). titled f (records_from other (length all) all 17)) fault.1 in
        subst IsNeither (sym whole) (no_journal fault.0.0 fault.0.1)

    by : (u y o : Bool) → is_unborn one all ≡ u → is_old one rest ≡ y → (gate == OPEN) ≡ o → IsNeither (recovered other all)
    by true y o unborn_is old opened = let none : recovered one all ≡ unborn = rw unborn_is refl in absurd (cc)
    by false true o unborn_is old opened = let none = old_so one gate rest unborn_is old in absurd (cc)
    by false false false unborn_is young opened =
        let none : recovered one all ≡ not_a_book 0 (Some gate) = rw (unborn_is, young, opened) refl in absurd (cc)
    by false false true unborn_is young opened =
        other_is (is_old other rest) refl opened
        (found (records_from one (length all) all 17) (title_fault (title_of one) rest 1) refl (sym (titled_so one gate rest unborn_is young opened) ∙ is))

-- a file that is a book's journal is no board's, and the other way round
pub no_board_too : (bytes : List ℕ) (held : List (List ℕ)) → recovered book_title bytes ≡ bodies held → IsNeither (recovered jobs_title bytes)
no_board_too bytes held is = no_other book_title jobs_title jobs_apart (λ none. absurd (cc)) bytes held is

pub no_book_too : (bytes : List ℕ) (held : List (List ℕ)) → recovered jobs_title bytes ≡ bodies held → IsNeither (recovered book_title bytes)
no_book_too bytes held is = no_other jobs_title book_title book_apart (λ none. absurd (cc)) bytes held is
