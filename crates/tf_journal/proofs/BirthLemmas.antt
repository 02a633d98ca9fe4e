-- What the steps of a creation and of a draft leave of an unborn file, and what the opening of its gate leaves.
use Rattle.std.proofs.Common.{◌≡◌, ◌≢◌, ◌⊎◌, inl, inr, ⊎_elim, ℕ, suc, ◌+◌, ◌≤◌, Bool, true, false, List, [], ◌∷◌, ◌++◌, length, get_or, take, drop, refl, sym, ◌∙◌, ap, subst, arith, length-append, length-take, length-drop, take-append-drop, append_assoc}
use Rattle.std.specs.Prelude.{nat_eq, nat_le, ◌==◌, ◌||◌, ◌&&◌, not}
use Rattle.std.specs.Cmp.Lexicographic.{bytes_decides}
use Rattle.std.specs.List.{flat_map}
use Rattle.std.proofs.lemmas.Bool.{eqb-true, cases_eq, cases_lt, leb-true}
use Rattle.std.proofs.lemmas.List.{append-nil, take_all, drop_all, take_at, get_or_at, get_or-take, take-take, drop-take, drop-drop}
use Rattle.tf_desk.specs.Crash.{written, Torn}
use Rattle.tf_journal.specs.declared.title.Title.{Title}
use Rattle.tf_journal.specs.declared.title.Title.TheVariants.{Book, Jobs, Book2}
use Rattle.tf_journal.specs.Format.{OPEN, title_of, unborn, bodies, has_title, is_unborn, recovered, record_of, prefix_of, LiesAs, LiesShut}
use Rattle.tf_journal.specs.Birth.{first_gate, born_bytes, IsClosed, IsTitled}
use Rattle.tf_journal.proofs.HeaderLemmas.{sixteen, title_there, letters_there, title_is, unborn_short, unborn_zero, unborn_titled, eq_false, false_eq}
use Rattle.tf_journal.proofs.LieLemmas.{recovered_lies}
use Rattle.tf_journal.proofs.TornLemmas.{torn_prefix}

open_not_zero : (gate : ℕ) → gate ≡ 0 → gate ≡ OPEN → ⊥
open_not_zero gate zero_it open_it = omega (arith, zero_it, open_it)

-- ---- what an unborn file is

any_true : (a b b' c d : Bool) → (a || (b && b') || (c && not d)) ≡ true → a ≡ false → ((b ≡ true) × (b' ≡ true)) ⊎ ((c ≡ true) × (d ≡ false))
any_true true b b' c d is p = cc
any_true false true true c d is p = inl (refl, refl)
any_true false true false true false is p = inr (refl, refl)
any_true false true false true true is p = cc
any_true false true false false d is p = cc
any_true false false b' true false is p = inr (refl, refl)
any_true false false b' true true is p = cc
any_true false false b' false d is p = cc

-- an unborn file of two bytes or more has 18 at most, the first of them 0; or its title, and no open gate
pub unborn_cases : (title : Title) (bytes : List ℕ) → is_unborn title bytes ≡ true → 2 ≤ length bytes
    → ((length bytes ≤ 18) × (get_or bytes 0 0 ≡ 0)) ⊎ ((has_title title (drop 1 bytes) ≡ true) × (get_or bytes 0 0 ≢ OPEN))
unborn_cases title [] is long = absurd (omega (arith, long))
unborn_cases title (gate ∷ rest) is long =
    ⊎_elim (λ zero_gate. inl (omega (arith, leb-true (length rest) 17 zero_gate.0), eqb-true gate 0 zero_gate.1))
    (λ there. inr (there.0, false_eq gate OPEN there.1))
    (any_true (nat_eq (length rest) 0) (nat_le (length rest) 17) (gate == 0) (has_title title rest) (gate == OPEN) is (some rest long))
  where
    some : (l : List ℕ) → 2 ≤ suc (length l) → nat_eq (length l) 0 ≡ false
    some l more = eq_false (length l) 0 (λ none. omega (arith, none, more))

-- its gate isn't open
unborn_shut : (title : Title) (bytes : List ℕ) → is_unborn title bytes ≡ true → (length bytes ≤ 1 → bytes ≡ 0 ∷ []) → 1 ≤ length bytes → get_or bytes 0 0 ≢ OPEN
unborn_shut title bytes is short there = elim (cases_lt (length bytes) 2) [
  | inl brief ↦ λ open_gate. open_not_zero (get_or bytes 0 0) (ap (λ (l : List ℕ). get_or l 0 0) (short (omega (arith, brief)))) open_gate
  | inr more ↦ ⊎_elim (λ closed. λ open_gate. open_not_zero (get_or bytes 0 0) closed.1 open_gate) (λ titled. titled.1) (unborn_cases title bytes is more)
]

-- ---- the file's gate

-- a crash while the gate is closed
pub torn_close : (title : Title) (old image : List ℕ) → length old ≤ 1 → Torn 0 1 old image → recovered title image ≡ unborn
torn_close title old image short torn = unborn_short title image (omega (arith, short, torn.no_longer))

pub closed_now : (title : Title) (old : List ℕ) → length old ≤ 1 → written old 0 (0 ∷ []) ≡ 0 ∷ []
closed_now title [] short = refl
closed_now title (a ∷ []) short = refl
closed_now title (a ∷ b ∷ l) short = absurd (omega (arith, short))

pub closed_unborn : (title : Title) → is_unborn title (0 ∷ []) ≡ true
closed_unborn title = refl

moved : (title : Title) (old closed new : List ℕ) → closed ≡ 0 ∷ [] → first_gate old ≡ 0 → drop 18 old ≡ [] → IsTitled title closed new → IsTitled title old new
moved title old closed new is gate none titled =
    let its : IsTitled title (0 ∷ []) new = subst (λ (c : List ℕ). IsTitled title c new) is titled in
    record {
      whole = its.whole ∙ ap (λ (l : List ℕ). 0 ∷ (title_of title ++ 0 ∷ l)) (drop_all 18 (0 ∷ []) (omega arith)) ∙ ap (λ (g : ℕ). g ∷ (title_of title ++ 0 ∷ [])) (sym gate) ∙ ap (λ (l : List ℕ). first_gate old ∷ (title_of title ++ 0 ∷ l)) (sym none);
      shut = λ open_gate. open_not_zero (first_gate old) gate open_gate;
      titled = its.titled;
    }

-- the same draft is made of a file and of what closing its gate makes of it
pub closed_draft : (title : Title) (old closed new : List ℕ) → IsClosed title old closed → IsTitled title closed new → IsTitled title old new
closed_draft title [] closed new is titled = moved title [] closed new (is.short (omega arith)) refl (drop_all 18 [] (omega arith)) titled
closed_draft title (a ∷ []) closed new is titled = moved title (a ∷ []) closed new (is.short (omega arith)) refl (drop_all 18 (a ∷ []) (omega arith)) titled
closed_draft title (a ∷ b ∷ l) closed new is titled = subst (λ (c : List ℕ). IsTitled title c new) (is.long (omega arith)) titled

-- ---- the title

one_zero : (a : ℕ) → a ∷ [] ≡ 0 ∷ [] → 0 ≡ a
one_zero a same = cc

-- bytes are their gate and what stands behind it
first_is : (bytes : List ℕ) → 1 ≤ length bytes → (length bytes ≤ 1 → bytes ≡ 0 ∷ []) → (first_gate bytes ≡ get_or bytes 0 0) × (bytes ≡ get_or bytes 0 0 ∷ drop 1 bytes)
first_is [] there short = absurd (omega (arith, there))
first_is (a ∷ []) there short = (one_zero a (short (omega arith)), refl)
first_is (a ∷ b ∷ l) there short = (refl, refl)

-- a file with the title and a closed gate behind its gate
pub titled_whole : (title : Title) (old bytes : List ℕ) → is_unborn title old ≡ true → (length old ≤ 1 → old ≡ 0 ∷ []) → 1 ≤ length old
    → bytes ≡ get_or old 0 0 ∷ (title_of title ++ 0 ∷ drop 18 old) → (drop 18 old ≡ []) ⊎ (title ≡ Book2) → IsTitled title old bytes
titled_whole title old bytes is short there whole behind =
    let gate = (first_is old there short).0 in
    record {
      whole = whole ∙ ap (λ (g : ℕ). g ∷ (title_of title ++ 0 ∷ drop 18 old)) (sym gate);
      shut = λ open_gate. unborn_shut title old is short there (sym gate ∙ open_gate);
      titled = ap (λ (l : List ℕ). has_title title (drop 1 l)) whole ∙ title_there title (drop 18 old) behind;
    }

-- what stands behind byte 18 of an unborn file of another kind than a book of several flows
pub none_behind : (title : Title) (bytes : List ℕ) → is_unborn title bytes ≡ true → (drop 18 bytes ≡ []) ⊎ (title ≡ Book2)
none_behind title bytes is = elim (cases_lt (length bytes) 2) [
  | inl brief ↦ inl (drop_all 18 bytes (omega (arith, brief)))
  | inr more ↦
      ⊎_elim (λ closed. inl (drop_all 18 bytes (omega (arith, closed.0))))
      (λ titled. ⊎_elim (λ whole. inl (drop_all 18 bytes (omega (arith, ap length whole, length-drop 1 bytes, length-append (title_of title) (0 ∷ []), sixteen title, more)))) (λ letters. inr letters.0)
      (title_is title (drop 1 bytes) titled.0))
      (unborn_cases title bytes is more)
]

-- the title and a closed gate stand there
pub titled_there : (title : Title) (head bytes : List ℕ) → is_unborn title bytes ≡ true → (length bytes ≤ 1 → (bytes ≡ 0 ∷ []) × (length head ≤ 1)) → (2 ≤ length bytes → head ≡ take 18 bytes)
    → 1 ≤ length bytes → drop 1 head ≡ title_of title ++ 0 ∷ [] → IsTitled title bytes bytes
titled_there title head bytes is short long there told =
    let many : length head ≡ 18 = omega (arith, ap length told, length-drop 1 head, length-append (title_of title) (0 ∷ []), sixteen title) in
    let more : 2 ≤ length bytes = elim (cases_lt (length bytes) 2) [ inl brief ↦ absurd (omega (arith, many, (short (omega (arith, brief))).1)) | inr more ↦ more ] in
    let behind : drop 1 bytes ≡ title_of title ++ 0 ∷ drop 18 bytes =
    sym (take-append-drop 17 (drop 1 bytes))
    ∙ ap (λ (l : List ℕ). l ++ drop 17 (drop 1 bytes)) (sym (drop-take 1 17 bytes) ∙ ap (drop 1) (sym (long more)) ∙ told)
    ∙ ap (λ (l : List ℕ). (title_of title ++ 0 ∷ []) ++ l) (drop-drop 17 1 bytes)
    ∙ append_assoc (title_of title) (0 ∷ []) (drop 18 bytes) in
    titled_whole title bytes bytes is (λ brief. (short brief).0) there
    ((first_is bytes there (λ brief. (short brief).0)).1 ∙ ap (λ (l : List ℕ). get_or bytes 0 0 ∷ l) behind) (none_behind title bytes is)

take_twice : (l : List ℕ) → take 16 (take 17 l) ≡ take 16 l
take_twice l = take-take 16 17 l (omega arith)

letters_of : (bytes : List ℕ) → take 16 (drop 1 (take 18 bytes)) ≡ take 16 (drop 1 bytes)
letters_of bytes = ap (take 16) (drop-take 1 17 bytes) ∙ take_twice (drop 1 bytes)

-- the letters of the title of a book of several flows stand in it
pub letters_long : (title : Title) (head bytes : List ℕ) → (length bytes ≤ 1 → (bytes ≡ 0 ∷ []) × (length head ≤ 1)) → (2 ≤ length bytes → head ≡ take 18 bytes)
    → take 16 (drop 1 head) ≡ title_of title → (17 ≤ length bytes) × (take 16 (drop 1 bytes) ≡ title_of title)
letters_long title head bytes short long told =
    let many : 17 ≤ length head = omega (arith, ap length told, length-take 16 (drop 1 head), length-drop 1 head, sixteen title) in
    let more : 2 ≤ length bytes = elim (cases_lt (length bytes) 2) [ inl brief ↦ absurd (omega (arith, many, (short (omega (arith, brief))).1)) | inr more ↦ more ] in
    let are = long more in (
      omega (arith, many, ap length are, length-take 18 bytes),
      sym (letters_of bytes) ∙ ap (λ (l : List ℕ). take 16 (drop 1 l)) (sym are) ∙ told,
    )

-- its gate is closed behind it
pub titled_closed : (title : Title) (head bytes : List ℕ) → is_unborn title bytes ≡ true → (length bytes ≤ 1 → (bytes ≡ 0 ∷ []) × (length head ≤ 1)) → (2 ≤ length bytes → head ≡ take 18 bytes)
    → 1 ≤ length bytes → title ≡ Book2 → take 16 (drop 1 head) ≡ title_of title → IsTitled title bytes (written bytes 17 (0 ∷ []))
titled_closed title head bytes is short long there several told =
    let letters = letters_long title head bytes short long told in
    let front : take 17 bytes ≡ get_or bytes 0 0 ∷ title_of title =
    ap (take 17) (first_is bytes there (λ brief. (short brief).0)).1 ∙ ap (λ (l : List ℕ). get_or bytes 0 0 ∷ l) letters.1 in
    titled_whole title bytes (written bytes 17 (0 ∷ [])) is (λ brief. (short brief).0) there
    (ap (λ (l : List ℕ). l ++ (0 ∷ drop 18 bytes)) front) (inr several)

-- a file of a book of several flows with another's first 17 bytes, its title among them, and no open gate
pub still_unborn : (title : Title) (bytes image : List ℕ) → title ≡ Book2 → get_or bytes 0 0 ≢ OPEN → take 16 (drop 1 bytes) ≡ title_of title → 17 ≤ length bytes → take 17 image ≡ take 17 bytes
    → recovered title image ≡ unborn
still_unborn title bytes image several shut letters long same =
    unborn_titled title image
    (λ open_gate. shut (sym (get_or-take 17 bytes 0 0 (omega arith)) ∙ ap (λ (l : List ℕ). get_or l 0 0) (sym same) ∙ get_or-take 17 image 0 0 (omega arith) ∙ open_gate))
    (letters_there title (drop 1 image) several (sym (drop-take 1 16 image) ∙ ap (drop 1) same ∙ drop-take 1 16 bytes ∙ letters))

-- a crash while it is closed
pub torn_closed : (title : Title) (head bytes image : List ℕ) → is_unborn title bytes ≡ true → (length bytes ≤ 1 → (bytes ≡ 0 ∷ []) × (length head ≤ 1)) → (2 ≤ length bytes → head ≡ take 18 bytes)
    → 1 ≤ length bytes → title ≡ Book2 → take 16 (drop 1 head) ≡ title_of title → Torn 17 1 bytes image → recovered title image ≡ unborn
torn_closed title head bytes image is short long there several told torn =
    let letters = letters_long title head bytes short long told in
    still_unborn title bytes image several (unborn_shut title bytes is (λ brief. (short brief).0) there) letters.1 letters.0 (torn_prefix 17 1 bytes image torn letters.0)

-- an unborn file whose title doesn't stand there has 18 bytes at most, the first of them 0
pub zero_gate : (title : Title) (head bytes : List ℕ) → is_unborn title bytes ≡ true → (length bytes ≤ 1 → (bytes ≡ 0 ∷ []) × (length head ≤ 1)) → (2 ≤ length bytes → head ≡ take 18 bytes)
    → drop 1 head ≢ title_of title ++ 0 ∷ [] → ((title ≡ Book2) × (take 16 (drop 1 head) ≡ title_of title) → ⊥) → (length bytes ≤ 18) × (get_or bytes 0 0 ≡ 0)
zero_gate title head bytes is short long untold unlettered = elim (cases_lt (length bytes) 2) [
  | inl brief ↦ (omega (arith, brief), ap (λ (l : List ℕ). get_or l 0 0) (short (omega (arith, brief))).0)
  | inr more ↦
      ⊎_elim (λ closed. closed)
      (λ titled. absurd (⊎_elim
      (λ whole. untold (ap (drop 1) (long more ∙ take_all 18 bytes (omega (arith, ap length whole, length-drop 1 bytes, length-append (title_of title) (0 ∷ []), sixteen title))) ∙ whole))
      (λ letters. unlettered (letters.0, ap (λ (l : List ℕ). take 16 (drop 1 l)) (long more) ∙ letters_of bytes ∙ letters.1))
      (title_is title (drop 1 bytes) titled.0)))
      (unborn_cases title bytes is more)
]

-- a crash while the title is written
pub torn_title : (title : Title) (old image : List ℕ) → (length old ≤ 18) × (get_or old 0 0 ≡ 0) → 1 ≤ length old → Torn 1 17 old image → recovered title image ≡ unborn
torn_title title old image facts there torn =
    elim (cases_lt (length image) 2) [
      | inl brief ↦ unborn_short title image brief
      | inr more ↦ unborn_zero title image more bound first
    ]
  where
    bound : length image ≤ 18
    bound = omega (arith, torn.no_longer, facts.0)

    first : get_or image 0 0 ≡ 0
    first = sym (get_or-take 1 image 0 0 (omega arith)) ∙ ap (λ (l : List ℕ). get_or l 0 0) (torn_prefix 1 17 old image torn there) ∙ get_or-take 1 old 0 0 (omega arith) ∙ facts.1

-- the title is written
pub titled_now : (title : Title) (old : List ℕ) → is_unborn title old ≡ true → (length old ≤ 1 → old ≡ 0 ∷ []) → 1 ≤ length old → (length old ≤ 18) × (get_or old 0 0 ≡ 0)
    → IsTitled title old (written old 1 (title_of title ++ 0 ∷ []))
titled_now title [] is short there facts = absurd (omega (arith, there))
titled_now title (gate ∷ rest) is short there facts =
    let long : length (title_of title ++ 0 ∷ []) ≡ 17 = omega (arith, length-append (title_of title) (0 ∷ []), sixteen title) in
    let whole : written (gate ∷ rest) 1 (title_of title ++ 0 ∷ []) ≡ gate ∷ (title_of title ++ 0 ∷ drop 18 (gate ∷ rest)) =
    ap (λ (n : ℕ). gate ∷ ((title_of title ++ 0 ∷ []) ++ drop (1 + n) (gate ∷ rest))) long ∙ ap (λ (l : List ℕ). gate ∷ l) (append_assoc (title_of title) (0 ∷ []) (drop 18 (gate ∷ rest))) in
    titled_whole title (gate ∷ rest) (written (gate ∷ rest) 1 (title_of title ++ 0 ∷ [])) is short there whole (inl (drop_all 18 (gate ∷ rest) (omega (arith, facts.0))))

-- ---- the gate is opened

-- a journal without a record lies in these bytes
pub born_lies : (title : Title) (bytes rest : List ℕ) → bytes ≡ OPEN ∷ (title_of title ++ 0 ∷ rest) → LiesAs title [] 18 bytes
born_lies title bytes rest is =
    let prefix : List ℕ = prefix_of title [] in
    let bare : prefix ≡ OPEN ∷ title_of title = append-nil (OPEN ∷ title_of title) in
    let long : length prefix ≡ 17 = omega (arith, ap length bare, sixteen title) in
    let split : bytes ≡ prefix ++ 0 ∷ rest = is ∙ ap (λ (l : List ℕ). l ++ 0 ∷ rest) (sym bare) in
    record {
      prefix = ap (take (length prefix)) split ∙ take_at prefix (0 ∷ rest) (length prefix) refl;
      place = omega (arith, long);
      whole = omega (arith, ap length split, length-append prefix (0 ∷ rest), long);
      gate = λ open_gate. open_not_zero OPEN (sym open_gate ∙ ap (λ (l : List ℕ). get_or l (length prefix) 0) split ∙ get_or_at prefix 0 rest 0 (length prefix) refl) refl;
      limit = omega arith;
      fit = tt;
    }

-- a draft without a body
pub titled_lies : (title : Title) (old bytes : List ℕ) → IsTitled title old bytes → LiesShut title [] 18 bytes
titled_lies title old bytes titled = record {
  shut = λ open_gate. titled.shut (sym (ap (λ (l : List ℕ). get_or l 0 0) titled.whole) ∙ open_gate);
  lies = born_lies title (OPEN ∷ drop 1 bytes) (drop 18 old) (ap (λ (l : List ℕ). OPEN ∷ drop 1 l) titled.whole);
}

-- the title stands in a draft of a book of several flows
pub draft_letters : (title : Title) (held : List (List ℕ)) (size : ℕ) (bytes : List ℕ) → LiesAs title held size (OPEN ∷ drop 1 bytes) → (take 16 (drop 1 bytes) ≡ title_of title) × (17 ≤ length bytes)
draft_letters title held size bytes lies =
    let prefix : List ℕ = prefix_of title held in
    let records : List ℕ = flat_map record_of held in
    let long : 17 ≤ length prefix = omega (arith, length-append (OPEN ∷ title_of title) records, sixteen title) in
    let front : take 17 (OPEN ∷ drop 1 bytes) ≡ take 17 prefix = sym (take-take 17 (length prefix) (OPEN ∷ drop 1 bytes) long) ∙ ap (take 17) lies.prefix in
    let letters : take 17 prefix ≡ OPEN ∷ title_of title = take_at (OPEN ∷ title_of title) records 17 (omega (arith, sixteen title)) in (
      ap (drop 1) (front ∙ letters),
      omega (arith, lies.whole, lies.place, long, length-drop 1 bytes),
    )

-- a crash while the gate is opened: the file is unborn, or has all the bodies
pub torn_open : (title : Title) (held : List (List ℕ)) (size : ℕ) (old image : List ℕ) → LiesShut title held size old → has_title title (drop 1 old) ≡ true → Torn 0 1 old image
    → (recovered title image ≡ unborn) ⊎ (recovered title image ≡ bodies held)
torn_open title held size old image draft titled torn =
    let there : 17 ≤ length old = (draft_letters title held size old draft.lies).1 in
    let long : length image ≡ length old = omega (arith, torn.no_shorter, torn.no_longer, there) in
    let behind : drop 1 image ≡ drop 1 old = ap (drop 1) (sym (take_all (length old) image (omega (arith, long)))) ∙ torn.after in
    elim (cases_eq (get_or image 0 0) OPEN) [
      | inl open_gate ↦ inr (recovered_lies title held size image (sixteen title) (subst (LiesAs title held size) (opened image open_gate behind (omega (arith, long, there))) draft.lies))
      | inr shut ↦ inl (unborn_titled title image shut (ap (has_title title) behind ∙ titled))
    ]
  where
    opened : (image : List ℕ) → get_or image 0 0 ≡ OPEN → drop 1 image ≡ drop 1 old → 1 ≤ length image → OPEN ∷ drop 1 old ≡ image
    opened [] open_gate behind some = absurd (omega (arith, some))
    opened (a ∷ l) open_gate behind some = ap (λ (g : ℕ). g ∷ drop 1 old) (sym open_gate) ∙ ap (λ (m : List ℕ). a ∷ m) (sym behind)

-- the gate is open
pub opened_now : (old : List ℕ) → 1 ≤ length old → written old 0 (OPEN ∷ []) ≡ OPEN ∷ drop 1 old
opened_now [] there = absurd (omega (arith, there))
opened_now (gate ∷ rest) there = refl

-- a journal without a record was made
pub born_now : (title : Title) (before old : List ℕ) → IsTitled title before old → written old 0 (OPEN ∷ []) ≡ born_bytes title before
born_now title before old titled =
    ap (λ (l : List ℕ). written l 0 (OPEN ∷ [])) titled.whole
    ∙ made title (drop 18 before) before refl (ap (λ (l : List ℕ). has_title title (drop 1 l)) (sym titled.whole) ∙ titled.titled)
  where
    made : (title : Title) (behind before : List ℕ) → behind ≡ drop 18 before → has_title title (title_of title ++ 0 ∷ behind) ≡ true
        → OPEN ∷ (title_of title ++ 0 ∷ behind) ≡ born_bytes title before
    made Book behind before same has = ap (λ (l : List ℕ). OPEN ∷ l) ((bytes_decides (title_of Book ++ 0 ∷ behind) (title_of Book ++ 0 ∷ [])).0 has)
    made Jobs behind before same has = ap (λ (l : List ℕ). OPEN ∷ l) ((bytes_decides (title_of Jobs ++ 0 ∷ behind) (title_of Jobs ++ 0 ∷ [])).0 has)
    made Book2 behind before same has = ap (λ (l : List ℕ). OPEN ∷ (title_of Book2 ++ 0 ∷ l)) same
