-- What a crash leaves of a file that is torn.
use Rattle.std.proofs.Common.{◌≡◌, ◌⊎◌, ℕ, ◌+◌, ◌-◌, ◌≤◌, ◌<◌, max, Bool, true, false, List, [], ◌∷◌, ◌++◌, length, get_or, take, drop, Option, Some, None, unwrap_or, if◌then◌else◌, MatchBool, ◌==◌, inl, inr, refl, sym, ◌∙◌, ap, subst, arith, length-take, length-drop, length-append}
use Rattle.std.specs.Prelude.{is_some, ◌||◌}
use Rattle.std.specs.List.{list_any}
use Rattle.std.specs.Cmp.Lexicographic.{pointwise, bytes_decides}
use Rattle.std.proofs.lemmas.List.{take_all, drop_all, take_at, drop_at, drop-drop, length-take-le, take-append-drop, ext_get_or, get_or-append_right, get_or_append_left, get_or-take, get_or-drop, append_assoc}
use Rattle.std.proofs.lemmas.List.Folds.{list_any-append}
use Rattle.std.proofs.lemmas.Bool.{cases_lt}
use Rattle.std.proofs.lemmas.Bool.Decides.{nat_tests}
use Rattle.tf_desk.specs.declared.crashing.Span.{Span}
use Rattle.tf_desk.specs.Crash.{written, Torn}
use Rattle.tf_desk.specs.Acts.{Act, picked, wrote, synced, said, names, picked_after, files_after, left_after, crashes_after}
use Rattle.tf_desk.specs.ActLaws.{has_file, names_picked}
use Rattle.tf_desk.specs.Crashed.{synced_after, spans_after, is_in_span, IsMixed}
use Rattle.tf_desk.proofs.FileLemmas.{chosen, passed}

-- ---- a write into a part of a file

module _ (m part : List ℕ) (at : ℕ) (inside : at ≤ length m) where
  start_long : length (take at m) ≡ at
  start_long = length-take-le at m inside

  written_before : (k : ℕ) → k < at → get_or (written m at part) k 0 ≡ get_or m k 0
  written_before k before = get_or_append_left (take at m) (part ++ drop (at + length part) m) 0 k (omega (arith, before, start_long)) ∙ get_or-take at m k 0 before

  written_in : (k : ℕ) → at ≤ k → k < at + length part → get_or (written m at part) k 0 ≡ get_or part (k - at) 0
  written_in k from within =
      get_or-append_right (take at m) (part ++ drop (at + length part) m) at k 0 start_long from
      ∙ get_or_append_left part (drop (at + length part) m) 0 (k - at) (omega (arith, from, within))

  written_behind : (k : ℕ) → at + length part ≤ k → get_or (written m at part) k 0 ≡ get_or m k 0
  written_behind k past =
      get_or-append_right (take at m) (part ++ drop (at + length part) m) at k 0 start_long (omega (arith, past))
      ∙ get_or-append_right part (drop (at + length part) m) (length part) (k - at) 0 refl (omega (arith, past))
      ∙ get_or-drop (at + length part) m (k - at - length part) 0
      ∙ (let same : at + length part + (k - at - length part) ≡ k = omega (arith, past) in ap (λ (i : ℕ). get_or m i 0) same)

  written_take : take at (written m at part) ≡ take at m
  written_take = take_at (take at m) (part ++ drop (at + length part) m) at start_long

  written_drop : (n : ℕ) → length part ≤ n → drop (at + n) (written m at part) ≡ drop (at + n) m
  written_drop n short =
      let start : length (take at m ++ part) ≡ at + length part = omega (arith, start_long, length-append (take at m) part) in
      let sum : at + n ≡ (at + length part) + (n - length part) = omega (arith, short) in
      ap (λ (k : ℕ). drop k (written m at part)) sum ∙ sym (drop-drop (n - length part) (at + length part) (written m at part))
      ∙ ap (drop (n - length part)) (ap (drop (at + length part)) (sym (append_assoc (take at m) part (drop (at + length part) m))) ∙ drop_at (take at m ++ part) (drop (at + length part) m) (at + length part) start)
      ∙ drop-drop (n - length part) (at + length part) m ∙ ap (λ (k : ℕ). drop k m) (sym sum)

length-written : (m part : List ℕ) (at : ℕ) → length (written m at part) ≡ length (take at m) + (length part + length (drop (at + length part) m))
length-written m part at = length-append (take at m) (part ++ drop (at + length part) m) ∙ ap (λ (n : ℕ). length (take at m) + n) (length-append part (drop (at + length part) m))

nothing_written : (m : List ℕ) (at : ℕ) → written m at [] ≡ m
nothing_written m at = (let same : at + 0 ≡ at = omega arith in ap (λ (k : ℕ). take at m ++ drop k m) same) ∙ take-append-drop at m

pub length-written-ge : (m part : List ℕ) (at : ℕ) → length m ≤ length (written m at part)
length-written-ge m part at = omega (arith, length-written m part at, length-take at m, length-drop (at + length part) m)

-- the first bytes of a list that is cut
cut_twice : (n : ℕ) (l : List ℕ) → take (length (take n l)) l ≡ take n l
cut_twice n l = elim (cases_lt n (length l)) [
  | inl less ↦ ap (λ (k : ℕ). take k l) (length-take-le n l (omega (arith, less)))
  | inr all ↦ let cut = take_all n l all in ap (λ (x : List ℕ). take (length x) l) cut ∙ take_all (length l) l (omega arith) ∙ sym cut
]

-- ---- what stood there before a write that is torn

none_of : (a b : Bool) → (a || b) ≡ false → (a ≡ false) × (b ≡ false)
none_of true b is = cc
none_of false b is = (refl, is)

not_in : (place : ℕ) (span : Span) → (place < span.at) ⊎ (span.at + span.count ≤ place) → is_in_span place span ≡ false
not_in place span (inl before) = grind (arith, nat_tests)
not_in place span (inr behind) = grind (arith, nat_tests)

-- what stood in the file then: the image but for the bytes that were on the disk
abbrev cut_of : List ℕ → List ℕ → List ℕ
cut_of old image = take (length old) image

abbrev part_of : List ℕ → ℕ → ℕ → List ℕ
part_of disk at n = take n (drop at disk)

module _ (disk old : List ℕ) (spans : List Span) (at n : ℕ) (new image : List ℕ) (fits : length disk ≤ length old) (grown : length new ≤ max (length old) (at + n))
    (mixed : IsMixed disk new (spans ++ record { at = at; count = n } ∷ []) image) where
  cut_long : length disk ≤ length (cut_of old image)
  cut_long = omega (arith, fits, mixed.no_shorter, length-take (length old) image)

  part_long : at + length (part_of disk at n) ≤ max at (length disk)
  part_long = omega (arith, length-take n (drop at disk), length-drop at disk)

  part_short : length (part_of disk at n) ≤ n
  part_short = omega (arith, length-take n (drop at disk))

  was_long : length (written (cut_of old image) at (part_of disk at n)) ≡ length (cut_of old image)
  was_long =
      omega (
        arith,
        length-written (cut_of old image) (part_of disk at n) at,
        length-take at (cut_of old image),
        length-drop (at + length (part_of disk at n)) (cut_of old image),
        cut_long,
        part_long,
        length-take n (drop at disk),
        length-drop at disk,
      )

  -- a place that wasn't written since the sync has the byte that is on the disk
  kept : (place : ℕ) → place < length disk → list_any (is_in_span place) spans ≡ false → (place < at) ⊎ (at + n ≤ place) → get_or (cut_of old image) place 0 ≡ get_or disk place 0
  kept place there none apart =
      let other = not_in place (record { at = at; count = n }) apart in
      let nowhere : list_any (is_in_span place) (spans ++ record { at = at; count = n } ∷ []) ≡ false = list_any-append (is_in_span place) spans (record { at = at; count = n } ∷ []) ∙ neither (list_any (is_in_span place) spans) (is_in_span place (record { at = at; count = n })) none other in
      get_or-take (length old) image place 0 (omega (arith, there, fits)) ∙ mixed.same place there nowhere
    where
      neither : (a b : Bool) → a ≡ false → b ≡ false → (a || (b || false)) ≡ false
      neither true b is no_b = cc
      neither false true is no_b = cc
      neither false false is no_b = refl

  was_same : (place : ℕ) → place < length disk → list_any (is_in_span place) spans ≡ false → get_or (written (cut_of old image) at (part_of disk at n)) place 0 ≡ get_or disk place 0
  was_same place there none = elim (cases_lt place at) [
    | inl before ↦ elim (cases_lt (length (cut_of old image)) at) [
      | inl past ↦ let empty : part_of disk at n ≡ [] = ap (take n) (drop_all at disk (omega (arith, past, cut_long))) ∙ take_all n [] (omega arith) in
          ap (λ (p : List ℕ). get_or (written (cut_of old image) at p) place 0) empty ∙ ap (λ (l : List ℕ). get_or l place 0) (nothing_written (cut_of old image) at) ∙ kept place there none (inl before)
      | inr inside ↦ written_before (cut_of old image) (part_of disk at n) at inside place before ∙ kept place there none (inl before)
    ]
    | inr from ↦ elim (cases_lt place (at + n)) [
      | inl within ↦
          let inside : at ≤ length (cut_of old image) = omega (arith, from, there, cut_long) in
          written_in (cut_of old image) (part_of disk at n) at inside place from (omega (arith, from, within, there, length-take n (drop at disk), length-drop at disk))
          ∙ get_or-take n (drop at disk) (place - at) 0 (omega (arith, from, within)) ∙ get_or-drop at disk (place - at) 0
          ∙ (let same : at + (place - at) ≡ place = omega (arith, from) in ap (λ (k : ℕ). get_or disk k 0) same)
      | inr behind ↦
          let inside : at ≤ length (cut_of old image) = omega (arith, from, there, cut_long) in
          written_behind (cut_of old image) (part_of disk at n) at inside place (omega (arith, behind, part_short)) ∙ kept place there none (inr behind)
    ]
  ]

  was_mixed : IsMixed disk old spans (written (cut_of old image) at (part_of disk at n))
  was_mixed = record {
    no_shorter = omega (arith, was_long, cut_long);
    no_longer = omega (arith, was_long, length-take (length old) image);
    same = was_same;
  }

  was_cut : take (length (written (cut_of old image) at (part_of disk at n))) image ≡ cut_of old image
  was_cut = ap (λ (k : ℕ). take k image) was_long ∙ cut_twice (length old) image

  was_torn : Torn at n (written (cut_of old image) at (part_of disk at n)) image
  was_torn = record {
    no_shorter = omega (arith, was_long, length-take (length old) image);
    no_longer = omega (arith, was_long, length-take (length old) image, mixed.no_longer, grown, fits);
    before = ap (take at) was_cut ∙ elim (cases_lt (length (cut_of old image)) at) [
      | inl past ↦ ap (take at) (sym (unchanged past))
      | inr inside ↦ sym (written_take (cut_of old image) (part_of disk at n) at inside)
    ];
    after = ap (drop (at + n)) was_cut ∙ elim (cases_lt (length (cut_of old image)) at) [
      | inl past ↦ ap (drop (at + n)) (sym (unchanged past))
      | inr inside ↦ sym (written_drop (cut_of old image) (part_of disk at n) at inside n part_short)
    ];
  }
    where
      unchanged : length (cut_of old image) < at → written (cut_of old image) at (part_of disk at n) ≡ cut_of old image
      unchanged past =
          let empty : part_of disk at n ≡ [] = ap (take n) (drop_all at disk (omega (arith, past, cut_long))) ∙ take_all n [] (omega arith) in
          ap (λ (p : List ℕ). written (cut_of old image) at p) empty ∙ nothing_written (cut_of old image) at

-- ---- what is left of a file

pub unwrap_picked : (b : Bool) (file : Option (List ℕ)) → unwrap_or (if b then Some (unwrap_or file []) else file) [] ≡ unwrap_or file []
unwrap_picked true file = refl
unwrap_picked false file = refl

-- what is on the disk is no longer than what reads
pub synced_short : (past : List Act) (name : List ℕ) → length (synced_after past name) ≤ length (unwrap_or (files_after past name) [])
synced_short [] name = omega arith
synced_short (picked new ∷ past) name = omega (arith, synced_short past name, ap length (unwrap_picked (pointwise ◌==◌ new name) (files_after past name)))
synced_short (wrote at bytes ∷ past) name = either (names (picked_after past) name) (files_after past name) (synced_after past name) (synced_short past name)
  where
    either : (b : Bool) (file : Option (List ℕ)) (disk : List ℕ) → length disk ≤ length (unwrap_or file []) → length disk ≤ length (unwrap_or (if b then Some (written (unwrap_or file []) at bytes) else file) [])
    either true file disk short = omega (arith, short, length-written-ge (unwrap_or file []) bytes at)
    either false file disk short = short
synced_short (synced ∷ past) name = either (names (picked_after past) name) (unwrap_or (files_after past name) []) (synced_after past name) (synced_short past name)
  where
    either : (b : Bool) (file disk : List ℕ) → length disk ≤ length file → length (if b then file else disk) ≤ length file
    either true file disk short = omega arith
    either false file disk short = short
synced_short (said bytes ∷ past) name = synced_short past name

nothing : (l : List ℕ) → length l ≤ 0 → l ≡ []
nothing [] short = refl
nothing (byte ∷ l) short = absurd (omega (arith, short))

-- of a name without a file nothing is on the disk
none_synced : (past : List Act) (name : List ℕ) → files_after past name ≡ None → synced_after past name ≡ []
none_synced past name none = nothing (synced_after past name) (omega (arith, synced_short past name, ap (λ (f : Option (List ℕ)). length (unwrap_or f [])) none))

-- the file that is torn so stays the same where it is picked
picked_left : (past : List Act) (new name image : List ℕ) → (is_some (files_after past name) ≡ true → IsMixed (synced_after past name) (unwrap_or (files_after past name) []) (spans_after past name) image → left_after past name image)
    → is_some (files_after (picked new ∷ past) name) ≡ true → IsMixed (synced_after past name) (unwrap_or (files_after (picked new ∷ past) name) []) (spans_after past name) image
    → left_after past name image ⊎ ((name ≡ new) × (files_after past name ≡ None) × (image ≡ []))
picked_left past new name image further there mixed = by (files_after past name) refl
  where
    same_mixed : IsMixed (synced_after past name) (unwrap_or (files_after past name) []) (spans_after past name) image
    same_mixed = subst (λ (l : List ℕ). IsMixed (synced_after past name) l (spans_after past name) image) (unwrap_picked (pointwise ◌==◌ new name) (files_after past name)) mixed

    made : (b : Bool) (file : Option (List ℕ)) → file ≡ None → is_some (if b then Some (unwrap_or file []) else file) ≡ true → b ≡ true
    made true file none is = refl
    made false file none is = cc

    by : (file : Option (List ℕ)) → files_after past name ≡ file → left_after past name image ⊎ ((name ≡ new) × (files_after past name ≡ None) × (image ≡ []))
    by (Some bytes) is = inl (further (ap is_some is) same_mixed)
    by None is = inr (
      sym ((bytes_decides new name).0 (made (pointwise ◌==◌ new name) (files_after past name) is there)),
      is,
      nothing image (omega (arith, same_mixed.no_longer, ap length (none_synced past name is), ap (λ (f : Option (List ℕ)). length (unwrap_or f [])) is)),
    )

yes : (b : Bool) (P Q : Type 0) → b ≡ true → P → MatchBool b P Q
yes true P Q is p = p
yes false P Q is p = cc

no : (b : Bool) (P Q : Type 0) → b ≡ false → Q → MatchBool b P Q
no true P Q is q = cc
no false P Q is q = q

-- a write of it is torn
wrote_left : (past : List Act) (name : List ℕ) (at : ℕ) (bytes image : List ℕ)
    → ((was : List ℕ) → is_some (files_after past name) ≡ true → IsMixed (synced_after past name) (unwrap_or (files_after past name) []) (spans_after past name) was → left_after past name was)
    → is_some (files_after (wrote at bytes ∷ past) name) ≡ true
    → IsMixed (synced_after past name) (unwrap_or (files_after (wrote at bytes ∷ past) name) []) (spans_after (wrote at bytes ∷ past) name) image
    → left_after (wrote at bytes ∷ past) name image
wrote_left past name at bytes image further there mixed = by (names (picked_after past) name) refl
  where
    grown : length (written (unwrap_or (files_after past name) []) at bytes) ≤ max (length (unwrap_or (files_after past name) [])) (at + length bytes)
    grown = omega (arith, length-written (unwrap_or (files_after past name) []) bytes at, length-take at (unwrap_or (files_after past name) []), length-drop (at + length bytes) (unwrap_or (files_after past name) []))

    by : (b : Bool) → names (picked_after past) name ≡ b → left_after (wrote at bytes ∷ past) name image
    by true is =
        let old : List ℕ = unwrap_or (files_after past name) [] in
        let before : is_some (files_after past name) ≡ true = has_file past name (names_picked (picked_after past) name is) in
        let all : IsMixed (synced_after past name) (written old at bytes) (spans_after past name ++ record { at = at; count = length bytes } ∷ []) image =
        subst (λ (s : List Span). IsMixed (synced_after past name) (written old at bytes) s image)
        (chosen (names (picked_after past) name) (spans_after past name ++ record { at = at; count = length bytes } ∷ []) (spans_after past name) is)
        (subst (λ (f : Option (List ℕ)). IsMixed (synced_after past name) (unwrap_or f []) (spans_after (wrote at bytes ∷ past) name) image)
        (chosen (names (picked_after past) name) (Some (written old at bytes)) (files_after past name) is) mixed) in
        yes (names (picked_after past) name) ((was : List ℕ) × left_after past name was × Torn at (length bytes) was image) (left_after past name image) is (
          written (cut_of old image) at (part_of (synced_after past name) at (length bytes)),
          further (written (cut_of old image) at (part_of (synced_after past name) at (length bytes))) before
              (was_mixed (synced_after past name) old (spans_after past name) at (length bytes) (written old at bytes) image (synced_short past name) grown all),
          was_torn (synced_after past name) old (spans_after past name) at (length bytes) (written old at bytes) image (synced_short past name) grown all,
        )
    by false is =
        let all : IsMixed (synced_after past name) (unwrap_or (files_after past name) []) (spans_after past name) image =
        subst (λ (s : List Span). IsMixed (synced_after past name) (unwrap_or (files_after past name) []) s image)
        (passed (names (picked_after past) name) (spans_after past name ++ record { at = at; count = length bytes } ∷ []) (spans_after past name) is)
        (subst (λ (f : Option (List ℕ)). IsMixed (synced_after past name) (unwrap_or f []) (spans_after (wrote at bytes ∷ past) name) image)
        (passed (names (picked_after past) name) (Some (written (unwrap_or (files_after past name) []) at bytes)) (files_after past name) is) mixed) in
        let still : is_some (files_after past name) ≡ true = sym (ap is_some (passed (names (picked_after past) name) (Some (written (unwrap_or (files_after past name) []) at bytes)) (files_after past name) is)) ∙ there in
        no (names (picked_after past) name) ((was : List ℕ) × left_after past name was × Torn at (length bytes) was image) (left_after past name image) is (further image still all)

-- a sync leaves what reads
synced_left : (b : Bool) (image disk : List ℕ) (spans : List Span) (file : Option (List ℕ)) (Q : Type 0) → is_some file ≡ true → (IsMixed disk (unwrap_or file []) spans image → Q)
    → IsMixed (if b then unwrap_or file [] else disk) (unwrap_or file []) (if b then [] else spans) image → MatchBool b (file ≡ Some image) Q
synced_left true image disk spans file Q is further all =
    some_of file is (ext_get_or 0 (unwrap_or file []) image (omega (arith, all.no_shorter, all.no_longer)) (λ place there. sym (all.same place there refl)))
  where
    some_of : (f : Option (List ℕ)) → is_some f ≡ true → unwrap_or f [] ≡ image → f ≡ Some image
    some_of None some same = cc
    some_of (Some bytes) some same = ap Some same
synced_left false image disk spans file Q is further all = further all

-- a file with any bytes where it isn't synced is among what a crash leaves
pub mixed_left : (past : List Act) (name image : List ℕ) → is_some (files_after past name) ≡ true
    → IsMixed (synced_after past name) (unwrap_or (files_after past name) []) (spans_after past name) image → left_after past name image
mixed_left [] name image there mixed = cc
mixed_left (picked new ∷ past) name image there mixed = picked_left past new name image (mixed_left past name image) there mixed
mixed_left (wrote at bytes ∷ past) name image there mixed = wrote_left past name at bytes image (λ was before all. mixed_left past name was before all) there mixed
mixed_left (synced ∷ past) name image there mixed =
    synced_left (names (picked_after past) name) image (synced_after past name) (spans_after past name) (files_after past name) (left_after past name image) there (λ all. mixed_left past name image there all) mixed
mixed_left (said bytes ∷ past) name image there mixed = mixed_left past name image there mixed

-- ---- a crash at a moment within others

-- a crash at a moment from that start on, with what was done after it
pub crashes_on : (new past : List Act) (start : ℕ) (image text : List ℕ) → crashes_after past start image text → crashes_after (new ++ past) start image text
crashes_on [] past start image text left = left
crashes_on (act ∷ new) past start image text left = inr (inr (crashes_on new past start image text left))
