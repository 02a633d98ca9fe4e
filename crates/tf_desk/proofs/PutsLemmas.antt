-- A loop of writes to a file.
use Rattle.std.proofs.Common.{◌≡◌, ◌≢◌, ◌⊎◌, ℕ, ◌+◌, ◌-◌, ◌≤◌, Bool, true, false, MatchBool, if◌then◌else◌, List, ◌∷◌, ◌++◌, [], length, take, drop, Option, Some, None, unwrap_or, is_some, Result, Err, inl, inr, refl, sym, ◌∙◌, ap, subst, arith, length-take, length-drop}
use Rattle.std.specs.Bool.{⊤}
use Rattle.std.proofs.lemmas.List.{length-take-le, take-take}
use Rattle.std.proofs.Math.Seq.{take-add}
use Rattle.std.specs.Option.{option_and_then}
use Rattle.tf_trace.specs.Calls.{Call, wrote, tore}
use Rattle.tf_desk.specs.Crash.{written, Torn, Images, IsLeft}
use Rattle.tf_desk.specs.State.{DeskState, bytes_now, LeftNow, Passes, Tears, passes_on}
use Rattle.tf_desk.specs.Acts.{names}
use Rattle.tf_desk.specs.ActLaws.{bytes_of-picked, names_picked, picked_names, torn-written}
use Rattle.tf_desk.specs.TornLaws.{torn_none, torn_wider}
use Rattle.tf_desk.specs.Replay.{First, replay, left_torn, after_written}
use Rattle.tf_desk.specs.Loops.{Puts, PutsSome}
use Rattle.tf_desk.proofs.FileLemmas.{chosen}
use Rattle.tf_desk.proofs.WrittenLemmas.{torn_within, written_none, written_on, size_written}
use Rattle.tf_desk.proofs.StateLemmas.{goes_none}

pub unpicked : {X : Type 0} (b : Bool) (x y : X) → (b ≡ true → ⊥) → (if b then x else y) ≡ y
unpicked true x y is = absurd (is refl)
unpicked false x y is = refl

pub at_true : (b : Bool) (P Q : Type 0) → b ≡ true → MatchBool b P Q → P
at_true true P Q is m = m
at_true false P Q is m = cc

at_not : (b : Bool) (P Q : Type 0) → (b ≡ true → ⊥) → MatchBool b P Q → Q
at_not true P Q is m = absurd (is refl)
at_not false P Q is m = m

match_by : (b : Bool) (P Q : Type 0) → P → Q → MatchBool b P Q
match_by true P Q p q = p
match_by false P Q p q = q

some_named : (p : Option (List ℕ)) → is_some p ≡ true → (name : List ℕ) × (p ≡ Some name)
some_named None some = cc
some_named (Some name) some = (name, refl)

pub left_more : (picked : Option (List ℕ)) (old new : Images) (image : List ℕ) → ((name : List ℕ) (image : List ℕ) → old name image → new name image) → IsLeft picked old image → IsLeft picked new image
left_more None old new image more left = left
left_more (Some name) old new image more left = more name image left

-- ---- none yet

pub puts_none : (at n : ℕ) (s : DeskState) → Puts at n [] s s
puts_none at n s = record {
  goes = goes_none;
  picked = refl;
  tears = record {
    marks = refl;
    bytes = torn_none at n (bytes_now s);
    left = λ name image is left. (image, left, torn_none at n image);
    left_others = λ name image not_it left. left;
  };
  bytes = λ some inside. sym (written_none (bytes_now s) at);
}

-- ---- one more

module _ (at n from m : ℕ) (front kept : List ℕ) (old mid : DeskState) (is : from ≡ at + length front) (inside : from + m ≤ at + n) (short : length kept ≤ m) (puts : Puts at n front old mid) where
  abbrev new : DeskState
  new = after_written from m kept mid

  more_left : (name image : List ℕ) → mid.left name image → left_torn from m mid name image
  more_left name image left = match_by (names mid.content.picked name) ((was : List ℕ) × mid.left name was × Torn from m was image) (mid.left name image) (image, left, torn_none from m image) left

  left_on : (image text : List ℕ) → LeftNow mid image text → LeftNow new image text
  left_on image text left = (left_more mid.content.picked mid.left (left_torn from m mid) image more_left left.0, left.1)

  passes_mid : Passes (LeftNow new) mid new
  passes_mid = record {
    later = omega arith;
    since = since;
    keeps = λ start image text le left. inl (le, inl left);
  }
    where
      since : (start : ℕ) (image text : List ℕ) → start ≤ mid.content.clock → new.crashes start image text → mid.crashes start image text ⊎ LeftNow new image text
      since start image text le (inl (before, inl crashed)) = inl crashed
      since start image text le (inl (before, inr within)) = inr within
      since start image text le (inr here) = inr here.1

  others_on : (other : List ℕ) → mid.content.picked ≢ Some other → new.content.files other ≡ mid.content.files other
  others_on other not_it =
      unpicked (names mid.content.picked other) (Some (written (unwrap_or (mid.content.files other) []) from kept)) (mid.content.files other)
      (λ it. not_it (names_picked mid.content.picked other it))

  -- what the picked file reads as then
  reads_picked : (name : List ℕ) → mid.content.picked ≡ Some name → bytes_now new ≡ written (bytes_now mid) from kept
  reads_picked name named =
      bytes_of-picked new.content name named
      ∙ ap (λ (f : Option (List ℕ)). unwrap_or f []) (chosen (names mid.content.picked name) (Some (written (unwrap_or (mid.content.files name) []) from kept)) (mid.content.files name) (picked_names mid.content.picked name named))
      ∙ ap (λ (l : List ℕ). written l from kept) (sym (bytes_of-picked mid.content name named))

  reads : is_some mid.content.picked ≡ true → bytes_now new ≡ written (bytes_now mid) from kept
  reads some = let named = some_named mid.content.picked some in reads_picked named.0 named.1

  torn_part : (was : List ℕ) → Torn from m was (written was from kept)
  torn_part was = torn_wider from (length kept) m was (written was from kept) short (torn-written was from kept)

  torn_bytes : (picked : Option (List ℕ)) → mid.content.picked ≡ picked → Torn from m (bytes_now mid) (bytes_now new)
  torn_bytes None is = subst (λ (l : List ℕ). Torn from m (bytes_now mid) l) (sym same) (torn_none from m (bytes_now mid))
    where
      same : bytes_now new ≡ bytes_now mid
      same = ap (λ (p : Option (List ℕ)). unwrap_or (option_and_then new.content.files p) []) is ∙ sym (ap (λ (p : Option (List ℕ)). unwrap_or (option_and_then mid.content.files p) []) is)
  torn_bytes (Some name) is = subst (λ (l : List ℕ). Torn from m (bytes_now mid) l) (sym (reads_picked name is)) (torn_part (bytes_now mid))

  within_both : (a b c : List ℕ) → Torn at n a b → Torn from m b c → Torn at n a c
  within_both a b c first then_ = torn_within at n from m a b c (omega (arith, is)) inside first then_

  tears_on : Tears at n old new
  tears_on = record {
    marks = puts.tears.marks;
    bytes = within_both (bytes_now old) (bytes_now mid) (bytes_now new) puts.tears.bytes (torn_bytes mid.content.picked refl);
    left = λ name image its left.
        let torn = at_true (names mid.content.picked name) ((was : List ℕ) × mid.left name was × Torn from m was image) (mid.left name image) (picked_names mid.content.picked name (puts.picked ∙ its)) left in
        let first = puts.tears.left name torn.0 its torn.1 in
        (first.0, first.1, within_both first.0 torn.0 image first.2 torn.2);
    left_others = λ name image not_it left.
        puts.tears.left_others name image not_it
        (at_not (names mid.content.picked name) ((was : List ℕ) × mid.left name was × Torn from m was image) (mid.left name image) (λ it. not_it (sym puts.picked ∙ names_picked mid.content.picked name it)) left);
  }

  whole : is_some old.content.picked ≡ true → at ≤ length (bytes_now old) → bytes_now new ≡ written (bytes_now old) at (front ++ kept)
  whole some low =
      let before = puts.bytes some low in
      let within : at + length front ≤ length (written (bytes_now old) at front) = reaches (bytes_now old) front low in
      reads (ap (λ (p : Option (List ℕ)). is_some p) puts.picked ∙ some) ∙ ap (λ (l : List ℕ). written l from kept) before
      ∙ ap (λ (k : ℕ). written (written (bytes_now old) at front) k kept) is ∙ written_on (bytes_now old) front kept at within
    where
      reaches : (l part : List ℕ) → at ≤ length l → at + length part ≤ length (written l at part)
      reaches l part low = omega (arith, low, size_written l at part, length-take-le at l low)

  pub puts_on : Puts at n (front ++ kept) old (after_written from m kept mid)
  puts_on = record {
    goes = record {
      on_disk = record {
        tells = puts.goes.on_disk.tells;
        shown = puts.goes.on_disk.shown;
        disk_faults = puts.goes.on_disk.disk_faults;
        out_faults = puts.goes.on_disk.out_faults;
        asks = puts.goes.on_disk.asks;
        turns = puts.goes.on_disk.turns;
        marks = puts.goes.on_disk.marks;
        crash = λ told. passes_on (puts.goes.on_disk.crash told) passes_mid left_on (λ image text left. left);
      };
      files = λ told. record {
        picked = puts.picked;
        others = λ other not_it. others_on other (λ its. not_it (sym puts.picked ∙ its)) ∙ (puts.goes.files told).others other not_it;
      };
    };
    picked = puts.picked;
    tears = tears_on;
    bytes = λ some low. whole some low;
  }

-- ---- in the loop

-- one write more, of what is still to be put: the first bytes of that were put, or it failed
module _ (first : First) (at done from : ℕ) (bytes : List ℕ) (old past : List Call) (within : done ≤ length bytes) (is : from ≡ at + done)
    (puts : Puts at (length bytes) (take done bytes) (replay first old) (replay first past)) where
  abbrev rest : List ℕ
  rest = take (length bytes - done) (drop done bytes)

  front : length (take done bytes) ≡ done
  front = length-take-le done bytes within

  size : length rest ≡ length bytes - done
  size = omega (arith, length-take (length bytes - done) (drop done bytes), length-drop done bytes)

  part : (n : ℕ) → n ≤ length rest → length (take n rest) ≡ n
  part n fits = length-take-le n rest fits

  more : (n : ℕ) → n ≤ length rest → take done bytes ++ take n rest ≡ take (done + n) bytes
  more n fits =
      ap (λ (l : List ℕ). take done bytes ++ l) (take-take n (length bytes - done) (drop done bytes) (omega (arith, fits, size))) ∙ sym (take-add done n bytes)

  pub put_part : (n : ℕ) → n ≤ length rest → Puts at (length bytes) (take (done + n) bytes) (replay first old) (replay first (wrote from (take n rest) ∷ past))
  put_part n fits =
      subst (λ (l : List ℕ). Puts at (length bytes) l (replay first old) (replay first (wrote from (take n rest) ∷ past))) (more n fits)
      (puts_on at (length bytes) from (length (take n rest)) (take done bytes) (take n rest) (replay first old) (replay first past)
      (omega (arith, is, front)) (omega (arith, is, size, fits, part n fits, within)) (omega arith) puts)

  pub put_failed : {E : Type 0} (result : Result (⊤) E) (error : E) → result ≡ Err error
      → PutsSome at bytes result (replay first old) (replay first (tore from rest ∷ past))
  put_failed {E} result error failed =
      subst (λ (r : Result (⊤) E). PutsSome at bytes r (replay first old) (replay first (tore from rest ∷ past))) (sym failed)
      (record {
        front = take done bytes ++ take put rest;
        puts = puts_on at (length bytes) from (length rest) (take done bytes) (take put rest) (replay first old) (replay first past)
            (omega (arith, is, front)) (omega (arith, is, size, within)) (omega (arith, length-take put rest)) puts;
        whole = tt;
      })
    where
      put : ℕ
      put = first.put (length past)
