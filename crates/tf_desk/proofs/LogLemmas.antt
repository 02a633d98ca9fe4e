-- The acts of a log up to a moment.
use Rattle.std.proofs.Common.{◌≡◌, ℕ, ◌+◌, ◌-◌, ◌≤◌, ◌<◌, Bool, true, false, if◌then◌else◌, List, [], ◌∷◌, ◌++◌, length, get_or, take, drop, reverse, refl, sym, ◌∙◌, ap, arith, length-take, length-drop, length-append}
use Rattle.std.specs.Prelude.{nat_lt, ◌&&◌}
use Rattle.std.specs.List.{sum_by}
use Rattle.std.proofs.lemmas.List.{take_all, take-take, take-append-drop, reverse-append, length-reverse, take_more, drop-take}
use Rattle.std.proofs.lemmas.List.Sums.{sum_by-cons, sum_by_push, sum_by_more, sum_by-take-drop}
use Rattle.std.proofs.lemmas.Bool.{lt-ltb, le-ltb}
use Rattle.tf_desk.specs.declared.past.Noted.{Noted}
use Rattle.tf_desk.specs.declared.past.Noted.TheVariants.{Picked, Wrote, Synced, Said}
use Rattle.tf_desk.specs.Acts.{Act, picked, wrote, synced, said, picked_after, shown_after}
use Rattle.tf_desk.specs.Crashed.{acts_at, ends_in_sync, unsynced_at, IsActOf, picked_in_log, notes_sync}
use Rattle.tf_desk.specs.MemoryDesk.{acts_of, written_count, said_count}

pub length-acts_of : (log : List Noted) (w s : List ℕ) → length (acts_of log w s) ≡ length log
length-acts_of [] w s = refl
length-acts_of (Picked name ∷ log) w s = omega (arith, length-acts_of log w s)
length-acts_of (Wrote at count ∷ log) w s = omega (arith, length-acts_of log (take (length w - count) w) s)
length-acts_of (Synced ∷ log) w s = omega (arith, length-acts_of log w s)
length-acts_of (Said count ∷ log) w s = omega (arith, length-acts_of log w (take (length s - count) s))

pub sum_by-reverse : {X : Type 0} (f : X → ℕ) (xs : List X) → sum_by f (reverse xs) ≡ sum_by f xs
sum_by-reverse f [] = refl
sum_by-reverse f (x ∷ xs) =
    ap (sum_by f) (reverse-append (x ∷ []) xs) ∙ sum_by_push f (reverse xs) x
    ∙ omega (arith, sum_by-reverse f xs, sum_by-cons f x xs)

-- a tape from whose end bytes were taken twice
taken_twice : (w : List ℕ) (n k : ℕ) → take (length (take (length w - n) w) - k) (take (length w - n) w) ≡ take (length w - (n + k)) w
taken_twice w n k =
    take-take (length (take (length w - n) w) - k) (length w - n) w (omega (arith, length-take (length w - n) w))
    ∙ (let same : length (take (length w - n) w) - k ≡ length w - (n + k) = omega (arith, length-take (length w - n) w) in ap (λ (m : ℕ). take m w) same)

whole : (w : List ℕ) → w ≡ take (length w - 0) w
whole w = sym (take_all (length w - 0) w (omega arith))

-- the acts of a log's older entries stand last
drop-acts_of : (new old : List Noted) (w s : List ℕ)
    → drop (length new) (acts_of (new ++ old) w s) ≡ acts_of old (take (length w - sum_by written_count new) w) (take (length s - sum_by said_count new) s)
drop-acts_of [] old w s = ap (λ (l : List ℕ). acts_of old l s) (whole w) ∙ ap (λ (l : List ℕ). acts_of old (take (length w - 0) w) l) (whole s)
drop-acts_of (Picked name ∷ new) old w s = drop-acts_of new old w s
drop-acts_of (Wrote at count ∷ new) old w s =
    drop-acts_of new old (take (length w - count) w) s
    ∙ ap (λ (l : List ℕ). acts_of old l (take (length s - sum_by said_count new) s)) (taken_twice w count (sum_by written_count new))
    ∙ ap (λ (n : ℕ). acts_of old (take (length w - n) w) (take (length s - sum_by said_count new) s)) (sym (sum_by-cons written_count (Wrote at count) new))
drop-acts_of (Synced ∷ new) old w s = drop-acts_of new old w s
drop-acts_of (Said count ∷ new) old w s =
    drop-acts_of new old w (take (length s - count) s)
    ∙ ap (λ (l : List ℕ). acts_of old (take (length w - sum_by written_count new) w) l) (taken_twice s count (sum_by said_count new))
    ∙ ap (λ (n : ℕ). acts_of old (take (length w - sum_by written_count new) w) (take (length s - n) s)) (sym (sum_by-cons said_count (Said count) new))

-- what was done up to a moment is what the entries up to there say
pub acts_up_to : (log : List Noted) (w s : List ℕ) (moment : ℕ) → sum_by written_count log ≡ length w → sum_by said_count log ≡ length s → moment ≤ length log
    → acts_at (acts_of (reverse log) w s) moment ≡ acts_of (reverse (take moment log)) (take (sum_by written_count (take moment log)) w) (take (sum_by said_count (take moment log)) s)
acts_up_to log w s moment all_wrote all_said within =
    let new : List Noted = reverse (drop moment log) in
    let old : List Noted = reverse (take moment log) in
    let parts : reverse log ≡ new ++ old = ap reverse (sym (take-append-drop moment log)) ∙ reverse-append (take moment log) (drop moment log) in
    let many : length (acts_of (reverse log) w s) - moment ≡ length new =
    omega (arith, length-acts_of (reverse log) w s, length-reverse log, length-reverse (drop moment log), length-drop moment log) in
    let wrote_left : length w - sum_by written_count new ≡ sum_by written_count (take moment log) =
    omega (arith, all_wrote, sum_by-reverse written_count (drop moment log), sum_by-take-drop written_count log moment) in
    let said_left : length s - sum_by said_count new ≡ sum_by said_count (take moment log) =
    omega (arith, all_said, sum_by-reverse said_count (drop moment log), sum_by-take-drop said_count log moment) in
    ap (λ (n : ℕ). drop n (acts_of (reverse log) w s)) many
    ∙ ap (λ (l : List Noted). drop (length new) (acts_of l w s)) parts
    ∙ drop-acts_of new old w s
    ∙ ap (λ (n : ℕ). acts_of old (take n w) (take (length s - sum_by said_count new) s)) wrote_left
    ∙ ap (λ (n : ℕ). acts_of old (take (sum_by written_count (take moment log)) w) (take n s)) said_left

-- ---- one entry more

pub newest_first : (log : List Noted) (i : ℕ) (d : Noted) → i < length log → reverse (take (i + 1) log) ≡ get_or log i d ∷ reverse (take i log)
newest_first log i d within = ap reverse (take_more log i d within) ∙ reverse-append (take i log) (get_or log i d ∷ [])

-- a write takes its bytes from the tape's end
pub acts_wrote_on : (r : List Noted) (w s : List ℕ) (at count so_far : ℕ) → so_far + count ≤ length w
    → acts_of (Wrote at count ∷ r) (take (so_far + count) w) s ≡ wrote at (take count (drop so_far w)) ∷ acts_of r (take so_far w) s
acts_wrote_on r w s at count so_far within =
    let last : length (take (so_far + count) w) - count ≡ so_far = omega (arith, length-take (so_far + count) w) in
    ap (λ (n : ℕ). wrote at (drop n (take (so_far + count) w)) ∷ acts_of r (take n (take (so_far + count) w)) s) last
    ∙ ap (λ (b : List ℕ). wrote at b ∷ acts_of r (take so_far (take (so_far + count) w)) s) (drop-take so_far count w)
    ∙ ap (λ (l : List ℕ). wrote at (take count (drop so_far w)) ∷ acts_of r l s) (take-take so_far (so_far + count) w (omega arith))

-- ---- what follows from a log's entries

-- the text is what the tape has
pub shown_of : (log : List Noted) (w s : List ℕ) → sum_by said_count log ≡ length s → shown_after (acts_of log w s) ≡ s
shown_of [] w [] all = refl
shown_of [] w (byte ∷ s) all = absurd (omega (arith, all))
shown_of (Picked name ∷ log) w s all = shown_of log w s all
shown_of (Wrote at count ∷ log) w s all = shown_of log (take (length w - count) w) s all
shown_of (Synced ∷ log) w s all = shown_of log w s all
shown_of (Said count ∷ log) w s all =
    let left : sum_by said_count log ≡ length (take (length s - count) s) = omega (arith, all, sum_by-cons said_count (Said count) log, length-take (length s - count) s) in
    ap (λ (l : List ℕ). l ++ drop (length s - count) s) (shown_of log w (take (length s - count) s) left) ∙ take-append-drop (length s - count) s

-- the name that was picked last
pub picked_of : (log : List Noted) (w s : List ℕ) → picked_after (acts_of log w s) ≡ picked_in_log log
picked_of [] w s = refl
picked_of (Picked name ∷ log) w s = refl
picked_of (Wrote at count ∷ log) w s = picked_of log (take (length w - count) w) s
picked_of (Synced ∷ log) w s = picked_of log w s
picked_of (Said count ∷ log) w s = picked_of log w (take (length s - count) s)

-- ---- a write that was noted, or wasn't

pub put_wrote : (noted : Bool) (log new_log : List Noted) (w new_w : List ℕ) (at : ℕ) (bytes : List ℕ) → sum_by written_count log ≡ length w
    → new_log ≡ (if noted then log ++ Wrote at (length bytes) ∷ [] else log) → new_w ≡ (if noted then w ++ bytes else w) → sum_by written_count new_log ≡ length new_w
put_wrote true log new_log w new_w at bytes all log_is w_is =
    ap (sum_by written_count) log_is ∙ sum_by_push written_count log (Wrote at (length bytes)) ∙ omega (arith, all, ap length w_is, length-append w bytes)
put_wrote false log new_log w new_w at bytes all log_is w_is = ap (sum_by written_count) log_is ∙ all ∙ sym (ap length w_is)

pub put_said : (noted : Bool) (log new_log : List Noted) (shown : List ℕ) (at : ℕ) (bytes : List ℕ) → sum_by said_count log ≡ length shown
    → new_log ≡ (if noted then log ++ Wrote at (length bytes) ∷ [] else log) → sum_by said_count new_log ≡ length shown
put_said true log new_log shown at bytes all log_is = omega (arith, ap (sum_by said_count) log_is, sum_by_push said_count log (Wrote at (length bytes)), all)
put_said false log new_log shown at bytes all log_is = ap (sum_by said_count) log_is ∙ all

-- ---- a sync that came last

-- what was noted last is what was done last
pub sync_last : (log : List Noted) (w s : List ℕ) (moment : ℕ) (d : Noted) → sum_by written_count log ≡ length w → sum_by said_count log ≡ length s → 0 < moment → moment ≤ length log
    → ends_in_sync (acts_at (acts_of (reverse log) w s) moment) ≡ notes_sync (get_or log (moment - 1) d)
sync_last log w s moment d all_wrote all_said some within =
    let one : moment ≡ (moment - 1) + 1 = omega (arith, some) in
    let taken : reverse (take moment log) ≡ get_or log (moment - 1) d ∷ reverse (take (moment - 1) log) =
    ap (λ (m : ℕ). reverse (take m log)) one ∙ newest_first log (moment - 1) d (omega (arith, some, within)) in
    ap ends_in_sync (acts_up_to log w s moment all_wrote all_said within)
    ∙ ap (λ (l : List Noted). ends_in_sync (acts_of l (take (sum_by written_count (take moment log)) w) (take (sum_by said_count (take moment log)) s))) taken
    ∙ noted (get_or log (moment - 1) d) (reverse (take (moment - 1) log)) (take (sum_by written_count (take moment log)) w) (take (sum_by said_count (take moment log)) s)
  where
    noted : (entry : Noted) (older : List Noted) (wr sh : List ℕ) → ends_in_sync (acts_of (entry ∷ older) wr sh) ≡ notes_sync entry
    noted (Picked name) older wr sh = refl
    noted (Wrote at count) older wr sh = refl
    noted Synced older wr sh = refl
    noted (Said count) older wr sh = refl

both : (a b : Bool) (x y : ℕ) → a ≡ true → b ≡ true → (if a && b then x else y) ≡ x
both true true x y is_a is_b = refl
both true false x y is_a is_b = cc
both false b x y is_a is_b = cc

not_first : (a b : Bool) (x y : ℕ) → a ≡ false → (if a && b then x else y) ≡ y
not_first true b x y is = cc
not_first false b x y is = refl

not_second : (a b : Bool) (x y : ℕ) → b ≡ false → (if a && b then x else y) ≡ y
not_second true true x y is = cc
not_second true false x y is = refl
not_second false b x y is = refl

pub unsynced_yes : (past : List Act) (began ended : ℕ) → began < ended → ends_in_sync (acts_at past ended) ≡ true → unsynced_at past began ended ≡ ended - 1
unsynced_yes past began ended less is = both (nat_lt began ended) (ends_in_sync (acts_at past ended)) (ended - 1) ended (lt-ltb began ended less) is

pub unsynced_none : (past : List Act) (began ended : ℕ) → ended ≤ began → unsynced_at past began ended ≡ ended
unsynced_none past began ended le = not_first (nat_lt began ended) (ends_in_sync (acts_at past ended)) (ended - 1) ended (le-ltb began ended le)

pub unsynced_no : (past : List Act) (began ended : ℕ) → ends_in_sync (acts_at past ended) ≡ false → unsynced_at past began ended ≡ ended
unsynced_no past began ended is = not_second (nat_lt began ended) (ends_in_sync (acts_at past ended)) (ended - 1) ended is

-- ---- a file followed through one entry more

-- the act of the next entry, with what it wrote
pub act_next : (log : List Noted) (i : ℕ) (d : Noted) (w s : List ℕ) → i < length log → sum_by written_count (take i log) + written_count (get_or log i d) ≤ length w
    → (act : Act) × (shown : List ℕ) × (acts_of (reverse (take (i + 1) log)) (take (sum_by written_count (take (i + 1) log)) w) s ≡ act ∷ acts_of (reverse (take i log)) (take (sum_by written_count (take i log)) w) shown)
    × IsActOf (get_or log i d) (take (written_count (get_or log i d)) (drop (sum_by written_count (take i log)) w)) act
act_next log i d w s inside within =
    let so_far = sum_by written_count (take i log) in
    let e = get_or log i d in
    let step = by e (reverse (take i log)) so_far within in (
      step.0,
      step.1,
      ap (λ (l : List Noted). acts_of l (take (sum_by written_count (take (i + 1) log)) w) s) (newest_first log i d inside)
          ∙ ap (λ (n : ℕ). acts_of (e ∷ reverse (take i log)) (take n w) s) (sum_by_more written_count log i d inside)
          ∙ step.2,
      step.3,
    )
  where
    none : (n : ℕ) → n + 0 ≡ n
    none n = omega arith

    by : (e : Noted) (older : List Noted) (so_far : ℕ) → so_far + written_count e ≤ length w
        → (act : Act) × (shown : List ℕ) × (acts_of (e ∷ older) (take (so_far + written_count e) w) s ≡ act ∷ acts_of older (take so_far w) shown) × IsActOf e (take (written_count e) (drop so_far w)) act
    by (Picked name) older so_far fits = (picked name, s, ap (λ (n : ℕ). picked name ∷ acts_of older (take n w) s) (none so_far), refl)
    by (Wrote at count) older so_far fits = (wrote at (take count (drop so_far w)), s, acts_wrote_on older w s at count so_far fits, refl)
    by Synced older so_far fits = (synced, s, ap (λ (n : ℕ). synced ∷ acts_of older (take n w) s) (none so_far), refl)
    by (Said count) older so_far fits = (
      said (drop (length s - count) s),
      take (length s - count) s,
      ap (λ (n : ℕ). said (drop (length s - count) s) ∷ acts_of older (take n w) (take (length s - count) s)) (none so_far),
      (drop (length s - count) s, refl),
    )
