-- The desk that a crash leaves.
use Rattle.std.proofs.Common.{◌≡◌, ℕ, ◌+◌, ◌-◌, ◌≤◌, ◌<◌, min, Bool, true, false, List, [], ◌∷◌, ◌++◌, length, get_or, take, drop, Option, Some, None, unwrap_or, if◌then◌else◌, ◌==◌, reverse, Result, Ok, Err, inl, inr, refl, sym, ◌∙◌, ap, subst, arith, length-drop, length-take}
use Rattle.std.specs.Prelude.{is_some, nat_lt, ◌&&◌, IfOk}
use Rattle.std.specs.List.{All, list_any, sum_by}
use Rattle.std.specs.Cmp.Lexicographic.{pointwise, bytes_decides}
use Rattle.std.proofs.lemmas.List.{drop-drop, take-append-drop}
use Rattle.std.proofs.lemmas.Bool.{cases_lt}
use Rattle.std.proofs.lemmas.List.Sums.{sum_by-take-le}
use Rattle.tf_desk.specs.declared.past.MemoryFile.{MemoryFile}
use Rattle.tf_desk.specs.declared.past.Noted.{Noted}
use Rattle.tf_desk.specs.declared.crashing.Torn.{Torn}
use Rattle.tf_desk.specs.declared.crashing.Torn.TheVariants.{Old, New, Mixed}
use Rattle.tf_desk.specs.Crash.{bytes_of, IsLeft}
use Rattle.tf_desk.specs.Acts.{Act, said, picked_after, files_after, shown_after, content_after, left_after, crashes_after}
use Rattle.tf_desk.specs.ActLaws.{has_file, left_reads, crashes_now}
use Rattle.tf_desk.specs.MemoryDesk.{Held, acts_of, written_count, said_count, has_name, file_at}
use Rattle.tf_desk.specs.Crashed.{IsTornAfter, other_file, AreOthers, acts_at, acts_keeping, acts_left, ended_at, began_at, unsynced_at, struck_at, struck, ends_in_sync, IsTornDesk, IsCrashed, picked_in_log}
use Rattle.tf_desk.proofs.LogLemmas.{unsynced_none, acts_up_to, shown_of, picked_of, sum_by-reverse}
use Rattle.tf_desk.proofs.CrashedLemmas.{mixed_left, crashes_on}
use Rattle.tf_desk.proofs.OtherLemmas.{none_there, anew_itself, anew_apart, anew_left, keeping_none, keeping_others, keeping_left, keeping_shows, all_others}

-- ---- what is left

-- no file is picked
pub leaves_none : (torn : Torn) (past : List Act) (text : List ℕ) → picked_after past ≡ None → shown_after past ≡ text → IsTornDesk torn past (said text ∷ [])
leaves_none torn past text is shows = record {
  picked = sym is;
  image = subst (λ (p : Option (List ℕ)). IsTornAfter torn past p []) (sym is) refl;
  others = λ name apart. sym (none_there past name is);
  text = sym shows;
  left = subst (λ (p : Option (List ℕ)). IsLeft p (left_after past) []) (sym is) refl;
  durable = λ image left. left;
  on_disk = λ name image left. absurd left;
}

-- a file that is torn so may be left
torn_left : (torn : Torn) (past : List Act) (name image : List ℕ) → picked_after past ≡ Some name → IsTornAfter torn past (Some name) image → left_after past name image
torn_left Old past name image is torn =
    mixed_left past name image (has_file past name is) (record {
      no_shorter = omega (arith, ap length torn);
      no_longer = omega (arith, ap length torn);
      same = λ place there none. ap (λ (l : List ℕ). get_or l place 0) torn;
    })
torn_left New past name image is torn = left_reads past name image (whole (files_after past name) (has_file past name is) torn)
  where
    whole : (file : Option (List ℕ)) → is_some file ≡ true → image ≡ unwrap_or file [] → file ≡ Some image
    whole None none same = cc
    whole (Some bytes) some same = ap Some (sym same)
torn_left (Mixed seed) past name image is torn = mixed_left past name image (has_file past name is) torn

module _ (past : List Act) (name image text : List ℕ) (others : List MemoryFile) (each : All (λ file. other_file past name file.name ≡ Some file.bytes.items) others) where
  -- the file as it reads then
  kept_file : files_after (acts_left others name image text) name ≡ Some image
  kept_file =
      anew_itself (acts_keeping (reverse others) text) name image name ((bytes_decides name name).1 refl)
      (subst (λ (f : Option (List ℕ)). length (unwrap_or f []) ≤ length image) (sym (keeping_none past name text others each)) (omega arith))

  kept_bytes : bytes_of (content_after (acts_left others name image text)) ≡ image
  kept_bytes = ap (λ (f : Option (List ℕ)). unwrap_or f []) kept_file

  -- a crash leaves of each file what reads
  kept_left : (other now : List ℕ) → left_after (acts_left others name image text) other now → files_after (acts_left others name image text) other ≡ Some now
  kept_left other now left = anew_left (acts_keeping (reverse others) text) name image other now (keeping_left (reverse others) text other now) left

  -- a file is picked
  pub leaves_some : (torn : Torn) → picked_after past ≡ Some name → shown_after past ≡ text → IsTornAfter torn past (Some name) image
      → ((other : List ℕ) → is_some (other_file past name other) ≡ true → list_any (has_name other) others ≡ true) → IsTornDesk torn past (acts_left others name image text)
  leaves_some torn is shows torn_so all = record {
    picked = sym is;
    image = subst (λ (l : List ℕ). IsTornAfter torn past (picked_after past) l) (sym kept_bytes) (subst (λ (p : Option (List ℕ)). IsTornAfter torn past p image) (sym is) torn_so);
    others = λ other apart.
        let unlike : pointwise ◌==◌ name other ≡ false = unequal (pointwise ◌==◌ name other) (λ same. apart (is ∙ ap Some ((bytes_decides name other).0 same))) in
        anew_apart (acts_keeping (reverse others) text) name image other unlike ∙ keeping_others past name text others each all other unlike;
    text = keeping_shows (reverse others) text ∙ sym shows;
    left = subst (λ (l : List ℕ). IsLeft (picked_after past) (left_after past) l) (sym kept_bytes)
        (subst (λ (p : Option (List ℕ)). IsLeft p (left_after past) image) (sym is) (torn_left torn past name image is torn_so));
    durable = λ other left. (let same : Some other ≡ Some image = sym (kept_left name other left) ∙ kept_file in let its : other ≡ image = cc in its ∙ sym kept_bytes);
    on_disk = kept_left;
  }
    where
      unequal : (b : Bool) → ¬ (b ≡ true) → b ≡ false
      unequal true not = absurd (not refl)
      unequal false not = refl

pub if_ok : {A E : Type 0} (r : Result A E) (P Q : A → Type 0) → ((x : A) → P x → Q x) → IfOk r P → IfOk r Q
if_ok (Ok x) P Q further p = further x p
if_ok (Err e) P Q further p = tt

-- a log up to a moment
module _ (past : List Act) (log : List Noted) (w s : List ℕ) (moment : ℕ) (view : acts_of (reverse log) w s ≡ past) (all_wrote : sum_by written_count log ≡ length w)
    (all_said : sum_by said_count log ≡ length s) (within : moment ≤ length log) where
  by_then : acts_at past moment ≡ acts_of (reverse (take moment log)) (take (sum_by written_count (take moment log)) w) (take (sum_by said_count (take moment log)) s)
  by_then = ap (λ (p : List Act). acts_at p moment) (sym view) ∙ acts_up_to log w s moment all_wrote all_said within

  text_then : shown_after (acts_at past moment) ≡ take (sum_by said_count (take moment log)) s
  text_then =
      ap shown_after by_then
      ∙ shown_of (reverse (take moment log)) (take (sum_by written_count (take moment log)) w) (take (sum_by said_count (take moment log)) s)
      (omega (arith, sum_by-reverse said_count (take moment log), sum_by-take-le said_count log moment, all_said, length-take (sum_by said_count (take moment log)) s))

  name_then : picked_after (acts_at past moment) ≡ picked_in_log (reverse (take moment log))
  name_then = ap picked_after by_then ∙ picked_of (reverse (take moment log)) (take (sum_by written_count (take moment log)) w) (take (sum_by said_count (take moment log)) s)

  pub crashed_none : (torn : Torn) (text : List ℕ) (new : List Act) → picked_in_log (reverse (take moment log)) ≡ None → text ≡ take (sum_by said_count (take moment log)) s
      → new ≡ said text ∷ [] → IsTornDesk torn (acts_at past moment) new
  crashed_none torn text new none shows is = subst (IsTornDesk torn (acts_at past moment)) (sym is) (leaves_none torn (acts_at past moment) text (name_then ∙ none) (text_then ∙ sym shows))

  pub crashed_some : (torn : Torn) (name image text : List ℕ) (files others : List MemoryFile) (new : List Act) → picked_in_log (reverse (take moment log)) ≡ Some name
      → text ≡ take (sum_by said_count (take moment log)) s
      → ((shown : List ℕ) → IsTornAfter torn (acts_of (reverse (take moment log)) (take (sum_by written_count (take moment log)) w) shown) (Some name) image)
      → ((other : List ℕ) → file_at files other ≡ files_after past other)
      → ((shown : List ℕ) → AreOthers files (acts_of (reverse (take moment log)) (take (sum_by written_count (take moment log)) w) shown) name others)
      → new ≡ acts_left others name image text → IsTornDesk torn (acts_at past moment) new
  crashed_some torn name image text files others new some shows torn_so named are_others is =
      let are : AreOthers files (acts_at past moment) name others =
      subst (λ (p : List Act). AreOthers files p name others) (sym by_then) (are_others (take (sum_by said_count (take moment log)) s)) in
      subst (IsTornDesk torn (acts_at past moment)) (sym is)
      (leaves_some (acts_at past moment) name image text others are.each torn (name_then ∙ some) (text_then ∙ sym shows)
      (subst (λ (p : List Act). IsTornAfter torn p (Some name) image) (sym by_then) (torn_so (take (sum_by said_count (take moment log)) s)))
      (all_others files past moment name others named are))

-- ---- the moments of a call

at_most : (b : Bool) (x n : ℕ) → (if b then min x n else n) ≤ n
at_most true x n = omega arith
at_most false x n = omega arith

ended_le : (held : Held) (call : ℕ) → ended_at held call ≤ length held.past
ended_le held call = at_most (nat_lt call (length held.began)) (get_or held.began call 0) (length held.past)

less_one : (b : Bool) (e : ℕ) → (if b then e - 1 else e) ≤ e
less_one true e = omega arith
less_one false e = omega arith

one_below : (b : Bool) (m e : ℕ) → m < e → m ≤ (if b then e - 1 else e)
one_below true m e less = omega (arith, less)
one_below false m e less = omega (arith, less)

unsynced_le : (past : List Act) (b e : ℕ) → unsynced_at past b e ≤ e
unsynced_le past b e = less_one (nat_lt b e && ends_in_sync (acts_at past e)) e

unsynced_ge : (past : List Act) (b e : ℕ) → b ≤ e → b ≤ unsynced_at past b e
unsynced_ge past b e le = elim (cases_lt b e) [
  | inl less ↦ one_below (nat_lt b e && ends_in_sync (acts_at past e)) b e less
  | inr same ↦ omega (arith, le, unsynced_none past b e same)
]

began_le : (held : Held) (call : ℕ) → began_at held call ≤ ended_at held call
began_le held call = omega arith

struck_le : (torn : Torn) (held : Held) (call : ℕ) → struck_at torn held call ≤ ended_at held call
struck_le Old held call = began_le held call
struck_le New held call = unsynced_le held.past (began_at held call) (ended_at held call)
struck_le (Mixed seed) held call = unsynced_le held.past (began_at held call) (ended_at held call)

struck_ge : (torn : Torn) (held : Held) (call : ℕ) → began_at held call ≤ struck_at torn held call
struck_ge Old held call = omega arith
struck_ge New held call = unsynced_ge held.past (began_at held call) (ended_at held call) (began_le held call)
struck_ge (Mixed seed) held call = unsynced_ge held.past (began_at held call) (ended_at held call) (began_le held call)

pub struck_within : (torn : Torn) (held : Held) (call : ℕ) → struck_at torn held call ≤ length held.past
struck_within torn held call = omega (arith, struck_le torn held call, ended_le held call)

length-acts_at : (past : List Act) (moment : ℕ) → moment ≤ length past → length (acts_at past moment) ≡ moment
length-acts_at past moment le = omega (arith, le, length-drop (length past - moment) past)

acts_earlier : (past : List Act) (m e : ℕ) → m ≤ e → e ≤ length past → drop (e - m) (acts_at past e) ≡ acts_at past m
acts_earlier past m e le within =
    drop-drop (e - m) (length past - e) past
    ∙ (let same : (length past - e) + (e - m) ≡ length past - m = omega (arith, le, within) in ap (λ (n : ℕ). drop n past) same)

-- the pair is one that a crash at a moment of the call may leave
pub crashed_desk : (torn : Torn) (call : ℕ) (old new : Held) → IsTornDesk torn (struck torn old call) new.past
    → new ≡ record { past = new.past; began = []; disk_faults = 0; out_faults = 0; asks = 0; turns = 0 } → IsCrashed torn call old new
crashed_desk torn call old new leaves fresh = record {
  leaves = leaves;
  allowed =
      let e = ended_at old call in
      let m = struck_at torn old call in
      let b = began_at old call in
      let now = crashes_now (acts_at old.past m) b (bytes_of (content_after new.past)) (shown_after new.past)
      (omega (arith, struck_ge torn old call, length-acts_at old.past m (struck_within torn old call))) (leaves.left, ap Some (sym leaves.text)) in
      let parts : take (e - m) (acts_at old.past e) ++ acts_at old.past m ≡ acts_at old.past e =
      ap (λ (l : List Act). take (e - m) (acts_at old.past e) ++ l) (sym (acts_earlier old.past m e (struck_le torn old call) (ended_le old call))) ∙ take-append-drop (e - m) (acts_at old.past e) in
      subst (λ (l : List Act). crashes_after l b (bytes_of (content_after new.past)) (shown_after new.past)) parts
      (crashes_on (take (e - m) (acts_at old.past e)) (acts_at old.past m) b (bytes_of (content_after new.past)) (shown_after new.past) now);
  fresh = fresh;
}
