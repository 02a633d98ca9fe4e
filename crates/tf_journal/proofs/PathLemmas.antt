-- What stays known of the desk on its way through a command that picks a file.
use Rattle.std.proofs.Common.{◌≡◌, ◌⊎◌, ◌≤◌, ℕ, List, [], ◌∷◌, ◌++◌, true, Option, Some, None, refl, sym, ap, ◌∙◌, subst, inl, inr, ⊎_elim, append_assoc, arith}
use Rattle.std.proofs.lemmas.List.{append_cancel_left}
use Rattle.std.specs.Prelude.{IsTrue, is_some, unwrap_or}
use Rattle.tf_desk.specs.Crash.{Mark, at_pick, at_sync, Pairs, IsLeft, ShowsPrefix}
use Rattle.tf_desk.specs.State.{DeskState, bytes_now, MayLeave, LeftNow, OthersStay, Says, Passes, passes_since}
use Rattle.tf_desk.proofs.StateLemmas.{left_stays}
use Rattle.tf_journal.specs.Start.{file_of, first_pick, first_sync, IsStart, Path, IsSet}

-- ---- the call's start

pick_prefix : (a b : List Mark) → is_some (first_pick a) ≡ true → first_pick (a ++ b) ≡ first_pick a
pick_prefix [] b is = absurd (cc)
pick_prefix (at_pick name moment ∷ a) b is = refl
pick_prefix (at_sync moment ∷ a) b is = pick_prefix a b is

sync_prefix : (a b : List Mark) → is_some (first_sync a) ≡ true → first_sync (a ++ b) ≡ first_sync a
sync_prefix [] b is = absurd (cc)
sync_prefix (at_sync moment ∷ a) b is = refl
sync_prefix (at_pick name moment ∷ a) b is = sync_prefix a b is

-- marks that stay tell the same start
start_stays : {name : List ℕ} {entry now next : DeskState} {moment : ℕ} → next.content.marks ≡ now.content.marks → IsStart name entry next moment → IsStart name entry now moment
start_stays same start = record { more = start.more; added = sym same ∙ start.added; first = start.first }

-- marks behind a pick and a sync tell no other start
pub start_before : {name : List ℕ} {entry mid new : DeskState} {moment : ℕ} → IsSet name entry mid → (more : List Mark) × (new.content.marks ≡ mid.content.marks ++ more)
    → IsStart name entry new moment → IsStart name entry mid moment
start_before {name} {entry} {mid} {new} {moment} set marks start =
    let others : List Mark = marks.0 in
    let both : start.more ≡ set.more ++ others = append_cancel_left entry.content.marks start.more (set.more ++ others)
    (sym start.added ∙ marks.1 ∙ ap (λ (m : List Mark). m ++ others) set.added ∙ append_assoc entry.content.marks set.more others) in
    record {
      more = set.more;
      added = set.added;
      first = ⊎_elim
          (λ picked. inl (sym (pick_prefix set.more others set.has_pick) ∙ ap first_pick (sym both) ∙ picked.0, picked.1))
          (λ synced. inr (sym (sync_prefix set.more others set.has_sync) ∙ ap first_sync (sym both) ∙ synced))
          start.first;
    }

pub set_on : {name : List ℕ} {entry mid new : DeskState} → IsSet name entry mid → new.content.picked ≡ mid.content.picked
    → (more : List Mark) × (new.content.marks ≡ mid.content.marks ++ more) → IsSet name entry new
set_on {name} {entry} {mid} {new} set picked marks = record {
  picked = picked ∙ set.picked;
  more = set.more ++ marks.0;
  added = marks.1 ∙ ap (λ (m : List Mark). m ++ marks.0) set.added ∙ append_assoc entry.content.marks set.more marks.0;
  has_pick = ap is_some (pick_prefix set.more marks.0 set.has_pick) ∙ set.has_pick;
  has_sync = ap is_some (sync_prefix set.more marks.0 set.has_sync) ∙ set.has_sync;
}

-- a file that is set has a start: its first sync
pub set_start : {name : List ℕ} {entry mid : DeskState} → IsSet name entry mid → (moment : ℕ) × IsStart name entry mid moment
set_start {name} {entry} {mid} set = by (first_sync set.more) refl
  where
    by : (found : Option ℕ) → first_sync set.more ≡ found → (moment : ℕ) × IsStart name entry mid moment
    by None is = (let none : is_some {T = ℕ} None ≡ true = ap is_some (sym is) ∙ set.has_sync in absurd (cc))
    by (Some moment) is = (moment, record { more = set.more; added = set.added; first = inr is })

-- ---- one call more

-- a text is said
pub path_said : {name : List ℕ} {entry now next : DeskState} {message : List ℕ} {may wider : Pairs} {held : List ℕ → Type 0}
    → Path name entry now may held → IsTrue now.tells → Says message now next
    → ((image text : List ℕ) → may image text → wider image text)
    → ((image text : List ℕ) → held image → ShowsPrefix now.shown message (Some text) → wider image text)
    → Path name entry next wider held
path_said {name} {entry} {now} {next} path told call widens says =
    let stay = call.files told in
    let passes = call.crash told in
    record {
      others = λ other apart. ap (λ (f : List ℕ → Option (List ℕ)). f other) stay.files ∙ path.others other apart;
      within = λ moment start. omega (arith, path.within moment (start_stays (call.marks told) start), passes.later);
      crash = λ moment start image text now_crashes.
          let before : IsStart name entry now moment = start_stays (call.marks told) start in
          passes_since passes (path.within moment before)
          (λ i t then_crashes. widens i t (path.crash moment before i t then_crashes))
          (λ i t inside. says i t (path.still moment before i inside.0) inside.1)
          image text now_crashes;
      still = λ moment start image leaves.
          let before : IsStart name entry now moment = start_stays (call.marks told) start in
          path.still moment before image (left_stays stay image leaves);
    }

-- a call that writes, and what is left then
pub path_on : {name : List ℕ} {entry mid new : DeskState} {may during wider : Pairs} {held holds : List ℕ → Type 0}
    → Path name entry mid may held → IsSet name entry mid → OthersStay mid new → (more : List Mark) × (new.content.marks ≡ mid.content.marks ++ more) → Passes during mid new
    → ((image text : List ℕ) → may image text → wider image text) → ((image text : List ℕ) → during image text → wider image text)
    → ((image : List ℕ) → MayLeave new image → holds image)
    → Path name entry new wider holds
path_on {name} {entry} {mid} {new} path set stay marks passes widens inside leaves = record {
  others = λ other apart. stay.others other (λ same. apart (other_name mid.content.picked set.picked other same)) ∙ path.others other apart;
  within = λ moment start. omega (arith, path.within moment (start_before set marks start), passes.later);
  crash = λ moment start image text now_crashes.
      let before : IsStart name entry mid moment = start_before set marks start in
      passes_since passes (path.within moment before)
      (λ i t then_crashes. widens i t (path.crash moment before i t then_crashes)) inside image text now_crashes;
  still = λ moment start image now_leaves. leaves image now_leaves;
}
  where
    other_name : (picked : Option (List ℕ)) → picked ≡ Some name → (other : List ℕ) → picked ≡ Some other → other ≡ name
    other_name picked is other other_is = let same : Some other ≡ Some name = sym other_is ∙ is in cc

-- a wider property
pub path_widens : {name : List ℕ} {entry now : DeskState} {may wider : Pairs} {held holds : List ℕ → Type 0}
    → Path name entry now may held → ((image text : List ℕ) → may image text → wider image text) → ((image : List ℕ) → held image → holds image)
    → Path name entry now wider holds
path_widens path may_so held_so = record {
  others = path.others;
  within = path.within;
  crash = λ moment start image text leaves. may_so image text (path.crash moment start image text leaves);
  still = λ moment start image leaves. held_so image (path.still moment start image leaves);
}

-- what is left after a call was left before it, or in it
pub left_then : {during : Pairs} {before now : DeskState} → Passes during before now → is_some now.shown ≡ true
    → ((start : ℕ) (image text : List ℕ) → start ≤ now.content.clock → LeftNow now image text → now.crashes start image text)
    → ((image text : List ℕ) → before.crashes before.content.clock image text → LeftNow before image text)
    → (image : List ℕ) → MayLeave now image → MayLeave before image ⊎ ((text : List ℕ) × during image text)
left_then {during} {before} {now} passes told counts only image leaves = by now.shown refl told
  where
    by : (shown : Option (List ℕ)) → now.shown ≡ shown → is_some shown ≡ true → MayLeave before image ⊎ ((text : List ℕ) × during image text)
    by None same shows = absurd (cc)
    by (Some text) same shows =
        ⊎_elim (λ earlier. inl (only image text earlier).0) (λ inside. inr (text, inside))
        (passes.since before.content.clock image text (omega arith) (counts before.content.clock image text passes.later (leaves, same)))

-- the file as it reads is among what a crash now leaves
pub as_read : {name : List ℕ} (now : DeskState) → now.content.picked ≡ Some name → (now.content.picked ≡ Some name → now.content.files name ≡ Some (bytes_now now))
    → ((bytes : List ℕ) → now.content.files name ≡ Some bytes → now.left name bytes) → MayLeave now (file_of now name) × (file_of now name ≡ bytes_now now)
as_read {name} now picked there reads =
    let has : now.content.files name ≡ Some (bytes_now now) = there picked in
    let same : file_of now name ≡ bytes_now now = ap (λ (o : Option (List ℕ)). unwrap_or o []) has in
    (subst (λ (o : Option (List ℕ)). IsLeft o now.left (file_of now name)) (sym picked) (reads (file_of now name) (has ∙ ap Some (sym same))), same)
