-- What conductors leave of a board that was opened, and how their command ends.
use Rattle.std.proofs.Common.{◌≡◌, ◌⊎◌, ◌<◌, ℕ, List, [], ◌∷◌, length, Option, Some, None, refl, sym, ap, ◌∙◌, subst, inl, inr, ⊎_elim, arith, map, slice_index_or, option_map}
use Rattle.std.specs.Prelude.{◌==◌, IfSome, IsTrue, slice_get, true, unwrap_or}
use Rattle.std.specs.List.{All, AllByRecursion}
use Rattle.std.proofs.lemmas.Bool.{eqb-true}
use Rattle.std.proofs.lemmas.List.{get_or-map, length-map}
use Rattle.std.proofs.lemmas.Option.{slice_get_cases, slice_get_within}
use Rattle.tf_numbers.specs.Numbers.{Rises}
use Rattle.tf_desk.specs.Crash.{ShowsPrefix, shown_with}
use Rattle.tf_desk.specs.State.{DeskState, MayLeave, OnDisk, Says, anything}
use Rattle.tf_desk.proofs.CountLemmas.{rises_later}
use Rattle.tf_desk.proofs.StateLemmas.{on_disk_told, on_disk_on}
use Rattle.tf_journal.specs.Start.{IsSet, Path, file_of}
use Rattle.tf_journal.proofs.PathLemmas.{as_read, path_on, path_said, set_on, set_start}
use Rattle.tf_board.specs.Board.{BoardValue, IsOpened, LeavesHeld, board_in, size_of}
use Rattle.tf_board.specs.Does.{Concludes, HasCauses}
use Rattle.tf_board.specs.declared.commands.Command.{Command}
use Rattle.tf_board.proofs.DeskLaws.{KeepsLaws}
use Rattle.tf_board.proofs.EndLemmas.{causes_so}
use Rattle.tf_book.proofs.SpokenLemmas.{shown_none}
use Rattle.tf_conductor.specs.Conducting.{IsConducting}
use Rattle.tf_conductor.specs.Rounds.{AreNamedBy, HoldsKept, IsCallBy, IsConductors}
use Rattle.tf_conductor.proofs.TurnLemmas.{kept_within, some_within}
use Rattle.tf_actions.specs.declared.orders.Order.{Order}
use Rattle.tf_ports.specs.Ports.{CrewTold, GivenBack, gave_back, hired_for}
use Rattle.tf_ports.specs.declared.crews.Want.TheVariants as want
use Rattle.tf_report.specs.Closing.{ClosesWith, said}
use Rattle.tf_report.proofs.ClosingLemmas.{closes_from}
use Rattle.tf_report.specs.declared.statuses.TheConstants.{DISK_FAILED, OUT_OF_MEMORY}
use Rattle.tf_shared_board.specs.Shared.{followed_by, SharedValue, HasCause, IsShared, halt_status}
use Rattle.tf_shared_board.proofs.HaltLemmas.{cause_told, cause_later}
use Rattle.tf_shared_board.specs.declared.calls.BoardHalt.{BoardHalt}
use Rattle.tf_shared_board.specs.declared.calls.BoardHalt.TheVariants as halt
use Rattle.tf_shared_board.specs.declared.calls.Made.{Made}
use Rattle.tf_runner.specs.Conducts.{AreManyBack, HiresMany, EndsCalls, IsOwned, LeavesCalls, closing_text}
use Rattle.tf_runner.specs.Working.{HasCalled}

-- ---- owners

-- a conductor's call is by the owner whom the word and the conductor's number name
pub owned_of : (word : List ℕ) (owners : List (List ℕ)) (count : ℕ) → AreNamedBy word owners → length owners ≡ count → (m : Made) → IsConductors owners m → IsOwned word count m
owned_of word owners count named many m is = record {
  few = omega (arith, slice_get_within owners m.number is.0 is.1, many);
  by = subst (λ (who : List ℕ). IsCallBy who m.call) (named m.number is.0 is.1) is.2;
}

pub all_owned : (word : List ℕ) (owners : List (List ℕ)) (count : ℕ) → AreNamedBy word owners → length owners ≡ count → (made : List Made) → AllByRecursion (IsConductors owners) made
    → AllByRecursion (IsOwned word count) made
all_owned word owners count named many [] all = tt
all_owned word owners count named many (m ∷ made) all = (owned_of word owners count named many m all.0, all_owned word owners count named many made all.1)

-- there is an owner of each number
pub owner_there : (owners : List (List ℕ)) (i : ℕ) → i < length owners → (owner : List ℕ) × (slice_get owners i ≡ Some owner)
owner_there owners i below =
    elim (slice_get_cases owners i).1 [
      | inl there ↦ (there.0, there.2)
      | inr out ↦ absurd (omega (arith, out.0, below))
    ]

-- what is so of each share of the files is so of each runner that has one
pub each_share : {A R : Type 0} (file_of_runner : R → A) (P : A → Type 0) (runners : List R) (shares : List A) → map file_of_runner runners ≡ shares → All P shares
    → All (λ (r : R). P (file_of_runner r)) runners
each_share f P runners shares are all i d below =
    let long : length shares ≡ length runners = ap length (sym are) ∙ length-map runners f in
    let there : P (slice_index_or shares i (f d)) = all i (f d) (omega (arith, below, long)) in
    subst P (ap (λ l. slice_index_or l i (f d)) (sym are) ∙ get_or-map f runners i d (f d) below) there

-- ---- what was called

module _ {K : Type 0} (state : K → DeskState) where
  -- a board as it begins to be shared
  abbrev pub shared_so : BoardValue K → SharedValue K
  shared_so board = record { start = board; board = board; made = []; halt = None }

  module _ (name word : List ℕ) (owners : List (List ℕ)) (count : ℕ) (entry : DeskState) (board : BoardValue K) (now : SharedValue K)
      (o : IsOpened state name entry board) (k : IsConducting state (record { begun = shared_so board; now = now; owners = owners }))
      (named : AreNamedBy word owners) (many : length owners ≡ count) where
    told_was : IsTrue entry.tells → IsTrue (state board.journal.desk).tells
    told_was told = on_disk_told o.on_disk told

    told_now : IsTrue entry.tells → IsTrue (state now.board.journal.desk).tells
    told_now told = on_disk_told k.goes.on_disk (told_was told)

    held_was : IsTrue entry.tells → LeavesHeld board.past (state board.journal.desk)
    held_was told image left = (let s = set_start (o.set told) in (o.path told).still s.0 s.1 image left)

    kept_now : IsTrue entry.tells → (image : List ℕ) → MayLeave (state now.board.journal.desk) image
        → HoldsKept (IsOwned word count) (followed_by board.past now.made) now.halt (board_in image)
    kept_now told image left =
        subst (λ (l : List Command). HoldsKept (IsOwned word count) l now.halt (board_in image)) k.list
        (kept_within (owned_of word owners count named many) (k.leaves (told_was told) (held_was told) image left))

    set_now : IsTrue entry.tells → IsSet name entry (state now.board.journal.desk)
    set_now told = set_on (o.set told) (k.goes.files (told_was told)).picked (k.goes.on_disk.marks (told_was told))

    on_disk_now : OnDisk anything entry (state now.board.journal.desk)
    on_disk_now = on_disk_on o.on_disk k.goes.on_disk (λ told image text left. tt) (λ told image text left. tt)

    rose_since : Rises (state board.journal.desk).disk_faults (state now.board.journal.desk).disk_faults → Rises entry.disk_faults (state now.board.journal.desk).disk_faults
    rose_since rises = rises_later entry.disk_faults (state board.journal.desk).disk_faults (state now.board.journal.desk).disk_faults o.on_disk.disk_faults rises

    sized_now : IsShared state now → now.board.journal.size ≡ size_of (followed_by board.past now.made)
    sized_now shared =
        let sized : now.start.journal.size ≡ size_of now.start.past = subst (λ (b : BoardValue K). b.journal.size ≡ size_of b.past) (sym k.start) o.fresh.sized in
        shared.sized sized ∙ ap size_of k.list

    -- the calls were made on the board that was opened
    pub called_so : KeepsLaws state → IsShared state now → HasCalled name word count board.past now.made now.halt entry (state now.board.journal.desk)
    called_so laws shared = record {
      on_disk = on_disk_now;
      cause = cause_told state board now.board (followed_by board.past now.made) entry (state now.board.journal.desk) (sized_now shared) rose_since now.halt (k.cause refl);
      file = λ told.
          kept_now told (file_of (state now.board.journal.desk) name)
          (as_read (state now.board.journal.desk) (set_now told).picked (λ picked. laws.picked_is_there now.board.journal.desk name (told_now told) picked)
          (λ bytes has. laws.reads_left now.board.journal.desk name bytes (told_now told) has)).0;
      path = λ told. path_on (o.path told) (o.set told) (k.goes.files (told_was told)) (k.goes.on_disk.marks (told_was told)) (k.goes.on_disk.crash (told_was told))
          (λ image text before. inl before)
          (λ image text left. inr (some_within (owned_of word owners count named many) left.0, sym o.on_disk.shown ∙ left.1))
          (kept_now told);
    }

    -- when the status of their end comes
    pub called_causes : (back : K) (last : DeskState) (status : ℕ) → back ≡ now.board.journal.desk → Concludes (state back) last status → (status ≡ DISK_FAILED → now.halt ≡ Some halt.Disk)
        → HasCauses entry last status
    called_causes back last status same c failed =
        causes_so on_disk_now (subst (λ (d : K). Concludes (state d) last status) same c)
        (λ is. rose_since (subst (λ (h : Option BoardHalt). IfSome h (HasCause state board now.board)) (failed is) (k.cause refl)))

-- ---- how it ends

nothing_shown : (shown : Option (List ℕ)) (message text : List ℕ) → shown ≡ Some text → ShowsPrefix shown message (Some text)
nothing_shown shown message text is = record { count = 0; prefix = sym is ∙ sym (shown_none shown) }

file_stays : (name : List ℕ) (old new : DeskState) → new.content.files ≡ old.content.files → file_of new name ≡ file_of old name
file_stays name old new same = ap (λ (files : List ℕ → Option (List ℕ)). unwrap_or (files name) []) same

module _ {name word : List ℕ} {count : ℕ} {past : List Command} {made : List Made} {halted : Option BoardHalt} {entry mid : DeskState}
    (h : HasCalled name word count past made halted entry mid) where
  -- the lines were said
  pub called_ends : {now : DeskState} (status : ℕ) → ClosesWith mid.shown (closing_text made halted) (halt_status halted) now.shown status → Says (closing_text made halted) mid now
      → EndsCalls name word count past made halted entry now status
  called_ends {now} status closes says = record {
    cause = cause_later (followed_by past made) entry mid now says.disk_faults halted h.cause;
    closes = inr (closes_from h.on_disk.shown closes);
    keeps = λ told.
        let told_mid : IsTrue mid.tells = on_disk_told h.on_disk told in
        let path : Path name entry now (LeavesCalls word count past made halted entry) (λ image. HoldsKept (IsOwned word count) (followed_by past made) halted (board_in image)) =
        path_said (h.path told) told_mid says
        (λ image text may. ⊎_elim (λ before. inl before) (λ since. inr (inl since)) may)
        (λ image text held prefix. inr (inr (held, subst (λ (s : Option (List ℕ)). ShowsPrefix s (closing_text made halted) (Some text)) h.on_disk.shown prefix))) in
        record {
          file = subst (λ (f : List ℕ). HoldsKept (IsOwned word count) (followed_by past made) halted (board_in f)) (sym (file_stays name mid now (says.files told_mid).files)) (h.file told);
          others = path.others;
          crash = path.crash;
        };
  }

  -- nothing was said
  quiet_keeps : (status : ℕ) → ((status ≡ OUT_OF_MEMORY) × (mid.shown ≡ entry.shown)) ⊎ ClosesWith entry.shown (closing_text made halted) (halt_status halted) mid.shown status
      → EndsCalls name word count past made halted entry mid status
  quiet_keeps status closes = record {
    cause = h.cause;
    closes = closes;
    keeps = λ told. record {
      file = h.file told;
      others = (h.path told).others;
      crash = λ moment start image text leaves. ⊎_elim (λ before. inl before) (λ since. inr (inl since)) ((h.path told).crash moment start image text leaves);
    };
  }

  -- memory ran out for them
  pub called_stops : (status : ℕ) → status ≡ OUT_OF_MEMORY → EndsCalls name word count past made halted entry mid status
  called_stops status is = quiet_keeps status (inl (is, h.on_disk.shown))

  -- there were none
  pub called_silent : (status : ℕ) → closing_text made halted ≡ [] → status ≡ halt_status halted → EndsCalls name word count past made halted entry mid status
  called_silent status none is =
      quiet_keeps status
      (inr (subst (λ (n : ℕ). ClosesWith entry.shown (closing_text made halted) (halt_status halted) mid.shown n) (sym is)
      (said (h.on_disk.shown ∙ sym (shown_none entry.shown) ∙ ap (shown_with entry.shown) (sym none)))))

-- a text of no bytes
pub empty_so : (xs : List ℕ) → (length xs == 0) ≡ true → xs ≡ []
empty_so [] is = refl
empty_so (x ∷ xs) is = let none : length (x ∷ xs) ≡ 0 = eqb-true (length (x ∷ xs)) 0 is in absurd (omega (arith, none))

-- ---- statuses

-- ---- hands

-- as many hands were given back as were hired
back_so : (count : ℕ) (before : GivenBack) (orders : List (Option (List Order))) → length orders ≡ count → AreManyBack count (option_map (λ old. orders) before)
back_so count None orders many = tt
back_so count (Some old) orders many = many

pub hires_so : (count : ℕ) (first mid last : CrewTold) (orders : List (Option (List Order))) → mid ≡ hired_for first (want.Local count) → last ≡ gave_back mid orders → length orders ≡ count
    → HiresMany count first last
hires_so count first mid last orders hired gave many = record {
  hired = ap (λ (t : CrewTold). t.hired) (gave ∙ ap (λ (t : CrewTold). gave_back t orders) hired);
  back = subst (λ (b : GivenBack). AreManyBack count b) (sym (ap (λ (t : CrewTold). t.back) (gave ∙ ap (λ (t : CrewTold). gave_back t orders) hired))) (back_so count first.back orders many);
}
