-- What is known of a board's desk where its file was picked and read, or made.
use Rattle.std.proofs.Common.{◌≡◌, ◌≢◌, ℕ, List, [], Option, Some, Result, Ok, Err, refl, sym, ap, ◌∙◌, subst, inl, inr, ⊎_elim}
use Rattle.std.specs.Prelude.{IsTrue, IfOk, IfErr}
use Rattle.tf_desk.specs.ActLaws.{bytes_of-picked}
use Rattle.tf_numbers.specs.Numbers.{Rises}
use Rattle.tf_desk.specs.State.{DeskState, anything, bytes_now, MayLeave, told_as, Trusts, OnDisk, Rests, GoesOn, Picks, LeavesMade}
use Rattle.tf_desk.proofs.CountLemmas.{rises_later}
use Rattle.tf_desk.proofs.StateLemmas.{on_disk_on, on_disk_lowered, trusts_of, trusts_rests_on, trusts_goes, trusts_goes_on}
use Rattle.tf_journal.specs.Format.{unborn, LeavesBirth, HasSynced, IsSynced}
use Rattle.tf_journal.specs.Start.{IsSet, Untouched, Open, file_of}
use Rattle.tf_journal.specs.declared.faults.LoadFault.{LoadFault}
use Rattle.tf_journal.specs.declared.title.Title.TheVariants.{Jobs as jobs_title}
use Rattle.tf_journal.specs.declared.faults.LoadFault.TheVariants as load_fault
use Rattle.tf_journal.proofs.CrashLemmas.{synced_on}
use Rattle.tf_journal.proofs.OpenLemmas.{picked_bytes, opened, open_set}
use Rattle.tf_journal.proofs.PathLemmas.{set_on, set_start, path_on, path_widens, left_then, as_read}
use Rattle.tf_board.specs.Board.{BoardValue, board_in, Holds, Finds, RefusesBoard, desk_loaded, IsAsBeforeOrMade, IsPicked, IsOpened, IsUnopened, Opens}
use Rattle.tf_board.specs.declared.commands.Command.{Command}
use Rattle.tf_board.proofs.DeskLaws.{KeepsLaws}
use Rattle.tf_board.proofs.LoadLemmas.{Loads, Unloads}
use Rattle.tf_board.proofs.ToldLemmas.{open_told}

-- a crash inside a birth leaves no command
birth_finds : (shown : Option (List ℕ)) (image text : List ℕ) → LeavesBirth jobs_title shown image text → Finds [] (board_in image) × (shown ≡ Some text)
birth_finds shown image text l = (⊎_elim (λ still. inr (refl, still)) (λ born. inl born) l.0, l.1)

-- ---- a file that was picked, and read or not

-- a file that is as it was couldn't be opened
pub untouched_unopened : {name : List ℕ} {entry now : DeskState} (fault : LoadFault) → Untouched name entry now → OnDisk anything entry now
    → (IsTrue entry.tells → RefusesBoard fault (board_in (file_of entry name))) → (fault ≡ load_fault.Disk → Rises entry.disk_faults now.disk_faults)
    → fault ≢ load_fault.Old → IsUnopened name fault entry now
untouched_unopened fault u on_disk refused cause fresh = record {
  on_disk = on_disk;
  file = λ told. inl (u.file told);
  path = λ told. path_widens (u.path told) (λ image text same. (inl same.0, same.1)) (λ image same. inl same);
  refused = refused;
  cause = cause;
  new_format = fresh;
}

-- ---- what a load says of the file of a name that was picked

module _ {K : Type 0} (state : K → DeskState) (laws : KeepsLaws state) (name : List ℕ) (entry : DeskState) (desk : K) (picked : IsPicked name entry (state desk)) where
  -- what is told since was told then
  told_before : IsTrue (state desk).tells → IsTrue entry.tells
  told_before told = subst IsTrue picked.on_disk.tells told

  picks : IsTrue (state desk).tells → Picks name entry (state desk)
  picks told = picked.picks (told_before told)

  made : IsTrue (state desk).tells → LeavesMade name entry (state desk)
  made told = picked.made (told_before told)

  picked_trusts : Trusts (OnDisk anything) entry (state desk)
  picked_trusts = trusts_of picked.on_disk.tells picked.on_disk

  -- all that came since is on the disk alone
  since_entry : (now : DeskState) → Trusts (GoesOn anything) (state desk) now → OnDisk anything (told_as now entry) now
  since_entry now goes =
      on_disk_on (on_disk_lowered now (λ told. told_before (goes.falls told)) picked.on_disk) goes.does.on_disk (λ told image text left. tt) (λ told image text left. tt)

  refused_file : (now : K) (fault : LoadFault) → (IsTrue (state now).tells → IsTrue (state desk).tells) → Unloads state desk now fault → IsTrue (state now).tells
      → RefusesBoard fault (board_in (file_of entry name))
  refused_file now fault falls fails told = subst (λ (b : List ℕ). RefusesBoard fault (board_in b)) (picked_bytes (picks (falls told))) (fails.refused told)

  cause_since : (now : K) (fault : LoadFault) → Unloads state desk now fault → fault ≡ load_fault.Disk → Rises entry.disk_faults (state now).disk_faults
  cause_since now fault fails is = rises_later entry.disk_faults (state desk).disk_faults (state now).disk_faults picked.on_disk.disk_faults (fails.cause is)

  -- a file that was only read is as it was
  read_untouched : (now : K) → Trusts Rests (state desk) (state now) → (IsTrue (state now).tells → IsSynced (state desk) (state now)) → Trusts (Untouched name) entry (state now)
  read_untouched now rests synced =
      opened picked_trusts picks made rests synced (λ told image text was. laws.only_now desk image text told was) (laws.tells_shown now)
      (λ told start image text le left. laws.counts_now now start image text told le left)

  -- it wasn't read
  pub unread_opens : (now : K) (fault : LoadFault) → Trusts Rests (state desk) (state now) → (IsTrue (state now).tells → IsSynced (state desk) (state now))
      → Unloads state desk now fault → IsUnopened name fault (told_as (state now) entry) (state now)
  unread_opens now fault rests synced fails =
      untouched_unopened fault (read_untouched now rests synced).does (since_entry (state now) (trusts_goes rests)) (refused_file now fault rests.falls fails) (cause_since now fault fails) fails.new_format

  -- ---- a journal was read behind its first sync

  module _ (mid : K) (rests_mid : Trusts Rests (state desk) (state mid)) (synced_mid : IsTrue (state mid).tells → HasSynced (state desk) (state mid)) where
    synced_now : (now : K) → Trusts Rests (state mid) (state now) → IsTrue (state now).tells → HasSynced (state desk) (state now)
    synced_now now rests told = synced_on (synced_mid (rests.falls told)) told rests

    read_open : (now : K) → Trusts Rests (state mid) (state now) → Open name (told_as (state now) entry) (state now)
    read_open now rests =
        let all : Trusts Rests (state desk) (state now) = trusts_rests_on rests_mid rests in
        (open_set picked_trusts picks all (synced_now now rests) (read_untouched now all (λ told. inr (synced_now now rests told)))).does

    -- and its commands were read back
    read_opened : (board : BoardValue K) → Trusts Rests (state mid) (state board.journal.desk) → Loads state desk board
        → IsOpened state name (told_as (state board.journal.desk) entry) board
    read_opened board rests loaded =
        let now : DeskState = state board.journal.desk in
        let o : Open name (told_as now entry) now = read_open board.journal.desk rests in
        let held : IsTrue now.tells → Holds board.past (board_in (file_of now name)) =
        λ told. subst (λ (b : List ℕ). Holds board.past (board_in b)) (bytes_of-picked now.content name (o.set told).picked) (loaded.holds told) in
        let was : IsTrue now.tells → Holds board.past (board_in (file_of entry name)) =
        λ told. subst (λ (b : List ℕ). Holds board.past (board_in b)) (o.untouched.file told) (held told) in
        record {
          on_disk = since_entry now (trusts_goes (trusts_rests_on rests_mid rests));
          fresh = loaded.fresh;
          found = λ told. inl (was told);
          holds = held;
          set = o.set;
          path = λ told. path_widens (o.untouched.path told)
              (λ image text same. (inl (subst (λ (b : List ℕ). Holds board.past (board_in b)) (sym same.0) (was told)), same.1))
              (λ image same. subst (λ (b : List ℕ). Holds board.past (board_in b)) (sym same) (was told));
        }

    -- or they weren't
    pub read_opens : (r : Result (BoardValue K) (K × LoadFault)) → Trusts Rests (state mid) (state (desk_loaded r))
        → IfOk r (λ board. Loads state desk board) → IfErr r (λ back. Unloads state desk back.0 back.1) → Opens state name (told_as (state (desk_loaded r)) entry) r
    read_opens (Ok board) rests loaded fails = read_opened board rests loaded
    read_opens (Err back) rests loaded fails =
        unread_opens back.0 back.1 (trusts_rests_on rests_mid rests) (λ told. inr (synced_now back.0 rests told)) fails

    -- ---- the file is unborn, and a board is made of it

    module _ (unborn_desk : IsTrue (state mid).tells → board_in (bytes_now (state desk)) ≡ unborn) where
      open_mid : Trusts (Open name) entry (state mid)
      open_mid = open_set picked_trusts picks rests_mid synced_mid (read_untouched mid rests_mid (λ told. inr (synced_mid told)))

      unborn_then : IsTrue (state mid).tells → board_in (file_of entry name) ≡ unborn
      unborn_then told = ap board_in (sym (picked_bytes (picks (rests_mid.falls told)))) ∙ unborn_desk told

      abbrev Births : K → Type 0
      Births now = Trusts (GoesOn (LeavesBirth jobs_title (state mid).shown)) (state mid) (state now)

      goes_now : (now : K) → Births now → Trusts (GoesOn anything) (state desk) (state now)
      goes_now now goes = trusts_goes_on (trusts_goes {during = anything} rests_mid) goes (λ told image text left. tt) (λ told image text left. tt)

      -- what was open, as far as the desk tells in the end
      open_then : (now : K) → Births now → Open name (told_as (state now) entry) (told_as (state now) (state mid))
      open_then now goes = open_told (state now) goes.falls open_mid.does

      set_now : (now : K) → Births now → IsTrue (state now).tells → IsSet name (told_as (state now) entry) (state now)
      set_now now goes told = set_on ((open_then now goes).set told) (goes.does.files told).picked (goes.does.on_disk.marks told)

      made_opened : (board : BoardValue K) → Births board.journal.desk → Loads state desk board → board.past ≡ []
          → IsOpened state name (told_as (state board.journal.desk) entry) board
      made_opened board goes loaded none =
          let now : DeskState = state board.journal.desk in
          let o = open_then board.journal.desk goes in
          let set = set_now board.journal.desk goes in
          record {
            on_disk = since_entry now (goes_now board.journal.desk goes);
            fresh = loaded.fresh;
            found = λ told. inr (none, unborn_then (goes.falls told));
            holds = λ told. subst (λ (b : List ℕ). Holds board.past (board_in b)) (bytes_of-picked now.content name (set told).picked) (loaded.holds told);
            set = set;
            path = λ told. path_on (o.untouched.path told) (o.set told) (goes.does.files told) (goes.does.on_disk.marks told) (goes.does.on_disk.crash told)
                (λ image text same. (inr (none, ap board_in same.0 ∙ unborn_then (goes.falls told)), same.1))
                (λ image text left. let found = birth_finds (state mid).shown image text left in
                (subst (λ (l : List Command). Finds l (board_in image)) (sym none) found.0, sym o.untouched.quiet ∙ found.1))
                (λ image left. loaded.leaves told image left);
          }

      unmade_unopened : (back : K) (fault : LoadFault) → Births back → Unloads state desk back fault → IsUnopened name fault (told_as (state back) entry) (state back)
      unmade_unopened back fault goes fails =
          let now : DeskState = state back in
          let o = open_then back goes in
          let set = set_now back goes in
          let left_now : IsTrue now.tells → (image : List ℕ) → MayLeave now image → IsAsBeforeOrMade (file_of entry name) image =
          λ told image left.
          let start = set_start (o.set told) in
          ⊎_elim
          (λ earlier. inl ((o.untouched.path told).still start.0 start.1 image earlier))
          (λ inside. inr (unborn_then (goes.falls told), (birth_finds (state mid).shown image inside.0 inside.1).0))
          (left_then (goes.does.on_disk.crash told) (laws.tells_shown back told) (λ s i t le l. laws.counts_now back s i t told le l)
          (λ i t was. laws.only_now mid i t (goes.falls told) was) image left) in
          record {
            on_disk = since_entry now (goes_now back goes);
            file = λ told. left_now told (file_of now name)
                (as_read now (set told).picked (λ there. laws.picked_is_there back name told there) (λ bytes has. laws.reads_left back name bytes told has)).0;
            path = λ told. path_on (o.untouched.path told) (o.set told) (goes.does.files told) (goes.does.on_disk.marks told) (goes.does.on_disk.crash told)
                (λ image text same. (inl same.0, same.1))
                (λ image text left. let found = birth_finds (state mid).shown image text left in (inr (unborn_then (goes.falls told), found.0), sym o.untouched.quiet ∙ found.1))
                (left_now told);
            refused = refused_file back fault (goes_now back goes).falls fails;
            cause = cause_since back fault fails;
            new_format = fails.new_format;
          }

      pub made_opens : (r : Result (BoardValue K) (K × LoadFault)) → Births (desk_loaded r)
          → IfOk r (λ board. Loads state desk board) → IfOk r (λ board. board.past ≡ []) → IfErr r (λ back. Unloads state desk back.0 back.1)
          → Opens state name (told_as (state (desk_loaded r)) entry) r
      made_opens (Ok board) goes loaded none fails = made_opened board goes loaded none
      made_opens (Err back) goes loaded none fails = unmade_unopened back.0 back.1 goes fails
