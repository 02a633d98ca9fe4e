-- What the type of a shared board that conductors hand round keeps.
use Rattle.std.proofs.Common.{◌≡◌, ◌≤◌, ℕ, List, [], ◌∷◌, ◌++◌, length, drop, Option, Some, None, refl, sym, ap, subst, ◌∙◌, inl, inr, ⊎_elim, arith, append-nil, append_assoc}
use Rattle.std.specs.Prelude.{IfSome, IsTrue}
use Rattle.std.specs.List.{AllByRecursion}
use Rattle.tf_numbers.specs.Numbers.{Rises}
use Rattle.tf_desk.specs.Crash.{Pairs}
use Rattle.tf_desk.specs.State.{DeskState, GoesOn, MayLeave}
use Rattle.tf_desk.proofs.StateLemmas.{goes_none, goes_on, on_disk_told}
use Rattle.tf_journal.specs.Format.{Recovered}
use Rattle.tf_board.specs.Board.{AreOfBoard, BoardValue, Holds, LeavesHeld, board_in}
use Rattle.tf_board.specs.Does.{HoldsMaybe, LeavesRecorded}
use Rattle.tf_board.specs.declared.commands.Command.{Command}
use Rattle.tf_shared_board.specs.Shared.{followed_by, made_command, SharedValue, HasCause, IsMade, halt_or_memory}
use Rattle.tf_shared_board.specs.declared.calls.BoardHalt.{BoardHalt}
use Rattle.tf_shared_board.specs.declared.calls.BoardHalt.TheVariants as halt
use Rattle.tf_shared_board.specs.declared.calls.Made.{Made}
use Rattle.tf_shared_board.proofs.CallLemmas.{followed_more}
use Rattle.tf_conductor.specs.Conducting.{ConductingValue, MakesNoCall, IsConducting, made_since}
use Rattle.tf_conductor.specs.Rounds.{IsConductors, HoldsTried, all_held, one_more, HoldsSome, HoldsKept, LeavesSome, LeavesTried}

-- one call more that meets a test
all_more : {A : Type 0} (P : A → Type 0) (xs : List A) (x : A) → AllByRecursion P xs → P x → AllByRecursion P (xs ++ x ∷ [])
all_more P [] x all here = (here, tt)
all_more P (y ∷ xs) x all here = (all.0, all_more P xs x all.1 here)

-- what comes after a list's beginning
drop_begun : {A : Type 0} (xs ys : List A) → drop (length xs) (xs ++ ys) ≡ ys
drop_begun [] ys = refl
drop_begun (x ∷ xs) ys = drop_begun xs ys

-- the calls since are those that were added
pub since_is : {K : Type 0} (old new : SharedValue K) (added : List Made) → new.made ≡ old.made ++ added → made_since old new ≡ added
since_is old new added is = ap (λ (l : List Made). drop (length old.made) l) is ∙ drop_begun old.made added

-- ---- what a file has

-- calls of a wider kind
pub tried_within : {narrow wide : Made → Type 0} {past : List Command} {found : Recovered} → ((m : Made) → narrow m → wide m) → HoldsTried narrow past found → HoldsTried wide past found
tried_within within (all_held holds) = all_held holds
tried_within within (one_more m is may holds) = one_more m (within m is) may holds

pub kept_within : {narrow wide : Made → Type 0} {past : List Command} {halted : Option BoardHalt} {found : Recovered} → ((m : Made) → narrow m → wide m) → HoldsKept narrow past halted found
    → HoldsKept wide past halted found
kept_within within (inl holds) = inl holds
kept_within within (inr failed) = inr (failed.0, tried_within within failed.1)

pub some_within : {narrow wide : Made → Type 0} {past : List Command} {made : List Made} {found : Recovered} → ((m : Made) → narrow m → wide m) → HoldsSome narrow past made found → HoldsSome wide past made found
some_within within some = record { first = some.first; others = some.others; splits = some.splits; holds = tried_within within some.holds }

-- one call more was made
some_more : {kind : Made → Type 0} {past : List Command} {made : List Made} {found : Recovered} (m : Made) → HoldsSome kind past made found → HoldsSome kind past (made ++ m ∷ []) found
some_more m some = record {
  first = some.first;
  others = some.others ++ m ∷ [];
  splits = ap (λ (l : List Made). l ++ m ∷ []) some.splits ∙ append_assoc some.first some.others (m ∷ []);
  holds = some.holds;
}

-- those of all calls, or of one more
some_all : {kind : Made → Type 0} {past : List Command} {made : List Made} {found : Recovered} → HoldsTried kind (followed_by past made) found → HoldsSome kind past made found
some_all {made = made} tried = record { first = made; others = []; splits = sym (append-nil made); holds = tried }

-- what was to be recorded is a call of this kind
pub tried_of : {kind : Made → Type 0} {past : List Command} {found : Recovered} (m : Made) → kind m → AreOfBoard (made_command m ∷ past) → HoldsMaybe past (made_command m) found → HoldsTried kind past found
tried_of m is may maybe = ⊎_elim (λ holds. all_held holds) (λ holds. one_more m is may holds) maybe

-- it is halted for no fault of the disk, and so all is kept
kept_all : {kind : Made → Type 0} {past : List Command} {halted : Option BoardHalt} {found : Recovered} → halted ≡ None → HoldsKept kind past halted found → Holds past found
kept_all is (inl holds) = holds
kept_all is (inr failed) = let clash : None ≡ Some halt.Disk = sym is ∙ failed.0 in absurd (cc)

module _ {K : Type 0} (state : K → DeskState) where
  -- the board stayed as it was
  pub still_goes : {during : Pairs} {old new : BoardValue K} → new ≡ old → GoesOn during (state old.journal.desk) (state new.journal.desk)
  still_goes {during} {old} {new} same = subst (λ (b : BoardValue K). GoesOn during (state old.journal.desk) (state b.journal.desk)) (sym same) goes_none

  pub still_leaves : {kind : Made → Type 0} {halted : Option BoardHalt} {old new : BoardValue K} → new ≡ old → IsTrue (state old.journal.desk).tells → LeavesHeld old.past (state old.journal.desk)
      → (image : List ℕ) → MayLeave (state new.journal.desk) image → HoldsKept kind old.past halted (board_in image)
  still_leaves same told held image left = inl (held image (subst (λ (b : BoardValue K). MayLeave (state b.journal.desk) image) same left))

  -- it was halted for want of memory, unless it was before
  pub halting_none : (kind : Made → Type 0) (old new : SharedValue K) → new ≡ record old { halt = halt_or_memory old.halt } → MakesNoCall state kind old new
  halting_none kind old new is =
      let same : new.board ≡ old.board = ap (λ (s : SharedValue K). s.board) is in
      record {
        start = ap (λ (s : SharedValue K). s.start) is;
        made = ap (λ (s : SharedValue K). s.made) is;
        past = ap (λ (b : BoardValue K). b.past) same;
        goes = still_goes same;
        leaves = still_leaves same;
        stays = λ h was. ap (λ (s : SharedValue K). s.halt) is ∙ ap halt_or_memory was;
        still = λ h was. same;
        cause = λ was. subst (λ (o : Option BoardHalt). IfSome o (HasCause state old.board new.board)) (sym (ap (λ (s : SharedValue K). s.halt) is ∙ ap halt_or_memory was)) tt;
      }

  -- nothing changed
  pub same_none : (kind : Made → Type 0) (old new : SharedValue K) → new ≡ old → MakesNoCall state kind old new
  same_none kind old new is =
      let same : new.board ≡ old.board = ap (λ (s : SharedValue K). s.board) is in
      record {
        start = ap (λ (s : SharedValue K). s.start) is;
        made = ap (λ (s : SharedValue K). s.made) is;
        past = ap (λ (b : BoardValue K). b.past) same;
        goes = still_goes same;
        leaves = still_leaves same;
        stays = λ h was. ap (λ (s : SharedValue K). s.halt) is ∙ was;
        still = λ h was. same;
        cause = λ was. subst (λ (o : Option BoardHalt). IfSome o (HasCause state old.board new.board)) (sym (ap (λ (s : SharedValue K). s.halt) is ∙ was)) tt;
      }

  -- what a crash since the call began leaves, where these calls were added
  abbrev LeavesAdded : ConductingValue K → List Made → Pairs
  LeavesAdded c added = LeavesSome (IsConductors c.owners) c.begun.board.past added (state c.begun.board.journal.desk)

  -- and what one leaves now
  abbrev LeavesNow : ConductingValue K → Type 0
  LeavesNow c = IsTrue (state c.begun.board.journal.desk).tells → LeavesHeld c.begun.board.past (state c.begun.board.journal.desk)
      → (image : List ℕ) → MayLeave (state c.now.board.journal.desk) image → HoldsKept (IsConductors c.owners) c.now.board.past c.now.halt (board_in image)

  -- what it keeps, where these calls were added
  conducting_of : (c : ConductingValue K) (added : List Made) → c.now.made ≡ c.begun.made ++ added → c.now.board.past ≡ followed_by c.begun.board.past added → AllByRecursion (IsConductors c.owners) added
      → c.now.start ≡ c.begun.start → GoesOn (LeavesAdded c added) (state c.begun.board.journal.desk) (state c.now.board.journal.desk) → LeavesNow c
      → (c.begun.halt ≡ None → IfSome c.now.halt (HasCause state c.begun.board c.now.board))
      → ((halt : BoardHalt) → c.begun.halt ≡ Some halt → (c.now.halt ≡ Some halt) × (added ≡ [])) → IsConducting state c
  conducting_of c added made list by start goes leaves cause stays =
      let same : made_since c.begun c.now ≡ added = since_is c.begun c.now added made in
      record {
        made = made ∙ ap (λ (l : List Made). c.begun.made ++ l) (sym same);
        list = list ∙ ap (λ (l : List Made). followed_by c.begun.board.past l) (sym same);
        by = subst (λ (l : List Made). AllByRecursion (IsConductors c.owners) l) (sym same) by;
        start = start;
        goes = subst (λ (l : List Made). GoesOn (LeavesAdded c l) (state c.begun.board.journal.desk) (state c.now.board.journal.desk)) (sym same) goes;
        leaves = leaves;
        cause = cause;
        stays = λ h is. ((stays h is).0, same ∙ (stays h is).1);
      }

  -- a cause stays one as the board goes on, where it is the same in the end
  rises_since : (start old new : ℕ) → start ≤ old → Rises old new → Rises start new
  rises_since start old new le rises = omega (arith, le, rises)

  -- a cause since now is one since the call began
  cause_since : {during : Pairs} (begun old new : BoardValue K) (h : BoardHalt) → GoesOn during (state begun.journal.desk) (state old.journal.desk) → HasCause state old new h → HasCause state begun new h
  cause_since begun old new halt.Disk goes cause = rises_since _ _ _ goes.on_disk.disk_faults cause
  cause_since begun old new (halt.Full size need) goes cause = cause
  cause_since begun old new halt.Memory goes cause = tt

  -- the call begins
  pub kept_begun : (s : SharedValue K) (owners : List (List ℕ)) → IsConducting state record { begun = s; now = s; owners = owners }
  kept_begun s owners =
      conducting_of record { begun = s; now = s; owners = owners } [] (sym (append-nil s.made)) refl tt refl goes_none
      (λ told held image left. inl (held image left))
      (λ is. subst (λ (h : Option BoardHalt). IfSome h (HasCause state s.board s.board)) (sym is) tt) (λ h is. (is, refl))

  -- a crash leaves all commands, where it isn't halted
  held_now : (c : ConductingValue K) → IsConducting state c → c.now.halt ≡ None → IsTrue (state c.begun.board.journal.desk).tells → LeavesHeld c.begun.board.past (state c.begun.board.journal.desk)
      → LeavesHeld c.now.board.past (state c.now.board.journal.desk)
  held_now c k going told held image left = kept_all going (k.leaves told held image left)

  -- no call was made
  pub kept_none : (kind : Made → Type 0) (c : ConductingValue K) (new : SharedValue K) → IsConducting state c → MakesNoCall state kind c.now new → ((m : Made) → kind m → IsConductors c.owners m)
      → IsConducting state (record c { now = new })
  kept_none kind c new k n within =
      conducting_of (record c { now = new }) (made_since c.begun c.now) (n.made ∙ k.made) (n.past ∙ k.list) k.by (n.start ∙ k.start)
      (goes_on k.goes n.goes (λ told image text left. left)
      (λ told image text left. (
        some_all (subst (λ (l : List Command). HoldsTried (IsConductors c.owners) l (board_in image)) k.list (tried_within within left.0)),
        sym k.goes.on_disk.shown ∙ left.1,
      )))
      (leaves c.now.halt refl) (λ is. by c.now.halt refl (k.cause is))
      (λ h is. (let s = k.stays h is in (n.stays h s.0, s.1)))
    where
      leaves : (o : Option BoardHalt) → c.now.halt ≡ o → LeavesNow (record c { now = new })
      leaves None is told held image left =
          subst (λ (l : List Command). HoldsKept (IsConductors c.owners) l new.halt (board_in image)) (sym n.past)
          (kept_within within (n.leaves (on_disk_told k.goes.on_disk told) (held_now c k is told held) image left))
      leaves (Some h) is told held image left =
          subst (λ (o : Option BoardHalt). HoldsKept (IsConductors c.owners) new.board.past o (board_in image)) (is ∙ sym (n.stays h is))
          (subst (λ (l : List Command). HoldsKept (IsConductors c.owners) l c.now.halt (board_in image)) (sym n.past)
          (k.leaves told held image (subst (λ (b : BoardValue K). MayLeave (state b.journal.desk) image) (n.still h is) left)))

      since : (h : Option BoardHalt) → IfSome h (HasCause state c.now.board new.board) → IfSome h (HasCause state c.begun.board new.board)
      since None cause = tt
      since (Some h) cause = cause_since c.begun.board c.now.board new.board h k.goes cause

      by : (o : Option BoardHalt) → c.now.halt ≡ o → IfSome o (HasCause state c.begun.board c.now.board) → IfSome new.halt (HasCause state c.begun.board new.board)
      by None is cause = since new.halt (n.cause is)
      by (Some h) is cause =
          subst (λ (o : Option BoardHalt). IfSome o (HasCause state c.begun.board new.board)) (sym (n.stays h is))
          (subst (λ (b : BoardValue K). HasCause state c.begun.board b h) (sym (n.still h is)) cause)

  -- a call was made
  pub kept_one : (m : Made) (c : ConductingValue K) (new : SharedValue K) → IsConducting state c → IsMade state m c.now new
      → GoesOn (LeavesRecorded c.now.board.past (made_command m) (state c.now.board.journal.desk)) (state c.now.board.journal.desk) (state new.board.journal.desk)
      → IsConductors c.owners m → IsConducting state (record c { now = new })
  kept_one m c new k made goes mine =
      let added : List Made = made_since c.begun c.now in
      let past : new.board.past ≡ made_command m ∷ c.now.board.past = ap (λ (b : BoardValue K). b.past) made.recorded.now in
      conducting_of (record c { now = new }) (added ++ m ∷ [])
      (ap (λ (s : SharedValue K). s.made) made.now ∙ ap (λ (l : List Made). l ++ m ∷ []) k.made ∙ append_assoc c.begun.made added (m ∷ []))
      (past ∙ ap (λ (l : List Command). made_command m ∷ l) k.list ∙ sym (followed_more c.begun.board.past added m))
      (all_more (IsConductors c.owners) added m k.by mine) (ap (λ (s : SharedValue K). s.start) made.now ∙ k.start)
      (goes_on k.goes goes
      (λ told image text left. (some_more m left.0, left.1))
      (λ told image text left. (
        some_more m (some_all (subst (λ (l : List Command). HoldsTried (IsConductors c.owners) l (board_in image)) k.list (tried_of m mine made.recorded.legal left.0))),
        sym k.goes.on_disk.shown ∙ left.1,
      )))
      (λ told held image left. inl (subst (λ (l : List Command). Holds l (board_in image)) (sym past) (made.recorded.lasts (on_disk_told k.goes.on_disk told) image left)))
      (λ is. subst (λ (h : Option BoardHalt). IfSome h (HasCause state c.begun.board new.board)) (sym (ap (λ (s : SharedValue K). s.halt) made.now ∙ made.going)) tt)
      (λ h is. (let clash : Some h ≡ None = sym (k.stays h is).0 ∙ made.going in absurd (cc)))
