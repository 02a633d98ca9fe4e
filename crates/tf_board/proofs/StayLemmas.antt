-- What stays of a board as commands are added: its bytes are those of one list, and an id goes on naming its job.
use Rattle.std.proofs.Common.{◌≡◌, ◌⊎◌, inl, inr, ℕ, ◌+◌, ◌<◌, ◌≤◌, Bool, true, false, List, [], ◌∷◌, ◌++◌, length, Some, None, refl, sym, ap, ◌∙◌, arith, cond, eqb}
use Rattle.std.specs.List.{position_or_len}
use Rattle.std.proofs.lemmas.Bool.{cases_lt, lt-ltb, le-ltb, eqb-true}
use Rattle.std.proofs.lemmas.List.Folds.{position_or_len_push}
use Rattle.tf_journal.specs.Format.{Recovered, bodies}
use Rattle.tf_board.specs.Board.{AreOfBoard, bodies_of, Finds, AreCommands, command_bytes, id_of, posted, same, has_id, job_at, jobs_in, jobs_of, place_of}
use Rattle.tf_board.specs.declared.commands.Command.{Command}
use Rattle.tf_board.specs.declared.commands.Command.TheVariants as command
use Rattle.tf_board.proofs.FormLemmas.{command_one}
use Rattle.tf_board.proofs.JobLemmas.{jobs_long}

-- ---- one list

-- lists with a last item each
pub last_same : (xs ys : List (List ℕ)) (x y : List ℕ) → xs ++ x ∷ [] ≡ ys ++ y ∷ [] → (xs ≡ ys) × (x ≡ y)
last_same [] [] x y is = (refl, (let same_last : x ≡ y = cc in same_last))
last_same [] (b ∷ ys) x y is = absurd (none ys (let rest : [] ≡ ys ++ y ∷ [] = cc in rest))
  where
    none : (zs : List (List ℕ)) → [] ≡ zs ++ y ∷ [] → ⊥
    none [] empty = cc
    none (z ∷ zs) empty = cc
last_same (a ∷ xs) [] x y is = absurd (none xs (let rest : xs ++ x ∷ [] ≡ [] = cc in rest))
  where
    none : (zs : List (List ℕ)) → zs ++ x ∷ [] ≡ [] → ⊥
    none [] empty = cc
    none (z ∷ zs) empty = cc
last_same (a ∷ xs) (b ∷ ys) x y is =
    let first : a ≡ b = cc in
    let rest = last_same xs ys x y (let rest : xs ++ x ∷ [] ≡ ys ++ y ∷ [] = cc in rest) in
    (ap (λ (n : List ℕ). n ∷ xs) first ∙ ap (λ (l : List (List ℕ)). b ∷ l) rest.0, rest.1)

-- a board with a command has a body
pub some_body : (c : Command) (past : List Command) → bodies_of (c ∷ past) ≡ [] → ⊥
some_body c past is = none (bodies_of past) is
  where
    none : (zs : List (List ℕ)) → zs ++ command_bytes c ∷ [] ≡ [] → ⊥
    none [] empty = cc
    none (z ∷ zs) empty = cc

same_bodies : (a b : List Command) → AreCommands a → AreCommands b → bodies_of a ≡ bodies_of b → a ≡ b
same_bodies [] [] good_a good_b is = refl
same_bodies [] (d ∷ b) good_a good_b is = absurd (some_body d b (sym is))
same_bodies (c ∷ a) [] good_a good_b is = absurd (some_body c a is)
same_bodies (c ∷ a) (d ∷ b) good_a good_b is =
    let both = last_same (bodies_of a) (bodies_of b) (command_bytes c) (command_bytes d) is in
    ap (λ (x : Command). x ∷ a) (command_one c d good_a.0 good_b.0 both.1)
    ∙ ap (λ (l : List Command). d ∷ l) (same_bodies a b good_a.1 good_b.1 both.0)

-- a file has one list of commands that a board may hold
pub one_list : (a b : List Command) (found : Recovered) → AreOfBoard a → AreOfBoard b → Finds a found → Finds b found → a ≡ b
one_list a b found good_a good_b (inl has_a) (inl has_b) =
    let both : bodies (bodies_of a) ≡ bodies (bodies_of b) = sym has_a ∙ has_b in
    same_bodies a b good_a.forms good_b.forms (let same_ones : bodies_of a ≡ bodies_of b = cc in same_ones)
one_list a b found good_a good_b (inl has_a) (inr none_b) = absurd (let clash = sym has_a ∙ none_b.1 in cc)
one_list a b found good_a good_b (inr none_a) (inl has_b) = absurd (let clash = sym has_b ∙ none_a.1 in cc)
one_list a b found good_a good_b (inr none_a) (inr none_b) = none_a.0 ∙ sym none_b.0

-- a board may hold the older ones of its commands
pub older_of_board : (newer past : List Command) → AreOfBoard (newer ++ past) → AreOfBoard past
older_of_board [] past good = good
older_of_board (c ∷ newer) past good = older_of_board newer past (record { legal = good.legal.1; forms = good.forms.1 })

-- ---- one job

-- the first place of an id among the jobs that some of the commands posted
abbrev first_place : List Command → List Command → List ℕ → ℕ
first_place all rest id = position_or_len (has_id id) (jobs_in all rest)

-- it doesn't depend on how the jobs stand
place_alone : (all other rest : List Command) (id : List ℕ) → first_place all rest id ≡ first_place other rest id
place_alone all other [] id = refl
place_alone all other (command.Apply action job owner ∷ past) id = place_alone all other past id
place_alone all other (command.Post name p details ∷ past) id =
    let rest = place_alone all other past id in
    let long : length (jobs_in all past) ≡ length (jobs_in other past) = jobs_long all past ∙ sym (jobs_long other past) in
    position_or_len_push (has_id id) (jobs_in all past) (job_at all (posted past + 1) name p)
    ∙ ap (λ (k : ℕ). cond (eqb k (length (jobs_in all past))) (length (jobs_in all past) + cond (same (id_of (posted past + 1) name) id) 0 1) k) rest
    ∙ ap (λ (n : ℕ). cond (eqb (first_place other past id) n) (n + cond (same (id_of (posted past + 1) name) id) 0 1) (first_place other past id)) long
    ∙ sym (position_or_len_push (has_id id) (jobs_in other past) (job_at other (posted past + 1) name p))

-- nor on what is posted later
place_later : (all newer past : List Command) (id : List ℕ) → first_place all past id < posted past
    → (first_place all (newer ++ past) id ≡ first_place all past id) × (posted past ≤ posted (newer ++ past))
place_later all [] past id found = (refl, omega arith)
place_later all (command.Apply action job owner ∷ newer) past id found = place_later all newer past id found
place_later all (command.Post name p details ∷ newer) past id found =
    let rest = place_later all newer past id found in
    let long = jobs_long all (newer ++ past) in
    let apart : first_place all (newer ++ past) id < length (jobs_in all (newer ++ past)) = omega (arith, rest.0, rest.1, found, long) in (
      position_or_len_push (has_id id) (jobs_in all (newer ++ past)) (job_at all (posted (newer ++ past) + 1) name p)
          ∙ kept (first_place all (newer ++ past) id) (length (jobs_in all (newer ++ past))) _ apart ∙ rest.0,
      omega (arith, rest.1),
    )
  where
    kept : (k n m : ℕ) → k < n → cond (eqb k n) m k ≡ k
    kept k n m less = by (eqb k n) refl
      where
        by : (b : Bool) → eqb k n ≡ b → cond b m k ≡ k
        by false is = refl
        by true is = absurd (let one : k ≡ n = eqb-true k n is in omega (arith, one, less))

-- an id goes on naming the job that it names
pub named_on : (newer past : List Command) (id : List ℕ) (place : ℕ) → place_of (jobs_of past) id ≡ Some place → place_of (jobs_of (newer ++ past)) id ≡ Some place
named_on newer past id place is = by (cases_lt (first_place past past id) (length (jobs_of past)))
  where
    all : List Command
    all = newer ++ past

    by : (first_place past past id < length (jobs_of past)) ⊎ (length (jobs_of past) ≤ first_place past past id) → place_of (jobs_of all) id ≡ Some place
    by (inr none) =
        let never : place_of (jobs_of past) id ≡ None = ap (λ (b : Bool). cond b (Some (first_place past past id)) None) (le-ltb (first_place past past id) (length (jobs_of past)) none) in
        absurd (let clash = sym is ∙ never in cc)
    by (inl found) =
        let here : place_of (jobs_of past) id ≡ Some (first_place past past id) = ap (λ (b : Bool). cond b (Some (first_place past past id)) None) (lt-ltb (first_place past past id) (length (jobs_of past)) found) in
        let place_is : first_place past past id ≡ place = (let both : Some (first_place past past id) ≡ Some place = sym here ∙ is in cc) in
        let alone = place_alone all past past id in
        let later = place_later all newer past id (omega (arith, alone, found, jobs_long past past)) in
        let there : first_place all all id ≡ place = later.0 ∙ alone ∙ place_is in
        ap (λ (b : Bool). cond b (Some (first_place all all id)) None)
        (lt-ltb (first_place all all id) (length (jobs_of all)) (omega (arith, later.0, later.1, alone, found, jobs_long past past, jobs_long all all)))
        ∙ ap Some there
