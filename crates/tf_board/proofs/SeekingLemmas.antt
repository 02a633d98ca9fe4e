-- What a board tells those who look for a job.
use Rattle.std.proofs.Common.{inl, inr, cond, take, map, zero, append-nil, ◌≡◌, ◌≤◌, ◌<◌, ℕ, suc, ◌+◌, Bool, true, false, List, [], ◌∷◌, length, Option, Some, None, refl, sym, ap, ◌∙◌, arith, length-append}
use Rattle.std.specs.Prelude.{◌&&◌, ◌==◌, not, slice_get}
use Rattle.std.specs.Option.{option_or}
use Rattle.std.specs.List.{find, filter, flat_map, list_any, position_or_len}
use Rattle.std.proofs.lemmas.List.Folds.{find-append}
use Rattle.std.proofs.lemmas.Option.{slice_get_cases}
use Rattle.tf_states.specs.declared.priorities.Priority.{Priority}
use Rattle.tf_board.specs.Board.{size_of, posted, details_in, free_as, is_free, is_there, is_listed, names_itself}
use Rattle.tf_board.specs.Seeking.{is_takable, is_free_under}
use Rattle.tf_board.specs.declared.jobs.Job.{Job}
use Rattle.tf_board.specs.declared.jobs.Standing.{Standing}
use Rattle.tf_board.specs.declared.jobs.Standing.TheVariants as standing
use Rattle.tf_board.specs.declared.commands.Command.{Command}
use Rattle.tf_board.specs.declared.commands.Command.TheVariants as command

-- ---- the first of a list's items

module _ {A : Type 0} (p q : A → Bool) where
  -- the first that meets two tests is the first to meet the second among those that meet the first
  pub find_among : (xs : List A) → find (λ x. q x && p x) xs ≡ find p (filter q xs)
  find_among [] = refl
  find_among (x ∷ xs) = by (q x) (find_among xs)
    where
      by : (b : Bool) → find (λ x. q x && p x) xs ≡ find p (filter q xs) → cond (b && p x) (Some x) (find (λ x. q x && p x) xs) ≡ find p (cond b (x ∷ filter q xs) (filter q xs))
      by true rest = ap (λ (o : Option A). cond (p x) (Some x) o) rest
      by false rest = rest

module _ {A : Type 0} (p : A → Bool) where
  -- the first of all to pass is looked for: none before a place, nor the one there
  pub sought_none : (xs : List A) (i : ℕ) (x : A) → slice_get xs i ≡ Some x → find p (take i xs) ≡ None → p x ≡ false → find p (take (suc i) xs) ≡ None
  sought_none [] i x at none here = absurd (cc)
  sought_none (y ∷ xs) zero x at none here =
      let same : y ≡ x = cc in
      ap (λ (b : Bool). cond b (Some y) None) (ap p same ∙ here)
  sought_none (y ∷ xs) (suc i) x at none here = by (p y) (λ before. sought_none xs i x at before here) none
    where
      by : (b : Bool) → (find p (take i xs) ≡ None → find p (take (suc i) xs) ≡ None) → cond b (Some y) (find p (take i xs)) ≡ None → cond b (Some y) (find p (take (suc i) xs)) ≡ None
      by true rest none = absurd (cc)
      by false rest none = rest none

  -- none before a place, and the one there
  pub sought_found : (xs : List A) (i : ℕ) (x : A) → slice_get xs i ≡ Some x → find p (take i xs) ≡ None → p x ≡ true → find p xs ≡ Some x
  sought_found [] i x at none here = absurd (cc)
  sought_found (y ∷ xs) zero x at none here =
      let same : y ≡ x = cc in
      ap (λ (b : Bool). cond b (Some y) (find p xs)) (ap p same ∙ here) ∙ ap Some same
  sought_found (y ∷ xs) (suc i) x at none here = by (p y) (λ before. sought_found xs i x at before here) none
    where
      by : (b : Bool) → (find p (take i xs) ≡ None → find p xs ≡ Some x) → cond b (Some y) (find p (take i xs)) ≡ None → cond b (Some y) (find p xs) ≡ Some x
      by true rest none = absurd (cc)
      by false rest none = rest none

  -- none up to a place, where the one there doesn't pass
  pub sought_on : (xs : List A) (i : ℕ) → i < length xs → find p (take i xs) ≡ None → ((x : A) → slice_get xs i ≡ Some x → p x ≡ false) → find p (take (i + 1) xs) ≡ None
  sought_on xs i within none here =
      elim (slice_get_cases xs i).1 [
        | inl there ↦ (let next : i + 1 ≡ suc i = omega arith in ap (λ (n : ℕ). find p (take n xs)) next ∙ sought_none xs i there.0 there.2 none (here there.0 there.2))
        | inr out ↦ absurd (omega (arith, within, out.0))
      ]

-- neither of two is there
none_both : {A : Type 0} (a b : Option A) → option_or a b ≡ None → (a ≡ None) × (b ≡ None)
none_both None b is = (refl, is)
none_both (Some x) b is = absurd (cc)

module _ {A B : Type 0} (p : B → Bool) (f : A → List B) where
  -- nothing is found in the lists of the items before a place, nor in that of the item there
  pub seek_none : (xs : List A) (i : ℕ) (x : A) → slice_get xs i ≡ Some x → find p (flat_map f (take i xs)) ≡ None → find p (f x) ≡ None → find p (flat_map f (take (suc i) xs)) ≡ None
  seek_none [] i x at none here = absurd (cc)
  seek_none (y ∷ xs) zero x at none here =
      let same : y ≡ x = cc in
      find-append p (f y) [] ∙ ap (λ (o : Option B). option_or o None) (ap (λ (z : A). find p (f z)) same ∙ here)
  seek_none (y ∷ xs) (suc i) x at none here =
      let both = none_both (find p (f y)) (find p (flat_map f (take i xs))) (sym (find-append p (f y) (flat_map f (take i xs))) ∙ none) in
      find-append p (f y) (flat_map f (take (suc i) xs))
      ∙ ap (λ (o : Option B). option_or o (find p (flat_map f (take (suc i) xs)))) both.0
      ∙ seek_none xs i x at both.1 here

  -- what is found in the list of the item there is the first of all
  pub seek_found : (xs : List A) (i : ℕ) (x : A) (b : B) → slice_get xs i ≡ Some x → find p (flat_map f (take i xs)) ≡ None → find p (f x) ≡ Some b → find p (flat_map f xs) ≡ Some b
  seek_found [] i x b at none here = absurd (cc)
  seek_found (y ∷ xs) zero x b at none here =
      let same : y ≡ x = cc in
      find-append p (f y) (flat_map f xs) ∙ ap (λ (o : Option B). option_or o (find p (flat_map f xs))) (ap (λ (z : A). find p (f z)) same ∙ here)
  seek_found (y ∷ xs) (suc i) x b at none here =
      let both = none_both (find p (f y)) (find p (flat_map f (take i xs))) (sym (find-append p (f y) (flat_map f (take i xs))) ∙ none) in
      find-append p (f y) (flat_map f xs) ∙ ap (λ (o : Option B). option_or o (find p (flat_map f xs))) both.0 ∙ seek_found xs i x b at both.1 here

-- ---- a job that is free

never : (b : Bool) → (b && false) ≡ false
never true = refl
never false = refl

-- a job that isn't free under a priority isn't to be taken there
under_other : (jobs : List Job) (skip : List ℕ) (priority : Priority) (job : Job) → is_free_under priority (free_as job) ≡ false → (is_listed priority job && is_takable jobs skip job) ≡ false
under_other jobs skip priority job = by job.standing refl
  where
    by : (s : Standing) → job.standing ≡ s → is_free_under priority (cond (is_free job.standing) (Some job.priority) None) ≡ false → (is_listed priority job && is_takable jobs skip job) ≡ false
    by standing.Free is other = ap (λ (b : Bool). (b && is_there job.standing) && is_takable jobs skip job) (sym (ap (λ (s : Standing). is_free_under priority (cond (is_free s) (Some job.priority) None)) is) ∙ other)
    by (standing.Held owner) is other = ap (λ (s : Standing). is_listed priority job && (is_free s && not (list_any (λ n. n == job.number) skip) && names_itself jobs job)) is ∙ never (is_listed priority job)
    by standing.Consumed is other = ap (λ (s : Standing). is_listed priority job && (is_free s && not (list_any (λ n. n == job.number) skip) && names_itself jobs job)) is ∙ never (is_listed priority job)
    by standing.Trashed is other = ap (λ (s : Standing). is_listed priority job && (is_free s && not (list_any (λ n. n == job.number) skip) && names_itself jobs job)) is ∙ never (is_listed priority job)

-- no job before the first that is free under a priority is to be taken there
pub passed_over : (jobs : List Job) (skip : List ℕ) (priority : Priority) (some : List Job)
    → find (λ job. is_listed priority job && is_takable jobs skip job) (take (position_or_len (is_free_under priority) (map free_as some)) some) ≡ None
passed_over jobs skip priority [] = refl
passed_over jobs skip priority (job ∷ some) = by (is_free_under priority (free_as job)) refl (passed_over jobs skip priority some)
  where
    p : Job → Bool
    p job = is_listed priority job && is_takable jobs skip job

    before : ℕ
    before = position_or_len (is_free_under priority) (map free_as some)

    by : (b : Bool) → is_free_under priority (free_as job) ≡ b → find p (take before some) ≡ None → find p (take (cond (not b) (1 + before) 0) (job ∷ some)) ≡ None
    by true is rest = refl
    by false is rest =
        let next : 1 + before ≡ suc before = omega arith in
        ap (λ (n : ℕ). find (λ job. is_listed priority job && is_takable jobs skip job) (take n (job ∷ some))) next
        ∙ ap (λ (b : Bool). cond b (Some job) (find (λ job. is_listed priority job && is_takable jobs skip job) (take before some))) (under_other jobs skip priority job is)
        ∙ rest

-- ---- details

pub details_long : (past : List Command) → length (details_in past) ≡ posted past
details_long [] = refl
details_long (command.Post name p details ∷ past) = length-append (details_in past) (details ∷ []) ∙ ap (λ (n : ℕ). n + 1) (details_long past)
details_long (command.Apply action job owner ∷ past) = omega (arith, ap length (append-nil (details_in past)), details_long past)

-- there is nothing at a place past the end alone
pub past_there : {A : Type 0} (xs : List A) (i : ℕ) → slice_get xs i ≡ None → length xs ≤ i
past_there xs i none =
    elim (slice_get_cases xs i).1 [
      | inl there ↦ (let clash : Some there.0 ≡ None = sym there.2 ∙ none in absurd (cc))
      | inr out ↦ out.0
    ]

-- ---- how many commands

pub few_commands : (past : List Command) → length past ≤ size_of past
few_commands [] = omega arith
few_commands (c ∷ past) = omega (arith, few_commands past)
