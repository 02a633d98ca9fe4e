-- Where the search for a job that is free begins under each priority.
use Rattle.std.proofs.Common.{inl, inr, cond, eq-eqb, get_or, set, take, map, ◌≡◌, ◌≤◌, ◌<◌, ℕ, ◌+◌, Bool, true, false, List, [], ◌∷◌, ◌++◌, length, Option, Some, None, refl, sym, ap, ◌∙◌, arith}
use Rattle.std.specs.Prelude.{◌&&◌, not}
use Rattle.std.specs.Option.{is_some, option_or, unwrap_or}
use Rattle.std.specs.List.{find, position, position_from, position_or_len}
use Rattle.std.proofs.lemmas.Iterator.Adapters.{position_from-zero}
use Rattle.std.proofs.lemmas.List.{get_or-take, length-map, length-take, length-take-le, set-get_or, take-map, take-take, take_more}
use Rattle.std.proofs.lemmas.Bool.{cases_lt, le-ltb, lt-ltb}
use Rattle.std.proofs.lemmas.List.Folds.{position_or_len_push}
use Rattle.std.proofs.lemmas.List.Sums.{fails_before_first, position_or_len_is, prefix_len-le-length}
use Rattle.tf_states.specs.declared.priorities.Priority.{Priority}
use Rattle.tf_states.specs.declared.priorities.Priority.TheVariants as order
use Rattle.tf_board.specs.Board.{same_priority, free_as, is_listed, priorities, priority_byte}
use Rattle.tf_board.specs.Seeking.{is_takable, is_free_under, firsts, starts_in, start_under}
use Rattle.tf_board.specs.declared.jobs.Job.{Job}
use Rattle.tf_board.specs.declared.starts.Starts.{Starts}
use Rattle.tf_board.proofs.SeekingLemmas.{passed_over}

-- no job before the place where the search under a priority begins is to be taken there
pub none_before : (jobs : List Job) (skip : List ℕ) (priority : Priority) (free : List (Option Priority)) (start : ℕ) → free ≡ map free_as jobs → start ≡ start_under free priority
    → find (λ job. is_listed priority job && is_takable jobs skip job) (take start jobs) ≡ None
none_before jobs skip priority free start are starts =
    let end = position_or_len (is_free_under order.VeryHigh) (map free_as jobs) in
    let before = position_or_len (is_free_under priority) (map free_as (take end jobs)) in
    let same : start ≡ before =
    starts
    ∙ ap (λ (f : List (Option Priority)). start_under f priority) are
    ∙ ap (position_or_len (is_free_under priority)) (take-map free_as end jobs) in
    let within : before ≤ end = omega (arith, prefix_len-le-length (λ f. not (is_free_under priority f)) (map free_as (take end jobs)), length-map (take end jobs) free_as, length-take end jobs) in
    ap (find (λ job. is_listed priority job && is_takable jobs skip job)) (ap (λ (n : ℕ). take n jobs) same ∙ sym (take-take before end jobs within))
    ∙ passed_over jobs skip priority (take end jobs)

-- ---- the first under each priority

or_none : (o : Option ℕ) → option_or o None ≡ o
or_none None = refl
or_none (Some n) = refl

or_new : (o : Option ℕ) (n : ℕ) → is_some o ≡ false → option_or o (Some n) ≡ Some n
or_new None n none = refl
or_new (Some m) n none = absurd (cc)

or_kept : (o : Option ℕ) (n : ℕ) → is_some o ≡ true → option_or o (Some n) ≡ o
or_kept None n some = absurd (cc)
or_kept (Some m) n some = refl

module _ {A : Type 0} (p : A → Bool) where
  pushed_from : (i : ℕ) (xs : List A) (x : A) → position_from p i (xs ++ x ∷ []) ≡ option_or (position_from p i xs) (cond (p x) (Some (i + length xs)) None)
  pushed_from i [] x = ap (λ (n : ℕ). cond (p x) (Some n) None) (omega arith)
  pushed_from i (y ∷ xs) x = by (p y) (pushed_from (i + 1) xs x ∙ ap (λ (n : ℕ). option_or (position_from p (i + 1) xs) (cond (p x) (Some n) None)) (omega arith))
    where
      last : Option ℕ
      last = cond (p x) (Some (i + length (y ∷ xs))) None

      by : (b : Bool) → position_from p (i + 1) (xs ++ x ∷ []) ≡ option_or (position_from p (i + 1) xs) last
          → cond b (Some i) (position_from p (i + 1) (xs ++ x ∷ [])) ≡ option_or (cond b (Some i) (position_from p (i + 1) xs)) last
      by true rest = refl
      by false rest = rest

  -- the first of a list with one item more
  pub position_push : (xs : List A) (x : A) → position p (xs ++ x ∷ []) ≡ option_or (position p xs) (cond (p x) (Some (length xs)) None)
  position_push xs x =
      position_from-zero p (xs ++ x ∷ [])
      ∙ (pushed_from 0 xs x ∙ ap (λ (n : ℕ). option_or (position_from p 0 xs) (cond (p x) (Some n) None)) (omega arith))
      ∙ ap (λ (o : Option ℕ). option_or o (cond (p x) (Some (length xs)) None)) (sym (position_from-zero p xs))

five : {a b c d e v w x y z : Option ℕ} → a ≡ v → b ≡ w → c ≡ x → d ≡ y → e ≡ z → a ∷ b ∷ c ∷ d ∷ e ∷ [] ≡ v ∷ w ∷ x ∷ y ∷ z ∷ []
five p q r s t = cc

-- what stands at the byte of a priority is its own
read : (f : Priority → Option ℕ) (q : Priority) → get_or (map f priorities) (priority_byte q) None ≡ f q
read f order.VeryHigh = refl
read f order.High = refl
read f order.Normal = refl
read f order.Low = refl
read f order.VeryLow = refl

-- one priority's is written, where that of the others is the same
written : (f g : Priority → Option ℕ) (q : Priority) → ((p : Priority) → same_priority q p ≡ false → f p ≡ g p) → set (map f priorities) (priority_byte q) (g q) ≡ map g priorities
written f g order.VeryHigh same = five refl (same order.High refl) (same order.Normal refl) (same order.Low refl) (same order.VeryLow refl)
written f g order.High same = five (same order.VeryHigh refl) refl (same order.Normal refl) (same order.Low refl) (same order.VeryLow refl)
written f g order.Normal same = five (same order.VeryHigh refl) (same order.High refl) refl (same order.Low refl) (same order.VeryLow refl)
written f g order.Low same = five (same order.VeryHigh refl) (same order.High refl) (same order.Normal refl) refl (same order.VeryLow refl)
written f g order.VeryLow same = five (same order.VeryHigh refl) (same order.High refl) (same order.Normal refl) (same order.Low refl) refl

itself : (q : Priority) → same_priority q q ≡ true
itself order.VeryHigh = refl
itself order.High = refl
itself order.Normal = refl
itself order.Low = refl
itself order.VeryLow = refl

module _ (before : List (Option Priority)) where
  -- the first under a priority, before and with one place more
  abbrev was : Priority → Option ℕ
  was p = position (is_free_under p) before

  abbrev is : Option Priority → Priority → Option ℕ
  is last p = position (is_free_under p) (before ++ last ∷ [])

  read_there : (found : List (Option ℕ)) (r : ℕ) (q : Priority) → found ≡ firsts before → r ≡ priority_byte q → get_or found r None ≡ was q
  read_there found r q are ranked = ap (λ (f : List (Option ℕ)). get_or f r None) are ∙ ap (λ (n : ℕ). get_or (firsts before) n None) ranked ∙ read was q

  untouched : (p : Priority) → is None p ≡ was p
  untouched p = position_push (is_free_under p) before None ∙ or_none (was p)

  -- a place that isn't free changes none
  pub firsts_none : firsts (before ++ None ∷ []) ≡ firsts before
  firsts_none = five (untouched order.VeryHigh) (untouched order.High) (untouched order.Normal) (untouched order.Low) (untouched order.VeryLow)

  module _ (q : Priority) where
    others : (p : Priority) → same_priority q p ≡ false → was p ≡ is (Some q) p
    others p other = sym (position_push (is_free_under p) before (Some q) ∙ ap (λ (b : Bool). option_or (was p) (cond b (Some (length before)) None)) other ∙ or_none (was p))

    own : is (Some q) q ≡ option_or (was q) (Some (length before))
    own = position_push (is_free_under q) before (Some q) ∙ ap (λ (b : Bool). option_or (was q) (cond b (Some (length before)) None)) (itself q)

    -- a place that is free is the first under its priority, where none was before
    pub firsts_new : (found : List (Option ℕ)) (r place : ℕ) → found ≡ firsts before → r ≡ priority_byte q → place ≡ length before → is_some (get_or found r None) ≡ false → set found r (Some place) ≡ firsts (before ++ Some q ∷ [])
    firsts_new found r place are ranked long none =
        let none_here : is_some (was q) ≡ false = sym (ap is_some (read_there found r q are ranked)) ∙ none in
        let new : Some place ≡ is (Some q) q = ap Some long ∙ sym (own ∙ or_new (was q) (length before) none_here) in
        ap (λ (f : List (Option ℕ)). set f r (Some place)) are
        ∙ ap (λ (n : ℕ). set (firsts before) n (Some place)) ranked
        ∙ ap (λ (o : Option ℕ). set (firsts before) (priority_byte q) o) new
        ∙ written was (is (Some q)) q others

    -- and changes none, where one was
    pub firsts_kept : (found : List (Option ℕ)) (r : ℕ) → found ≡ firsts before → r ≡ priority_byte q → is_some (get_or found r None) ≡ true → found ≡ firsts (before ++ Some q ∷ [])
    firsts_kept found r are ranked some =
        let some_here : is_some (was q) ≡ true = sym (ap is_some (read_there found r q are ranked)) ∙ some in
        let same : get_or (firsts before) (priority_byte q) None ≡ is (Some q) q = read was q ∙ sym (own ∙ or_kept (was q) (length before) some_here) in
        are
        ∙ sym (set-get_or (firsts before) (priority_byte q) None)
        ∙ ap (λ (o : Option ℕ). set (firsts before) (priority_byte q) o) same
        ∙ written was (is (Some q)) q others

-- ---- the most urgent priority

-- none of the most urgent priority is among so many places
abbrev pub IsBefore : List (Option Priority) → ℕ → Type 0
IsBefore free place = position_or_len (is_free_under order.VeryHigh) (take place free) ≡ place

module _ (free : List (Option Priority)) (place : ℕ) (last : Option Priority) (within : place < length free) (at : get_or free place None ≡ last) where
  abbrev urgent : Option Priority → Bool
  urgent under = is_free_under order.VeryHigh under

  -- one place more
  pub next : take (place + 1) free ≡ take place free ++ last ∷ []
  next = take_more free place None within ∙ ap (λ (o : Option Priority). take place free ++ o ∷ []) at

  -- one place more isn't of it
  pub urgent_none : IsBefore free place → urgent last ≡ false → IsBefore free (place + 1)
  urgent_none before other =
      let long : length (take place free) ≡ place = length-take-le place free (omega arith) in
      let first = position_or_len urgent (take place free) in
      ap (position_or_len urgent) next
      ∙ position_or_len_push urgent (take place free) last
      ∙ ap (λ (b : Bool). cond b (length (take place free) + cond (urgent last) 0 1) first) (eq-eqb first (length (take place free)) (before ∙ sym long))
      ∙ ap (λ (b : Bool). length (take place free) + cond b 0 1) other
      ∙ ap (λ (n : ℕ). n + 1) long

  -- the place behind is of it
  pub urgent_here : IsBefore free place → urgent last ≡ true → position_or_len urgent free ≡ place
  urgent_here before here =
      position_or_len_is urgent free place None (omega arith)
      (λ k earlier. ap urgent (sym (get_or-take place free k None earlier)) ∙ fails_before_first urgent (take place free) k None (omega (arith, before, earlier)))
      (λ _. ap urgent at ∙ here)

-- ---- all of it

abbrev starts_at : List (Option ℕ) → ℕ → Starts
starts_at found end = record { found = found; end = end }

-- the first of a priority, else where they end
pub starts_here : (free : List (Option Priority)) (found : List (Option ℕ)) (place : ℕ) → found ≡ firsts (take place free) → position_or_len (is_free_under order.VeryHigh) free ≡ place → starts_at found place ≡ starts_in free
starts_here free found place are same =
    let end = position_or_len (is_free_under order.VeryHigh) free in
    ap (λ (f : List (Option ℕ)). starts_at f place) (are ∙ ap (λ (n : ℕ). firsts (take n free)) (sym same)) ∙ ap (starts_at (firsts (take end free))) (sym same)

-- the first of a list's items, else its length
first_or : {A : Type 0} (p : A → Bool) (xs : List A) → unwrap_or (position p xs) (length xs) ≡ position_or_len p xs
first_or p xs =
    elim (cases_lt (position_or_len p xs) (length xs)) [
      | inl lt ↦ ap (λ (b : Bool). unwrap_or (cond b (Some (position_or_len p xs)) None) (length xs)) (lt-ltb (position_or_len p xs) (length xs) lt)
      | inr le ↦ (
          ap (λ (b : Bool). unwrap_or (cond b (Some (position_or_len p xs)) None) (length xs)) (le-ltb (position_or_len p xs) (length xs) le)
          ∙ omega (arith, le, prefix_len-le-length (λ x. not (p x)) xs)
          )
    ]

-- the search under a priority begins there
pub start_is : (starts : Starts) (free : List (Option Priority)) (p : Priority) (r : ℕ) → starts ≡ starts_in free → r ≡ priority_byte p → unwrap_or (get_or starts.found r None) starts.end ≡ start_under free p
start_is starts free p r are ranked =
    let end = position_or_len (is_free_under order.VeryHigh) free in
    let before = take end free in
    let long : length before ≡ end = length-take-le end free (prefix_len-le-length (λ x. not (is_free_under order.VeryHigh x)) free) in
    ap (λ (s : Starts). unwrap_or (get_or s.found r None) s.end) are
    ∙ ap (λ (o : Option ℕ). unwrap_or o end) (ap (λ (n : ℕ). get_or (firsts before) n None) ranked ∙ read (λ q. position (is_free_under q) before) p)
    ∙ ap (unwrap_or (position (is_free_under p) before)) (sym long)
    ∙ first_or (is_free_under p) before
