-- The requests of a session stay as they were answered while calls are added.
use Rattle.std.proofs.Common.{◌≡◌, ◌≢◌, ◌≤◌, ℕ, zero, suc, ◌+◌, ◌-◌, Bool, true, false, List, [], ◌∷◌, ◌++◌, length, drop, Option, Some, None, refl, sym, ap, subst, ◌∙◌, arith, append-nil, append_assoc, length-append, eq-eqb}
use Rattle.std.specs.Prelude.{nat_eq, slice_get}
use Rattle.std.specs.List.{AllByRecursion}
use Rattle.std.proofs.lemmas.Bool.{eqb-true}
use Rattle.std.proofs.lemmas.List.Elements.{filter-append}
use Rattle.std.proofs.lemmas.Grind.{flat_map-append}
use Rattle.tf_board.specs.declared.commands.Command.{Command}
use Rattle.tf_shared_board.specs.Shared.{followed_by, made_command}
use Rattle.tf_shared_board.specs.declared.calls.Made.{Made}
use Rattle.tf_board_service.specs.Sessions.{call_made, Exchange, IsAtPoint, MadeBy, NeverFall, after_point, as_list, call_of, calls_by, calls_of, first_of, told, replies, reply_frame, reply_of}

-- ---- commands

pub followed_on : (past : List Command) (first second : List Made) → followed_by past (first ++ second) ≡ followed_by (followed_by past first) second
followed_on past [] second = refl
followed_on past (m ∷ first) second = followed_on (made_command m ∷ past) first second

-- commands that follow stand before those from then
pub newer_of : (past : List Command) (calls : List Made) → (newer : List Command) × (followed_by past calls ≡ newer ++ past) × (length newer ≡ length calls)
newer_of past [] = ([], refl, refl)
newer_of past (m ∷ calls) =
    let r = newer_of (made_command m ∷ past) calls in
    (r.0 ++ made_command m ∷ [], r.1 ∙ sym (append_assoc r.0 (made_command m ∷ []) past), length-append r.0 (made_command m ∷ []) ∙ omega (arith, r.2))

pub followed_length : (past : List Command) (calls : List Made) → length (followed_by past calls) ≡ length past + length calls
followed_length past calls = (let r = newer_of past calls in ap length r.1 ∙ length-append r.0 past ∙ omega (arith, r.2))

-- the first commands stay the first ones
pub first_stays : (count : ℕ) (newer past : List Command) → count ≤ length past → first_of count (newer ++ past) ≡ first_of count past
first_stays count [] past le = refl
first_stays count (x ∷ newer) past le =
    let long : count ≤ length (newer ++ past) = omega (arith, length-append newer past, le) in
    let less : suc (length (newer ++ past)) - count ≡ suc (length (newer ++ past) - count) = omega (arith, long) in
    ap (λ n. drop n (x ∷ (newer ++ past))) less ∙ first_stays count newer past le

-- all of them
pub first_all : (past : List Command) → first_of (length past) past ≡ past
first_all past = (let none : length past - length past ≡ 0 = omega arith in ap (λ n. drop n past) none)

-- ---- points

after_le : (o : Option Made) (point : ℕ) → point ≤ after_point o point
after_le None point = omega arith
after_le (Some m) point = omega arith

after_is : (o : Option Made) (point : ℕ) → after_point o point ≡ point + length (as_list o)
after_is None point = omega arith
after_is (Some m) point = omega arith

module _ (number : ℕ) (past : List Command) where
  pub least_within : (least : ℕ) (exchanges : List Exchange) → NeverFall number past least exchanges → least ≤ length past
  least_within least [] is = is
  least_within least (e ∷ exchanges) is = omega (arith, is.0, after_le (call_of number past e) e.point, least_within (after_point (call_of number past e) e.point) exchanges is.1)

  point_within : (least : ℕ) (e : Exchange) (exchanges : List Exchange) → NeverFall number past least (e ∷ exchanges) → e.point ≤ length past
  point_within least e exchanges is = omega (arith, after_le (call_of number past e) e.point, least_within (after_point (call_of number past e) e.point) exchanges is.1)

  module _ (newer : List Command) where
    call_stays : (e : Exchange) → e.point ≤ length past → call_of number (newer ++ past) e ≡ call_of number past e
    call_stays e le = ap (λ (p : List Command). call_made number p e.request) (first_stays e.point newer past le)

    told_stays_one : (e : Exchange) → e.point ≤ length past → told (newer ++ past) e ≡ told past e
    told_stays_one e le = ap (λ (p : List Command). reply_frame (reply_of p e.request)) (first_stays e.point newer past le)

    pub points_stay : (least : ℕ) (exchanges : List Exchange) → NeverFall number past least exchanges → NeverFall number (newer ++ past) least exchanges
    points_stay least [] is = omega (arith, length-append newer past, is)
    points_stay least (e ∷ exchanges) is =
        let o = call_of number past e in (
          is.0,
          subst (λ (c : Option Made). NeverFall number (newer ++ past) (after_point c e.point) exchanges) (sym (call_stays e (point_within least e exchanges is))) (points_stay (after_point o e.point) exchanges is.1),
        )

    pub replies_stay : (least : ℕ) (exchanges : List Exchange) → NeverFall number past least exchanges → replies (newer ++ past) exchanges ≡ replies past exchanges
    replies_stay least [] is = refl
    replies_stay least (e ∷ exchanges) is =
        ap (λ (first : List ℕ). first ∷ replies (newer ++ past) exchanges) (told_stays_one e (point_within least e exchanges is))
        ∙ ap (λ (others : List (List ℕ)). told past e ∷ others) (replies_stay (after_point (call_of number past e) e.point) exchanges is.1)

    pub calls_stay : (least : ℕ) (exchanges : List Exchange) → NeverFall number past least exchanges → calls_of number (newer ++ past) exchanges ≡ calls_of number past exchanges
    calls_stay least [] is = refl
    calls_stay least (e ∷ exchanges) is =
        ap (λ (c : Option Made). as_list c ++ calls_of number (newer ++ past) exchanges) (call_stays e (point_within least e exchanges is))
        ∙ ap (λ (l : List Made). as_list (call_of number past e) ++ l) (calls_stay (after_point (call_of number past e) e.point) exchanges is.1)

    -- the call of a request at the end of the commands
    pub call_now : (e : Exchange) → e.point ≡ length past → call_of number (newer ++ past) e ≡ call_made number past e.request
    call_now e last =
        call_stays e (omega (arith, last)) ∙ ap (λ (n : ℕ). call_made number (first_of n past) e.request) last ∙ ap (λ (p : List Command). call_made number p e.request) (first_all past)

    -- and its reply
    pub told_now : (e : Exchange) → e.point ≡ length past → told (newer ++ past) e ≡ reply_frame (reply_of past e.request)
    told_now e last =
        told_stays_one e (omega (arith, last)) ∙ ap (λ (n : ℕ). reply_frame (reply_of (first_of n past) e.request)) last ∙ ap (λ (p : List Command). reply_frame (reply_of p e.request)) (first_all past)

    -- one request more, at the end of the commands
    pub points_more : (least : ℕ) (exchanges : List Exchange) (e : Exchange) → NeverFall number past least exchanges → e.point ≡ length past → length newer ≡ length (as_list (call_made number past e.request))
        → NeverFall number (newer ++ past) least (exchanges ++ e ∷ [])
    points_more least [] e is last added =
        let here : call_of number (newer ++ past) e ≡ call_made number past e.request = call_now e last in (
          omega (arith, is, last),
          omega (arith, after_is (call_of number (newer ++ past) e) e.point, ap (λ (c : Option Made). length (as_list c)) here, added, last, length-append newer past),
        )
    points_more least (f ∷ exchanges) e is last added = (
      is.0,
      subst (λ (c : Option Made). NeverFall number (newer ++ past) (after_point c f.point) (exchanges ++ e ∷ [])) (sym (call_stays f (point_within least f exchanges is)))
          (points_more (after_point (call_of number past f) f.point) exchanges e is.1 last added),
    )

-- ---- calls

last_all : {A : Type 0} (P : A → Type 0) (xs : List A) (x : A) → AllByRecursion P xs → P x → AllByRecursion P (xs ++ x ∷ [])
last_all P [] x all one = (one, tt)
last_all P (y ∷ xs) x all one = (all.0, last_all P xs x all.1 one)

slice_more : {A : Type 0} (xs more : List A) (k : ℕ) (x : A) → slice_get xs k ≡ Some x → slice_get (xs ++ more) k ≡ Some x
slice_more [] more k x is = absurd (cc)
slice_more (y ∷ xs) more zero x is = is
slice_more (y ∷ xs) more (suc k) x is = slice_more xs more k x is

slice_last : {A : Type 0} (xs : List A) (x : A) → slice_get (xs ++ x ∷ []) (length xs) ≡ Some x
slice_last [] x = refl
slice_last (y ∷ xs) x = slice_last xs x

by_none : (number : ℕ) (b : Bool) (m : Made) → nat_eq m.number number ≡ b → m.number ≢ number → b ≡ false
by_none number true m is apart = absurd (apart (eqb-true m.number number is))
by_none number false m is apart = refl

pub by_others : (number : ℕ) (calls : List Made) → AllByRecursion (λ m. m.number ≢ number) calls → calls_by number calls ≡ []
by_others number [] apart = refl
by_others number (m ∷ calls) apart =
    let no : nat_eq m.number number ≡ false = by_none number (nat_eq m.number number) m refl apart.0 in
    rw no (by_others number calls apart.1)

by_itself : (number : ℕ) (b : Bool) (m : Made) → nat_eq m.number number ≡ b → m.number ≡ number → b ≡ true
by_itself number true m is mine = refl
by_itself number false m is mine = absurd (let clash : true ≡ false = sym (eq-eqb m.number number mine) ∙ is in cc)

-- the calls of a session's own requests carry its number
pub by_own : (number : ℕ) (o : Option Made) → ((m : Made) → o ≡ Some m → m.number ≡ number) → calls_by number (as_list o) ≡ as_list o
by_own number None mine = refl
by_own number (Some m) mine = (let yes : nat_eq m.number number ≡ true = by_itself number (nat_eq m.number number) m refl (mine m refl) in rw yes refl)

-- ---- what was made

module _ (number : ℕ) (past : List Command) (calls : List Made) where
  -- each stays at its point
  points_kept : (newer : List Command) (later : List Made) (first least : ℕ) (exchanges : List Exchange) → NeverFall number past least exchanges
      → AllByRecursion (IsAtPoint number past first calls) exchanges → AllByRecursion (IsAtPoint number (newer ++ past) first (calls ++ later)) exchanges
  points_kept newer later first least [] rising at = tt
  points_kept newer later first least (e ∷ exchanges) rising at = (
    λ m is. slice_more calls later (e.point - first) m (at.0 m (sym (call_stays number past newer e (point_within number past least e exchanges rising)) ∙ is)),
    points_kept newer later first (after_point (call_of number past e) e.point) exchanges rising.1 at.1,
  )

  -- others made calls after them
  pub made_stays : (newer : List Command) (others : List Made) (first least : ℕ) (exchanges : List Exchange) (more : List Made) → AllByRecursion (λ m. m.number ≢ number) others → NeverFall number past least exchanges
      → MadeBy number past first calls exchanges more → MadeBy number (newer ++ past) first (calls ++ others) exchanges more
  made_stays newer others first least exchanges more apart rising made = record {
    calls_are = filter-append (λ (m : Made). nat_eq m.number number) calls others ∙ ap (λ (l : List Made). calls_by number calls ++ l) (by_others number others apart) ∙ append-nil (calls_by number calls) ∙ made.calls_are
        ∙ ap (λ (l : List Made). l ++ more) (sym (calls_stay number past newer least exchanges rising));
    at_points = points_kept newer others first least exchanges rising made.at_points;
  }

  -- it made a call that has no reply
  pub made_unsaid : (newer : List Command) (mine : List Made) (first least : ℕ) (exchanges : List Exchange) → calls_by number mine ≡ mine → NeverFall number past least exchanges
      → MadeBy number past first calls exchanges [] → MadeBy number (newer ++ past) first (calls ++ mine) exchanges mine
  made_unsaid newer mine first least exchanges own rising made = record {
    calls_are = filter-append (λ (m : Made). nat_eq m.number number) calls mine ∙ ap (λ (l : List Made). calls_by number calls ++ l) own ∙ ap (λ (l : List Made). l ++ mine) (made.calls_are ∙ append-nil (calls_of number past exchanges))
        ∙ ap (λ (l : List Made). l ++ mine) (sym (calls_stay number past newer least exchanges rising));
    at_points = points_kept newer mine first least exchanges rising made.at_points;
  }

  -- one request more, with its call
  pub made_more : (newer : List Command) (first least : ℕ) (exchanges : List Exchange) (e : Exchange) → ((m : Made) → call_made number past e.request ≡ Some m → m.number ≡ number)
      → NeverFall number past least exchanges → e.point ≡ length past → length past ≡ first + length calls → MadeBy number past first calls exchanges []
      → MadeBy number (newer ++ past) first (calls ++ as_list (call_made number past e.request)) (exchanges ++ e ∷ []) []
  made_more newer first least exchanges e own rising last long made =
      let mine : List Made = as_list (call_made number past e.request) in
      let here : call_of number (newer ++ past) e ≡ call_made number past e.request = call_now number past newer e last in
      let before : calls_by number (calls ++ mine) ≡ calls_of number past exchanges ++ mine =
      filter-append (λ (m : Made). nat_eq m.number number) calls mine ∙ ap (λ (l : List Made). calls_by number calls ++ l) (by_own number (call_made number past e.request) own)
      ∙ ap (λ (l : List Made). l ++ mine) (made.calls_are ∙ append-nil (calls_of number past exchanges)) in
      let after : calls_of number (newer ++ past) (exchanges ++ e ∷ []) ≡ calls_of number past exchanges ++ mine =
      flat_map-append (λ (x : Exchange). as_list (call_of number (newer ++ past) x)) exchanges (e ∷ [])
      ∙ ap (λ (l : List Made). l ++ calls_of number (newer ++ past) (e ∷ [])) (calls_stay number past newer least exchanges rising)
      ∙ ap (λ (l : List Made). calls_of number past exchanges ++ l) (append-nil (as_list (call_of number (newer ++ past) e)) ∙ ap (λ (c : Option Made). as_list c) here) in
      let place : e.point - first ≡ length calls = omega (arith, last, long) in
      record {
        calls_are = before ∙ sym (append-nil (calls_of number (newer ++ past) (exchanges ++ e ∷ [])) ∙ after);
        at_points = last_all (IsAtPoint number (newer ++ past) first (calls ++ mine)) exchanges e (points_kept newer mine first least exchanges rising made.at_points)
            (λ m is. (let one : mine ≡ m ∷ [] = ap (λ (c : Option Made). as_list c) (sym here ∙ is) in
            ap (λ (l : List Made). slice_get (calls ++ l) (e.point - first)) one ∙ ap (λ (n : ℕ). slice_get (calls ++ m ∷ []) n) place ∙ slice_last calls m));
      }
