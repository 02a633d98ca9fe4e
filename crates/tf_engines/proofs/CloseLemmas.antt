-- What is known of several hands once the turnstile is closed.
use Rattle.std.proofs.Common.{◌≡◌, ◌<◌, ℕ, zero, suc, Bool, true, false, ◌≤◌, List, [], ◌∷◌, ◌++◌, length, map, take, slice_index_or, Option, refl, ap, ◌∙◌, sym, subst, arith}
use Rattle.std.specs.List.{All}
use Rattle.std.proofs.lemmas.List.{append-nil, get_or-map, length-map}
use Rattle.std.proofs.lemmas.List.Elements.{All-append}
use Rattle.tf_desk.specs.State.{DeskState}
use Rattle.tf_actions.specs.declared.orders.Order.{Order}
use Rattle.tf_actions.specs.declared.outcomes.Outcome.{Outcome}
use Rattle.tf_states.specs.declared.record.Entry.{Entry}
use Rattle.tf_hands.specs.Hands.{orders}
use Rattle.tf_hands.proofs.OtherLemmas.{orders_through}
use Rattle.tf_hands.proofs.FlightLemmas.{still_free}
use Rattle.tf_model.specs.History.{flow_of, snapshot}
use Rattle.tf_model.specs.Plan.{Outline}
use Rattle.tf_model.specs.Steps.{is_last}
use Rattle.tf_book.specs.Book.{BookValue, outline}
use Rattle.tf_turnstile.specs.Numbered.{IsLater}
use Rattle.tf_turnstile.specs.Passes.{TurnstileValue, PassValue, IsIdle, AreAll, AreNew, HasGrown, new_pass}
use Rattle.tf_engines.specs.Shared.{SharedValue, unnumbered, origin_of, entries_of, seen_past, entered_past, IsJustEntered, IsShared}
use Rattle.tf_engines.specs.Working.{HasDoneSo, HasWorked, IsOpenedFor, IsReadyToTurn}
use Rattle.tf_engines.proofs.OrderLemmas.{done_none, done_whole, same_done, entered_asks, so_all}
use Rattle.tf_engines.proofs.SeenLemmas.{IsLaterBy, taken_on, first_is, later_is, seen_splits}
use Rattle.tf_engines.proofs.SharedLemmas.{stays_last}

-- an element of a list, whatever stands for one past its end
pub there : {X : Type 0} (xs : List X) (i : ℕ) → i < length xs → X
there [] i below = absurd (omega arith)
there (x ∷ xs) zero below = x
there (x ∷ xs) (suc i) below = there xs i (omega arith)

-- of two lists joined, the first where the second is empty
pub prefix_all : {X : Type 0} (xs ys zs : List X) → ys ≡ [] → xs ++ ys ≡ zs → xs ≡ zs
prefix_all {X} xs ys zs none is = sym (append-nil xs) ∙ ap (λ (l : List X). xs ++ l) (sym none) ∙ is

-- what was there before more came
pub take_prefix : {X : Type 0} (xs zs : List X) → take (length xs) (xs ++ zs) ≡ xs
take_prefix [] [] = refl
take_prefix [] (z ∷ zs) = refl
take_prefix (x ∷ xs) zs = ap (λ l. x ∷ l) (take_prefix xs zs)

-- one more worker that didn't fail
one_right : {W : Type 0} (failed_of : W → Bool) (x : W) → failed_of x ≡ false → (k : ℕ) (d : W) → k < 1 → failed_of (slice_index_or (x ∷ []) k d) ≡ false
one_right failed_of x right zero d below = right
one_right failed_of x right (suc k) d below = absurd (omega arith)

pub all_right : {W : Type 0} (failed_of : W → Bool) (xs : List W) (x : W) → All (λ w. failed_of w ≡ false) xs → failed_of x ≡ false → All (λ w. failed_of w ≡ false) (xs ++ x ∷ [])
all_right {W} failed_of xs x all right = All-append (λ (w : W). failed_of w ≡ false) xs (x ∷ []) all (one_right failed_of x right)

-- what stands at a place of a mapped list
pub at_mapped : {W X : Type 0} (f : W → X) (xs : List W) (ys : List X) (i : ℕ) (w : W) (d : X) → map f xs ≡ ys → i < length xs → slice_index_or ys i d ≡ f (slice_index_or xs i w)
at_mapped {W} {X} f xs ys i w d is below = ap (λ (l : List X). slice_index_or l i d) (sym is) ∙ get_or-map f xs i w d below

module _ {K : Type 0} (state : K → DeskState) (gives : Order → Outcome → Type 0) (turnstile : TurnstileValue (SharedValue K)) (s : SharedValue K) (fresh : IsJustEntered turnstile.start) (same : origin_of s ≡ origin_of turnstile.start) (had : IsShared state gives s) where
  start_is : s.start ≡ turnstile.start.start
  start_is = ap (λ (o : BookValue K × Option ℕ × ℕ). o.0) same

  module _ (hand : ℕ) (pass : PassValue (SharedValue K) Entry) (seen : List (ℕ × Entry)) (history : entries_of s ≡ entries_of turnstile.start ++ seen) (later : IsLater hand pass.seen seen) where
    on : IsLaterBy hand (seen_past turnstile pass) s.now.past
    on = taken_on turnstile hand pass s seen fresh same history later had.inside

    -- nobody else added to the orders of the hand
    pub asks_stay : (plan : Outline) → orders plan hand s.now.past ≡ orders plan hand (seen_past turnstile pass)
    asks_stay plan = ap (orders plan hand) on.is ∙ orders_through plan on.newer (seen_past turnstile pass) hand on.others

    -- where it has seen the flow in a last state, it is in one
    pub last_stays : is_last (flow_of (seen_past turnstile pass)) ≡ true → is_last (flow_of s.now.past) ≡ true
    last_stays last =
        let first : List Entry = turnstile.start.now.past in
        let entered : entered_past s.start.past ≡ first = first_is turnstile s fresh same in
        stays_last gives _ s.number s.limit (outline s.start) s.start.past s.now.past (unnumbered later.since) (unnumbered pass.seen) s.now.limit
        (λ inner recorded. later_is turnstile s seen inner fresh same history recorded ∙ seen_splits pass.seen seen hand later)
        (subst (λ (l : List Entry). is_last (flow_of (unnumbered pass.seen ++ l)) ≡ true) (sym entered) last) had.stands

-- a hand's orders in the whole run
pub worked_done : {K : Type 0} (turnstile : TurnstileValue (SharedValue K)) (hand : ℕ) (old new : PassValue (SharedValue K) Entry) (did_old did_new : Option (List Order)) (this failed : Bool) (asked : List Order)
    → IsJustEntered turnstile.start → old ≡ new_pass turnstile hand → HasWorked turnstile hand old new did_old did_new this → (failed ≡ false → this ≡ false)
    → asked ≡ orders (outline turnstile.start.start) hand (seen_past turnstile new)
    → HasDoneSo failed did_old (orders (outline turnstile.start.start) hand turnstile.start.start.past) did_new asked
worked_done {K} turnstile hand old new did_old did_new this failed asked fresh made worked none same =
    let plan : Outline = outline turnstile.start.start in
    let base : List Order = orders plan hand turnstile.start.start.past in
    let at : orders plan hand (seen_past turnstile old) ≡ base
    = ap (λ (p : PassValue (SharedValue K) Entry). orders plan hand (seen_past turnstile p)) made ∙ ap (orders plan hand) fresh.fresh ∙ entered_asks hand plan turnstile.start.start.past in
    subst (λ (l : List Order). HasDoneSo failed did_old base did_new l) (sym same)
    (so_all failed this did_old base did_new (orders plan hand (seen_past turnstile new)) none
    (worked.asked did_old base (same_done did_old base did_old base (orders plan hand (seen_past turnstile old)) at (done_none did_old base))))

-- a hand that hasn't begun
pub idle_done : (plan : Outline) (hand : ℕ) (before past : List Entry) (did : Option (List Order)) → past ≡ entered_past before → HasDoneSo true did (orders plan hand before) did (orders plan hand past)
idle_done plan hand before past did is =
    done_whole did (orders plan hand before) did (orders plan hand past)
    (same_done did (orders plan hand before) did (orders plan hand before) (orders plan hand past) (ap (orders plan hand) is ∙ entered_asks hand plan before) (done_none did (orders plan hand before)))

-- ---- all hands

module _ {K W : Type 0} (turnstile : TurnstileValue (SharedValue K)) (pass_of : W → PassValue (SharedValue K) Entry) where
  -- each hand has a pass as it is made, where the session was entered
  pub all_made : (workers : List W) (passes : List (PassValue (SharedValue K) Entry)) → map pass_of workers ≡ passes → AreNew turnstile passes
      → (i : ℕ) (d : W) → i < length workers → pass_of (slice_index_or workers i d) ≡ new_pass turnstile i
  all_made workers passes is new i d below =
      let long : length passes ≡ length workers = ap length (sym is) ∙ length-map workers pass_of in
      sym (at_mapped pass_of workers passes i d (pass_of d) is below) ∙ new.each i (pass_of d) (omega (arith, below, long))

  new_idle : (i : ℕ) → IsIdle {B = SharedValue K} {E = Entry} turnstile i (new_pass turnstile i)
  new_idle i = record { mine = record { table = refl; start = refl }; number_is = refl; nothing = refl }

  pub all_ready : (workers : List W) (passes : List (PassValue (SharedValue K) Entry)) → map pass_of workers ≡ passes → AreNew turnstile passes → IsJustEntered turnstile.start → length workers ≡ turnstile.start.number
      → turnstile.start.number ≤ 64 → (i : ℕ) (d : W) → i < length workers → IsOpenedFor turnstile i × IsReadyToTurn turnstile i (pass_of (slice_index_or workers i d))
  all_ready workers passes is new fresh long few i d below =
      let plan : Outline = outline turnstile.start.start in
      let made = all_made workers passes is new i d below in (
        record { fresh = fresh; below = omega (arith, below, long); few = few },
        subst (λ (p : PassValue (SharedValue K) Entry). IsReadyToTurn turnstile i p) (sym made)
            (record { idle = new_idle i; free = still_free plan (snapshot plan turnstile.start.now.past) i fresh.still }),
      )

  module _ {H : Type 0} (hand_of : W → H) (did : H → Option (List Order)) (failed_of : W → Bool) (old new : List W) (long : length new ≡ length old)
      (worked : (i : ℕ) (d : W) → i < length old → HasWorked turnstile i (pass_of (slice_index_or old i d)) (pass_of (slice_index_or new i d)) (did (hand_of (slice_index_or old i d))) (did (hand_of (slice_index_or new i d))) (failed_of (slice_index_or new i d)))
      (passes : List (PassValue (SharedValue K) Entry)) (back : passes ≡ map pass_of new) where
    many : length passes ≡ length old
    many = ap length back ∙ length-map new pass_of ∙ long

    -- all passes are back
    pub all_back : length old ≡ turnstile.passes → AreAll turnstile passes
    all_back count = record {
      count = many ∙ count;
      each = λ i d below.
          (let here : i < length new = omega (arith, below, many, long) in
          let w : W = there new i here in
          subst (λ (p : PassValue (SharedValue K) Entry). IsIdle turnstile i p) (sym (at_mapped pass_of new passes i w d (sym back) here)) (worked i w (omega (arith, here, long))).idle);
    }

    module _ (s : SharedValue K) (grown : HasGrown entries_of turnstile passes s) where
      -- what came after a pass had seen the history is others'
      later_at : (i : ℕ) (w : W) → i < length old → IsLater i (pass_of (slice_index_or new i w)).seen grown.added
      later_at i w below =
          let pass : PassValue (SharedValue K) Entry = pass_of (slice_index_or new i w) in
          let at : slice_index_or passes i (pass_of w) ≡ pass = at_mapped pass_of new passes i w (pass_of w) (sym back) (omega (arith, below, long)) in
          let later : IsLater pass.number pass.seen grown.added
          = subst (λ (p : PassValue (SharedValue K) Entry). IsLater p.number p.seen grown.added) at (grown.seen i (pass_of w) (omega (arith, below, many))) in
          subst (λ (n : ℕ). IsLater n pass.seen grown.added) (worked i w below).idle.number_is later

      module _ (state : K → DeskState) (gives : Order → Outcome → Type 0)
          (fresh : IsJustEntered turnstile.start) (same : origin_of s ≡ origin_of turnstile.start) (had : IsShared state gives s)
          (failed : Bool) (none : failed ≡ false → All (λ w. failed_of w ≡ false) new) where
        -- where no hand failed the flow has a last state
        pub all_last : 1 ≤ length old → failed ≡ false → is_last (flow_of s.now.past) ≡ true
        all_last some right =
            let w : W = there new 0 (omega (arith, some, long)) in
            let pass : PassValue (SharedValue K) Entry = pass_of (slice_index_or new 0 w) in
            last_stays state gives turnstile s fresh same had 0 pass grown.added grown.history (later_at 0 w (omega (arith, some)))
            ((worked 0 w (omega (arith, some))).last (none right 0 w (omega (arith, some, long))))

        -- the orders that each hand was given in the whole run
        pub all_done : (hands_old hands_new : List H) → map hand_of old ≡ hands_old → hands_new ≡ map hand_of new → ((i : ℕ) (d : W) → i < length old → pass_of (slice_index_or old i d) ≡ new_pass turnstile i)
            → (i : ℕ) (d : H) → i < length old
            → HasDoneSo failed (did (slice_index_or hands_old i d)) (orders (outline turnstile.start.start) i turnstile.start.start.past) (did (slice_index_or hands_new i d)) (orders (outline turnstile.start.start) i s.now.past)
        all_done hands_old hands_new before after made i d below =
            let here : i < length new = omega (arith, below, long) in
            let w : W = there new i here in
            let plan : Outline = outline turnstile.start.start in
            let pass : PassValue (SharedValue K) Entry = pass_of (slice_index_or new i w) in
            let done : HasDoneSo failed (did (hand_of (slice_index_or old i w))) (orders plan i turnstile.start.start.past) (did (hand_of (slice_index_or new i w))) (orders plan i s.now.past)
            = worked_done turnstile i (pass_of (slice_index_or old i w)) pass (did (hand_of (slice_index_or old i w))) (did (hand_of (slice_index_or new i w))) (failed_of (slice_index_or new i w)) failed (orders plan i s.now.past)
            fresh (made i w below) (worked i w below) (λ right. none right i w here)
            (asks_stay state gives turnstile s fresh same had i pass grown.added grown.history (later_at i w below) plan) in
            subst (λ (h : H). HasDoneSo failed (did h) (orders plan i turnstile.start.start.past) (did (slice_index_or hands_new i d)) (orders plan i s.now.past)) (sym (at_mapped hand_of old hands_old i w d before below))
            (subst (λ (h : H). HasDoneSo failed (did (hand_of (slice_index_or old i w))) (orders plan i turnstile.start.start.past) (did h) (orders plan i s.now.past)) (sym (at_mapped hand_of new hands_new i w d (sym after) here)) done)
