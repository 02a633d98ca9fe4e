-- What the turn of one hand leaves of the others, where they take turns on one thread.
use Rattle.std.proofs.Common.{◌≡◌, ◌≢◌, ℕ, zero, suc, ◌<◌, ◌≤◌, ◌+◌, Bool, true, false, ◌&&◌, ◌||◌, not, List, [], ◌∷◌, ◌++◌, length, length-append, slice_index_or, Option, Some, None, refl, sym, ◌∙◌, ap, subst, inl, inr, ◌⊎◌, arith}
use Rattle.std.specs.Prelude.{nat_eq}
use Rattle.std.specs.List.{list_all}
use Rattle.std.proofs.lemmas.List.{get_or_past}
use Rattle.std.proofs.lemmas.Bool.{cases_eq, cases_lt, eqb-true, ne_eqb}
use Rattle.tf_numbers.proofs.TruthLemmas.{true_both, and_first, and_second, clash}
use Rattle.tf_actions.specs.declared.orders.Order.{Order}
use Rattle.tf_states.specs.declared.record.Entry.{Entry}
use Rattle.tf_states.specs.declared.state.FlowState.{FlowState}
use Rattle.tf_states.specs.declared.state.FlowState.TheVariants as flow
use Rattle.tf_hands.specs.Hands.{HasOrder, orders, is_by_other, is_resuming}
use Rattle.tf_hands.proofs.FlightLemmas.{free_at, order_not_free, still_free, still_no_order}
use Rattle.tf_hands.proofs.OtherLemmas.{free_through, order_through, orders_through}
use Rattle.tf_hands.proofs.RestLemmas.{away_still}
use Rattle.tf_model.specs.History.{flow_of, flow_runs, flow_suspends, snapshot}
use Rattle.tf_model.specs.Plan.{Outline}
use Rattle.tf_model.specs.Steps.{LegalPast, is_free, is_last, is_still}
use Rattle.tf_engines.specs.Asked.{HasDone, HasDoneAllButOne, HasToDo}
use Rattle.tf_book.specs.Book.{BookValue, outline}
use Rattle.tf_engines.specs.Shared.{SharedValue, entered_past, origin_of}
use Rattle.tf_engines.specs.Taking.{AllDone, AllGiven, AreEmpty, AreSeated, HasDoneStep, HasGiven, HasMovedOn, HasMovedTo, HasSeat, HasStep, IsTurnBy, step_by}
use Rattle.tf_engines.specs.Working.{is_by, IsAdded, HasDoneNext, HasNext, IsHeldByOther}
use Rattle.tf_engines.specs.declared.turns.Next.{Next}
use Rattle.tf_engines.specs.declared.turns.Next.TheVariants as next
use Rattle.tf_engines.proofs.OrderLemmas.{done_none, done_whole, done_but, same_done, entered_asks}

-- ---- entries of one hand are another's for the rest

others_of : (hand other : ℕ) → other ≢ hand → (more : List Entry) → list_all (is_by hand) more ≡ true → list_all (is_by_other other) more ≡ true
others_of hand other apart [] by = refl
others_of hand other apart (e ∷ more) by =
    let this : is_by hand e ≡ true = and_first (is_by hand e) (list_all (is_by hand) more) by in
    let is : e.hand ≡ hand = eqb-true e.hand hand (and_first (nat_eq e.hand hand) (not (is_resuming e.what)) this) in
    let not_it : nat_eq e.hand other ≡ false = ne_eqb e.hand other (λ same. apart (sym same ∙ is)) in
    true_both (is_by_other other e) (list_all (is_by_other other) more)
    (true_both (not (nat_eq e.hand other)) (not (is_resuming e.what)) (ap not not_it) (and_second (nat_eq e.hand hand) (not (is_resuming e.what)) this))
    (others_of hand other apart more (and_second (is_by hand e) (list_all (is_by hand) more) by))

-- a flow that has stopped neither runs nor is it suspending
away_last : (state : FlowState) → is_last state ≡ true → flow_runs state || flow_suspends state ≡ false
away_last flow.Pending is = absurd (cc)
away_last flow.Running is = absurd (cc)
away_last flow.Suspending is = absurd (cc)
away_last flow.Suspended is = refl
away_last flow.Resuming is = absurd (cc)
away_last flow.Success is = refl
away_last flow.Failure is = refl
away_last flow.Reverted is = refl

-- the order of a hand that has stopped with the flow is none that it has yet to perform
given_last : (plan : Outline) (past : List Entry) (hand : ℕ) (told : Option (List Order)) (base : List Order) (did : Option (List Order)) (asked : List Order) (held : Option Order) → LegalPast plan past
    → is_last (flow_of past) ≡ true → HasSeat plan past hand held → HasGiven told base did asked held → HasDone told base did asked
given_last plan past hand told base did asked None legal last seat given = given
given_last plan past hand told base did asked (Some order) legal last seat given =
    absurd (still_no_order plan past hand order (away_still plan past legal (away_last (flow_of past) last)) seat.0)

given_but : (told : Option (List Order)) (base : List Order) (did : Option (List Order)) (asked : List Order) (held : Option Order) → HasGiven told base did asked held → HasDoneAllButOne told base did asked
given_but told base did asked None given = done_whole told base did asked given
given_but told base did asked (Some order) given = done_but told base did asked order given

-- ---- the others

-- a shared book that has the same origin has the same plan
pub same_plan : {K : Type 0} (s t : SharedValue K) → origin_of s ≡ origin_of t → outline s.start ≡ outline t.start
same_plan {K} s t same = ap (λ (o : BookValue K × Option ℕ × ℕ). outline o.0) same

module _ (plan : Outline) (past after : List Entry) (number : ℕ) (legal : LegalPast plan after) (added : IsAdded number past after) where
  other_asks : (other : ℕ) → other ≢ number → orders plan other after ≡ orders plan other past
  other_asks other apart = ap (orders plan other) added.is ∙ orders_through plan added.more past other (others_of number other apart added.more added.by)

  other_seat : (other : ℕ) → other ≢ number → (held : Option Order) → HasSeat plan past other held → HasSeat plan after other held
  other_seat other apart None free =
      subst (λ (l : List Entry). is_free plan (snapshot plan l) other ≡ true) (sym added.is) (free_through plan added.more past other (others_of number other apart added.more added.by) free)
  other_seat other apart (Some order) has = (
    subst (λ (l : List Entry). HasOrder plan l other order) (sym added.is)
        (order_through plan added.more past other order (subst (LegalPast plan) added.is legal) (others_of number other apart added.more added.by) has.0),
    has.1,
  )

  module _ (seats new : List (Option Order)) (held : Option Order) (here : slice_index_or new number None ≡ held) (rest : (i : ℕ) → i ≢ number → slice_index_or new i None ≡ slice_index_or seats i None)
      (seated : AreSeated plan past seats) where
    -- the hands are seated after the turn
    pub seated_on : HasSeat plan after number held → AreSeated plan after new
    seated_on mine i = elim (cases_eq i number) [
      | inl same ↦ subst (λ (n : ℕ). HasSeat plan after n (slice_index_or new n None)) (sym same) (subst (HasSeat plan after number) (sym here) mine)
      | inr apart ↦ subst (HasSeat plan after i) (sym (rest i apart)) (other_seat i apart (slice_index_or seats i None) (seated i))
    ]

  module _ {H : Type 0} (did : H → Option (List Order)) (told : ℕ → Option (List Order)) (base : ℕ → List Order) (hands hands_new : List H) (seats : List (Option Order))
      (many : length hands_new ≡ length hands) (others : (i : ℕ) (d : H) → i ≢ number → slice_index_or hands_new i d ≡ slice_index_or hands i d) (given : AllGiven did plan past told base hands seats) where
    other_given : (i : ℕ) (d : H) → i ≢ number → i < length hands → HasGiven (told i) (base i) (did (slice_index_or hands_new i d)) (orders plan i after) (slice_index_or seats i None)
    other_given i d apart below =
        subst (λ (h : H). HasGiven (told i) (base i) (did h) (orders plan i after) (slice_index_or seats i None)) (sym (others i d apart))
        (subst (λ (asked : List Order). HasGiven (told i) (base i) (did (slice_index_or hands i d)) asked (slice_index_or seats i None)) (sym (other_asks i apart)) (given i d below))

    -- each was given its orders after the turn
    pub given_on : (new : List (Option Order)) (held : Option Order) → slice_index_or new number None ≡ held → ((i : ℕ) → i ≢ number → slice_index_or new i None ≡ slice_index_or seats i None)
        → ((d : H) → HasGiven (told number) (base number) (did (slice_index_or hands_new number d)) (orders plan number after) held) → AllGiven did plan after told base hands_new new
    given_on new held here rest mine i d below = elim (cases_eq i number) [
      | inl same ↦
          subst (λ (n : ℕ). HasGiven (told n) (base n) (did (slice_index_or hands_new n d)) (orders plan n after) (slice_index_or new n None)) (sym same)
          (subst (HasGiven (told number) (base number) (did (slice_index_or hands_new number d)) (orders plan number after)) (sym here) (mine d))
      | inr apart ↦
          subst (HasGiven (told i) (base i) (did (slice_index_or hands_new i d)) (orders plan i after)) (sym (rest i apart)) (other_given i d apart (omega (arith, below, many)))
    ]

    -- the flow has stopped
    pub done_last : is_last (flow_of after) ≡ true → AreSeated plan past seats → ((d : H) → HasDone (told number) (base number) (did (slice_index_or hands_new number d)) (orders plan number after))
        → AllDone did plan after false told base hands_new
    done_last last seated mine i d below = elim (cases_eq i number) [
      | inl same ↦ subst (λ (n : ℕ). HasDone (told n) (base n) (did (slice_index_or hands_new n d)) (orders plan n after)) (sym same) (mine d)
      | inr apart ↦
          given_last plan after i (told i) (base i) (did (slice_index_or hands_new i d)) (orders plan i after) (slice_index_or seats i None) legal last
          (other_seat i apart (slice_index_or seats i None) (seated i)) (other_given i d apart (omega (arith, below, many)))
    ]

    -- the hand couldn't go on
    pub done_failed : ((d : H) → HasDoneAllButOne (told number) (base number) (did (slice_index_or hands_new number d)) (orders plan number after)) → AllDone did plan after true told base hands_new
    done_failed mine i d below = elim (cases_eq i number) [
      | inl same ↦ subst (λ (n : ℕ). HasDoneAllButOne (told n) (base n) (did (slice_index_or hands_new n d)) (orders plan n after)) (sym same) (mine d)
      | inr apart ↦
          given_but (told i) (base i) (did (slice_index_or hands_new i d)) (orders plan i after) (slice_index_or seats i None) (other_given i d apart (omega (arith, below, many)))
    ]

-- ---- before the first turn

-- where nothing is in flight no hand needs a place for an order
pub empty_seated : (plan : Outline) (past : List Entry) (seats : List (Option Order)) → is_still plan (snapshot plan past) ≡ true → AreEmpty seats → AreSeated plan past seats
empty_seated plan past seats still empty i = subst (HasSeat plan past i) (sym (empty i)) (still_free plan (snapshot plan past) i still)

-- what stands at a place of a list doesn't depend on what stands for none
pub same_at : {H : Type 0} (hands : List H) (i : ℕ) (d e : H) → i < length hands → slice_index_or hands i d ≡ slice_index_or hands i e
same_at [] i d e below = absurd (omega (arith, below))
same_at (hand ∷ hands) zero d e below = refl
same_at (hand ∷ hands) (suc i) d e below = same_at hands i d e (omega (arith, below))

-- each hand was given the orders that the history asks for so far
pub first_given : {H : Type 0} (did : H → Option (List Order)) (plan : Outline) (before past : List Entry) (hands : List H) (seats : List (Option Order)) (d : H) → past ≡ entered_past before
    → AreEmpty seats → AllGiven did plan past (λ i. did (slice_index_or hands i d)) (λ i. orders plan i before) hands seats
first_given {H} did plan before past hands seats d entered empty i e below =
    let asked : orders plan i past ≡ orders plan i before = ap (orders plan i) entered ∙ entered_asks i plan before in
    subst (HasGiven (did (slice_index_or hands i d)) (orders plan i before) (did (slice_index_or hands i e)) (orders plan i past)) (sym (empty i))
    (subst (λ (h : H). HasDone (did (slice_index_or hands i d)) (orders plan i before) (did h) (orders plan i past)) (same_at hands i d e below)
    (same_done (did (slice_index_or hands i d)) (orders plan i before) (did (slice_index_or hands i d)) (orders plan i before) (orders plan i past) asked (done_none (did (slice_index_or hands i d)) (orders plan i before))))

-- ---- something was recorded

-- nothing was, or the history is longer
same_or_grown : (hand : ℕ) (past after : List Entry) → IsAdded hand past after → (after ≡ past) ⊎ (length past < length after)
same_or_grown hand past after added = by added.more added.is
  where
    by : (more : List Entry) → after ≡ more ++ past → (after ≡ past) ⊎ (length past < length after)
    by [] is = inl is
    by (e ∷ more) is = inr (omega (arith, ap (λ (l : List Entry). length l) is, length-append more past))

grown : (hand : ℕ) (past after : List Entry) → IsAdded hand past after → (after ≡ past → ⊥) → length past < length after
grown hand past after added apart = elim (same_or_grown hand past after added) [
  | inl same ↦ absurd (apart same)
  | inr more ↦ more
]

-- the hand had an order, and has nothing in flight now
pub ended_grows : (plan : Outline) (past after : List Entry) (hand : ℕ) (order : Order) → IsAdded hand past after → HasOrder plan past hand order → is_free plan (snapshot plan after) hand ≡ true
    → length past < length after
ended_grows plan past after hand order added has free = grown hand past after added (λ same.
    clash (is_free plan (snapshot plan past) hand) (subst (λ (l : List Entry). is_free plan (snapshot plan l) hand ≡ true) same free) (order_not_free plan past hand order has))

-- it had nothing in flight, and has an order now
started_grows : (plan : Outline) (past after : List Entry) (hand : ℕ) (order : Order) → IsAdded hand past after → is_free plan (snapshot plan past) hand ≡ true → HasOrder plan after hand order
    → length past < length after
started_grows plan past after hand order added free has = grown hand past after added (λ same.
    clash (is_free plan (snapshot plan after) hand) (subst (λ (l : List Entry). is_free plan (snapshot plan l) hand ≡ true) (sym same) free) (order_not_free plan after hand order has))

-- the hand has nothing in flight, and waits while a task is in flight with another one
pub record IsWaiting (plan : Outline) (past : List Entry) (hand : ℕ) : Type 0 where
  pub free : is_free plan (snapshot plan past) hand ≡ true
  pub held : IsHeldByOther plan past hand

-- a turn after which the run goes on records something, or the hand waits
turn_grows : (plan : Outline) (hand : ℕ) (past after : List Entry) → IsTurnBy plan hand past after → (length past < length after) ⊎ IsWaiting plan after hand
turn_grows plan hand past after this = by this.had this.next this.before this.now this.moved
  where
    by : (had next : Option Order) → HasSeat plan past hand had → HasSeat plan after hand next → HasMovedOn plan after hand had next → (length past < length after) ⊎ IsWaiting plan after hand
    by None None before now held = inr record { free = now; held = held }
    by None (Some order) before now moved = inl (started_grows plan past after hand order this.added before now.0)
    by (Some order) None before now moved = inl (ended_grows plan past after hand order this.added before.0 now)
    by (Some order) (Some next) before now never = absurd never

-- ---- a round

-- something was recorded in it so far, or each hand of those waits
abbrev pub HasGrownOrWaits : Outline → ℕ → List Entry → List Entry → Type 0
HasGrownOrWaits plan number past after = (length past < length after) ⊎ ((after ≡ past) × ((i : ℕ) → i < number → IsWaiting plan after i))

pub nobody_waits : (plan : Outline) (past : List Entry) → HasGrownOrWaits plan 0 past past
nobody_waits plan past = inr (refl, λ i below. absurd (omega (arith, below)))

pub waits_on : (plan : Outline) (number : ℕ) (past between after : List Entry) → IsTurnBy plan number between after → HasGrownOrWaits plan number past between → HasGrownOrWaits plan (number + 1) past after
waits_on plan number past between after this (inl more) =
    inl (omega (arith, more, ap (λ (l : List Entry). length l) this.added.is, length-append this.added.more between))
waits_on plan number past between after this (inr so) = elim (same_or_grown number between after this.added) [
  | inr more ↦ inl (subst (λ (l : List Entry). length l < length after) so.0 more)
  | inl same ↦ elim (turn_grows plan number between after this) [
    | inl more ↦ inl (subst (λ (l : List Entry). length l < length after) so.0 more)
    | inr waiting ↦ inr (
      same ∙ so.0,
      λ i below. elim (cases_eq i number) [
        | inl here ↦ subst (IsWaiting plan after) (sym here) waiting
        | inr apart ↦ elim (cases_lt i number) [
          | inl before ↦ subst (λ (l : List Entry). IsWaiting plan l i) (sym same) (so.1 i before)
          | inr behind ↦ absurd (apart (omega (arith, below, behind)))
        ]
      ],
    )
  ]
]

-- in a whole round something is recorded: a task in flight is with one of the hands, and in its turn that hand records its end
pub round_grows : (plan : Outline) (past after : List Entry) (seats : List (Option Order)) → 1 ≤ length seats → AreSeated plan after seats → HasGrownOrWaits plan (length seats) past after → length past < length after
unfolding snapshot
round_grows plan past after seats some seated (inl more) = more
round_grows plan past after seats some seated (inr so) =
    let waiting : IsWaiting plan after 0 = so.1 0 some in
    let free : is_free plan (snapshot plan after) waiting.held.other ≡ true = elim (cases_lt waiting.held.other (length seats)) [
      | inl below ↦ (so.1 waiting.held.other below).free
      | inr behind ↦ subst (HasSeat plan after waiting.held.other) (get_or_past seats waiting.held.other None behind) (seated waiting.held.other)
    ] in
    absurd (free_at plan (snapshot plan after) waiting.held.other waiting.held.task free waiting.held.below waiting.held.held)
