-- What a hand knows of the shared book that it takes and gives, by what its pass has seen.
use Rattle.std.proofs.Common.{◌≡◌, ◌+◌, ◌-◌, ◌<◌, ◌^◌, ℕ, true, List, ◌++◌, length, Option, Some, ap, ◌∙◌, sym, subst, arith}
use Rattle.tf_actions.specs.declared.orders.Order.{Order}
use Rattle.tf_actions.specs.declared.outcomes.Outcome.{Outcome}
use Rattle.tf_states.specs.declared.record.Entry.{Entry}
use Rattle.tf_hands.specs.Hands.{HasOrder, orders}
use Rattle.tf_hands.proofs.OtherLemmas.{free_through, order_through, orders_through}
use Rattle.tf_model.specs.History.{snapshot}
use Rattle.tf_model.specs.Plan.{Outline}
use Rattle.tf_model.specs.Steps.{LegalPast, is_free}
use Rattle.tf_book.specs.Book.{BookValue, outline}
use Rattle.tf_turnstile.specs.Numbered.{IsLater}
use Rattle.tf_turnstile.specs.Passes.{TurnstileValue, PassValue, IsIdle, MayGive}
use Rattle.tf_engines.specs.Shared.{SharedValue, origin_of, entries_of, seen_past, IsInside}
use Rattle.tf_engines.specs.Working.{IsAdded, HasOutcome, IsOpenedFor}
use Rattle.tf_engines.proofs.SeenLemmas.{IsLaterBy, length-numbered, seen_is, taken_on, may_give}

module _ {K : Type 0} where
  -- ---- what is taken

  -- it goes on from what the pass has seen
  pub took : (turnstile : TurnstileValue (SharedValue K)) (hand : ℕ) (pass : PassValue (SharedValue K) Entry) (s : SharedValue K) (seen : List (ℕ × Entry)) → IsOpenedFor turnstile hand → IsIdle turnstile hand pass
      → origin_of s ≡ origin_of turnstile.start → entries_of s ≡ entries_of turnstile.start ++ seen → IsLater pass.number pass.seen seen → IsInside s.start.past s.now.past
      → IsLaterBy hand (seen_past turnstile pass) s.now.past
  took turnstile hand pass s seen opened idle same history later inside =
      taken_on turnstile hand pass s seen opened.fresh same history (subst (λ (n : ℕ). IsLater n pass.seen seen) idle.number_is later) inside

  -- it has the plan of the session's start
  plan_is : (turnstile : TurnstileValue (SharedValue K)) (s : SharedValue K) → origin_of s ≡ origin_of turnstile.start → outline s.start ≡ outline turnstile.start.start
  plan_is turnstile s same = ap (λ (o : BookValue K × Option ℕ × ℕ). outline o.0) same

  pub took_free : (turnstile : TurnstileValue (SharedValue K)) (hand : ℕ) (past : List Entry) (s : SharedValue K) → origin_of s ≡ origin_of turnstile.start → IsLaterBy hand past s.now.past
      → is_free (outline turnstile.start.start) (snapshot (outline turnstile.start.start) past) hand ≡ true → is_free (outline s.start) (snapshot (outline s.start) s.now.past) hand ≡ true
  took_free turnstile hand past s same on free =
      subst (λ (plan : Outline). is_free plan (snapshot plan s.now.past) hand ≡ true) (sym (plan_is turnstile s same))
      (subst (λ (l : List Entry). is_free (outline turnstile.start.start) (snapshot (outline turnstile.start.start) l) hand ≡ true) (sym on.is)
      (free_through (outline turnstile.start.start) on.newer past hand on.others free))

  pub took_outcome : (gives : Order → Outcome → Type 0) (turnstile : TurnstileValue (SharedValue K)) (hand : ℕ) (past : List Entry) (s : SharedValue K) (came : Outcome) → origin_of s ≡ origin_of turnstile.start
      → IsLaterBy hand past s.now.past → LegalPast (outline s.start) s.now.past → HasOutcome gives (outline turnstile.start.start) past hand came → HasOutcome gives (outline s.start) s.now.past hand came
  took_outcome gives turnstile hand past s came same on legal had =
      let plan : Outline = outline turnstile.start.start in
      let here : LegalPast plan (on.newer ++ past) = subst (λ (l : List Entry). LegalPast plan l) on.is (subst (λ (p : Outline). LegalPast p s.now.past) (plan_is turnstile s same) legal) in
      record {
        order = had.order;
        has = subst (λ (p : Outline). HasOrder p s.now.past hand had.order) (sym (plan_is turnstile s same))
            (subst (λ (l : List Entry). HasOrder plan l hand had.order) (sym on.is) (order_through plan on.newer past hand had.order here on.others had.has));
        gave = had.gave;
      }

  pub took_asks : (turnstile : TurnstileValue (SharedValue K)) (hand : ℕ) (past : List Entry) (s : SharedValue K) → origin_of s ≡ origin_of turnstile.start → IsLaterBy hand past s.now.past
      → orders (outline s.start) hand s.now.past ≡ orders (outline turnstile.start.start) hand past
  took_asks turnstile hand past s same on =
      ap (λ (plan : Outline). orders plan hand s.now.past) (plan_is turnstile s same) ∙ ap (orders (outline turnstile.start.start) hand) on.is
      ∙ orders_through (outline turnstile.start.start) on.newer past hand on.others

  -- ---- what is given

  pub has_room : (s : SharedValue K) → length s.now.past < 2 ^ 63 → 0 + length (entries_of s) < 2 ^ 64 - 1
  has_room s few = omega (arith, length-numbered s.now.past, few)

  pub gives_turn : (turnstile : TurnstileValue (SharedValue K)) (hand : ℕ) (old pass : PassValue (SharedValue K) Entry) (s kept : SharedValue K) → IsIdle turnstile hand old
      → pass ≡ record old { seen = pass.seen; taken = Some s } → origin_of kept ≡ origin_of s → IsAdded hand s.now.past kept.now.past → MayGive origin_of entries_of pass kept
  gives_turn turnstile hand old pass s kept idle is same added =
      may_give pass s kept hand (ap (λ (p : PassValue (SharedValue K) Entry). p.taken) is) (ap (λ (p : PassValue (SharedValue K) Entry). p.number) is ∙ idle.number_is) same added

  -- what is true of the book that was given is true by what the pass has seen then
  pub gave : (P : Outline → List Entry → Type 0) (turnstile : TurnstileValue (SharedValue K)) (s kept : SharedValue K) (pass : PassValue (SharedValue K) Entry) → origin_of s ≡ origin_of turnstile.start
      → entries_of kept ≡ entries_of turnstile.start ++ pass.seen → P (outline s.start) kept.now.past → P (outline turnstile.start.start) (seen_past turnstile pass)
  gave P turnstile s kept pass same history has =
      subst (λ (l : List Entry). P (outline turnstile.start.start) l) (seen_is kept.now.past turnstile.start.now.past pass.seen history)
      (subst (λ (plan : Outline). P plan kept.now.past) (plan_is turnstile s same) has)
