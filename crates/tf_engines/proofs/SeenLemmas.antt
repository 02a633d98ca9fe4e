-- What a pass has seen of a shared book, what it takes, and what it may give.
use Rattle.std.proofs.Common.{◌≡◌, ℕ, suc, zero, ◌<◌, Bool, true, false, ◌&&◌, not, List, [], ◌∷◌, ◌++◌, length, slice_index_or, Option, Some, refl, ap, ◌∙◌, sym, subst, arith, append_assoc, append-nil, length-append}
use Rattle.std.specs.Prelude.{nat_eq}
use Rattle.std.specs.List.{list_all}
use Rattle.std.proofs.lemmas.Bool.{eqb-true, ne_eqb}
use Rattle.std.proofs.lemmas.List.{append_cancel_right}
use Rattle.std.proofs.lemmas.List.Elements.{All-append}
use Rattle.std.proofs.lemmas.List.Folds.{list_all-append}
use Rattle.tf_numbers.proofs.TruthLemmas.{true_both, and_first, and_second}
use Rattle.tf_states.specs.declared.record.Entry.{Entry}
use Rattle.tf_hands.specs.Hands.{is_by_other, is_resuming}
use Rattle.tf_book.specs.Book.{BookValue}
use Rattle.tf_turnstile.specs.Numbered.{AllBy, NoneBy, IsLater}
use Rattle.tf_turnstile.specs.Passes.{TurnstileValue, PassValue, MayGive}
use Rattle.tf_engines.specs.Shared.{SharedValue, numbered, unnumbered, origin_of, entries_of, seen_past, entered_past, is_unresumed, IsInside, IsJustEntered}
use Rattle.tf_engines.specs.Working.{is_by, IsAdded}

-- ---- entries with their hands

pub numbered-append : (newer past : List Entry) → numbered (newer ++ past) ≡ numbered past ++ numbered newer
numbered-append [] past = sym (append-nil (numbered past))
numbered-append (e ∷ newer) past =
    ap (λ (l : List (ℕ × Entry)). l ++ (e.hand, e) ∷ []) (numbered-append newer past) ∙ append_assoc (numbered past) (numbered newer) ((e.hand, e) ∷ [])

unnumbered-append : (xs ys : List (ℕ × Entry)) → unnumbered (xs ++ ys) ≡ unnumbered ys ++ unnumbered xs
unnumbered-append [] ys = sym (append-nil (unnumbered ys))
unnumbered-append (p ∷ xs) ys = ap (λ (l : List Entry). l ++ p.1 ∷ []) (unnumbered-append xs ys) ∙ append_assoc (unnumbered ys) (unnumbered xs) (p.1 ∷ [])

unnumbered-numbered : (past : List Entry) → unnumbered (numbered past) ≡ past
unnumbered-numbered [] = refl
unnumbered-numbered (e ∷ past) = unnumbered-append (numbered past) ((e.hand, e) ∷ []) ∙ ap (λ (l : List Entry). e ∷ l) (unnumbered-numbered past)

pub length-numbered : (past : List Entry) → length (numbered past) ≡ length past
length-numbered [] = refl
length-numbered (e ∷ past) = omega (arith, length-numbered past, length-append (numbered past) ((e.hand, e) ∷ []))

-- the history of which this was seen after a first one
pub seen_is : (past first : List Entry) (seen : List (ℕ × Entry)) → numbered past ≡ numbered first ++ seen → past ≡ unnumbered seen ++ first
seen_is past first seen is =
    sym (unnumbered-numbered past) ∙ ap unnumbered is ∙ unnumbered-append (numbered first) seen ∙ ap (λ (l : List Entry). unnumbered seen ++ l) (unnumbered-numbered first)

-- ---- whose they are

-- each is numbered by its hand
AreOwn : List (ℕ × Entry) → Type 0
AreOwn [] = Unit {0}
AreOwn (p ∷ ps) = (p.0 ≡ p.1.hand) × AreOwn ps

own-append : (xs ys : List (ℕ × Entry)) → AreOwn xs → AreOwn ys → AreOwn (xs ++ ys)
unfolding AreOwn
own-append [] ys first second = second
own-append (p ∷ xs) ys first second = (first.0, own-append xs ys first.1 second)

own_second : (xs ys : List (ℕ × Entry)) → AreOwn (xs ++ ys) → AreOwn ys
unfolding AreOwn
own_second [] ys all = all
own_second (p ∷ xs) ys all = own_second xs ys all.1

are_own : (past : List Entry) → AreOwn (numbered past)
unfolding AreOwn
are_own [] = tt
are_own (e ∷ past) = own-append (numbered past) ((e.hand, e) ∷ []) (are_own past) (refl, tt)

-- another hand recorded it
is_other : ℕ → Entry → Bool
is_other hand e = not (nat_eq e.hand hand)

others_of : (hand : ℕ) (ps : List (ℕ × Entry)) → AreOwn ps → NoneBy hand ps → list_all (is_other hand) (unnumbered ps) ≡ true
unfolding AreOwn is_other
others_of hand [] own none = refl
others_of hand (p ∷ ps) own none =
    let apart : nat_eq p.1.hand hand ≡ false = ne_eqb p.1.hand hand (λ same. none 0 p (omega arith) (own.0 ∙ same)) in
    list_all-append (is_other hand) (unnumbered ps) (p.1 ∷ [])
    ∙ true_both (list_all (is_other hand) (unnumbered ps)) (not (nat_eq p.1.hand hand) && true) (others_of hand ps own.1 (λ k d h. none (suc k) d (omega (arith, h))))
    (true_both (not (nat_eq p.1.hand hand)) true (ap not apart) refl)

all_both : (hand : ℕ) (es : List Entry) → list_all (is_other hand) es ≡ true → list_all is_unresumed es ≡ true → list_all (is_by_other hand) es ≡ true
unfolding is_other
all_both hand [] others goes = refl
all_both hand (e ∷ es) others goes =
    true_both (is_by_other hand e) (list_all (is_by_other hand) es)
    (true_both (not (nat_eq e.hand hand)) (not (is_resuming e.what)) (and_first (not (nat_eq e.hand hand)) (list_all (is_other hand) es) others) (and_first (is_unresumed e) (list_all is_unresumed es) goes))
    (all_both hand es (and_second (not (nat_eq e.hand hand)) (list_all (is_other hand) es) others) (and_second (is_unresumed e) (list_all is_unresumed es) goes))

one_by : (hand : ℕ) (e : Entry) → e.hand ≡ hand → (k : ℕ) (d : ℕ × Entry) → k < 1 → (slice_index_or ((e.hand, e) ∷ []) k d).0 ≡ hand
one_by hand e is zero d below = is
one_by hand e is (suc k) d below = absurd (omega arith)

all_by : (hand : ℕ) (more : List Entry) → list_all (is_by hand) more ≡ true → AllBy hand (numbered more)
all_by hand [] by = λ k d h. absurd (omega arith)
all_by hand (e ∷ more) by =
    let this : is_by hand e ≡ true = and_first (is_by hand e) (list_all (is_by hand) more) by in
    let is : e.hand ≡ hand = eqb-true e.hand hand (and_first (nat_eq e.hand hand) (not (is_resuming e.what)) this) in
    All-append (λ (p : ℕ × Entry). p.0 ≡ hand) (numbered more) ((e.hand, e) ∷ []) (all_by hand more (and_second (is_by hand e) (list_all (is_by hand) more) by)) (one_by hand e is)

-- ---- what a pass takes

-- after a history came entries of other hands, none of them RESUMING
pub record IsLaterBy (hand : ℕ) (past now : List Entry) : Type 0 where
  pub newer : List Entry
  pub is : now ≡ newer ++ past
  pub others : list_all (is_by_other hand) newer ≡ true

pub seen_splits : (pass_seen seen : List (ℕ × Entry)) (hand : ℕ) (later : IsLater hand pass_seen seen) → unnumbered seen ≡ unnumbered later.since ++ unnumbered pass_seen
seen_splits pass_seen seen hand later = ap unnumbered later.begins ∙ unnumbered-append pass_seen later.since

module _ {K : Type 0} where
  -- where the session was entered in the history with which the turnstile was made
  pub first_is : (turnstile : TurnstileValue (SharedValue K)) (s : SharedValue K) → IsJustEntered turnstile.start → origin_of s ≡ origin_of turnstile.start → entered_past s.start.past ≡ turnstile.start.now.past
  first_is turnstile s fresh same = ap (λ (o : BookValue K × Option ℕ × ℕ). entered_past o.0.past) same ∙ sym fresh.fresh

  -- what came since the session was entered is what was seen
  pub later_is : (turnstile : TurnstileValue (SharedValue K)) (s : SharedValue K) (seen : List (ℕ × Entry)) (later : List Entry) → IsJustEntered turnstile.start → origin_of s ≡ origin_of turnstile.start
      → entries_of s ≡ entries_of turnstile.start ++ seen → s.now.past ≡ later ++ entered_past s.start.past → later ≡ unnumbered seen
  later_is turnstile s seen later fresh same history recorded =
      let first : List Entry = turnstile.start.now.past in
      append_cancel_right later (unnumbered seen) first
      (ap (λ (l : List Entry). later ++ l) (sym (first_is turnstile s fresh same)) ∙ sym recorded ∙ seen_is s.now.past first seen history)

  -- what is taken goes on from what the pass has seen
  pub taken_on : (turnstile : TurnstileValue (SharedValue K)) (hand : ℕ) (pass : PassValue (SharedValue K) Entry) (s : SharedValue K) (seen : List (ℕ × Entry)) → IsJustEntered turnstile.start
      → origin_of s ≡ origin_of turnstile.start → entries_of s ≡ entries_of turnstile.start ++ seen → IsLater hand pass.seen seen → IsInside s.start.past s.now.past
      → IsLaterBy hand (seen_past turnstile pass) s.now.past
  taken_on turnstile hand pass s seen fresh same history later inside =
      let first : List Entry = turnstile.start.now.past in
      let since : List Entry = unnumbered later.since in
      let split : unnumbered seen ≡ since ++ unnumbered pass.seen = seen_splits pass.seen seen hand later in
      let goes : list_all is_unresumed (since ++ unnumbered pass.seen) ≡ true =
      subst (λ (l : List Entry). list_all is_unresumed l ≡ true) (later_is turnstile s seen inside.later fresh same history inside.recorded ∙ split) inside.unresumed in
      let own : AreOwn later.since =
      own_second pass.seen later.since (subst AreOwn later.begins (own_second (numbered first) seen (subst AreOwn history (are_own s.now.past)))) in
      record {
        newer = since;
        is = seen_is s.now.past first seen history ∙ ap (λ (l : List Entry). l ++ first) split ∙ append_assoc since (unnumbered pass.seen) first;
        others = all_both hand since (others_of hand later.since own later.others)
            (and_first (list_all is_unresumed since) (list_all is_unresumed (unnumbered pass.seen)) (sym (list_all-append is_unresumed since (unnumbered pass.seen)) ∙ goes));
      }

  -- ---- what a pass gives

  pub may_give : (pass : PassValue (SharedValue K) Entry) (s kept : SharedValue K) (hand : ℕ) → pass.taken ≡ Some s → pass.number ≡ hand → origin_of kept ≡ origin_of s → IsAdded hand s.now.past kept.now.past
      → MayGive origin_of entries_of pass kept
  may_give pass s kept hand has number same added = record {
    taken = s;
    has = has;
    same = same;
    longer = record {
      mine = numbered added.more;
      begins = ap numbered added.is ∙ numbered-append added.more s.now.past;
      own = subst (λ (n : ℕ). AllBy n (numbered added.more)) (sym number) (all_by hand added.more added.by);
    };
  }
