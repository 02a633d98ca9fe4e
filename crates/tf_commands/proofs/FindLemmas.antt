-- How a detail of a book is looked up and opened.
use Rattle.std.proofs.Common.{◌≡◌, ◌≢◌, ◌<◌, ◌≤◌, ℕ, zero, suc, ◌+◌, List, [], ◌∷◌, length, Bool, true, false, cond, Option, Some, None, refl, sym, ap, ◌∙◌, subst, inl, inr, ◌⊎◌, arith, position, eqb-true}
use Rattle.std.specs.Prelude.{IsTrue, nat_lt, not, ◌==◌, slice_index_or, unwrap_or, Result, Ok, Err, IfOk, IfErr, IfSome}
use Rattle.std.proofs.lemmas.Bool.Decides.{nat_tests}
use Rattle.std.specs.List.{position_or_len}
use Rattle.tf_desk.proofs.StateLemmas.{rests_continues, left_stays}
use Rattle.tf_desk.specs.State.{DeskState, told_as, Rests}
use Rattle.tf_flow.specs.Plan.{PlanValue}
use Rattle.tf_model.specs.History.{flow_of}
use Rattle.tf_journal.proofs.PathLemmas.{set_start}
use Rattle.tf_journal.specs.Format.{Recovered, bodies}
use Rattle.tf_journal.specs.Start.{Untouched, Open}
use Rattle.tf_details.specs.Elements.{Element, detail, entry as entry_of, details, history, has_name, number_among, bodies_of, IsLegalBook}
use Rattle.tf_details.specs.Whole.{AreAlike}
use Rattle.tf_details.proofs.ElementLemmas.{number_below, few_details}
use Rattle.tf_details.proofs.OnceLemmas.{as_many, named_alike, read_once}
use Rattle.std.proofs.lemmas.List.{length-append}
use Rattle.tf_journal.specs.declared.faults.LoadFault.{LoadFault}
use Rattle.tf_journal.specs.declared.faults.LoadFault.TheVariants as load_fault
use Rattle.tf_book.specs.Book.{BookValue, RefusesBook, listed_from, listed}
use Rattle.tf_book.specs.Shelf.{ShelfValue, desk_of, IsPlaced, IsFoundAs, IsOpened}
use Rattle.tf_book.proofs.ShelfLemmas.{listed_long}
use Rattle.tf_book.specs.declared.shelf.Detail.{Detail}
use Rattle.tf_book.specs.declared.shelf.Place.{Place}
use Rattle.tf_book.specs.declared.shelf.Place.TheVariants as place
use Rattle.tf_commands.specs.Begun.{IsShelfOf, is_listed, IsNumberAsked}
use Rattle.tf_commands.specs.Books.{book_at, IsBookOf, IsAskedFor, HoldsNoFlow}
use Rattle.tf_commands.specs.Runs.{IsHeld, HoldsBook}
use Rattle.tf_commands.proofs.PathLemmas.{set_continues, path_continues}

-- ---- by its name

first_listed : (name : List ℕ) (elements : List Element) (number : ℕ) (plans : List PlanValue) → position_or_len (is_listed name) (listed_from elements number plans) ≡ position_or_len (has_name name) plans
first_listed name elements number [] = refl
first_listed name elements number (plan ∷ plans) = ap (λ (n : ℕ). cond (not (has_name name plan)) (1 + n) 0) (first_listed name elements (number + 1) plans)

-- the place of a name in the list is its number
pub named_place : (name : List ℕ) (elements : List Element) → position (is_listed name) (listed elements) ≡ number_among (details elements) name
named_place name elements =
    ap (λ (n : ℕ). cond (nat_lt n (length (listed elements))) (Some n) None) (first_listed name elements 0 (details elements))
    ∙ ap (λ (len : ℕ). cond (nat_lt (position_or_len (has_name name) (details elements)) len) (Some (position_or_len (has_name name) (details elements))) None) (listed_long elements)

listed_state : (elements : List Element) (number : ℕ) (plans : List PlanValue) (n : ℕ) (d : Detail) → n < length plans → (slice_index_or (listed_from elements number plans) n d).state ≡ flow_of (history (number + n) elements)
listed_state elements number [] n d below = absurd (omega (arith, below))
listed_state elements number (plan ∷ plans) zero d below =
    let same : number ≡ number + 0 = omega arith in
    ap (λ (k : ℕ). flow_of (history k elements)) same
listed_state elements number (plan ∷ plans) (suc n) d below =
    let same : number + 1 + n ≡ number + suc n = omega arith in
    listed_state elements (number + 1) plans n d (omega (arith, below)) ∙ ap (λ (k : ℕ). flow_of (history k elements)) same

-- the state at a place of the list
pub state_at : (elements : List Element) (n : ℕ) (d : Detail) → n < length (details elements) → (slice_index_or (listed elements) n d).state ≡ flow_of (history n elements)
state_at elements n d below =
    let same : 0 + n ≡ n = omega arith in
    listed_state elements 0 (details elements) n d below ∙ ap (λ (k : ℕ). flow_of (history k elements)) same

-- ---- which elements a file has

-- it is a book of a shelf's elements
pub book_found : {K : Type 0} (state : K → DeskState) (at : Place K) (elements : List Element) (found : Recovered) → IsPlaced state at elements → IsLegalBook elements → IsFoundAs at elements found → IsBookOf elements found
book_found state (place.Kept journal) elements found placed legal is = inl (record { is = is; legal = legal })
book_found state (place.Unborn desk) elements found placed legal is = inr (placed.0, is)

-- and it is no unborn file where there is a detail
pub some_found : {K : Type 0} (state : K → DeskState) (at : Place K) (elements : List Element) (found : Recovered) → IsPlaced state at elements → details elements ≢ [] → IsFoundAs at elements found
    → found ≡ bodies (bodies_of elements)
some_found state (place.Kept journal) elements found placed some is = is
some_found state (place.Unborn desk) elements found placed some is = absurd (some (ap details placed.0))

-- without a detail there is no element
pub none_legal : (elements : List Element) → IsLegalBook elements → details elements ≡ [] → elements ≡ []
none_legal [] legal none = refl
none_legal (detail plan ∷ before) legal none = absurd (omega (arith, ap length none, length-append (details before) (plan ∷ [])))
none_legal (entry_of number e ∷ before) legal none = absurd (omega (arith, ap length none, number_below before number legal.0.plan legal.0.of_detail))

-- so a file holds no flow then
pub no_flow_found : {K : Type 0} (state : K → DeskState) (at : Place K) (elements : List Element) (found : Recovered) → IsPlaced state at elements → IsLegalBook elements → details elements ≡ [] → IsFoundAs at elements found
    → HoldsNoFlow found
no_flow_found state (place.Kept journal) elements found placed legal none is = inr (is ∙ ap (λ (e : List Element). bodies (bodies_of e)) (none_legal elements legal none))
no_flow_found state (place.Unborn desk) elements found placed legal none is = inl is

-- ---- a detail that is opened

-- books that tell the same have the same detail that is asked for
asked_alike : (wanted : Option (List ℕ)) (a b : List Element) (number : ℕ) → AreAlike a b → IsAskedFor wanted b number → IsAskedFor wanted a number
asked_alike None a b number alike is = is ∙ sym (as_many a b alike)
asked_alike (Some name) a b number alike is = named_alike a b name alike ∙ is

pub opened_holds : {K : Type 0} (state : K → DeskState) (name : List ℕ) (wanted : Option (List ℕ)) (entry : DeskState) (shelf : ShelfValue K) (number : ℕ) (book : BookValue K)
    → IsShelfOf state name entry shelf → IsPlaced state shelf.place shelf.elements → IsLegalBook shelf.elements → number < length (details shelf.elements)
    → IsOpened state shelf number book → IsHeld book.plan book → IsAskedFor wanted shelf.elements number
    → (IsTrue (state book.journal.desk).tells → IsTrue (state (desk_of shelf)).tells) → HoldsBook name wanted (told_as (state book.journal.desk) entry) book
opened_holds state name wanted entry shelf number book so placed legal below o h asked falls told =
    let told_entry : IsTrue entry.tells = subst IsTrue so.opened.untouched.told (falls told) in
    let same : bodies_of book.contents.elements ≡ bodies_of shelf.elements = o.bodies told in
    let alike = read_once book.contents.elements shelf.elements h.held.legal legal same in
    let is = some_found state shelf.place shelf.elements (book_at entry name) placed (λ none. omega (arith, below, ap length none)) (so.found told_entry) in
    record {
      holds = record { is = is ∙ ap bodies (sym same); held = h.held; past_is = h.told };
      asked = subst (IsAskedFor wanted book.contents.elements) (sym o.number_is) (asked_alike wanted book.contents.elements shelf.elements number alike asked);
    }

lt_true : (a b : ℕ) → nat_lt a b ≡ true → a < b
lt_true a b is = grind (arith, nat_tests)

-- a place is within
position_below : (p : PlanValue → Bool) (plans : List PlanValue) (n : ℕ) → position p plans ≡ Some n → n < length plans
position_below p plans n is = by (nat_lt (position_or_len p plans) (length plans)) refl
  where
    by : (b : Bool) → nat_lt (position_or_len p plans) (length plans) ≡ b → n < length plans
    by true below =
        let found : Some (position_or_len p plans) ≡ Some n = sym (ap (λ (b : Bool). cond b (Some (position_or_len p plans)) None) below) ∙ is in
        let same : position_or_len p plans ≡ n = cc in
        omega (arith, same, lt_true (position_or_len p plans) (length plans) below)
    by false below = let none : None ≡ Some n = sym (ap (λ (b : Bool). cond b (Some (position_or_len p plans)) None) below) ∙ is in absurd (cc)

-- the number that is asked for is one of the details
pub asked_below : (wanted : Option (List ℕ)) (elements : List Element) (number : ℕ) → IsAskedFor wanted elements number → number < length (details elements)
asked_below None elements number is = omega (arith, is)
asked_below (Some name) elements number is = position_below (has_name name) (details elements) number is

-- ---- a file that is read on

pub rests_untouched : {name : List ℕ} {entry mid now : DeskState} → Open name entry mid → Rests mid now → Untouched name entry now
rests_untouched {name} {entry} {mid} {now} o r = record {
  told = r.on_disk.tells ∙ o.untouched.told;
  quiet = r.on_disk.shown ∙ o.untouched.quiet;
  file = λ told. (let stay = r.files (told_mid told) in ap (λ (f : List ℕ → Option (List ℕ)). unwrap_or (f name) []) stay.files ∙ o.untouched.file told);
  path = λ told.
      let start = set_start (o.set told) in
      path_continues (o.untouched.path told) (o.set told) (rests_continues r) (told_mid told) (r.on_disk.crash (told_mid told))
      (λ image text is. is) (λ image text never. absurd never)
      (λ image leaves. (o.untouched.path told).still start.0 start.1 image (left_stays (r.files (told_mid told)) image leaves));
  disk = omega (arith, o.untouched.disk, r.on_disk.disk_faults);
  out = r.on_disk.out_faults ∙ o.untouched.out;
}
  where
    told_mid : IsTrue entry.tells → IsTrue mid.tells
    told_mid told = subst IsTrue (sym o.untouched.told) told

pub rests_open : {name : List ℕ} {entry mid now : DeskState} → Open name entry mid → Rests mid now → Open name entry now
rests_open {name} {entry} {mid} {now} o r = record {
  untouched = rests_untouched o r;
  set = λ told. set_continues (o.set told) (rests_continues r) (subst IsTrue (sym o.untouched.told) told);
}

-- an answer that gives no book tells nothing of one, where the desk tells its content
pub unread_so : (fault : LoadFault) (found : Recovered) → (fault ≡ load_fault.Disk) ⊎ (fault ≡ load_fault.Memory) → RefusesBook fault found
unread_so fault found (inl is) = subst (λ (f : LoadFault). RefusesBook f found) (sym is) tt
unread_so fault found (inr is) = subst (λ (f : LoadFault). RefusesBook f found) (sym is) tt

-- what holds of an answer that is Ok, and of one that is Err
pub ok_on : {A B : Type 0} (r : Result A B) (has gives : A → Type 0) → IfOk r has → ((a : A) → has a → gives a) → IfOk r gives
ok_on (Ok a) has gives is on = on a is
ok_on (Err b) has gives is on = tt

pub err_on : {A B : Type 0} (r : Result A B) (has gives : B → Type 0) → IfErr r has → ((b : B) → has b → gives b) → IfErr r gives
err_on (Ok a) has gives is on = tt
err_on (Err b) has gives is on = on b is

-- ---- the last detail

empty_so : (plans : List PlanValue) → length plans ≡ 0 → plans ≡ []
empty_so [] is = refl
empty_so (plan ∷ plans) is = absurd (omega (arith, is))

-- without a detail there is none to ask for
pub no_details : (elements : List Element) (count : ℕ) → count ≡ length (details elements) → true ≡ (count == 0) → details elements ≡ []
no_details elements count same is =
    let none : count ≡ 0 = eqb-true count 0 (sym is) in
    empty_so (details elements) (omega (arith, same, none))

pub some_details : (elements : List Element) (count : ℕ) → count ≡ length (details elements) → false ≡ (count == 0) → details elements ≢ []
some_details elements zero same is none = let clash : false ≡ true = is in cc
some_details elements (suc count) same is none = omega (arith, same, ap length none)

pub last_asked : (elements : List Element) (found : Option ℕ) → (found ≡ None → length (listed elements) ≡ 0) → IfSome found (λ number. number + 1 ≡ length (listed elements)) → IsNumberAsked None elements found
last_asked elements None none last = empty_so (details elements) (sym (listed_long elements) ∙ none refl)
last_asked elements (Some number) none last = last ∙ listed_long elements

-- as many details as there may be
pub many_details : (elements : List Element) (count : ℕ) → IsLegalBook elements → count ≡ length (details elements) → 64 ≤ count → length (details elements) ≡ 64
many_details elements count legal same many = omega (arith, same, many, few_details elements legal)

-- what wasn't there is not there
pub not_there_so : (wanted : Option (List ℕ)) (elements : List Element) (sought : List ℕ) → wanted ≡ Some sought → IsNumberAsked wanted elements None → number_among (details elements) sought ≡ None
not_there_so wanted elements sought is none = subst (λ (o : Option (List ℕ)). IsNumberAsked o elements None) is none
