-- The links that are written in a flow.
use Rattle.std.proofs.Common.{◌≡◌, ℕ, zero, suc, ◌+◌, ◌<◌, ◌≤◌, List, [], ◌∷◌, ◌++◌, length, take, map, Bool, true, false, ◌&&◌, ◌||◌, refl, sym, ap, ◌∙◌, add-one, arith, eqb-true, eq-eqb, slice_index_or}
use Rattle.std.specs.Prelude.{nat_eq, nat_lt}
use Rattle.std.specs.List.{list_any}
use Rattle.std.proofs.lemmas.Bool.{ltb-true, lt-ltb}
use Rattle.std.proofs.lemmas.Cmp.{nat_list_eq_equiv}
use Rattle.std.proofs.lemmas.List.{length-map}
use Rattle.tf_flow.specs.declared.deciders.Link.{Link}
use Rattle.tf_flow.specs.Tree.{same_name}
use Rattle.tf_numbers.specs.Numbers.{which_below, has_number, has_pair}
use Rattle.tf_flow.specs.Outline.{Connection, connection_of}
use Rattle.tf_model.specs.Before.{joins, item_name, is_explicit, explicit}
use Rattle.tf_numbers.proofs.TruthLemmas.{and_first, and_second, true_both, same_truth, and_false, or_chain, or_false, or_turn}
use Rattle.tf_numbers.proofs.PairLemmas.{which_passes, passes_which, pair_passes, passes_pair}
use Rattle.tf_order.specs.declared.index.NameIndex.{NameIndex}
use Rattle.tf_flow.specs.declared.listing.Level.{Level}
use Rattle.tf_order.specs.Index.{told, is_named_at}
use Rattle.tf_links.specs.Links.{leads, LinksValue, AreLinks}
use Rattle.tf_flow.specs.Listing.{shown_item, shown_level}
use Rattle.tf_numbers.proofs.EquationLemmas.{ap2}
use Rattle.tf_links.proofs.StandingLemmas.{listed_within, number_more, taking_next, taking_none, taking_all}
use Rattle.tf_numbers.proofs.NumberLemmas.{turn_eq}

-- ---- an item to each of some

pub number_within : (count : ℕ) (xs : List ℕ) (i : ℕ) → ((k : ℕ) → has_number xs k ≡ true → k < count) → i < length xs → slice_index_or xs i 0 < count
number_within count xs i within below = within (slice_index_or xs i 0) (listed_within xs i below)

-- one item was linked to those
pub record LinkedToEach (first : ℕ) (old new : LinksValue) (to : List ℕ) : Type 0 where
  pub same_count : new.count ≡ old.count
  pub told : (u v : ℕ) → leads new.rows u v ≡ ((nat_eq first u && has_number to v) || leads old.rows u v)

pub each_start : (first : ℕ) (old : LinksValue) (to : List ℕ) → LinkedToEach first old old (take 0 to)
each_start first old to = record { same_count = refl; told = λ u v. sym (ap (λ (b : Bool). b || leads old.rows u v) (ap (λ (xs : List ℕ). nat_eq first u && has_number xs v) (taking_none to) ∙ and_false (nat_eq first u))) }

pub each_more : (first : ℕ) (old mid new : LinksValue) (to : List ℕ) (i : ℕ) → LinkedToEach first old mid (take i to) → i < length to → new.count ≡ mid.count
    → ((u v : ℕ) → leads new.rows u v ≡ ((nat_eq first u && nat_eq (slice_index_or to i 0) v) || leads mid.rows u v)) → LinkedToEach first old new (take (i + 1) to)
each_more first old mid new to i before within same put = record {
  same_count = same ∙ before.same_count;
  told = λ u v. put u v ∙ (ap (λ (b : Bool). (nat_eq first u && nat_eq (slice_index_or to i 0) v) || b) (before.told u v)
      ∙ (gather (nat_eq first u) (nat_eq (slice_index_or to i 0) v) (has_number (take i to) v) (leads old.rows u v)
      ∙ ap (λ (b : Bool). (nat_eq first u && b) || leads old.rows u v)
      (ap (λ (b : Bool). has_number (take i to) v || b) (turn_eq (slice_index_or to i 0) v) ∙ sym (ap (λ (xs : List ℕ). has_number xs v) (ap (λ (n : ℕ). take n to) (add-one i) ∙ taking_next to i within) ∙ number_more (take i to) (slice_index_or to i 0) v))));
}
  where
    gather : (a b c d : Bool) → (a && b) || ((a && c) || d) ≡ (a && (c || b)) || d
    gather true true true d = refl
    gather true true false d = refl
    gather true false c d = or_false c d
      where
        or_false : (c d : Bool) → c || d ≡ (c || false) || d
        or_false true d = refl
        or_false false d = refl
    gather false b c d = refl

pub each_done : (first : ℕ) (old new : LinksValue) (to : List ℕ) (i : ℕ) → LinkedToEach first old new (take i to) → length to ≤ i → (u v : ℕ) → leads new.rows u v ≡ ((nat_eq first u && has_number to v) || leads old.rows u v)
each_done first old new to i is whole u v = is.told u v ∙ ap (λ (xs : List ℕ). (nat_eq first u && has_number xs v) || leads old.rows u v) (taking_all to i whole)

-- ---- some items to each of others

pub record LinkedAll (old new : LinksValue) (from to : List ℕ) : Type 0 where
  pub same_count : new.count ≡ old.count
  pub told : (u v : ℕ) → leads new.rows u v ≡ ((has_number from u && has_number to v) || leads old.rows u v)

pub all_start : (old : LinksValue) (from to : List ℕ) → LinkedAll old old (take 0 from) to
all_start old from to = record { same_count = refl; told = λ u v. sym (ap (λ (xs : List ℕ). (has_number xs u && has_number to v) || leads old.rows u v) (taking_none from)) }

pub all_more : (old mid new : LinksValue) (from to : List ℕ) (i : ℕ) → LinkedAll old mid (take i from) to → i < length from → new.count ≡ mid.count
    → ((u v : ℕ) → leads new.rows u v ≡ ((nat_eq (slice_index_or from i 0) u && has_number to v) || leads mid.rows u v)) → LinkedAll old new (take (i + 1) from) to
all_more old mid new from to i before within same put = record {
  same_count = same ∙ before.same_count;
  told = λ u v. put u v ∙ (ap (λ (b : Bool). (nat_eq (slice_index_or from i 0) u && has_number to v) || b) (before.told u v)
      ∙ (gather (nat_eq (slice_index_or from i 0) u) (has_number (take i from) u) (has_number to v) (leads old.rows u v)
      ∙ ap (λ (b : Bool). (b && has_number to v) || leads old.rows u v)
      (ap (λ (b : Bool). has_number (take i from) u || b) (turn_eq (slice_index_or from i 0) u) ∙ sym (ap (λ (xs : List ℕ). has_number xs u) (ap (λ (n : ℕ). take n from) (add-one i) ∙ taking_next from i within) ∙ number_more (take i from) (slice_index_or from i 0) u))));
}
  where
    gather : (a b c d : Bool) → (a && c) || ((b && c) || d) ≡ ((b || a) && c) || d
    gather true true true d = refl
    gather true true false d = refl
    gather true false c d = refl
    gather false true c d = refl
    gather false false c d = refl

pub all_done : (old new : LinksValue) (from to : List ℕ) (i : ℕ) → LinkedAll old new (take i from) to → length from ≤ i → (u v : ℕ) → leads new.rows u v ≡ ((has_number from u && has_number to v) || leads old.rows u v)
all_done old new from to i is whole u v = is.told u v ∙ ap (λ (xs : List ℕ). (has_number xs u && has_number to v) || leads old.rows u v) (taking_all from i whole)

-- ---- all links of a flow

-- the index tells the items of each name
abbrev pub NamesItems : NameIndex → Level → Type 0
NamesItems names level = (name : List ℕ) → told names name ≡ which_below (length level.items.items) (is_named_at (map shown_item level.items.items) name)

pub named_within : (names : NameIndex) (level : Level) (name : List ℕ) (xs : List ℕ) (k : ℕ) → NamesItems names level → xs ≡ told names name → has_number xs k ≡ true → k < length level.items.items
named_within names level name xs k is same on =
    let found = which_passes (length level.items.items) (is_named_at (map shown_item level.items.items) name) (nat_eq k) (ap (λ (ys : List ℕ). has_number ys k) (sym (same ∙ is name)) ∙ on) in
    let e : k ≡ found.number = eqb-true k found.number found.passes in omega (arith, e, found.below)

named_told : (names : NameIndex) (level : Level) (name : List ℕ) (xs : List ℕ) (k : ℕ) → NamesItems names level → xs ≡ told names name → has_number xs k ≡ (nat_lt k (length level.items.items) && same_name (item_name (shown_level level) k) name)
named_told names level name xs k is same = ap (λ (ys : List ℕ). has_number ys k) (same ∙ is name) ∙ same_truth (has_number (which_below (length level.items.items) (is_named_at (map shown_item level.items.items) name)) k) (nat_lt k (length level.items.items) && same_name (item_name (shown_level level) k) name)
    (λ on. let found = which_passes (length level.items.items) (is_named_at (map shown_item level.items.items) name) (nat_eq k) on in let e : k ≡ found.number = eqb-true k found.number found.passes in
    true_both (nat_lt k (length level.items.items)) _ (lt-ltb k (length level.items.items) (omega (arith, e, found.below))) (ap (λ (n : ℕ). same_name (item_name (shown_level level) n) name) e ∙ found.tested))
    (λ on. passes_which (length level.items.items) (is_named_at (map shown_item level.items.items) name) (nat_eq k) k (ltb-true k (length level.items.items) (and_first (nat_lt k (length level.items.items)) _ on)) (and_second (nat_lt k (length level.items.items)) _ on) (eq-eqb k k refl))

-- the links so far
pub record ExplicitBy (level : Level) (links : LinksValue) (seen : List Link) : Type 0 where
  pub same_count : links.count ≡ length level.items.items
  pub told : (u v : ℕ) → leads links.rows u v ≡ ((nat_lt u (length level.items.items) && nat_lt v (length level.items.items)) && list_any (joins (item_name (shown_level level) u) (item_name (shown_level level) v)) (map connection_of seen))

pub explicit_start : (level : Level) (links : LinksValue) (all : List Link) → links.count ≡ length level.items.items → ((u v : ℕ) → leads links.rows u v ≡ false) → ExplicitBy level links (take 0 all)
explicit_start level links all same none = record {
  same_count = same;
  told = λ u v. none u v ∙ sym (ap (λ (ls : List Link). (nat_lt u (length level.items.items) && nat_lt v (length level.items.items)) && list_any (joins (item_name (shown_level level) u) (item_name (shown_level level) v)) (map connection_of ls)) (nothing all) ∙ and_false (nat_lt u (length level.items.items) && nat_lt v (length level.items.items)));
}
  where
    nothing : (ls : List Link) → take 0 ls ≡ []
    nothing [] = refl
    nothing (l ∷ ls) = refl

any_linked : (p : Connection → Bool) (seen : List Link) (link : Link) → list_any p (map connection_of (seen ++ link ∷ [])) ≡ (list_any p (map connection_of seen) || p (connection_of link))
any_linked p [] link = or_false (p (connection_of link))
any_linked p (x ∷ xs) link = ap (λ (b : Bool). p (connection_of x) || b) (any_linked p xs link) ∙ or_chain (p (connection_of x)) (list_any p (map connection_of xs)) (p (connection_of link))

link_next : (all : List Link) (i : ℕ) (link : Link) → i < length all → link ≡ slice_index_or all i link → take (suc i) all ≡ take i all ++ link ∷ []
link_next [] i link within is = absurd (omega arith)
link_next (x ∷ xs) zero link within is = ap (λ (l : Link). l ∷ take 0 xs) (sym is) ∙ ap (λ (ls : List Link). link ∷ ls) (nothing xs)
  where
    nothing : (ls : List Link) → take 0 ls ≡ []
    nothing [] = refl
    nothing (l ∷ ls) = refl
link_next (x ∷ xs) (suc i) link within is = ap (λ (ls : List Link). x ∷ ls) (link_next xs i link (omega arith) is)

same_turned : (a b : List ℕ) → same_name a b ≡ same_name b a
same_turned a b = nat_list_eq_equiv.symm a b

pub explicit_more : (level : Level) (names : NameIndex) (mid new : LinksValue) (all : List Link) (i : ℕ) (link : Link) (from to : List ℕ) → ExplicitBy level mid (take i all) → i < length all → link ≡ slice_index_or all i link
    → NamesItems names level → from ≡ told names link.from → to ≡ told names link.to → new.count ≡ mid.count → ((u v : ℕ) → leads new.rows u v ≡ ((has_number from u && has_number to v) || leads mid.rows u v)) → ExplicitBy level new (take (i + 1) all)
explicit_more level names mid new all i link from to before within is named from_is to_is same put = record {
  same_count = same ∙ before.same_count;
  told = λ u v. put u v ∙ (ap2 (λ (a b : Bool). a || b)
      (ap2 (λ (a b : Bool). a && b) (named_told names level link.from from u named from_is ∙ ap (λ (b : Bool). nat_lt u (length level.items.items) && b) (same_turned (item_name (shown_level level) u) link.from))
      (named_told names level link.to to v named to_is ∙ ap (λ (b : Bool). nat_lt v (length level.items.items) && b) (same_turned (item_name (shown_level level) v) link.to)))
      (before.told u v)
      ∙ (gather (nat_lt u (length level.items.items)) (nat_lt v (length level.items.items)) (same_name link.from (item_name (shown_level level) u)) (same_name link.to (item_name (shown_level level) v))
      (list_any (joins (item_name (shown_level level) u) (item_name (shown_level level) v)) (map connection_of (take i all)))
      ∙ ap (λ (b : Bool). (nat_lt u (length level.items.items) && nat_lt v (length level.items.items)) && b)
      (sym (ap (λ (ls : List Link). list_any (joins (item_name (shown_level level) u) (item_name (shown_level level) v)) (map connection_of ls)) (ap (λ (n : ℕ). take n all) (add-one i) ∙ link_next all i link within is)
      ∙ any_linked (joins (item_name (shown_level level) u) (item_name (shown_level level) v)) (take i all) link))));
}
  where
    gather : (a b c d e : Bool) → ((a && c) && (b && d)) || ((a && b) && e) ≡ (a && b) && (e || (c && d))
    gather true true c d e = or_turn (c && d) e
    gather true false c d e = ap (λ (x : Bool). x || false) (and_false c)
    gather false b c d e = refl

pub explicit_all : (level : Level) (links : LinksValue) (all : List Link) (i : ℕ) → ExplicitBy level links (take i all) → length all ≤ i → all ≡ level.flow.now.links → AreLinks links (explicit (shown_level level))
explicit_all level links all i is whole are = record {
  same = λ u v. is.told u v ∙ (ap (λ (ls : List Link). (nat_lt u (length level.items.items) && nat_lt v (length level.items.items)) && list_any (joins (item_name (shown_level level) u) (item_name (shown_level level) v)) (map connection_of ls)) (everything all i whole ∙ are)
      ∙ same_truth ((nat_lt u (length level.items.items) && nat_lt v (length level.items.items)) && is_explicit (shown_level level) u v) (has_pair (explicit (shown_level level)) u v)
      (λ on. passes_pair (length (shown_level level).items) (is_explicit (shown_level level)) u v
      (let below : u < length level.items.items = ltb-true u (length level.items.items) (and_first (nat_lt u (length level.items.items)) (nat_lt v (length level.items.items)) (and_first _ (is_explicit (shown_level level) u v) on)) in omega (arith, below, length-map level.items.items shown_item))
      (let below : v < length level.items.items = ltb-true v (length level.items.items) (and_second (nat_lt u (length level.items.items)) (nat_lt v (length level.items.items)) (and_first _ (is_explicit (shown_level level) u v) on)) in omega (arith, below, length-map level.items.items shown_item))
      (and_second (nat_lt u (length level.items.items) && nat_lt v (length level.items.items)) (is_explicit (shown_level level) u v) on))
      (λ on. let passes = pair_passes (length (shown_level level).items) (is_explicit (shown_level level)) u v on in
      true_both (nat_lt u (length level.items.items) && nat_lt v (length level.items.items)) (is_explicit (shown_level level) u v)
      (true_both (nat_lt u (length level.items.items)) (nat_lt v (length level.items.items)) (lt-ltb u (length level.items.items) (omega (arith, passes.first, length-map level.items.items shown_item))) (lt-ltb v (length level.items.items) (omega (arith, passes.second, length-map level.items.items shown_item))))
      passes.tested));
  first = λ u v on. let passes = pair_passes (length (shown_level level).items) (is_explicit (shown_level level)) u v on in omega (arith, passes.first, is.same_count, length-map level.items.items shown_item);
  second = λ u v on. let passes = pair_passes (length (shown_level level).items) (is_explicit (shown_level level)) u v on in omega (arith, passes.second, is.same_count, length-map level.items.items shown_item);
}
  where
    everything : (ls : List Link) (i : ℕ) → length ls ≤ i → take i ls ≡ ls
    everything [] zero past = refl
    everything [] (suc i) past = refl
    everything (l ∷ ls) zero past = absurd (omega arith)
    everything (l ∷ ls) (suc i) past = ap (λ (ms : List Link). l ∷ ms) (everything ls i (omega arith))

pub named_below : (names : NameIndex) (level : Level) (name : List ℕ) (xs : List ℕ) (count : ℕ) → NamesItems names level → xs ≡ told names name → count ≡ length level.items.items → (k : ℕ) → has_number xs k ≡ true → k < count
named_below names level name xs count is same counted k on = let below : k < length level.items.items = named_within names level name xs k is same on in omega (arith, below, counted)
