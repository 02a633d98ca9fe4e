-- The numbers of a generated flow and of conductors are within their bounds.
use Rattle.std.proofs.Common.{◌≡◌, ℕ, ◌≤◌, List, [], ◌∷◌, true, ◌&&◌, Some, nat_le, arith, length, subst, ◌∙◌}
use Rattle.std.specs.Prelude.{codes, option_map, option_and_then}
use Rattle.std.specs.Str.Parse.{digits_value}
use Rattle.tf_numbers.proofs.TruthLemmas.{and_first, and_second}
use Rattle.tf_words.specs.Words.{hands_in, demo_of, owner_word, conduct_of, IsConduct, IsDemo, command_of}
use Rattle.tf_words.specs.Verbs.{Said, once, is_number, number_between}
use Rattle.tf_values.specs.Text.{is_name}
use Rattle.tf_words.specs.declared.asked.Asked.TheVariants as asked
use Rattle.tf_numbers.proofs.OptionLemmas.{if_some}
use Rattle.tf_numbers.proofs.NumberLemmas.{le_true}
use Rattle.tf_words.proofs.KindLemmas.{map_some, said_of, then_some}

-- a number that was read is within its bounds
pub between : (least most : ℕ) (word : List ℕ) (n : ℕ) → number_between least most word ≡ Some n → (least ≤ n) × (n ≤ most)
between least most word n is =
    let found = if_some (is_number word && (nat_le least (digits_value 10 word) && nat_le (digits_value 10 word) most)) (digits_value 10 word) n is in
    let bounds = and_second (is_number word) (nat_le least (digits_value 10 word) && nat_le (digits_value 10 word) most) found.0 in
    let low : nat_le least (digits_value 10 word) ≡ true = and_first (nat_le least (digits_value 10 word)) (nat_le (digits_value 10 word) most) bounds in
    let high : nat_le (digits_value 10 word) most ≡ true = and_second (nat_le least (digits_value 10 word)) (nat_le (digits_value 10 word) most) bounds in
    (omega (arith, le_true least (digits_value 10 word) low, found.1), omega (arith, le_true (digits_value 10 word) most high, found.1))

demo_said : (said : Said) (first second book : List ℕ) (seed size : ℕ) (name : List ℕ) (hands : ℕ) → demo_of said (first ∷ second ∷ book ∷ []) ≡ Some (asked.Demo seed size name hands) → IsDemo seed size
demo_said said first second book seed size name hands is =
    let a = then_some (λ s. option_and_then (λ n. option_map (λ h. asked.Demo s n book h) (hands_in said)) (number_between 1 900 second)) (number_between 0 65536 first) (asked.Demo seed size name hands) is in
    let b = then_some (λ n. option_map (λ h. asked.Demo a.0 n book h) (hands_in said)) (number_between 1 900 second) (asked.Demo seed size name hands) a.2 in
    let c = map_some (λ h. asked.Demo a.0 b.0 book h) (hands_in said) (asked.Demo seed size name hands) b.2 in
    let same_seed : a.0 ≡ seed = (let is_demo : asked.Demo a.0 b.0 book c.0 ≡ asked.Demo seed size name hands = c.2 in cc) in
    let same_size : b.0 ≡ size = (let is_demo : asked.Demo a.0 b.0 book c.0 ≡ asked.Demo seed size name hands = c.2 in cc) in
    let seeds = between 0 65536 first a.0 a.1 in
    let sizes = between 1 900 second b.0 b.1 in
    record { seed_most = omega (arith, seeds.1, same_seed); size_least = omega (arith, sizes.0, same_size); size_most = omega (arith, sizes.1, same_size) }

demo_within : (said : Said) (words : List (List ℕ)) (seed size : ℕ) (name : List ℕ) (hands : ℕ) → demo_of said words ≡ Some (asked.Demo seed size name hands) → IsDemo seed size
demo_within said [] seed size name hands is = absurd (cc)
demo_within said (first ∷ []) seed size name hands is = absurd (cc)
demo_within said (first ∷ second ∷ []) seed size name hands is = absurd (cc)
demo_within said (first ∷ second ∷ book ∷ []) seed size name hands is = demo_said said first second book seed size name hands is
demo_within said (first ∷ second ∷ book ∷ other ∷ others) seed size name hands is = absurd (cc)

-- the words of a generated flow
pub command_within : (words : List (List ℕ)) (seed size : ℕ) (name : List ℕ) (hands : ℕ) → command_of words ≡ Some (asked.Demo seed size name hands) → IsDemo seed size
command_within words seed size name hands is =
    let found = said_of words (asked.Demo seed size name hands) is in
    demo_within found.0 (found.0 []) seed size name hands found.1

-- the hands that are wanted are 1 to 64
hands_within : (values : List (List ℕ)) (hands : ℕ) → once 1 (number_between 1 64) values ≡ Some hands → (1 ≤ hands) × (hands ≤ 64)
hands_within [] hands is = let one : 1 ≡ hands = cc in (omega (arith, one), omega (arith, one))
hands_within (value ∷ []) hands is = between 1 64 value hands is
hands_within (value ∷ more ∷ others) hands is = absurd (cc)

conduct_within : (said : Said) (words : List (List ℕ)) (board owner : List ℕ) (hands : ℕ) → conduct_of said words ≡ Some (asked.Conduct board owner hands) → IsConduct owner hands
conduct_within said [] board owner hands is = absurd (cc)
conduct_within said (first ∷ []) board owner hands is = absurd (cc)
conduct_within said (first ∷ second ∷ []) board owner hands is =
    let p = then_some (λ o. option_map (λ h. asked.Conduct first o h) (hands_in said)) (owner_word second) (asked.Conduct board owner hands) is in
    let q = map_some (λ h. asked.Conduct first p.0 h) (hands_in said) (asked.Conduct board owner hands) p.2 in
    let same_owner : p.0 ≡ owner = (let is_conduct : asked.Conduct first p.0 q.0 ≡ asked.Conduct board owner hands = q.2 in cc) in
    let same_hands : q.0 ≡ hands = (let is_conduct : asked.Conduct first p.0 q.0 ≡ asked.Conduct board owner hands = q.2 in cc) in
    let named = if_some (is_name second && nat_le (length second) 61) second p.0 p.1 in
    let short = le_true (length second) 61 (and_second (is_name second) (nat_le (length second) 61) named.0) in
    let many = hands_within (said (codes "hands")) q.0 q.1 in
    record { short = subst (λ (o : List ℕ). length o ≤ 61) (named.1 ∙ same_owner) short; least = omega (arith, many.0, same_hands); most = omega (arith, many.1, same_hands) }
conduct_within said (first ∷ second ∷ more ∷ others) board owner hands is = absurd (cc)

-- the words of conductors
pub conductors_within : (words : List (List ℕ)) (board owner : List ℕ) (hands : ℕ) → command_of words ≡ Some (asked.Conduct board owner hands) → IsConduct owner hands
conductors_within words board owner hands is =
    let found = said_of words (asked.Conduct board owner hands) is in
    conduct_within found.0 (found.0 []) board owner hands found.1
