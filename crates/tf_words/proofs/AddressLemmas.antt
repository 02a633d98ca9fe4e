-- Digits are a text, and addresses stand between commas.
use Rattle.std.proofs.Common.{◌≡◌, ◌≤◌, ◌==◌, ◌+◌, ◌-◌, ◌++◌, ◌∙◌, ℕ, zero, suc, ◌<◌, List, [], ◌∷◌, length, take, drop, get_or, Bool, true, false, Option, Some, None, option_map, refl, sym, ap, append_assoc, length-drop, arith}
use Rattle.std.proofs.lemmas.List.{drop_more, take_more, get_or-drop}
use Rattle.std.specs.Prelude.{if◌then◌else◌}
use Rattle.std.proofs.lemmas.Bool.Decides.{nat_tests}
use Rattle.std.proofs.lemmas.Str.{IsUtf8-from_ascii}
use Rattle.std.specs.List.{list_all}
use Rattle.std.specs.Str.{IsUtf8, IsAscii}
use Rattle.tf_numbers.proofs.TruthLemmas.{and_first, and_second}
use Rattle.tf_values.specs.Text.{is_between}
use Rattle.tf_ports.specs.declared.crews.Address.{Address}
use Rattle.tf_words.specs.Words.{address_of, addresses_in, pieces_behind}
use Rattle.tf_words.specs.Verbs.{is_digit, is_count}

low : (least most byte : ℕ) → most < 128 → is_between least most byte ≡ true → byte < 128
low least most byte small is = grind (arith, nat_tests)

digits_ascii : (bytes : List ℕ) → list_all is_digit bytes ≡ true → IsAscii bytes
digits_ascii [] is i = omega arith
digits_ascii (b ∷ bytes) is zero = low 48 57 b (omega arith) (and_first (is_digit b) (list_all is_digit bytes) is)
digits_ascii (b ∷ bytes) is (suc i) = digits_ascii bytes (and_second (is_digit b) (list_all is_digit bytes) is) i

count_ascii : (bytes : List ℕ) → is_count bytes ≡ true → IsAscii bytes
count_ascii [] is i = omega arith
count_ascii (b ∷ bytes) is zero = low 49 57 b (omega arith) (and_first (is_between 49 57 b) (list_all is_digit bytes) is)
count_ascii (b ∷ bytes) is (suc i) = digits_ascii bytes (and_second (is_between 49 57 b) (list_all is_digit bytes) is) i

pub count_utf8 : (bytes : List ℕ) → is_count bytes ≡ true → ¬ (IsUtf8 bytes) → ⊥
count_utf8 bytes is refuted = refuted (IsUtf8-from_ascii bytes (count_ascii bytes is))

-- ---- addresses between commas

-- one piece more is begun behind a comma
begun_at : (begun bytes : List ℕ) (byte : ℕ) → byte ≡ 44 → pieces_behind begun (byte ∷ bytes) ≡ begun ∷ pieces_behind [] bytes
begun_at begun bytes byte is = rw is refl

-- and another byte is one of the piece that was begun
byte_more : (begun bytes : List ℕ) (byte : ℕ) → (byte ≡ 44 → ⊥) → pieces_behind begun (byte ∷ bytes) ≡ pieces_behind (begun ++ byte ∷ []) bytes
byte_more begun bytes byte isnt = by (byte == 44) refl
  where
    by : (b : Bool) → (byte == 44) ≡ b → (if b then begun ∷ pieces_behind [] bytes else pieces_behind (begun ++ byte ∷ []) bytes) ≡ pieces_behind (begun ++ byte ∷ []) bytes
    by true is = absurd (isnt (grind (arith, nat_tests)))
    by false is = refl

joined_on : (found : List Address) (one : Address) (o : Option (List Address))
    → option_map (λ others. found ++ others) (option_map (λ others. one ∷ others) o) ≡ option_map (λ others. (found ++ one ∷ []) ++ others) o
joined_on found one None = refl
joined_on found one (Some others) = ap Some (sym (append_assoc found (one ∷ []) others))

-- an address before a comma is one of those that were found
pub comma_met : (word : List ℕ) (begin end : ℕ) (found : List Address) (one : Address) → begin ≤ end → end < length word → get_or word end 0 ≡ 44
    → Some one ≡ address_of (take (end - begin) (drop begin word))
    → option_map (λ others. found ++ others) (addresses_in (pieces_behind (take (end - begin) (drop begin word)) (drop end word)))
    ≡ option_map (λ others. (found ++ one ∷ []) ++ others) (addresses_in (pieces_behind (take ((end + 1) - (end + 1)) (drop (end + 1) word)) (drop (end + 1) word)))
comma_met word begin end found one ordered within comma is =
    let piece = take (end - begin) (drop begin word) in
    let rest = drop (end + 1) word in
    let none : (end + 1) - (end + 1) ≡ 0 = omega arith in
    let cut : pieces_behind piece (drop end word) ≡ piece ∷ pieces_behind [] rest =
    ap (pieces_behind piece) (drop_more word end 0 within) ∙ begun_at piece rest (get_or word end 0) comma in
    rw (none, cut, sym is) (joined_on found one (addresses_in (pieces_behind [] rest)))

-- and another byte adds to the piece
pub byte_met : (word : List ℕ) (begin end : ℕ) (found : List Address) → begin ≤ end → end < length word → (get_or word end 0 ≡ 44 → ⊥)
    → option_map (λ others. found ++ others) (addresses_in (pieces_behind (take (end - begin) (drop begin word)) (drop end word)))
    ≡ option_map (λ others. found ++ others) (addresses_in (pieces_behind (take ((end + 1) - begin) (drop begin word)) (drop (end + 1) word)))
byte_met word begin end found ordered within other =
    let piece = take (end - begin) (drop begin word) in
    let rest = drop (end + 1) word in
    let more : (end + 1) - begin ≡ (end - begin) + 1 = omega arith in
    let at : begin + (end - begin) ≡ end = omega arith in
    let same : get_or (drop begin word) (end - begin) 0 ≡ get_or word end 0 = get_or-drop begin word (end - begin) 0 ∙ ap (λ (i : ℕ). get_or word i 0) at in
    let longer : take ((end - begin) + 1) (drop begin word) ≡ piece ++ get_or word end 0 ∷ [] =
    take_more (drop begin word) (end - begin) 0 (omega (arith, length-drop begin word)) ∙ ap (λ (b : ℕ). piece ++ b ∷ []) same in
    let cut : pieces_behind piece (drop end word) ≡ pieces_behind (piece ++ get_or word end 0 ∷ []) rest =
    ap (pieces_behind piece) (drop_more word end 0 within) ∙ byte_more piece rest (get_or word end 0) other in
    rw (more, longer) (ap (λ (p : List (List ℕ)). option_map (λ others. found ++ others) (addresses_in p)) cut)
