-- A command's form is that of one command, and which bytes are no form.
use Rattle.std.proofs.Common.{◌≡◌, ◌≢◌, ℕ, ◌+◌, ◌≤◌, ◌<◌, ◌^◌, List, [], ◌∷◌, ◌++◌, length, take, true, refl, sym, ap, subst, ◌∙◌, arith, w64, append-nil, length-append}
use Rattle.std.specs.Int.{to_be_bytes, from_be_bytes}
use Rattle.std.proofs.lemmas.Nat.{be_bytes_8, from_be_bytes-to_be_bytes_8}
use Rattle.tf_states.specs.declared.priorities.Priority.{Priority}
use Rattle.tf_states.specs.declared.priorities.Priority.TheVariants as priority
use Rattle.tf_values.specs.Text.{is_name}
use Rattle.tf_values.specs.Value.{IsValue, byte_form, BeginsWith}
use Rattle.tf_values.specs.declared.value.Val.{Val}
use Rattle.tf_values.proofs.NameLemmas.{length-is_name}
use Rattle.tf_values.proofs.NumberLemmas.{IsCut}
use Rattle.tf_values.proofs.RoomLemmas.{byte_form_is_short}
use Rattle.tf_values.proofs.ValueLemmas.{value_byte_one}
use Rattle.tf_board.specs.Board.{name_bytes, priority_byte, action_byte, command_bytes, IsCommand}
use Rattle.tf_board.specs.declared.commands.Command.{Command}
use Rattle.tf_board.specs.declared.commands.Command.TheVariants as command
use Rattle.tf_board.specs.declared.commands.JobAction.{JobAction}
use Rattle.tf_board.specs.declared.commands.JobAction.TheVariants as action

-- ---- parts

-- two prefixes of one length
pub fronts : (a b x y : List ℕ) → length a ≡ length b → a ++ x ≡ b ++ y → (a ≡ b) × (x ≡ y)
fronts [] [] x y long is = (refl, is)
fronts [] (n ∷ b) x y long is = absurd (omega (arith, long))
fronts (m ∷ a) [] x y long is = absurd (omega (arith, long))
fronts (m ∷ a) (n ∷ b) x y long is =
    let heads : m ≡ n = cc in
    let tails : a ++ x ≡ b ++ y = cc in
    let others = fronts a b x y (omega (arith, long)) tails in
    (ap (λ (k : ℕ). k ∷ a) heads ∙ ap (λ (l : List ℕ). n ∷ l) others.0, others.1)

-- a name behind its length is followed by what follows it
pub names_one : (a b x y : List ℕ) → name_bytes a ++ x ≡ name_bytes b ++ y → (a ≡ b) × (x ≡ y)
names_one a b x y is =
    let long : length a ≡ length b = cc in
    let tails : a ++ x ≡ b ++ y = cc in
    fronts a b x y long tails

pub numbers_one : (m n : ℕ) (x y : List ℕ) → m < 2 ^ 64 → n < 2 ^ 64 → to_be_bytes w64 m ++ x ≡ to_be_bytes w64 n ++ y → (m ≡ n) × (x ≡ y)
numbers_one m n x y small_m small_n is =
    let both = fronts (to_be_bytes w64 m) (to_be_bytes w64 n) x y refl is in
    (sym (from_be_bytes-to_be_bytes_8 m small_m) ∙ ap (from_be_bytes w64) both.0 ∙ from_be_bytes-to_be_bytes_8 n small_n, both.1)

pub number_front : (bytes prefix rest : List ℕ) (n : ℕ) → IsCut 8 bytes prefix rest → n ≡ from_be_bytes w64 prefix → (n < 2 ^ 64) × (bytes ≡ to_be_bytes w64 n ++ rest)
number_front bytes prefix rest n is n_is =
    let fits = is.fits in
    let below : n < 2 ^ 64 = omega (arith, n_is, fits 0, fits 1, fits 2, fits 3, fits 4, fits 5, fits 6, fits 7) in
    (below, sym is.whole ∙ ap (λ (form : List ℕ). form ++ rest) (sym (be_bytes_8 prefix n is.sized fits n_is)))

pub priority_one : (p q : Priority) → priority_byte p ≡ priority_byte q → p ≡ q
priority_one priority.VeryHigh priority.VeryHigh is = refl
priority_one priority.High priority.High is = refl
priority_one priority.Normal priority.Normal is = refl
priority_one priority.Low priority.Low is = refl
priority_one priority.VeryLow priority.VeryLow is = refl
priority_one p q is = absurd (omega (arith, is))

pub action_one : (a b : JobAction) → action_byte a ≡ action_byte b → a ≡ b
action_one action.Claim action.Claim is = refl
action_one action.Abandon action.Abandon is = refl
action_one action.Consume action.Consume is = refl
action_one action.Trash action.Trash is = refl
action_one a b is = absurd (omega (arith, is))

-- what an owner does isn't a post
pub not_post : (a : JobAction) → action_byte a ≢ 1
not_post action.Claim is = omega (arith, is)
not_post action.Abandon is = omega (arith, is)
not_post action.Consume is = omega (arith, is)
not_post action.Trash is = omega (arith, is)

-- ---- values

take-whole : (bytes : List ℕ) → take (length bytes) bytes ≡ bytes
take-whole [] = refl
take-whole (b ∷ bytes) = ap (λ (l : List ℕ). b ∷ l) (take-whole bytes)

-- bytes that are a value's form begin with it
pub whole_begins : (v : Val) (bytes : List ℕ) → IsValue v → byte_form v ≡ bytes → BeginsWith bytes v (length (byte_form v))
whole_begins v bytes good is = record { value = good; len_is = refl; form = subst (λ (b : List ℕ). take (length (byte_form v)) b ≡ byte_form v) is (take-whole (byte_form v)) }

-- ---- commands

pub posts_one : (a b : List ℕ) (p q : Priority) (v w : Val) → IsValue v → IsValue w → name_bytes a ++ (priority_byte p ∷ byte_form v) ≡ name_bytes b ++ (priority_byte q ∷ byte_form w)
    → (a ≡ b) × (p ≡ q) × (v ≡ w)
posts_one a b p q v w good_v good_w is =
    let both = names_one a b (priority_byte p ∷ byte_form v) (priority_byte q ∷ byte_form w) is in
    let rest : priority_byte p ∷ byte_form v ≡ priority_byte q ∷ byte_form w = both.1 in
    let bytes : priority_byte p ≡ priority_byte q = cc in
    let forms : byte_form v ≡ byte_form w = cc in
    (both.0, priority_one p q bytes, (value_byte_one v w [] [] good_v good_w (ap (λ (l : List ℕ). l ++ []) forms)).0)

pub applied_one : (a b : JobAction) (m n : ℕ) (x y : List ℕ) → m < 2 ^ 64 → n < 2 ^ 64 → to_be_bytes w64 m ++ name_bytes x ≡ to_be_bytes w64 n ++ name_bytes y → (m ≡ n) × (x ≡ y)
applied_one a b m n x y small_m small_n is =
    let both = numbers_one m n (name_bytes x) (name_bytes y) small_m small_n is in
    (both.0, (names_one x y [] [] (ap (λ (l : List ℕ). l ++ []) both.1)).0)

pub command_one : (a b : Command) → IsCommand a → IsCommand b → command_bytes a ≡ command_bytes b → a ≡ b
command_one (command.Post a p v) (command.Post b q w) good_a good_b is =
    let tails : name_bytes a ++ (priority_byte p ∷ byte_form v) ≡ name_bytes b ++ (priority_byte q ∷ byte_form w) = cc in
    let same = posts_one a b p q v w good_a.1 good_b.1 tails in
    ap (λ (n : List ℕ). command.Post n p v) same.0 ∙ ap (λ (r : Priority). command.Post b r v) same.1 ∙ ap (λ (u : Val). command.Post b q u) same.2
command_one (command.Post a p v) (command.Apply c n y) good_a good_b is = absurd (not_post c (let heads : 1 ≡ action_byte c = cc in sym heads))
command_one (command.Apply c m x) (command.Post b q w) good_a good_b is = absurd (not_post c (let heads : action_byte c ≡ 1 = cc in heads))
command_one (command.Apply c m x) (command.Apply d n y) good_a good_b is =
    let heads : action_byte c ≡ action_byte d = cc in
    let tails : to_be_bytes w64 m ++ name_bytes x ≡ to_be_bytes w64 n ++ name_bytes y = cc in
    let same = applied_one c d m n x y good_a.0 good_b.0 tails in
    ap (λ (e : JobAction). command.Apply e m x) (action_one c d heads) ∙ ap (λ (k : ℕ). command.Apply d k x) same.0 ∙ ap (λ (o : List ℕ). command.Apply d n o) same.1

pub command_long : (c : Command) → IsCommand c → (1 ≤ length (command_bytes c)) × (length (command_bytes c) ≤ 131200)
command_long (command.Post a p v) good =
    let long : length (command_bytes (command.Post a p v)) ≡ length (name_bytes a) + length (priority_byte p ∷ byte_form v) + 1 = omega (arith, length-append (name_bytes a) (priority_byte p ∷ byte_form v)) in
    (omega (arith, long), omega (arith, long, length-is_name a good.0, byte_form_is_short v good.1))
command_long (command.Apply c n y) good =
    let long : length (command_bytes (command.Apply c n y)) ≡ length (to_be_bytes w64 n) + length (name_bytes y) + 1 = omega (arith, length-append (to_be_bytes w64 n) (name_bytes y)) in
    (omega (arith, long), omega (arith, long, length-is_name y good.1))

-- ---- what is no command

-- no name stands behind the number
pub no_owner : (bytes rest : List ℕ) (n : ℕ) → n < 2 ^ 64 → bytes ≡ to_be_bytes w64 n ++ rest → ((name more : List ℕ) → is_name name ≡ true → rest ≢ name_bytes name ++ more)
    → (job : ℕ) (owner : List ℕ) → job < 2 ^ 64 → is_name owner ≡ true → bytes ≢ to_be_bytes w64 job ++ name_bytes owner
no_owner bytes rest n small read none job owner small_job good is =
    let both = numbers_one n job rest (name_bytes owner) small small_job (sym read ∙ is) in
    none owner [] good (both.1 ∙ sym (append-nil (name_bytes owner)))

-- no priority stands behind the name
pub no_priority : (bytes name more : List ℕ) → bytes ≡ name_bytes name ++ more → ((p : Priority) (rest : List ℕ) → more ≢ priority_byte p ∷ rest)
    → (other : List ℕ) (p : Priority) (v : Val) → bytes ≢ name_bytes other ++ (priority_byte p ∷ byte_form v)
no_priority bytes name more read none other p v is = none p (byte_form v) (names_one name other more (priority_byte p ∷ byte_form v) (sym read ∙ is)).1

-- no value stands behind the priority
pub no_details : (bytes name more rest : List ℕ) (q : Priority) → bytes ≡ name_bytes name ++ more → more ≡ priority_byte q ∷ rest → ((v : Val) → IsValue v → byte_form v ≢ rest)
    → (other : List ℕ) (p : Priority) (v : Val) → IsValue v → bytes ≢ name_bytes other ++ (priority_byte p ∷ byte_form v)
no_details bytes name more rest q read cut none other p v good is =
    let both = names_one name other more (priority_byte p ∷ byte_form v) (sym read ∙ is) in
    let behind : priority_byte q ∷ rest ≡ priority_byte p ∷ byte_form v = sym cut ∙ both.1 in
    none v good (let tails : byte_form v ≡ rest = cc in tails)

-- no byte stands behind the name, or none of a priority
pub no_byte : (bytes rest : List ℕ) (tag : ℕ) → bytes ≡ tag ∷ rest → ((p : Priority) → priority_byte p ≢ tag) → (p : Priority) (more : List ℕ) → bytes ≢ priority_byte p ∷ more
no_byte bytes rest tag cut none p more is = none p (let both : priority_byte p ∷ more ≡ tag ∷ rest = sym is ∙ cut in let heads : priority_byte p ≡ tag = cc in heads)
