-- How many hands the words of a command want: 1 to 64.
use Rattle.std.proofs.Common.{◌≡◌, ◌≤◌, ◌==◌, ◌++◌, ◌∙◌, ℕ, suc, List, [], ◌∷◌, length, Bool, true, false, Option, Some, None, nat_le, refl, sym, ap, subst, arith}
use Rattle.std.specs.Prelude.{IfSome, codes, option_map, option_and_then, if◌then◌else◌}
use Rattle.tf_ports.specs.declared.crews.Address.{Address}
use Rattle.tf_ports.specs.declared.crews.Want.{Want}
use Rattle.tf_ports.specs.declared.crews.Want.TheVariants as want
use Rattle.tf_values.specs.Text.{is_name}
use Rattle.tf_words.specs.Words.{worker_of, address_of, addresses_in, addresses_of, pieces_behind, sessions_in, seats_in, serve_of, post_of, apply_of, owner_of, list_of, priority_in, details_in, hands_in, remote_of, want_by, want_in, deferral_in, stop_in, target_in, try_of, run_of, resume_of, show_of, reset_of, check_of, audit_of, demo_of, conduct_of, owner_word, asked_by, asked_of, command_of, book_flow_in, details_of, migrate_of}
use Rattle.tf_words.specs.Verbs.{number_between, sets_behind, Said, once, are_filled, said_by, Choice, choice_of, forms_of}
use Rattle.tf_board.specs.Board.{parsed_id}
use Rattle.tf_board.specs.declared.calls.BoardRequest.TheVariants as request
use Rattle.tf_board.specs.declared.calls.JobCall.TheVariants as call
use Rattle.tf_board.specs.declared.commands.JobAction.{JobAction}
use Rattle.tf_words.specs.declared.asked.Asked.{Asked}
use Rattle.tf_words.specs.declared.asked.Asked.TheVariants as asked
use Rattle.tf_words.specs.declared.verbs.Verb.{Verb}
use Rattle.tf_words.specs.declared.verbs.Verb.TheVariants as verb
use Rattle.tf_commands.specs.Asking.{AreHands}
use Rattle.tf_numbers.proofs.NumberLemmas.{le_true}
use Rattle.tf_numbers.proofs.OptionLemmas.{if_some}
use Rattle.tf_words.proofs.WithinLemmas.{between}
use Rattle.tf_words.proofs.KindLemmas.{then_some, map_some}

-- the hands that a command wants may run a flow, and so many sessions may ask a board
abbrev pub HasHands : Asked → Type 0
HasHands (asked.Try file sets defer hands target) = AreHands hands
HasHands (asked.Run file book sets defer hands stop target) = AreHands hands
HasHands (asked.Resume book name hands stop) = AreHands hands
HasHands (asked.Demo seed size book hands) = AreHands (want.Local hands)
HasHands (asked.Serve board address sessions) = (1 ≤ sessions) × (sessions ≤ 64)
HasHands command = Unit {0}

-- ---- what is given has a property where all that may be given has it

all_map : {A B : Type 0} (P : B → Type 0) (f : A → B) (o : Option A) → ((a : A) → P (f a)) → IfSome (option_map f o) P
all_map P f None all = tt
all_map P f (Some a) all = all a

all_then : {A B : Type 0} (P : B → Type 0) (f : A → Option B) (o : Option A) → ((a : A) → o ≡ Some a → IfSome (f a) P) → IfSome (option_and_then f o) P
all_then P f None all = tt
all_then P f (Some a) all = all a refl

all_where : {A : Type 0} (P : A → Type 0) (c : Bool) (o : Option A) → IfSome o P → IfSome (if c then o else None) P
all_where P true o all = all
all_where P false o all = tt

-- ---- a number of hands

hands_within : (said : Said) (n : ℕ) → hands_in said ≡ Some n → AreHands (want.Local n)
hands_within said n is = by (said (codes "hands")) is
  where
    by : (values : List (List ℕ)) → once 1 (number_between 1 64) values ≡ Some n → AreHands (want.Local n)
    by [] found =
        let one : 1 ≡ n = cc in
        record { least = omega (arith, one); most = omega (arith, one) }
    by (value ∷ []) found =
        let bounds = between 1 64 value n found in
        record { least = bounds.0; most = bounds.1 }
    by (value ∷ more ∷ others) found = absurd (cc)

-- ---- a number of sessions

seats_within : (said : Said) (n : ℕ) → seats_in said ≡ Some n → (1 ≤ n) × (n ≤ 64)
seats_within said n is = by (said (codes "sessions")) is
  where
    by : (values : List (List ℕ)) → once 1 (number_between 1 64) values ≡ Some n → (1 ≤ n) × (n ≤ 64)
    by [] found =
        let one : 1 ≡ n = cc in
        (omega (arith, one), omega (arith, one))
    by (value ∷ []) found = between 1 64 value n found
    by (value ∷ more ∷ others) found = absurd (cc)

-- ---- addresses of hands

-- a word has at least one piece
some_pieces : (begun word : List ℕ) → 1 ≤ length (pieces_behind begun word)
some_pieces begun [] = omega arith
some_pieces begun (byte ∷ bytes) = by (byte == 44) (some_pieces (begun ++ byte ∷ []) bytes)
  where
    by : (b : Bool) → 1 ≤ length (pieces_behind (begun ++ byte ∷ []) bytes) → 1 ≤ length (if b then begun ∷ pieces_behind [] bytes else pieces_behind (begun ++ byte ∷ []) bytes)
    by true some = omega arith
    by false some = some

-- as many addresses as words
as_many : (words : List (List ℕ)) (found : List Address) → addresses_in words ≡ Some found → length found ≡ length words
as_many [] found is = let none : [] ≡ found = cc in ap length (sym none)
as_many (word ∷ words) found is =
    let first = then_some _ (address_of word) found is in
    let others = map_some _ (addresses_in words) found first.2 in
    ap length (sym others.2) ∙ ap suc (as_many words others.0 others.1)

remote_within : (word : List ℕ) (found : List Address) → addresses_of word ≡ Some found → AreHands (want.Remote found)
remote_within word found is =
    let all = then_some _ (addresses_in (pieces_behind [] word)) found is in
    let few = if_some (nat_le (length all.0) 64) all.0 found all.2 in
    let many = as_many (pieces_behind [] word) all.0 all.1 in
    record {
      least = omega (arith, some_pieces [] word, many, ap length few.1);
      most = omega (arith, le_true (length all.0) 64 few.0, ap length few.1);
    }

-- ---- the hands that words want

want_within : (said : Said) (w : Want) → want_in said ≡ Some w → AreHands w
want_within said w is = by (said (codes "worker")) is
  where
    at : (values : List (List ℕ)) (list : List ℕ) → remote_of values list ≡ Some w → AreHands w
    at [] list found =
        let all = map_some (λ a. want.Remote a) (addresses_of list) w found in
        subst AreHands all.2 (remote_within list all.0 all.1)
    at (value ∷ others) list found = absurd (cc)

    by : (values : List (List ℕ)) → want_by said values ≡ Some w → AreHands w
    by [] found =
        let n = map_some (λ h. want.Local h) (hands_in said) w found in
        subst AreHands n.2 (hands_within said n.0 n.1)
    by (list ∷ []) found = at (said (codes "hands")) list found
    by (list ∷ more ∷ others) found = absurd (cc)

-- ---- each command

try_hands : (said : Said) (words : List (List ℕ)) → IfSome (try_of said words) HasHands
try_hands said [] = tt
try_hands said (file ∷ pairs) =
    all_then HasHands _ (deferral_in said) (λ defer is. all_then HasHands _ (want_in said) (λ n is_hands. all_then HasHands _ (target_in said) (λ target is_target.
    all_map HasHands _ (sets_behind [] pairs) (λ sets. want_within said n is_hands))))

run_hands : (said : Said) (words : List (List ℕ)) → IfSome (run_of said words) HasHands
run_hands said [] = tt
run_hands said (file ∷ []) = tt
run_hands said (file ∷ book ∷ pairs) =
    all_then HasHands _ (deferral_in said) (λ defer is. all_then HasHands _ (want_in said) (λ n is_hands. all_then HasHands _ (stop_in said) (λ stop is_stop.
    all_then HasHands _ (target_in said) (λ target is_target. all_map HasHands _ (sets_behind [] pairs) (λ sets. want_within said n is_hands)))))

resume_hands : (said : Said) (words : List (List ℕ)) → IfSome (resume_of said words) HasHands
resume_hands said words =
    all_then HasHands _ (book_flow_in words) (λ found is_found.
    all_then HasHands _ (want_in said) (λ n is_hands. all_map HasHands _ (stop_in said) (λ stop. want_within said n is_hands)))

show_hands : (words : List (List ℕ)) → IfSome (show_of words) HasHands
show_hands words = all_map HasHands _ (book_flow_in words) (λ found. tt)

reset_hands : (words : List (List ℕ)) → IfSome (reset_of words) HasHands
reset_hands words = all_map HasHands _ (book_flow_in words) (λ found. tt)

details_hands : (words : List (List ℕ)) → IfSome (details_of words) HasHands
details_hands [] = tt
details_hands (book ∷ []) = tt
details_hands (book ∷ more ∷ others) = tt

migrate_hands : (words : List (List ℕ)) → IfSome (migrate_of words) HasHands
migrate_hands [] = tt
migrate_hands (old ∷ []) = tt
migrate_hands (old ∷ new ∷ []) = tt
migrate_hands (old ∷ new ∷ more ∷ others) = tt

check_hands : (said : Said) (words : List (List ℕ)) → IfSome (check_of said words) HasHands
check_hands said [] = tt
check_hands said (file ∷ pairs) = all_then HasHands _ (target_in said) (λ target is. all_map HasHands _ (sets_behind [] pairs) (λ sets. tt))

audit_hands : (said : Said) (words : List (List ℕ)) → IfSome (audit_of said words) HasHands
audit_hands said [] = tt
audit_hands said (file ∷ []) = tt
audit_hands said (file ∷ log ∷ pairs) = all_then HasHands _ (deferral_in said) (λ defer is. all_map HasHands _ (sets_behind [] pairs) (λ sets. tt))

demo_of_hands : (said : Said) (seed size : ℕ) (book : List ℕ) (o : Option ℕ) → hands_in said ≡ o → IfSome (option_map (λ n. asked.Demo seed size book n) o) HasHands
demo_of_hands said seed size book None is = tt
demo_of_hands said seed size book (Some n) is = hands_within said n is

demo_hands : (said : Said) (words : List (List ℕ)) → IfSome (demo_of said words) HasHands
demo_hands said [] = tt
demo_hands said (first ∷ []) = tt
demo_hands said (first ∷ second ∷ []) = tt
demo_hands said (first ∷ second ∷ book ∷ []) =
    all_then HasHands _ (number_between 0 65536 first) (λ seed is_seed. all_then HasHands _ (number_between 1 900 second) (λ size is_size. demo_of_hands said seed size book (hands_in said) refl))
demo_hands said (first ∷ second ∷ book ∷ other ∷ others) = tt

conduct_hands : (said : Said) (words : List (List ℕ)) → IfSome (conduct_of said words) HasHands
conduct_hands said [] = tt
conduct_hands said (board ∷ []) = tt
conduct_hands said (board ∷ owner ∷ []) =
    all_then HasHands _ (owner_word owner) (λ name is. all_map HasHands (λ hands. asked.Conduct board name hands) (hands_in said) (λ hands. tt))
conduct_hands said (board ∷ owner ∷ more ∷ others) = tt

worker_hands : (said : Said) (words : List (List ℕ)) → IfSome (worker_of said words) HasHands
worker_hands said [] = tt
worker_hands said (word ∷ []) = all_then HasHands _ (sessions_in said) (λ n is. all_map HasHands _ (address_of word) (λ address. tt))
worker_hands said (word ∷ more ∷ others) = tt

serve_of_hands : (said : Said) (board : List ℕ) (address : Option Address) (n : ℕ) → seats_in said ≡ Some n → IfSome (option_map (λ a. asked.Serve board a n) address) HasHands
serve_of_hands said board None n is = tt
serve_of_hands said board (Some address) n is = seats_within said n is

serve_hands : (said : Said) (words : List (List ℕ)) → IfSome (serve_of said words) HasHands
serve_hands said [] = tt
serve_hands said (board ∷ []) = tt
serve_hands said (board ∷ word ∷ []) = all_then HasHands _ (seats_in said) (λ n is. serve_of_hands said board (address_of word) n is)
serve_hands said (board ∷ word ∷ more ∷ others) = tt

post_hands : (said : Said) (words : List (List ℕ)) → IfSome (post_of said words) HasHands
post_hands said [] = tt
post_hands said (board ∷ []) = tt
post_hands said (board ∷ job ∷ []) =
    all_where HasHands (is_name job) _ (all_then HasHands _ (priority_in said) (λ p is. all_map HasHands (λ d. asked.Board board (request.Call (call.Post job p d))) (details_in said) (λ d. tt)))
post_hands said (board ∷ job ∷ more ∷ others) = tt

apply_hands : (action : JobAction) (words : List (List ℕ)) → IfSome (apply_of action words) HasHands
apply_hands action [] = tt
apply_hands action (board ∷ []) = tt
apply_hands action (board ∷ id ∷ []) = tt
apply_hands action (board ∷ id ∷ owner ∷ []) =
    all_then HasHands _ (parsed_id id) (λ i is. all_where HasHands (is_name owner) (Some (asked.Board board (request.Call (call.Apply action i owner)))) tt)
apply_hands action (board ∷ id ∷ owner ∷ more ∷ others) = tt

owner_hands : (words : List (List ℕ)) → IfSome (owner_of words) HasHands
owner_hands [] = tt
owner_hands (board ∷ []) = tt
owner_hands (board ∷ id ∷ []) = all_map HasHands (λ i. asked.Board board (request.Owner i)) (parsed_id id) (λ i. tt)
owner_hands (board ∷ id ∷ more ∷ others) = tt

list_hands : (words : List (List ℕ)) → IfSome (list_of words) HasHands
list_hands [] = tt
list_hands (board ∷ []) = tt
list_hands (board ∷ more ∷ others) = tt

-- ---- all commands

asked_hands : (which : Verb) (said : Said) → IfSome (asked_by which said) HasHands
asked_hands verb.Try said = try_hands said (said [])
asked_hands verb.Run said = run_hands said (said [])
asked_hands verb.Resume said = resume_hands said (said [])
asked_hands verb.Show said = show_hands (said [])
asked_hands verb.Reset said = reset_hands (said [])
asked_hands verb.Details said = details_hands (said [])
asked_hands verb.Migrate said = migrate_hands (said [])
asked_hands verb.Check said = check_hands said (said [])
asked_hands verb.Audit said = audit_hands said (said [])
asked_hands verb.Demo said = demo_hands said (said [])
asked_hands verb.Worker said = worker_hands said (said [])
asked_hands verb.Conduct said = conduct_hands said (said [])
asked_hands verb.Post said = post_hands said (said [])
asked_hands (verb.Apply action) said = apply_hands action (said [])
asked_hands verb.Owner said = owner_hands (said [])
asked_hands verb.List said = list_hands (said [])
asked_hands verb.Serve said = serve_hands said (said [])

chosen_hands : (choice : Choice) → IfSome (asked_of choice) HasHands
chosen_hands choice = all_then HasHands (asked_by choice.verb) (said_by (forms_of choice.verb) choice.others) (λ said is. asked_hands choice.verb said)

all_hands_within : (words : List (List ℕ)) → IfSome (command_of words) HasHands
all_hands_within words =
    all_where HasHands (are_filled words) (option_and_then asked_of (choice_of words)) (all_then HasHands asked_of (choice_of words) (λ choice is. chosen_hands choice))

-- the hands that the words of a command want
pub command_hands : (words : List (List ℕ)) (command : Asked) → command_of words ≡ Some command → HasHands command
command_hands words command is = subst (λ (o : Option Asked). IfSome o HasHands) is (all_hands_within words)
