-- What each command asks for is of its own kind.
use Rattle.std.proofs.Common.{◌≡◌, ℕ, List, [], ◌∷◌, Bool, true, false, Option, Some, None, refl, sym, ap, subst}
use Rattle.std.specs.Prelude.{option_map, option_and_then, if◌then◌else◌}
use Rattle.tf_words.specs.Words.{worker_of, address_of, sessions_in, seats_in, serve_of, book_flow_in, post_of, apply_of, owner_of, list_of, priority_in, details_in, hands_in, want_in, deferral_in, stop_in, target_in, try_of, run_of, resume_of, show_of, reset_of, details_of, migrate_of, check_of, audit_of, demo_of, owner_word, conduct_of, asked_by, asked_of, command_of}
use Rattle.tf_words.specs.Verbs.{Said, are_filled, said_by, choice_of, forms_of, number_between, sets_behind}
use Rattle.tf_values.specs.Text.{is_name}
use Rattle.tf_board.specs.Board.{parsed_id}
use Rattle.tf_board.specs.declared.calls.BoardRequest.{BoardRequest}
use Rattle.tf_board.specs.declared.calls.BoardRequest.TheVariants as request
use Rattle.tf_board.specs.declared.calls.JobCall.TheVariants as call
use Rattle.tf_board.specs.declared.commands.JobAction.{JobAction}
use Rattle.tf_words.specs.declared.asked.Asked.{Asked}
use Rattle.tf_words.specs.declared.asked.Asked.TheVariants as asked
use Rattle.tf_words.specs.declared.verbs.Verb.{Verb}
use Rattle.tf_words.specs.declared.verbs.Verb.TheVariants as verb

-- the command that asks this of a board
abbrev verb_of_request : BoardRequest → Verb
verb_of_request (request.Call (call.Post name urgency details)) = verb.Post
verb_of_request (request.Call (call.Apply action id owner)) = verb.Apply action
verb_of_request (request.Owner id) = verb.Owner
verb_of_request request.List = verb.List

-- the command that asks for it
abbrev pub verb_of : Asked → Verb
verb_of (asked.Try file sets defer hands target) = verb.Try
verb_of (asked.Run file book sets defer hands stop target) = verb.Run
verb_of (asked.Resume book name hands stop) = verb.Resume
verb_of (asked.Show book name) = verb.Show
verb_of (asked.Reset book name) = verb.Reset
verb_of (asked.Details book) = verb.Details
verb_of (asked.Migrate old new) = verb.Migrate
verb_of (asked.Check file sets target) = verb.Check
verb_of (asked.Audit file log sets defer) = verb.Audit
verb_of (asked.Demo seed size book hands) = verb.Demo
verb_of (asked.Worker address sessions) = verb.Worker
verb_of (asked.Conduct board owner hands) = verb.Conduct
verb_of (asked.Board board request) = verb_of_request request
verb_of (asked.Serve board address sessions) = verb.Serve

-- what gives something was given something
pub then_some : {A B : Type 0} (f : A → Option B) (o : Option A) (b : B) → option_and_then f o ≡ Some b → (a : A) × (o ≡ Some a) × (f a ≡ Some b)
then_some f None b is = absurd (cc)
then_some f (Some a) b is = (a, refl, is)

pub map_some : {A B : Type 0} (f : A → B) (o : Option A) (b : B) → option_map f o ≡ Some b → (a : A) × (o ≡ Some a) × (f a ≡ b)
map_some f None b is = absurd (cc)
map_some f (Some a) b is = (a, refl, cc)

-- what each command asks for is of its own kind
try_kind : (said : Said) (words : List (List ℕ)) (a : Asked) → try_of said words ≡ Some a → verb_of a ≡ verb.Try
try_kind said [] a is = absurd (cc)
try_kind said (file ∷ pairs) a is =
    let p = then_some _ (deferral_in said) a is in
    let q = then_some _ (want_in said) a p.2 in
    let r = then_some _ (target_in said) a q.2 in
    let s = map_some _ (sets_behind [] pairs) a r.2 in
    sym (ap verb_of s.2)

run_kind : (said : Said) (words : List (List ℕ)) (a : Asked) → run_of said words ≡ Some a → verb_of a ≡ verb.Run
run_kind said [] a is = absurd (cc)
run_kind said (file ∷ []) a is = absurd (cc)
run_kind said (file ∷ book ∷ pairs) a is =
    let p = then_some _ (deferral_in said) a is in
    let q = then_some _ (want_in said) a p.2 in
    let r = then_some _ (stop_in said) a q.2 in
    let s = then_some _ (target_in said) a r.2 in
    let t = map_some _ (sets_behind [] pairs) a s.2 in
    sym (ap verb_of t.2)

resume_kind : (said : Said) (words : List (List ℕ)) (a : Asked) → resume_of said words ≡ Some a → verb_of a ≡ verb.Resume
resume_kind said words a is =
    let p = then_some _ (book_flow_in words) a is in
    let q = then_some _ (want_in said) a p.2 in
    let r = map_some _ (stop_in said) a q.2 in
    sym (ap verb_of r.2)

check_kind : (said : Said) (words : List (List ℕ)) (a : Asked) → check_of said words ≡ Some a → verb_of a ≡ verb.Check
check_kind said [] a is = absurd (cc)
check_kind said (file ∷ pairs) a is =
    let p = then_some _ (target_in said) a is in
    let q = map_some _ (sets_behind [] pairs) a p.2 in
    sym (ap verb_of q.2)

audit_kind : (said : Said) (words : List (List ℕ)) (a : Asked) → audit_of said words ≡ Some a → verb_of a ≡ verb.Audit
audit_kind said [] a is = absurd (cc)
audit_kind said (file ∷ []) a is = absurd (cc)
audit_kind said (file ∷ log ∷ pairs) a is =
    let p = then_some _ (deferral_in said) a is in
    let q = map_some _ (sets_behind [] pairs) a p.2 in
    sym (ap verb_of q.2)

show_kind : (words : List (List ℕ)) (a : Asked) → show_of words ≡ Some a → verb_of a ≡ verb.Show
show_kind words a is =
    let p = map_some _ (book_flow_in words) a is in
    sym (ap verb_of p.2)

reset_kind : (words : List (List ℕ)) (a : Asked) → reset_of words ≡ Some a → verb_of a ≡ verb.Reset
reset_kind words a is =
    let p = map_some _ (book_flow_in words) a is in
    sym (ap verb_of p.2)

details_kind : (words : List (List ℕ)) (a : Asked) → details_of words ≡ Some a → verb_of a ≡ verb.Details
details_kind [] a is = absurd (cc)
details_kind (book ∷ []) a is = let same : asked.Details book ≡ a = cc in sym (ap verb_of same)
details_kind (book ∷ more ∷ others) a is = absurd (cc)

migrate_kind : (words : List (List ℕ)) (a : Asked) → migrate_of words ≡ Some a → verb_of a ≡ verb.Migrate
migrate_kind [] a is = absurd (cc)
migrate_kind (old ∷ []) a is = absurd (cc)
migrate_kind (old ∷ new ∷ []) a is = let same : asked.Migrate old new ≡ a = cc in sym (ap verb_of same)
migrate_kind (old ∷ new ∷ more ∷ others) a is = absurd (cc)

worker_kind : (said : Said) (words : List (List ℕ)) (a : Asked) → worker_of said words ≡ Some a → verb_of a ≡ verb.Worker
worker_kind said [] a is = absurd (cc)
worker_kind said (word ∷ []) a is =
    let p = then_some _ (sessions_in said) a is in
    let q = map_some _ (address_of word) a p.2 in
    sym (ap verb_of q.2)
worker_kind said (word ∷ more ∷ others) a is = absurd (cc)

serve_kind : (said : Said) (words : List (List ℕ)) (a : Asked) → serve_of said words ≡ Some a → verb_of a ≡ verb.Serve
serve_kind said [] a is = absurd (cc)
serve_kind said (board ∷ []) a is = absurd (cc)
serve_kind said (board ∷ word ∷ []) a is =
    let n = then_some (λ n. option_map (λ a. asked.Serve board a n) (address_of word)) (seats_in said) a is in
    let o = map_some (λ a. asked.Serve board a n.0) (address_of word) a n.2 in
    sym (ap verb_of o.2)
serve_kind said (board ∷ word ∷ more ∷ others) a is = absurd (cc)

where_some : {A : Type 0} (c : Bool) (o : Option A) (a : A) → (if c then o else None) ≡ Some a → o ≡ Some a
where_some true o a is = is
where_some false o a is = absurd (cc)

post_kind : (said : Said) (words : List (List ℕ)) (a : Asked) → post_of said words ≡ Some a → verb_of a ≡ verb.Post
post_kind said [] a is = absurd (cc)
post_kind said (board ∷ []) a is = absurd (cc)
post_kind said (board ∷ job ∷ []) a is =
    let p = then_some _ (priority_in said) a (where_some (is_name job) _ a is) in
    let q = map_some _ (details_in said) a p.2 in
    sym (ap verb_of q.2)
post_kind said (board ∷ job ∷ more ∷ others) a is = absurd (cc)

apply_kind : (action : JobAction) (words : List (List ℕ)) (a : Asked) → apply_of action words ≡ Some a → verb_of a ≡ verb.Apply action
apply_kind action [] a is = absurd (cc)
apply_kind action (board ∷ []) a is = absurd (cc)
apply_kind action (board ∷ id ∷ []) a is = absurd (cc)
apply_kind action (board ∷ id ∷ owner ∷ []) a is =
    let p = then_some _ (parsed_id id) a is in
    let q = where_some (is_name owner) _ a p.2 in
    let same : asked.Board board (request.Call (call.Apply action p.0 owner)) ≡ a = cc in
    sym (ap verb_of same)
apply_kind action (board ∷ id ∷ owner ∷ more ∷ others) a is = absurd (cc)

owner_kind : (words : List (List ℕ)) (a : Asked) → owner_of words ≡ Some a → verb_of a ≡ verb.Owner
owner_kind [] a is = absurd (cc)
owner_kind (board ∷ []) a is = absurd (cc)
owner_kind (board ∷ id ∷ []) a is =
    let p = map_some _ (parsed_id id) a is in
    sym (ap verb_of p.2)
owner_kind (board ∷ id ∷ more ∷ others) a is = absurd (cc)

list_kind : (words : List (List ℕ)) (a : Asked) → list_of words ≡ Some a → verb_of a ≡ verb.List
list_kind [] a is = absurd (cc)
list_kind (board ∷ []) a is = let same : asked.Board board request.List ≡ a = cc in sym (ap verb_of same)
list_kind (board ∷ more ∷ others) a is = absurd (cc)

demo_kind : (said : Said) (words : List (List ℕ)) (a : Asked) → demo_of said words ≡ Some a → verb_of a ≡ verb.Demo
demo_kind said [] a is = absurd (cc)
demo_kind said (first ∷ []) a is = absurd (cc)
demo_kind said (first ∷ second ∷ []) a is = absurd (cc)
demo_kind said (first ∷ second ∷ book ∷ []) a is =
    let p = then_some _ (number_between 0 65536 first) a is in
    let q = then_some _ (number_between 1 900 second) a p.2 in
    let r = map_some _ (hands_in said) a q.2 in
    sym (ap verb_of r.2)
demo_kind said (first ∷ second ∷ book ∷ other ∷ others) a is = absurd (cc)

conduct_kind : (said : Said) (words : List (List ℕ)) (a : Asked) → conduct_of said words ≡ Some a → verb_of a ≡ verb.Conduct
conduct_kind said [] a is = absurd (cc)
conduct_kind said (board ∷ []) a is = absurd (cc)
conduct_kind said (board ∷ owner ∷ []) a is =
    let p = then_some _ (owner_word owner) a is in
    let q = map_some _ (hands_in said) a p.2 in
    sym (ap verb_of q.2)
conduct_kind said (board ∷ owner ∷ more ∷ others) a is = absurd (cc)

pub asked_kind : (which : Verb) (said : Said) (a : Asked) → asked_by which said ≡ Some a → verb_of a ≡ which
asked_kind verb.Try said a is = try_kind said (said []) a is
asked_kind verb.Run said a is = run_kind said (said []) a is
asked_kind verb.Resume said a is = resume_kind said (said []) a is
asked_kind verb.Show said a is = show_kind (said []) a is
asked_kind verb.Reset said a is = reset_kind (said []) a is
asked_kind verb.Details said a is = details_kind (said []) a is
asked_kind verb.Migrate said a is = migrate_kind (said []) a is
asked_kind verb.Check said a is = check_kind said (said []) a is
asked_kind verb.Audit said a is = audit_kind said (said []) a is
asked_kind verb.Demo said a is = demo_kind said (said []) a is
asked_kind verb.Worker said a is = worker_kind said (said []) a is
asked_kind verb.Conduct said a is = conduct_kind said (said []) a is
asked_kind verb.Post said a is = post_kind said (said []) a is
asked_kind (verb.Apply action) said a is = apply_kind action (said []) a is
asked_kind verb.Owner said a is = owner_kind (said []) a is
asked_kind verb.List said a is = list_kind (said []) a is
asked_kind verb.Serve said a is = serve_kind said (said []) a is

-- of the words of a command, the values that they give
pub said_of : (words : List (List ℕ)) (a : Asked) → command_of words ≡ Some a → (said : Said) × (asked_by (verb_of a) said ≡ Some a)
said_of words a is = by (are_filled words) is
  where
    by : (filled : Bool) → (if filled then option_and_then asked_of (choice_of words) else None) ≡ Some a → (said : Said) × (asked_by (verb_of a) said ≡ Some a)
    by false found = absurd (cc)
    by true found =
        let choice = then_some asked_of (choice_of words) a found in
        let said = then_some (asked_by choice.0.verb) (said_by (forms_of choice.0.verb) choice.0.others) a choice.2 in
        let kind = asked_kind choice.0.verb said.0 a said.2 in
        (said.0, subst (λ (which : Verb). asked_by which said.0 ≡ Some a) (sym kind) said.2)
