-- Which words are a command, and what each command asks for.
use Rattle.std.specs.Prelude.{ℕ, List, [], ◌∷◌, ◌++◌, codes, length, take, drop, not, Bool, ◌&&◌, ◌==◌, nat_le, Option, Some, None, option_map, option_and_then, if◌then◌else◌, ◌≤◌, true, false}
use Rattle.std.specs.List.{list_any}
use Rattle.tf_ports.specs.declared.crews.Address.{Address}
use Rattle.tf_ports.specs.declared.crews.Address.TheVariants as address
use Rattle.tf_values.specs.Text.{is_text, is_name}
use Rattle.tf_words.specs.Verbs.{number_between, same_word, is_count, value_meant, sets_behind, Said, once, are_filled, said_by, Choice, choice_of, forms_of}
use Rattle.tf_words.specs.declared.asked.Asked.{Asked}
use Rattle.tf_words.specs.declared.asked.Asked.TheVariants as asked
use Rattle.tf_board.specs.Board.{parsed_id, priority_named}
use Rattle.tf_board.specs.declared.calls.BoardRequest.TheVariants as request
use Rattle.tf_board.specs.declared.calls.JobCall.TheVariants as call
use Rattle.tf_board.specs.declared.commands.JobAction.{JobAction}
use Rattle.tf_states.specs.declared.priorities.Priority.{Priority}
use Rattle.tf_states.specs.declared.priorities.Priority.TheVariants as priority
use Rattle.tf_values.specs.declared.value.Val.{Val}
use Rattle.tf_values.specs.declared.value.Val.TheVariants as value
use Rattle.tf_ports.specs.declared.crews.Want.{Want}
use Rattle.tf_ports.specs.declared.crews.Want.TheVariants as want
use Rattle.tf_words.specs.declared.verbs.Verb.{Verb}
use Rattle.tf_words.specs.declared.verbs.Verb.TheVariants as verb

-- ---- addresses, and the command of a worker

-- what stands behind a head, if the word begins with it
abbrev pub behind : List ℕ → List ℕ → Option (List ℕ)
behind head word =
    if nat_le (length head) (length word) && same_word (take (length head) word) head
    then Some (drop (length head) word) else None

-- a comma stands in it
abbrev pub has_comma : List ℕ → Bool
has_comma word = list_any (λ byte. byte == 44) word

-- a path is a text that isn't empty and has no comma
abbrev pub is_path : List ℕ → Bool
is_path path = (not (length path == 0) && not (has_comma path)) && is_text path

-- a path of this process's files
abbrev pub path_of : List ℕ → Option Address
path_of path = if is_path path then Some (address.Unix path) else None

-- a port of 127.0.0.1: 1 to 65535, without a leading zero
abbrev pub port_of : List ℕ → Option Address
port_of word = if is_count word then option_map (λ port. address.Tcp port) (number_between 1 65535 word) else None

-- `unix:` and a path, or `tcp:127.0.0.1:` and a port
abbrev pub address_of : List ℕ → Option Address
address_of word =
    elim (behind (codes "unix:") word) [
      | Some path ↦ path_of path
      | None ↦ option_and_then port_of
          (behind (codes "tcp:127.0.0.1:") word)
    ]

-- the pieces of a word between its commas, of whose first piece these bytes stand before the word
abbrev pub pieces_behind : List ℕ → List ℕ → List (List ℕ)
pieces_behind begun [] = begun ∷ []
pieces_behind begun (byte ∷ bytes) =
    if byte == 44 then begun ∷ pieces_behind [] bytes else pieces_behind (begun ++ byte ∷ []) bytes

-- the addresses that words spell, where each spells one
abbrev pub addresses_in : List (List ℕ) → Option (List Address)
addresses_in [] = Some []
addresses_in (word ∷ words) =
    option_and_then (λ first. option_map (λ others. first ∷ others) (addresses_in words)) (address_of word)

-- 1 to 64 addresses with a comma between each two
abbrev pub addresses_of : List ℕ → Option (List Address)
addresses_of word =
    option_and_then (λ found. if nat_le (length found) 64 then Some found else None)
    (addresses_in (pieces_behind [] word))

-- how many sessions are served, and else one
abbrev pub sessions_in : Said → Option ℕ
sessions_in said = once 1 (number_between 1 999999999) (said (codes "sessions"))

-- `worker ADDRESS`
abbrev pub worker_of : Said → List (List ℕ) → Option Asked
worker_of said (word ∷ []) =
    option_and_then (λ n. option_map (λ a. asked.Worker a n) (address_of word)) (sessions_in said)
worker_of said _ = None

-- how many sessions of a board are served side by side, and else one
abbrev pub seats_in : Said → Option ℕ
seats_in said = once 1 (number_between 1 64) (said (codes "sessions"))

-- `board serve BOARD ADDRESS`
abbrev pub serve_of : Said → List (List ℕ) → Option Asked
serve_of said (board ∷ word ∷ []) =
    option_and_then (λ n. option_map (λ a. asked.Serve board a n) (address_of word)) (seats_in said)
serve_of said _ = None

-- ---- what the commands of a board ask for, by the values that their words give to the names of their options and as positional words

-- how urgent a job is, and else NORMAL
abbrev pub priority_in : Said → Option Priority
priority_in said = once priority.Normal priority_named (said (codes "priority"))

-- what a job has beside its name, and else nothing
abbrev pub details_in : Said → Option Val
details_in said = once value.Nothing value_meant (said (codes "details"))

-- `board post BOARD NAME`
abbrev pub post_of : Said → List (List ℕ) → Option Asked
post_of said (board ∷ name ∷ []) =
    if is_name name
    then option_and_then
    (λ p. option_map (λ d. asked.Board board (request.Call (call.Post name p d))) (details_in said)) (priority_in said)
    else None
post_of said _ = None

-- `board claim BOARD ID OWNER`, and likewise what else an owner does with a job: the id is a text form of one, and the
-- owner a name
abbrev pub apply_of : JobAction → List (List ℕ) → Option Asked
apply_of action (board ∷ id ∷ owner ∷ []) =
    option_and_then
    (λ i. if is_name owner then Some (asked.Board board (request.Call (call.Apply action i owner))) else None)
    (parsed_id id)
apply_of action _ = None

-- `board owner BOARD ID`
abbrev pub owner_of : List (List ℕ) → Option Asked
owner_of (board ∷ id ∷ []) = option_map (λ i. asked.Board board (request.Owner i)) (parsed_id id)
owner_of _ = None

-- `board list BOARD`
abbrev pub list_of : List (List ℕ) → Option Asked
list_of (board ∷ []) = Some (asked.Board board request.List)
list_of _ = None

-- ---- the numbers of a generated flow

-- a seed and a size from which a flow may be generated
pub record IsDemo (seed size : ℕ) : Type 0 where
  pub seed_most : seed ≤ 65536
  pub size_least : 1 ≤ size
  pub size_most : size ≤ 900

-- ---- the numbers of conductors

-- 1 to 64 conductors, and a word by which their owners are named
pub record IsConduct (owner : List ℕ) (hands : ℕ) : Type 0 where
  pub short : length owner ≤ 61
  pub least : 1 ≤ hands
  pub most : hands ≤ 64

-- ---- what each command asks for, by the values that its words give to the names of its options and, as positional words, to the empty name

-- whether reverts are deferred
abbrev pub deferral_in : Said → Option Bool
deferral_in said = once false (λ value. Some true) (said (codes "defer-reverts"))

-- how many hands of this process are wanted, 1 to 64 and else one
abbrev pub hands_in : Said → Option ℕ
hands_in said = once 1 (number_between 1 64) (said (codes "hands"))

-- a hand at each address of a list, beside which no number of hands stands
abbrev pub remote_of : List (List ℕ) → List ℕ → Option Want
remote_of [] list = option_map (λ addresses. want.Remote addresses) (addresses_of list)
remote_of _ list = None

-- the same, where such a list is given; it stands at most once, and where there is none hands of this process are
-- wanted
abbrev pub want_by : Said → List (List ℕ) → Option Want
want_by said [] = option_map (λ hands. want.Local hands) (hands_in said)
want_by said (list ∷ []) = remote_of (said (codes "hands")) list
want_by said _ = None

-- the hands that are wanted: those of `--worker LIST`, or those of `--hands N`
abbrev pub want_in : Said → Option Want
want_in said = want_by said (said (codes "worker"))

-- after how many entries the run stops, if it does
abbrev pub stop_in : Said → Option (Option ℕ)
stop_in said = once None (λ value. option_map Some (number_between 1 999999999 value)) (said (codes "stop-after"))

-- up to which target the flow goes, if to one; it is a name
abbrev pub target_in : Said → Option (Option (List ℕ))
target_in said = once None (λ value. if is_name value then Some (Some value) else None) (said (codes "target"))

-- `try FILE [NAME=VALUE]...`
abbrev pub try_of : Said → List (List ℕ) → Option Asked
try_of said [] = None
try_of said (file ∷ pairs) =
    option_and_then (λ defer.
    option_and_then (λ hands.
    option_and_then (λ target.
    option_map (λ sets. asked.Try file sets defer hands target)
    (sets_behind [] pairs)) (target_in said)) (want_in said)) (deferral_in said)

-- `run FILE BOOK [NAME=VALUE]...`
abbrev pub run_of : Said → List (List ℕ) → Option Asked
run_of said (file ∷ book ∷ pairs) =
    option_and_then (λ defer.
    option_and_then (λ hands.
    option_and_then (λ stop.
    option_and_then (λ target.
    option_map (λ sets. asked.Run file book sets defer hands stop target)
    (sets_behind [] pairs)) (target_in said)) (stop_in said)) (want_in said)) (deferral_in said)
run_of said _ = None

-- a book, and the name of one of its flows where one is named
pub record BookFlow : Type 0 where
  pub book : List ℕ
  pub name : Option (List ℕ)

-- `BOOK [NAME]`, where what stands behind the book is a name
abbrev pub book_flow_in : List (List ℕ) → Option BookFlow
book_flow_in (book ∷ []) = Some (record { book = book; name = None })
book_flow_in (book ∷ name ∷ []) = if is_name name then Some (record { book = book; name = Some name }) else None
book_flow_in _ = None

-- `resume BOOK [NAME]`
abbrev pub resume_of : Said → List (List ℕ) → Option Asked
resume_of said words =
    option_and_then (λ found.
    option_and_then (λ hands.
    option_map (λ stop. asked.Resume found.book found.name hands stop)
    (stop_in said)) (want_in said)) (book_flow_in words)

-- `show BOOK [NAME]`
abbrev pub show_of : List (List ℕ) → Option Asked
show_of words = option_map (λ found. asked.Show found.book found.name) (book_flow_in words)

-- `reset BOOK [NAME]`
abbrev pub reset_of : List (List ℕ) → Option Asked
reset_of words = option_map (λ found. asked.Reset found.book found.name) (book_flow_in words)

-- `details BOOK`
abbrev pub details_of : List (List ℕ) → Option Asked
details_of (book ∷ []) = Some (asked.Details book)
details_of _ = None

-- `migrate OLD NEW`
abbrev pub migrate_of : List (List ℕ) → Option Asked
migrate_of (old ∷ new ∷ []) = Some (asked.Migrate old new)
migrate_of _ = None

-- `check FILE [NAME=VALUE]...`
abbrev pub check_of : Said → List (List ℕ) → Option Asked
check_of said [] = None
check_of said (file ∷ pairs) =
    option_and_then (λ target.
    option_map (λ sets. asked.Check file sets target)
    (sets_behind [] pairs)) (target_in said)

-- `audit FILE LOG [NAME=VALUE]...`
abbrev pub audit_of : Said → List (List ℕ) → Option Asked
audit_of said (file ∷ log ∷ pairs) =
    option_and_then (λ defer.
    option_map (λ sets. asked.Audit file log sets defer)
    (sets_behind [] pairs)) (deferral_in said)
audit_of said _ = None

-- `demo SEED SIZE BOOK`
abbrev pub demo_of : Said → List (List ℕ) → Option Asked
demo_of said (seed ∷ size ∷ book ∷ []) =
    option_and_then (λ seed.
    option_and_then (λ size.
    option_map (λ hands. asked.Demo seed size book hands)
    (hands_in said)) (number_between 1 900 size)) (number_between 0 65536 seed)
demo_of said _ = None

-- the word by which the owners of conductors are named: a name that leaves room for a hyphen and two digits
abbrev pub owner_word : List ℕ → Option (List ℕ)
owner_word word = if is_name word && nat_le (length word) 61 then Some word else None

-- `conduct BOARD OWNER`
abbrev pub conduct_of : Said → List (List ℕ) → Option Asked
conduct_of said (board ∷ owner ∷ []) =
    option_and_then (λ owner.
    option_map (λ hands. asked.Conduct board owner hands)
    (hands_in said)) (owner_word owner)
conduct_of said _ = None

-- what the command asks for
abbrev pub asked_by : Verb → Said → Option Asked
asked_by verb.Try said = try_of said (said [])
asked_by verb.Run said = run_of said (said [])
asked_by verb.Resume said = resume_of said (said [])
asked_by verb.Show said = show_of (said [])
asked_by verb.Reset said = reset_of (said [])
asked_by verb.Details said = details_of (said [])
asked_by verb.Migrate said = migrate_of (said [])
asked_by verb.Check said = check_of said (said [])
asked_by verb.Audit said = audit_of said (said [])
asked_by verb.Demo said = demo_of said (said [])
asked_by verb.Worker said = worker_of said (said [])
asked_by verb.Conduct said = conduct_of said (said [])
asked_by verb.Post said = post_of said (said [])
asked_by (verb.Apply action) said = apply_of action (said [])
asked_by verb.Owner said = owner_of (said [])
asked_by verb.List said = list_of (said [])
asked_by verb.Serve said = serve_of said (said [])

-- ---- which words are a command

-- what the words behind those that choose a command ask for
abbrev pub asked_of : Choice → Option Asked
asked_of found = option_and_then (asked_by found.verb) (said_by (forms_of found.verb) found.others)

-- the command that the words are: each is filled, the first chooses the command, and the others are its options and
-- positional words
abbrev pub command_of : List (List ℕ) → Option Asked
command_of words = if are_filled words then option_and_then asked_of (choice_of words) else None
