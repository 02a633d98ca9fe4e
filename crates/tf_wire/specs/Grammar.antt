-- The words of messages. What JSON spells: values, failures, and the parts of messages. The order that a request names.
-- The messages that frames spell. Messages as JSON. The members of an object stand in the byte order of their keys.
use Rattle.std.specs.Prelude.{ℕ, List, codes, ◌^◌, ℤ, pos, negsuc, int_le, nat_lt, nat_eq, [], ◌∷◌, ◌&&◌, Option, Some, None, option_map, option_and_then, if◌then◌else◌, ◌≡◌, nat_le, length, Bool, true, not, map}
use Rattle.tf_flow.specs.declared.atoms.TaskKind.{TaskKind}
use Rattle.tf_actions.specs.declared.outcomes.Action.{Action}
use Rattle.serde_json.specs.Data.{Data, null, boolean, number, string, array, Items, no_items, item, Members, unsigned, object, member, no_members}
use Rattle.serde_json.specs.Events.{members_len}
use Rattle.serde_json.specs.Find.{get, as_number, as_str, as_array, as_object, as_i64, of_integer}
use Rattle.tf_values.specs.declared.elements.Scalar.{Scalar}
use Rattle.tf_values.specs.declared.value.Val.{Val}
use Rattle.tf_values.specs.Text.{is_name, is_text}
use Rattle.tf_values.specs.Scalars.{are_scalars}
use Rattle.tf_states.specs.declared.record.Failure.{Failure}
use Rattle.tf_flow.specs.Tree.{same_name}
use Rattle.tf_actions.specs.declared.orders.Pair.{Pair}
use Rattle.tf_wire.specs.declared.messages.Request.{Request}
use Rattle.tf_wire.specs.declared.messages.Response.{Response}
use Rattle.tf_flow.specs.declared.atoms.Undo.{Undo}
use Rattle.tf_actions.specs.declared.orders.Order.{Order}
use Rattle.std.specs.List.{list_any}
use Rattle.std.specs.Str.{is_utf8}
use Rattle.serde_json.specs.Read.{read}
use Rattle.tf_flow.specs.Rules.{is_command, least_arguments, has_wrong_words}
use Rattle.tf_actions.specs.Gives.{IsWhole}
use Rattle.tf_wire.specs.declared.faults.WireFault.{WireFault}
use Rattle.serde_json.specs.View.{items_of}
use Rattle.serde_json.specs.Written.{compact_text}
use Rattle.tf_wire.specs.Stream.{framed}
use Rattle.tf_flow.specs.declared.atoms.TaskKind.TheVariants as kind
use Rattle.tf_actions.specs.declared.outcomes.Action.TheVariants as action
use Rattle.tf_values.specs.declared.elements.Scalar.TheVariants as scalar
use Rattle.tf_values.specs.declared.value.Val.TheVariants as value
use Rattle.tf_states.specs.declared.record.Failure.TheVariants as failure
use Rattle.tf_wire.specs.declared.messages.Response.TheVariants as response
use Rattle.tf_flow.specs.declared.atoms.Undo.TheVariants as undo
use Rattle.tf_actions.specs.declared.orders.Given.TheVariants as given
use Rattle.tf_wire.specs.declared.faults.WireFault.TheVariants as fault

-- the word of an action
abbrev pub action_word : Action → List ℕ
action_word action.Execute = codes "execute"
action_word action.Revert = codes "revert"

-- the word of a kind of task
abbrev pub kind_word : TaskKind → List ℕ
kind_word kind.Echo = codes "echo"
kind_word kind.Concat = codes "concat"
kind_word kind.Sum = codes "sum"
kind_word kind.Length = codes "length"
kind_word kind.Pick = codes "pick"
kind_word kind.List = codes "list"
kind_word kind.Fail = codes "fail"
kind_word kind.FailBelow = codes "fail_below"
kind_word kind.FailUnless = codes "fail_unless"
kind_word kind.Command = codes "command"

-- ---- putting together

-- what follows from what is spelled
abbrev pub chain : {A B : Type 0} → Option A → (A → Option B) → Option B
chain None next = None
chain (Some found) next = next found

-- one more at the front
abbrev pub put_first : {A : Type 0} → Option A → Option (List A) → Option (List A)
put_first first others = option_and_then (λ x. option_map (λ xs. x ∷ xs) others) first

-- what each item spells
abbrev pub each_of : {A : Type 0} → (Data → Option A) → Items → Option (List A)
each_of form no_items = Some []
each_of form (item first others) = put_first (form first) (each_of form others)

-- the items of an array, each of which spells something
abbrev pub list_of : {A : Type 0} → (Data → Option A) → Data → Option (List A)
list_of form found = option_and_then (each_of form) (as_array found)

-- what stands at a key of an object
abbrev pub at : {A : Type 0} → List ℕ → (Data → Option A) → Data → Option A
at key form found = option_and_then form (get key found)

-- how many members an object has
abbrev pub size_in : Option Members → ℕ
size_in None = 0
size_in (Some members) = members_len members

abbrev pub size_of : Data → ℕ
size_of found = size_in (as_object found)

-- ---- texts and numbers

-- a text
abbrev pub a_text : List ℕ → Option (List ℕ)
a_text text = if is_text text then Some text else None

abbrev pub text_of : Data → Option (List ℕ)
text_of found = option_and_then a_text (as_str found)

-- a name
abbrev pub a_name : List ℕ → Option (List ℕ)
a_name text = if is_name text then Some text else None

abbrev pub name_of : Data → Option (List ℕ)
name_of found = option_and_then a_name (as_str found)

-- a whole number of 64 bits
abbrev pub integer_of : Data → Option ℤ
integer_of found = option_and_then as_i64 (as_number found)

-- one that isn't negative
abbrev pub natural : ℤ → Option ℕ
natural (pos n) = Some n
natural (negsuc n) = None

abbrev pub id_of : Data → Option ℕ
id_of found = option_and_then natural (integer_of found)

-- one of 32 bits, with a sign and without
abbrev pub a_status : ℤ → Option ℤ
a_status n = if int_le (negsuc 2147483647) n && int_le n (pos 2147483647) then Some n else None

abbrev pub status_of : Data → Option ℤ
status_of found = option_and_then a_status (integer_of found)

abbrev pub a_count : ℕ → Option ℕ
a_count n = if nat_lt n (2 ^ 32) then Some n else None

abbrev pub count_of : Data → Option ℕ
count_of found = option_and_then a_count (id_of found)

-- ---- values

-- a scalar
abbrev pub scalar_of : Data → Option Scalar
scalar_of null = Some scalar.Nothing
scalar_of (boolean truth) = Some (scalar.Truth truth)
scalar_of (number n) = option_map scalar.Int (as_i64 n)
scalar_of (string text) = if is_text text then Some (scalar.Text text) else None
scalar_of other = None

-- a list within the limits
abbrev pub a_list : List Scalar → Option Val
a_list scalars = if are_scalars scalars then Some (value.List scalars) else None

-- a value
abbrev pub value_of : Data → Option Val
value_of null = Some value.Nothing
value_of (boolean truth) = Some (value.Truth truth)
value_of (number n) = option_map value.Int (as_i64 n)
value_of (string text) = if is_text text then Some (value.Text text) else None
value_of (array items) = option_and_then a_list (each_of scalar_of items)
value_of other = None

-- an argument: its name and its value
abbrev pub a_pair : List ℕ → Val → Pair
a_pair name v = record { name = name; value = v }

abbrev pub pair_items : Items → Option Pair
pair_items (item name (item v no_items)) = chain (name_of name) (λ n. option_map (a_pair n) (value_of v))
pair_items other = None

abbrev pub pair_of : Data → Option Pair
pair_of found = option_and_then pair_items (as_array found)

-- ---- failures

-- the failure of a word alone
abbrev pub alone_of : List ℕ → Option Failure
alone_of word =
    if same_name word (codes "overflow") then Some failure.Overflow
    else if same_name word (codes "range") then Some failure.Range
    else if same_name word (codes "too-long") then Some failure.TooLong
    else if same_name word (codes "spawn") then Some failure.Spawn
    else if same_name word (codes "not-text") then Some failure.NotText
    else if same_name word (codes "lost") then Some failure.Lost
    else if same_name word (codes "exhausted") then Some failure.Exhausted
    else None

-- the failure of a word with a text, a name or a number
abbrev pub with_of : Data → List ℕ → Option Failure
with_of more word =
    if same_name word (codes "raised") then option_map failure.Raised (text_of more)
    else if same_name word (codes "type") then option_map failure.WrongKind (name_of more)
    else if same_name word (codes "lookup") then option_map failure.Lookup (name_of more)
    else if same_name word (codes "exit") then option_map failure.Exit (status_of more)
    else if same_name word (codes "bad-reply") then option_map failure.BadReply (count_of more)
    else None

abbrev pub failure_items : Items → Option Failure
failure_items (item word no_items) = option_and_then alone_of (as_str word)
failure_items (item word (item more no_items)) = option_and_then (with_of more) (as_str word)
failure_items other = None

-- a failure
abbrev pub failure_of : Data → Option Failure
failure_of found = option_and_then failure_items (as_array found)

-- ---- requests

-- an action
abbrev pub action_named : List ℕ → Option Action
action_named word =
    if same_name word (codes "execute") then Some action.Execute
    else if same_name word (codes "revert") then Some action.Revert
    else None

abbrev pub action_of : Data → Option Action
action_of found = option_and_then action_named (as_str found)

-- a kind of task
abbrev pub kind_named : List ℕ → Option TaskKind
kind_named word =
    if same_name word (codes "echo") then Some kind.Echo
    else if same_name word (codes "concat") then Some kind.Concat
    else if same_name word (codes "sum") then Some kind.Sum
    else if same_name word (codes "length") then Some kind.Length
    else if same_name word (codes "pick") then Some kind.Pick
    else if same_name word (codes "list") then Some kind.List
    else if same_name word (codes "fail") then Some kind.Fail
    else if same_name word (codes "fail_below") then Some kind.FailBelow
    else if same_name word (codes "fail_unless") then Some kind.FailUnless
    else if same_name word (codes "command") then Some kind.Command
    else None

abbrev pub kind_of : Data → Option TaskKind
kind_of found = option_and_then kind_named (as_str found)

-- the members of a request
abbrev pub request_members : Data → Option Request
request_members found =
    chain (at (codes "action") action_of found) (λ how.
    chain (at (codes "args") (list_of pair_of) found) (λ args.
    chain (at (codes "id") id_of found) (λ id.
    chain (at (codes "kind") kind_of found) (λ kind.
    chain (at (codes "words") (list_of text_of) found) (λ words.
    Some record { id = id; action = how; kind = kind; words = words; args = args })))))

-- a request: an object with these five members and no others
abbrev pub request_of : Data → Option Request
request_of found = if nat_eq (size_of found) 5 then request_members found else None

-- ---- responses

-- the answer of that id that an order gave this, and that it failed so
abbrev pub success_members : Data → Option Response
success_members found =
    chain (at (codes "id") id_of found) (λ id. option_map (response.Success id) (at (codes "result") value_of found))

abbrev pub failure_members : Data → Option Response
failure_members found =
    chain (at (codes "id") id_of found) (λ id. option_map (response.Failure id) (at (codes "failure") failure_of found))

-- the state says which members there are beside it, and there are no others
abbrev pub response_named : Data → List ℕ → Option Response
response_named found word =
    if same_name word (codes "RUNNING") then
    (if nat_eq (size_of found) 2 then option_map response.Running (at (codes "id") id_of found) else None)
    else if same_name word (codes "SUCCESS") then (if nat_eq (size_of found) 3 then success_members found else None)
    else if same_name word (codes "FAILURE") then (if nat_eq (size_of found) 3 then failure_members found else None)
    else None

-- a response
abbrev pub response_of : Data → Option Response
response_of found = chain (at (codes "state") as_str found) (response_named found)

-- what undoes the task of an order: a revert runs the words
abbrev pub undo_of : Action → List (List ℕ) → Undo
undo_of action.Execute words = undo.Pass
undo_of action.Revert words = undo.Run words

-- the order that a request names: its task has no number of its own
abbrev pub order_of : Request → Order
order_of request = record {
  atom = 0;
  action = request.action;
  kind = request.kind;
  words = request.words;
  undo = undo_of request.action request.words;
  given = given.Found request.args;
}

-- the JSON that bytes are, if they are
abbrev pub message_of : List ℕ → Option Data
message_of bytes = if is_utf8 bytes then read bytes else None

-- no name stands twice among arguments
abbrev pub has_name : List ℕ → Pair → Bool
has_name name pair = same_name name pair.name

abbrev pub names_differ : List Pair → Bool
names_differ [] = true
names_differ (first ∷ others) = not (list_any (has_name first.name) others) && names_differ others

-- what undoes a task is a command
abbrev pub RevertsByCommand : Action → TaskKind → Type 0
RevertsByCommand action.Execute task_kind = Unit {0}
RevertsByCommand action.Revert task_kind = task_kind ≡ kind.Command

-- the order that the request names is whole, its arguments' names differ, and a revert's kind is that of commands
pub record IsFitRequest (request : Request) : Type 0 where
  pub whole : IsWhole (order_of request)
  pub differ : names_differ request.args ≡ true
  pub reverts : RevertsByCommand request.action request.kind

-- the bytes are JSON that spells this request, which is allowed
pub record AreRequest (bytes : List ℕ) (request : Request) : Type 0 where
  pub message : Data
  pub read_as : message_of bytes ≡ Some message
  pub spelled : request_of message ≡ Some request
  pub allowed : IsFitRequest request

-- the bytes are JSON that spells this response
pub record AreResponse (bytes : List ℕ) (response : Response) : Type 0 where
  pub message : Data
  pub read_as : message_of bytes ≡ Some message
  pub spelled : response_of message ≡ Some response

-- ---- the same as tests

-- the arguments suit the action and the kind
abbrev pub suits : Action → TaskKind → List Pair → Bool
suits action.Execute task_kind pairs = nat_le (least_arguments task_kind) (length pairs)
suits action.Revert task_kind pairs = is_command task_kind

abbrev pub is_fit_request : Request → Bool
is_fit_request request =
    nat_le (length request.words) 64 && nat_le (length request.args) 64
    && not (has_wrong_words request.kind request.words)
    && suits request.action request.kind request.args
    && names_differ request.args

-- the request that bytes spell and that is allowed
abbrev pub allowed_only : Request → Option Request
allowed_only request = if is_fit_request request then Some request else None

abbrev pub request_in : List ℕ → Option Request
request_in bytes = chain (message_of bytes) (λ message. chain (request_of message) allowed_only)

-- the response that bytes spell
abbrev pub response_in : List ℕ → Option Response
response_in bytes = chain (message_of bytes) response_of

-- a reader's fault: the bytes spell nothing, which is told of the front of the frame; or want of memory
abbrev pub IsRefusal : {A : Type 0} → (A → Type 0) → WireFault → Type 0
IsRefusal {A} spells (fault.Bad place) = (place ≡ 0) × ((found : A) → ¬ (spells found))
IsRefusal spells fault.Memory = Unit {0}

-- ---- values

-- a scalar
abbrev pub scalar_data : Scalar → Data
scalar_data scalar.Nothing = null
scalar_data (scalar.Truth truth) = boolean truth
scalar_data (scalar.Int n) = number (of_integer n)
scalar_data (scalar.Text text) = string text

-- a value
abbrev pub value_data : Val → Data
value_data value.Nothing = null
value_data (value.Truth truth) = boolean truth
value_data (value.Int n) = number (of_integer n)
value_data (value.Text text) = string text
value_data (value.List scalars) = array (items_of (map scalar_data scalars))

-- an argument, as its name and its value
abbrev pub pair_data : Pair → Data
pair_data pair = array (item (string pair.name) (item (value_data pair.value) no_items))

-- a failure without more, and one with a text, a name or a number
abbrev pub alone : List ℕ → Data
alone word = array (item (string word) no_items)

abbrev pub with_data : List ℕ → Data → Data
with_data word more = array (item (string word) (item more no_items))

-- a failure
abbrev pub failure_data : Failure → Data
failure_data (failure.Raised text) = with_data (codes "raised") (string text)
failure_data (failure.WrongKind name) = with_data (codes "type") (string name)
failure_data failure.Overflow = alone (codes "overflow")
failure_data failure.Range = alone (codes "range")
failure_data failure.TooLong = alone (codes "too-long")
failure_data (failure.Lookup name) = with_data (codes "lookup") (string name)
failure_data (failure.Exit status) = with_data (codes "exit") (number (of_integer status))
failure_data failure.Spawn = alone (codes "spawn")
failure_data failure.NotText = alone (codes "not-text")
failure_data failure.Lost = alone (codes "lost")
failure_data (failure.BadReply count) = with_data (codes "bad-reply") (number (unsigned count))
failure_data failure.Exhausted = alone (codes "exhausted")

-- ---- messages

-- the object of a request with these members
abbrev pub object_of_request : List ℕ → Data → ℕ → List ℕ → Data → Data
object_of_request how args id kind words = object
    (member (codes "action") (string how)
    (member (codes "args") args
    (member (codes "id") (number (unsigned id))
    (member (codes "kind") (string kind)
    (member (codes "words") words
    no_members)))))

-- a request
abbrev pub request_data : Request → Data
request_data request =
    object_of_request (action_word request.action) (array (items_of (map pair_data request.args))) request.id
    (kind_word request.kind) (array (items_of (map string request.words)))

-- the answer that an order runs, that it gave this, and that it failed so
abbrev pub running_data : ℕ → Data
running_data id = object
    (member (codes "id") (number (unsigned id))
    (member (codes "state") (string (codes "RUNNING"))
    no_members))

abbrev pub success_data : ℕ → Data → Data
success_data id given = object
    (member (codes "id") (number (unsigned id))
    (member (codes "result") given
    (member (codes "state") (string (codes "SUCCESS"))
    no_members)))

abbrev pub fault_data : ℕ → Data → Data
fault_data id fault = object
    (member (codes "failure") fault
    (member (codes "id") (number (unsigned id))
    (member (codes "state") (string (codes "FAILURE"))
    no_members)))

-- a response
abbrev pub response_data : Response → Data
response_data (response.Running id) = running_data id
response_data (response.Success id result) = success_data id (value_data result)
response_data (response.Failure id fault) = fault_data id (failure_data fault)

-- a message as its frame: its compact text behind the length of that
abbrev pub frame_of : Data → List ℕ
frame_of message = framed (compact_text message)
