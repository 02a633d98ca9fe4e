-- What words stand for: values, numbers, and pairs of the form NAME=VALUE. Which command the first word chooses, and
-- how the others are read as options and positional words.
use Rattle.std.specs.Prelude.{ℕ, ◌+◌, ◌-◌, ◌*◌, List, [], ◌∷◌, ◌++◌, Bool, not, ◌&&◌, ◌||◌, ◌==◌, nat_lt, nat_le, Option, Some, None, option_map, option_and_then, unwrap_or, if◌then◌else◌, ℤ, pos, negsuc, ◌^◌, true, false, codes, length, position, map}
use Rattle.tf_values.specs.Text.{is_between, is_text, is_name}
use Rattle.tf_words.specs.declared.quotes.Inside.{Inside}
use Rattle.std.specs.List.{list_all}
use Rattle.std.specs.Str.Parse.{signed_digits_value, digits_value}
use Rattle.std.specs.Cmp.Lexicographic.{pointwise}
use Rattle.tf_values.specs.declared.elements.Scalar.{Scalar}
use Rattle.tf_values.specs.declared.value.Val.{Val}
use Rattle.tf_values.specs.Scalars.{are_scalars}
use Rattle.tf_values.specs.Value.{value_of}
use Rattle.tf_words.specs.declared.spelled.Mark.{Mark}
use Rattle.tf_words.specs.declared.spelled.Quoting.{Quoting}
use Rattle.tf_flow.specs.declared.atoms.Bind.{Bind}
use Rattle.tf_words.specs.declared.verbs.Verb.{Verb}
use Rattle.tf_words.specs.declared.verbs.Key.{Key}
use Rattle.tf_words.specs.declared.sockets.Sockets.{Sockets}
use Rattle.tf_words.specs.declared.quotes.Inside.TheVariants as at
use Rattle.tf_values.specs.declared.elements.Scalar.TheVariants as scalar
use Rattle.tf_values.specs.declared.value.Val.TheVariants as value
use Rattle.tf_words.specs.declared.spelled.Mark.TheVariants as mark
use Rattle.tf_words.specs.declared.spelled.Quoting.TheVariants as quoting
use Rattle.tf_words.specs.declared.verbs.Verb.TheVariants as verb
use Rattle.tf_desk.specs.declared.opened.Access.{Access}
use Rattle.tf_desk.specs.declared.opened.Access.TheVariants as access
use Rattle.tf_board.specs.declared.commands.JobAction.TheVariants as action

-- ---- how a text stands in quotes, read from its opening quote on

-- the number that a lower-case hexadecimal digit stands for
abbrev pub nibble : ℕ → ℕ
nibble digit = if nat_lt digit 97 then digit - 48 else digit - 87

-- a lower-case hexadecimal digit
abbrev pub is_hexadecimal : ℕ → Bool
is_hexadecimal byte = is_between 48 57 byte || is_between 97 102 byte

-- two hexadecimal digits that a byte has which has no shorter form: below 32 and neither 09 nor 0a, or 7f
abbrev pub are_digits : ℕ → ℕ → Bool
are_digits high low =
    if high == 48 then is_hexadecimal low && not (low == 57 || low == 97)
    else if high == 49 then is_hexadecimal low
    else high == 55 && low == 102

-- a byte that stands for itself
abbrev pub is_plain : ℕ → Bool
is_plain byte = nat_le 32 byte && not (byte == 127)

-- a byte that may stand behind a backslash: a quote, a backslash, n or t
abbrev pub is_short : ℕ → Bool
is_short byte = (byte == 34 || byte == 92) || (byte == 110 || byte == 116)

-- where the reader stands behind the byte, if the byte may stand here
abbrev pub step : Inside → ℕ → Option Inside
step at.Bytes byte =
    if byte == 34 then Some at.Closed else if byte == 92 then Some at.Escape else if is_plain byte then Some at.Bytes
    else None
step at.Escape byte = if byte == 117 then Some at.Unicode else if is_short byte then Some at.Bytes else None
step at.Unicode byte = if byte == 48 then Some at.Zero else None
step at.Zero byte = if byte == 48 then Some at.Zeros else None
step at.Zeros byte = Some (at.Digit byte)
step (at.Digit high) byte = if are_digits high byte then Some at.Bytes else None
step at.Closed byte = None

-- the byte of the text that ends with this byte of its form
abbrev pub emitted : Inside → ℕ → List ℕ
emitted at.Bytes byte = if byte == 34 || byte == 92 then [] else byte ∷ []
emitted at.Escape byte =
    if byte == 117 then [] else if byte == 110 then 10 ∷ [] else if byte == 116 then 9 ∷ [] else byte ∷ []
emitted at.Unicode byte = []
emitted at.Zero byte = []
emitted at.Zeros byte = []
emitted (at.Digit high) byte = (nibble high * 16 + nibble byte) ∷ []
emitted at.Closed byte = []

-- nothing is left of the text behind its closing quote
abbrev pub closed_at : Inside → Option (List ℕ)
closed_at at.Closed = Some []
closed_at place = None

-- the text whose form goes on with these bytes, up to a closing quote that ends them
abbrev pub text_from : Inside → List ℕ → Option (List ℕ)
text_from place [] = closed_at place
text_from place (byte ∷ bytes) =
    elim (step place byte) [
      | None ↦ None
      | Some after ↦ option_map (λ text. emitted place byte ++ text)
          (text_from after bytes)
    ]

-- the text that stands in quotes
abbrev pub text_in_quotes : List ℕ → Option (List ℕ)
text_in_quotes [] = None
text_in_quotes (first ∷ inner) = if first == 34 then text_from at.Bytes inner else None

-- ---- what a VALUE stands for

-- the words have the same bytes
abbrev pub same_word : List ℕ → List ℕ → Bool
same_word word other = pointwise ◌==◌ word other

-- a decimal digit
abbrev pub is_digit : ℕ → Bool
is_digit byte = is_between 48 57 byte

-- digits without a leading zero, at least one
abbrev pub is_count : List ℕ → Bool
is_count [] = false
is_count (first ∷ digits) = is_between 49 57 first && list_all is_digit digits

-- an integer of any width: digits without a leading zero, behind a hyphen where it is negative, or zero
abbrev pub is_integer : List ℕ → Bool
is_integer [] = false
is_integer (first ∷ rest) =
    if first == 45 then is_count rest else same_word (first ∷ rest) (codes "0") || is_count (first ∷ rest)

-- the scalar, its integer of any width, that the bytes spell
abbrev pub scalar_spelled : List ℕ → Option Scalar
scalar_spelled bytes =
    if same_word bytes (codes "null") then Some scalar.Nothing
    else if same_word bytes (codes "true") then Some (scalar.Truth true)
    else if same_word bytes (codes "false") then Some (scalar.Truth false)
    else if is_integer bytes then Some (scalar.Int (signed_digits_value 10 bytes))
    else option_map scalar.Text (text_in_quotes bytes)

-- where the reader of a list stands behind the byte: outside quotes, within them, or within them behind a backslash
abbrev pub quoting_after : Quoting → ℕ → Quoting
quoting_after quoting.Outside byte = if byte == 34 then quoting.Inside else quoting.Outside
quoting_after quoting.Inside byte =
    if byte == 34 then quoting.Outside else if byte == 92 then quoting.Escaped else quoting.Inside
quoting_after quoting.Escaped byte = quoting.Inside

-- what a byte of a list is: outside quotes a comma and a closing bracket end an item, and all other bytes are the
-- item's
abbrev pub mark_of : Quoting → ℕ → Mark
mark_of quoting.Outside byte = if byte == 44 then mark.Comma else if byte == 93 then mark.Bracket else mark.Own
mark_of quoting.Inside byte = mark.Own
mark_of quoting.Escaped byte = mark.Own

-- a scalar in front of others
abbrev pub in_front : Option Scalar → Option (List Scalar) → Option (List Scalar)
in_front (Some first) (Some others) = Some (first ∷ others)
in_front first others = None

-- nothing follows the last scalar of a list
abbrev pub at_end : List ℕ → Option (List Scalar)
at_end [] = Some []
at_end (byte ∷ bytes) = None

-- the scalars of a list whose bytes go on with these, where `part` is what the first of them has before: each ends with
-- a comma, and the last with the bracket that ends the bytes
abbrev pub scalars_from : List ℕ → Quoting → List ℕ → Option (List Scalar)
scalars_from part place [] = None
scalars_from part place (byte ∷ bytes) = elim (mark_of place byte) [
  | mark.Comma ↦ in_front (scalar_spelled part) (scalars_from [] quoting.Outside bytes)
  | mark.Bracket ↦ in_front (scalar_spelled part) (at_end bytes)
  | mark.Own ↦ scalars_from (part ++ byte ∷ []) (quoting_after place byte) bytes
]

-- the scalars of a list, behind its opening bracket
abbrev pub scalars_spelled : List ℕ → Option (List Scalar)
scalars_spelled bytes = if same_word bytes (codes "]") then Some [] else scalars_from [] quoting.Outside bytes

-- the value that the bytes spell, where an integer may be of any width and a list of any length
abbrev pub spelled : List ℕ → Option Val
spelled [] = None
spelled (first ∷ bytes) =
    if first == 91 then option_map value.List (scalars_spelled bytes)
    else option_map value_of (scalar_spelled (first ∷ bytes))

-- an integer of 64 bits
abbrev pub is_narrow : ℤ → Bool
is_narrow (pos number) = nat_lt number (2 ^ 63)
is_narrow (negsuc number) = nat_lt number (2 ^ 63)

-- a scalar within the limits
abbrev pub is_element : Scalar → Bool
is_element scalar.Nothing = true
is_element (scalar.Truth truth) = true
is_element (scalar.Int number) = is_narrow number
is_element (scalar.Text text) = is_text text

-- a value within the limits
abbrev pub is_value : Val → Bool
is_value value.Nothing = true
is_value (value.Truth truth) = true
is_value (value.Int number) = is_narrow number
is_value (value.Text text) = is_text text
is_value (value.List scalars) = are_scalars scalars && list_all is_element scalars

-- the value, where it is within the limits
abbrev pub value_within : Val → Option Val
value_within found = if is_value found then Some found else None

-- what a VALUE stands for, which is no empty text: the value whose text form it is; nothing, where it would be one if
-- an integer could be of any width and a list of any length; and otherwise the text itself
abbrev pub value_meant : List ℕ → Option Val
value_meant [] = None
value_meant bytes = elim (spelled bytes) [ None ↦ Some (value.Text bytes) | Some found ↦ value_within found ]

-- ---- numbers in words

-- one to nine decimal digits, of which the first may be a zero
abbrev pub is_number : List ℕ → Bool
is_number word = (nat_le 1 (length word) && nat_le (length word) 9) && list_all is_digit word

-- the number that the word spells, where it is one of these
abbrev pub number_between : ℕ → ℕ → List ℕ → Option ℕ
number_between least most word =
    if is_number word && (nat_le least (digits_value 10 word) && nat_le (digits_value 10 word) most)
    then Some (digits_value 10 word) else None

-- ---- the values that words of the form NAME=VALUE give to names

-- a word cut in two
pub record Halves : Type 0 where
  pub name : List ℕ
  pub value : List ℕ

-- the halves of a word with one byte more in front
abbrev pub longer : ℕ → Halves → Halves
longer byte halves = record halves { name = byte ∷ halves.name }

-- the bytes before the first `=`, and those behind it
abbrev pub halves_of : List ℕ → Option Halves
halves_of [] = None
halves_of (byte ∷ bytes) =
    if byte == 61 then Some (record { name = []; value = bytes }) else option_map (longer byte) (halves_of bytes)

-- the name and the value that the halves are
abbrev pub bind_in : Halves → Option Bind
bind_in halves =
    if is_name halves.name then option_map (λ value. record { symbol = halves.name; value = value })
    (value_meant halves.value) else None

-- the name and the value that a word of the form NAME=VALUE gives
abbrev pub bind_of : List ℕ → Option Bind
bind_of word = elim (halves_of word) [ None ↦ None | Some halves ↦ bind_in halves ]

-- a value replaces the earlier one of its name at the earlier one's place, and else follows the others
abbrev pub put : Bind → List Bind → List Bind
put bind [] = bind ∷ []
put bind (first ∷ others) = if same_word first.symbol bind.symbol then bind ∷ others else first ∷ put bind others

-- where the value of the name stands
abbrev pub place_of : List ℕ → List Bind → Option ℕ
place_of name sets = position (λ bind. same_word bind.symbol name) sets

-- the values that were given, and those that the words give behind them
abbrev pub sets_behind : List Bind → List (List ℕ) → Option (List Bind)
sets_behind sets [] = Some sets
sets_behind sets (word ∷ words) = elim (bind_of word) [ None ↦ None | Some bind ↦ sets_behind (put bind sets) words ]

-- ---- what the words of a command give to the names of its options and, as positional words, to the empty name

-- the values that words give to each name
abbrev pub Said : Type 0
Said = List ℕ → List (List ℕ)

-- an option stands at most once: what its value is read as, or what holds where it doesn't stand
abbrev pub once : {A : Type 0} → A → (List ℕ → Option A) → List (List ℕ) → Option A
once absent read [] = Some absent
once absent read (value ∷ []) = read value
once absent read _ = None

-- ---- how the words of a command are read as options and positional words

-- a word that may stand in a command: a text that isn't empty
abbrev pub is_filled : List ℕ → Bool
is_filled word = not (length word == 0) && is_text word

-- each word is
abbrev pub are_filled : List (List ℕ) → Bool
are_filled = list_all is_filled

-- an option that a command knows: its name, and whether a value belongs to it
pub record Form : Type 0 where
  pub name : List ℕ
  pub valued : Bool

-- an option with its value, which is empty where none belongs to it, or a positional word, whose name is empty
pub record Piece : Type 0 where
  pub name : List ℕ
  pub value : List ℕ

-- what a word is, where options may stand
pub data Sort : Type 0 where
  -- `--`, behind which all words are positional
  ending : Sort
  -- `--NAME`, or `--NAME=VALUE`
  long : List ℕ → Option (List ℕ) → Sort
  -- any other word that begins with a hyphen and isn't one alone
  short : Sort
  -- a word that isn't an option
  plain : Sort

-- `--NAME=VALUE` is split at the first `=`
abbrev pub long_of : List ℕ → Option Halves → Sort
long_of name None = long name None
long_of name (Some halves) = long halves.name (Some halves.value)

-- what a word is by what follows its two hyphens
abbrev pub behind_hyphens : List ℕ → Sort
behind_hyphens [] = ending
behind_hyphens (first ∷ others) = long_of (first ∷ others) (halves_of (first ∷ others))

-- what a word is
abbrev pub sort_of : List ℕ → Sort
sort_of [] = plain
sort_of (first ∷ []) = plain
sort_of (first ∷ second ∷ others) =
    if first == 45 then (if second == 45 then behind_hyphens others else short) else plain

-- whether a value belongs to the option of this name, if there is one
abbrev pub takes_value : List Form → List ℕ → Option Bool
takes_value [] name = None
takes_value (form ∷ forms) name = if same_word form.name name then Some form.valued else takes_value forms name

-- a positional word
abbrev pub alone : List ℕ → Piece
alone word = record { name = []; value = word }

-- a piece in front of others
abbrev pub piece_before : List ℕ → List ℕ → Option (List Piece) → Option (List Piece)
piece_before name value = option_map (λ others. record { name = name; value = value } ∷ others)

-- a value stands behind `=` or in the next word, and a flag has none; `rest` reads the other words, by the option that
-- waits for a value
abbrev pub option_met : Option Bool → List ℕ → Option (List ℕ) → (Option (List ℕ) → Option (List Piece))
    → Option (List Piece)
option_met None name value rest = None
option_met (Some true) name (Some value) rest = piece_before name value (rest None)
option_met (Some true) name None rest = rest (Some name)
option_met (Some false) name (Some value) rest = None
option_met (Some false) name None rest = piece_before name [] (rest None)

-- what a word begins, where no option waits for its value
abbrev pub word_met : List Form → Sort → List ℕ → List (List ℕ) → (Option (List ℕ) → Option (List Piece))
    → Option (List Piece)
word_met forms ending word words rest = Some (map alone words)
word_met forms (long name value) word words rest = option_met (takes_value forms name) name value rest
word_met forms short word words rest = None
word_met forms plain word words rest = piece_before [] word (rest None)

-- the value of an option, in a word of its own, doesn't begin with a hyphen unless it is one alone
abbrev pub value_met : Sort → List ℕ → List ℕ → Option (List Piece) → Option (List Piece)
value_met plain name word rest = piece_before name word rest
value_met _ name word rest = None

-- the options and the positional words that the words are, by the option that waits for its value
abbrev pub pieces : List Form → Option (List ℕ) → List (List ℕ) → Option (List Piece)
pieces forms None [] = Some []
pieces forms (Some name) [] = None
pieces forms None (word ∷ words) = word_met forms (sort_of word) word words (λ waiting. pieces forms waiting words)
pieces forms (Some name) (word ∷ words) = value_met (sort_of word) name word (pieces forms None words)

-- the values that the pieces give to a name, in order
abbrev pub values_in : List Piece → List ℕ → List (List ℕ)
values_in [] name = []
values_in (piece ∷ others) name =
    if same_word piece.name name then piece.value ∷ values_in others name else values_in others name

-- the values that words give to the name of each option, and to the empty name as positional words
abbrev pub read_by : List Form → List (List ℕ) → Option (List ℕ → List (List ℕ))
read_by forms words = option_map values_in (pieces forms None words)

-- ---- what concerns the sockets alone

-- how many seconds a reply is waited for, if there is a bound
abbrev pub within_in : Said → Option (Option ℕ)
within_in said = once None (λ value. option_map Some (number_between 1 86400 value)) (said (codes "reply-within"))

-- the mode of a socket's file that the word is: 0600, 0660 or 0666
abbrev pub mode_named : List ℕ → Option ℕ
mode_named word =
    if same_word word (codes "0600") then Some 384
    else if same_word word (codes "0660") then Some 432
    else if same_word word (codes "0666") then Some 438
    else None

-- what the values say of the sockets: where they say nothing, a reply is waited for without a bound, and a socket's
-- file is its user's alone
abbrev pub sockets_in : Said → Option Sockets
sockets_in said =
    option_and_then (λ within. option_map (λ mode. record { within = within; mode = mode })
    (once 384 mode_named (said (codes "mode")))) (within_in said)

-- the values that words give, where those that concern the sockets are such
abbrev pub said_by : List Form → List (List ℕ) → Option (List ℕ → List (List ℕ))
said_by forms words = option_and_then (λ said. option_map (λ sockets. said) (sockets_in said)) (read_by forms words)

-- ---- the commands, the words that choose them, and the options that they know

-- an option of the code's tables
abbrev pub form_of : Key → Form
form_of key = record { name = key.name.now; valued = key.valued }

-- `--defer-reverts`
abbrev pub deferral : Form
deferral = record { name = codes "defer-reverts"; valued = false }

-- `--hands N`
abbrev pub hands : Form
hands = record { name = codes "hands"; valued = true }

-- `--worker LIST`
abbrev pub workers : Form
workers = record { name = codes "worker"; valued = true }

-- `--stop-after N`
abbrev pub stop_after : Form
stop_after = record { name = codes "stop-after"; valued = true }

-- `--reply-within SECONDS`
abbrev pub reply_within : Form
reply_within = record { name = codes "reply-within"; valued = true }

-- `--mode MODE`
abbrev pub mode_option : Form
mode_option = record { name = codes "mode"; valued = true }

-- `--target NAME`
abbrev pub target : Form
target = record { name = codes "target"; valued = true }

-- `--sessions N`
abbrev pub sessions : Form
sessions = record { name = codes "sessions"; valued = true }

-- `--priority P`
abbrev pub urgency : Form
urgency = record { name = codes "priority"; valued = true }

-- `--details VALUE`
abbrev pub details : Form
details = record { name = codes "details"; valued = true }

-- the options that a command knows
abbrev pub forms_of : Verb → List Form
forms_of verb.Try = deferral ∷ hands ∷ workers ∷ reply_within ∷ target ∷ []
forms_of verb.Run = deferral ∷ hands ∷ workers ∷ reply_within ∷ stop_after ∷ target ∷ []
forms_of verb.Resume = hands ∷ workers ∷ reply_within ∷ stop_after ∷ []
forms_of verb.Show = []
forms_of verb.Reset = []
forms_of verb.Details = []
forms_of verb.Migrate = []
forms_of verb.Check = target ∷ []
forms_of verb.Audit = deferral ∷ []
forms_of verb.Demo = hands ∷ []
forms_of verb.Worker = sessions ∷ mode_option ∷ []
forms_of verb.Conduct = hands ∷ []
forms_of verb.Post = urgency ∷ details ∷ []
forms_of (verb.Apply action) = []
forms_of verb.Owner = []
forms_of verb.List = []
forms_of verb.Serve = sessions ∷ mode_option ∷ []

-- what the files of a command are picked for: to be read alone, to be read and made where they aren't there, or to be
-- written
abbrev pub access_for : Verb → Access
access_for verb.Show = access.Read
access_for verb.Details = access.Read
access_for verb.Owner = access.Share
access_for verb.List = access.Share
access_for other = access.Own

-- the command of this name
abbrev pub verb_named : List ℕ → Option Verb
verb_named word =
    if same_word word (codes "try") then Some verb.Try
    else if same_word word (codes "run") then Some verb.Run
    else if same_word word (codes "resume") then Some verb.Resume
    else if same_word word (codes "show") then Some verb.Show
    else if same_word word (codes "reset") then Some verb.Reset
    else if same_word word (codes "details") then Some verb.Details
    else if same_word word (codes "migrate") then Some verb.Migrate
    else if same_word word (codes "check") then Some verb.Check
    else if same_word word (codes "audit") then Some verb.Audit
    else if same_word word (codes "demo") then Some verb.Demo
    else if same_word word (codes "worker") then Some verb.Worker
    else if same_word word (codes "conduct") then Some verb.Conduct
    else None

-- the command of a board of this name
abbrev pub board_verb_named : List ℕ → Option Verb
board_verb_named word =
    if same_word word (codes "post") then Some verb.Post
    else if same_word word (codes "claim") then Some (verb.Apply action.Claim)
    else if same_word word (codes "abandon") then Some (verb.Apply action.Abandon)
    else if same_word word (codes "consume") then Some (verb.Apply action.Consume)
    else if same_word word (codes "trash") then Some (verb.Apply action.Trash)
    else if same_word word (codes "owner") then Some verb.Owner
    else if same_word word (codes "list") then Some verb.List
    else if same_word word (codes "serve") then Some verb.Serve
    else None

-- a command, and the words behind those that choose it
pub record Choice : Type 0 where
  pub verb : Verb
  pub others : List (List ℕ)

-- behind `board` the next word chooses the command
abbrev pub board_choice_of : List (List ℕ) → Option Choice
board_choice_of [] = None
board_choice_of (first ∷ others) = option_map (λ verb. record { verb = verb; others = others }) (board_verb_named first)

-- the first word chooses the command, or `board` and the second
abbrev pub choice_of : List (List ℕ) → Option Choice
choice_of [] = None
choice_of (first ∷ others) =
    if same_word first (codes "board") then board_choice_of others
    else option_map (λ verb. record { verb = verb; others = others }) (verb_named first)

-- what the files are picked for of the command that the words choose
abbrev pub access_of : List (List ℕ) → Access
access_of words = unwrap_or (option_map (λ choice. access_for choice.verb) (choice_of words)) access.Own

-- what the command that the words choose says of the sockets, and else as where nothing is said
abbrev pub sockets_of : List (List ℕ) → Sockets
sockets_of words =
    unwrap_or (if are_filled words then option_and_then
    (λ choice. option_and_then sockets_in (read_by (forms_of choice.verb) choice.others)) (choice_of words) else None)
    (record { within = None; mode = 384 })
