-- The library reads the words as the options and positional words that they are.
use Rattle.std.proofs.Common.{◌≡◌, ◌∙◌, ◌||◌, ℕ, Bool, cond, true, false, refl, ap, List, [], ◌∷◌, codes, Option, Some, None, is_some, option_map, length, drop}
use Rattle.std.specs.Prelude.{encode_utf8}
use Rattle.std.specs.List.{fold}
use Rattle.std.specs.Str.{bytes_eq, chars}
use Rattle.clap.specs.Kinds.{Kinds, or_else}
use Rattle.clap.specs.Walk.{Held, Row, Rule, Step, Waiting, Walk, after_step, idle, long_word, option, plain_word, positional, settled, settled_rows, short_or_plain, short_word, subcommand_met, trailing, walked, with_values, after_flag, arg_by_index, arg_by_long, long_met, long_or_other, is_pending, pushed, subcommand_or_other, takes_values, to_positional}
use Rattle.clap.specs.Faults.{bundle_fault, bundle_step_fault, flag_word_fault, flags_fault, long_fault, option_fault, other_fault, positional_fault, react_fault, settle_fault, short_fault, step_fault, stray_fault, turn_fault, use_fault, walk_fault}
use Rattle.clap.specs.declared.error.kind.ErrorKind.{ErrorKind}
use Rattle.clap.specs.declared.error.kind.ErrorKind.TheVariants as kind
use Rattle.tf_numbers.proofs.TruthLemmas.{and_false, or_false}
use Rattle.std.specs.Option.{option_map_or}
use Rattle.clap.specs.Lexer.{long_of, short_of}
use Rattle.clap.specs.Simple.{Shape}
use Rattle.clap.specs.declared.builder.value_parser.Reading.TheVariants as reading
use Rattle.clap.specs.declared.parser.matches.ValueSource.TheVariants.{CommandLine}
use Rattle.tf_words.specs.Verbs.{Form, Piece}
use Rattle.tf_words.proofs.RuleLemmas.{place_rule, rule_for, rules_for, shape_for, place_by_index, none_by_short}
use Rattle.tf_words.proofs.SortLemmas.{HasLetter, Sees}

-- the rows with one more piece
abbrev pub noted : List Row → Piece → List Row
noted rows piece = with_values piece.name reading.AsWritten CommandLine (piece.value ∷ []) rows

-- the rows with the pieces, if there are any
abbrev pub told : List Row → Option (List Piece) → Option (List Row)
told rows = option_map (λ found. fold noted rows found)

-- the rows, where nothing is at fault
abbrev pub unless : Kinds → List Row → Option (List Row)
unless [] rows = Some rows
unless (kind ∷ kinds) rows = None

-- what follows, where nothing is at fault
abbrev pub then_on : Kinds → Option (List Row) → Option (List Row)
then_on [] rest = rest
then_on (kind ∷ kinds) rest = None

-- nothing waits but these rows
abbrev pub resting : List Row → Held
resting rows = record { rows = rows; pending = None; skip = 0 }

-- an option waits for its value
abbrev pub waits_for : List ℕ → List Row → Held
waits_for name rows = record { rows = rows; pending = Some (name, []); skip = 0 }

-- the walk before the next word
abbrev pub here : Held → Waiting → Bool → Walk
here held waiting ended = record { held = held; waiting = waiting; position = 1; is_trailing = ended; stopped = None }

-- no option waits for its value
abbrev pub IsFree : Waiting → Type 0
IsFree (option name) = ⊥
IsFree other = Unit {0}

module _ (forms : List Form) where
  abbrev pub rules : List Rule
  rules = rules_for forms

  abbrev pub shape : Shape
  shape = shape_for forms

  abbrev pub at_end : Walk → Kinds → Option (List Row)
  at_end walk faults = unless (or_else faults (settle_fault rules false walk.held)) (settled_rows rules walk.held.pending walk.held.rows)

  -- the rows that the rest of the walk leads to, if it isn't at fault
  abbrev pub final : Walk → List (List ℕ) → Option (List Row)
  final walk words = at_end (fold (walked rules []) walk words) (walk_fault shape [] walk words)

  turn_first : (turn rest : Kinds) (walk : Walk) → at_end walk (or_else turn rest) ≡ then_on turn (at_end walk rest)
  turn_first [] rest walk = refl
  turn_first (kind ∷ kinds) rest walk = refl

  pub final_next : (walk : Walk) (word : List ℕ) (words : List (List ℕ)) → final walk (word ∷ words) ≡ then_on (turn_fault shape [] walk word) (final (walked rules [] walk word) words)
  unfolding walk_fault
  final_next walk word words = turn_first (turn_fault shape [] walk word) (walk_fault shape [] (walked rules [] walk word) words) (fold (walked rules []) (walked rules [] walk word) words)

  -- what the walk holds settles without a fault as these rows
  pub record Settles (held : Held) (rows : List Row) : Type 0 where
    pub faultless : settle_fault rules false held ≡ []
    pub found : settled_rows rules held.pending held.rows ≡ rows
    pub skips : held.skip ≡ 0

  pub resting_settles : (rows : List Row) → Settles (resting rows) rows
  resting_settles rows = record { faultless = refl; found = refl; skips = refl }

  -- ---- a word before `--`, by what the library sees in it

  abbrev pub fault_seen : Bool → Option (List ℕ × Option (List ℕ)) → Option (List ℕ) → Held → Kinds
  fault_seen true name letters held = []
  fault_seen false (Some parts) letters held = long_fault rules false (arg_by_long rules parts.0) parts.1 held
  fault_seen false None (Some letters) held = bundle_fault rules false letters held
  fault_seen false None None held = []

  abbrev pub step_seen : Bool → Option (List ℕ × Option (List ℕ)) → Option (List ℕ) → Waiting → List ℕ → Held → Held × Step
  step_seen true name letters waiting word held = (held, trailing 1)
  step_seen false (Some parts) letters waiting word held = long_word rules waiting word parts.0 parts.1 held
  step_seen false None (Some letters) waiting word held = short_word rules waiting word letters held
  step_seen false None None waiting word held = plain_word rules waiting word held

  none_chosen : (waiting : Waiting) (word : List ℕ) → subcommand_met [] waiting word ≡ None
  none_chosen idle word = refl
  none_chosen (option name) word = refl
  none_chosen positional word = refl

  flag_fault_seen : (word : List ℕ) (held : Held) (name : Option (List ℕ × Option (List ℕ))) → flag_word_fault rules false name word held ≡ fault_seen false name (short_of word) held
  flag_fault_seen word held (Some parts) = refl
  flag_fault_seen word held None = go (short_of word)
    where
      go : (letters : Option (List ℕ)) → option_map_or (λ flags. bundle_fault rules false flags held) letters [] ≡ fault_seen false None letters held
      go None = refl
      go (Some letters) = refl

  other_fault_seen : (word : List ℕ) (held : Held) → other_fault shape None word held ≡ fault_seen (bytes_eq word (codes "--")) (long_of word) (short_of word) held
  other_fault_seen word held = go (bytes_eq word (codes "--"))
    where
      go : (ends : Bool) → cond ends [] (flag_word_fault rules false (long_of word) word held) ≡ fault_seen ends (long_of word) (short_of word) held
      go true = refl
      go false = flag_fault_seen word held (long_of word)

  other_step_seen : (waiting : Waiting) (word : List ℕ) (held : Held) → subcommand_or_other rules None waiting 1 word held ≡ step_seen (bytes_eq word (codes "--")) (long_of word) (short_of word) waiting word held
  other_step_seen waiting word held = go (bytes_eq word (codes "--"))
    where
      letters_seen : (letters : Option (List ℕ)) → short_or_plain rules waiting word letters held ≡ step_seen false None letters waiting word held
      letters_seen None = refl
      letters_seen (Some letters) = refl

      name_seen : (name : Option (List ℕ × Option (List ℕ))) → long_or_other rules waiting word name held ≡ step_seen false name (short_of word) waiting word held
      name_seen (Some parts) = refl
      name_seen None = letters_seen (short_of word)

      go : (ends : Bool) → cond ends (held, trailing 1) (long_or_other rules waiting word (long_of word) held) ≡ step_seen ends (long_of word) (short_of word) waiting word held
      go true = refl
      go false = name_seen (long_of word)

  -- what the walk does with a step
  abbrev pub stepped : Walk → List ℕ → List (List ℕ) → Kinds → Held × Step → Option (List Row)
  stepped walk word words fault met = then_on (or_else fault (step_fault shape 1 met.0 met.1)) (final (after_step rules word walk met.0 met.1) words)

  abbrev pub seen_as_is : Bool → Option (List ℕ × Option (List ℕ)) → Option (List ℕ) → Waiting → List ℕ → Held → List (List ℕ) → Option (List Row)
  seen_as_is ends name letters waiting word held words = stepped (here held waiting false) word words (fault_seen ends name letters held) (step_seen ends name letters waiting word held)

  before_end : (held : Held) (waiting : Waiting) (word : List ℕ) (words : List (List ℕ))
      → final (here held waiting false) (word ∷ words) ≡ seen_as_is (bytes_eq word (codes "--")) (long_of word) (short_of word) waiting word held words
  unfolding walked
  before_end held waiting word words =
      final_next (here held waiting false) word words
      ∙ (λ i. stepped (here held waiting false) word words (other_fault shape (none_chosen waiting word i) word held) (subcommand_or_other rules (none_chosen waiting word i) waiting 1 word held))
      ∙ (λ i. stepped (here held waiting false) word words (other_fault_seen word held i) (other_step_seen waiting word held i))

  -- a word before `--`
  pub seen : (ends : Bool) (name : Option (List ℕ × Option (List ℕ))) (letters : Option (List ℕ)) (held : Held) (waiting : Waiting) (word : List ℕ) (words : List (List ℕ)) → Sees ends name letters word
      → final (here held waiting false) (word ∷ words) ≡ seen_as_is ends name letters waiting word held words
  seen ends name letters held waiting word words sees =
      before_end held waiting word words ∙ (λ i. seen_as_is (sees.ending i) (sees.name i) (sees.letters i) waiting word held words)

  -- ---- options

  abbrev pub long_turn : Option Rule → Option (List ℕ) → Waiting → List ℕ → Held → List (List ℕ) → Option (List Row)
  long_turn found value waiting word held words =
      stepped (here held waiting false) word words (long_fault rules false found value held) (after_flag rules waiting word (long_met rules found value held).0 (long_met rules found value held).1)

  -- an option with its value, or a flag
  abbrev used_once : List ℕ → List ℕ → Held → Held
  used_once name value held = record { rows = noted (settled_rows rules held.pending held.rows) (record { name = name; value = value }); pending = None; skip = held.skip }

  attached : (name value : List ℕ) (waiting : Waiting) (word : List ℕ) (held : Held) (words : List (List ℕ))
      → long_turn (Some (rule_for name true)) (Some value) waiting word held words ≡ then_on (or_else (or_else (settle_fault rules false held) []) []) (final (here (used_once name value held) idle false) words)
  attached name value waiting word held words = refl

  raised : (name : List ℕ) (waiting : Waiting) (word : List ℕ) (held : Held) (words : List (List ℕ))
      → long_turn (Some (rule_for name false)) None waiting word held words ≡ then_on (or_else (or_else (settle_fault rules false held) []) []) (final (here (used_once name [] held) idle false) words)
  raised name waiting word held words = refl

  begun : (name : List ℕ) (waiting : Waiting) (word : List ℕ) (held : Held) (words : List (List ℕ))
      → long_turn (Some (rule_for name true)) None waiting word held words
      ≡ then_on (or_else (settle_fault rules false held) []) (final (here (record { rows = settled_rows rules held.pending held.rows; pending = Some (name, []); skip = held.skip }) (option name) false) words)
  begun name waiting word held words = refl

  settled_as : (held : Held) (rows : List Row) (name : List ℕ) (value : List ℕ) → Settles held rows → used_once name value held ≡ resting (noted rows (record { name = name; value = value }))
  settled_as held rows name value settles = (λ i. record { rows = noted (settles.found i) (record { name = name; value = value }); pending = None; skip = settles.skips i })

  settled_for : (held : Held) (rows : List Row) (name : List ℕ) → Settles held rows
      → ◌≡◌ {A = Held} (record { rows = settled_rows rules held.pending held.rows; pending = Some (name, []); skip = held.skip }) (waits_for name rows)
  settled_for held rows name settles = (λ i. record { rows = settles.found i; pending = Some (name, []); skip = settles.skips i })

  pub attached_open : (name value : List ℕ) (waiting : Waiting) (word : List ℕ) (held : Held) (rows : List Row) (words : List (List ℕ)) → Settles held rows
      → long_turn (Some (rule_for name true)) (Some value) waiting word held words ≡ final (here (resting (noted rows (record { name = name; value = value }))) idle false) words
  attached_open name value waiting word held rows words settles =
      attached name value waiting word held words
      ∙ (λ i. then_on (or_else (or_else (settles.faultless i) []) []) (final (here (settled_as held rows name value settles i) idle false) words))

  pub raised_open : (name : List ℕ) (waiting : Waiting) (word : List ℕ) (held : Held) (rows : List Row) (words : List (List ℕ)) → Settles held rows
      → long_turn (Some (rule_for name false)) None waiting word held words ≡ final (here (resting (noted rows (record { name = name; value = [] }))) idle false) words
  raised_open name waiting word held rows words settles =
      raised name waiting word held words
      ∙ (λ i. then_on (or_else (or_else (settles.faultless i) []) []) (final (here (settled_as held rows name [] settles i) idle false) words))

  pub begun_open : (name : List ℕ) (waiting : Waiting) (word : List ℕ) (held : Held) (rows : List Row) (words : List (List ℕ)) → Settles held rows
      → long_turn (Some (rule_for name true)) None waiting word held words ≡ final (here (waits_for name rows) (option name) false) words
  begun_open name waiting word held rows words settles =
      begun name waiting word held words
      ∙ (λ i. then_on (or_else (settles.faultless i) []) (final (here (settled_for held rows name settles i) (option name) false) words))

  -- where the option that waits for its value doesn't settle, no other may stand
  long_refused : (found : Option Rule) (value : Option (List ℕ)) (held : Held) (more faults : Kinds) (first : ErrorKind) (rest : Option (List Row)) → settle_fault rules false held ≡ first ∷ faults
      → then_on (or_else (long_fault rules false found value held) more) rest ≡ None
  long_refused None value held more faults first rest unsettled = refl
  long_refused (Some rule) value held more faults first rest unsettled = go (takes_values rule) value
    where
      reacts : (values : List (List ℕ)) → then_on (or_else (react_fault rules false rule values held) more) rest ≡ None
      reacts values = ap (λ (faults : Kinds). then_on (or_else (or_else faults (use_fault false rule values (settled rules held).rows)) more) rest) unsettled

      go : (takes : Bool) (value : Option (List ℕ))
          → then_on (or_else (cond takes (option_fault rules false rule value held) (cond (is_some value) (kind.TooManyValues ∷ []) (react_fault rules false rule [] held))) more) rest ≡ None
      go true (Some value) = reacts (value ∷ [])
      go true None = ap (λ (faults : Kinds). then_on (or_else faults more) rest) unsettled
      go false (Some value) = refl
      go false None = reacts []

  pub long_stuck : (other : List ℕ) (value : Option (List ℕ)) (waiting : Waiting) (word : List ℕ) (held : Held) (words : List (List ℕ)) (faults : Kinds) (first : ErrorKind) → settle_fault rules false held ≡ first ∷ faults
      → seen_as_is false (Some (other, value)) None waiting word held words ≡ None
  long_stuck other value waiting word held words faults first unsettled =
      let met : Held × Step = long_word rules waiting word other value held in
      long_refused (arg_by_long rules other) value held (step_fault shape 1 met.0 met.1) faults first (final (after_step rules word (here held waiting false) met.0 met.1) words) unsettled

  -- ---- words that begin with one hyphen

  pub bundle_refused : (letters : List ℕ) (held : Held) → HasLetter letters → held.skip ≡ 0 → bundle_fault rules false letters held ≡ kind.UnknownArgument ∷ []
  unfolding chars flags_fault
  bundle_refused [] held has skips = absurd (let none : None ≡ Some has.0 = has.1 in cc)
  bundle_refused (first ∷ others) held has skips =
      (λ i. bundle_step_fault rules false (has.1 i) (first ∷ others) (skips i) (record held { skip = 0 }) (flags_fault rules false (length others)))
      ∙ ap (λ (found : Option Rule). short_fault rules false found (drop (length (encode_utf8 has.0)) (first ∷ others)) (record held { skip = 0 }) (flags_fault rules false (length others) (drop (length (encode_utf8 has.0)) (first ∷ others)) 0)) (none_by_short forms has.0)

  pub short_turn : (letters : List ℕ) (held : Held) (waiting : Waiting) (word : List ℕ) (words : List (List ℕ)) → HasLetter letters → held.skip ≡ 0
      → seen_as_is false None (Some letters) waiting word held words ≡ None
  short_turn letters held waiting word words has skips =
      ap (λ (faults : Kinds). stepped (here held waiting false) word words faults (step_seen false None (Some letters) waiting word held)) (bundle_refused letters held has skips)

  -- ---- positional words

  abbrev pub placed : List ℕ → List Row → Held
  placed word rows = record { rows = rows; pending = Some ([], word ∷ []); skip = 0 }

  abbrev pub value_turn : Option Rule → Walk → List ℕ → List (List ℕ) → Option (List Row)
  value_turn found walk word words =
      then_on (option_map_or (λ rule. positional_fault rules false rule walk.held) found (stray_fault shape)) (final (to_positional rules found word walk walk.held) words)

  -- whether the word goes on with the values of one use, which it never does
  abbrev pub goes_on : Bool → Held → Waiting → Bool → List ℕ → List (List ℕ) → Option (List Row)
  goes_on same held waiting ended word words =
      then_on (cond same [] (settle_fault rules false held)) (final (here (pushed [] word (cond same held (settled rules held))) positional (ended || false)) words)

  pub place_turn : (held : Held) (waiting : Waiting) (ended : Bool) (word : List ℕ) (words : List (List ℕ))
      → value_turn (arg_by_index rules 1) (here held waiting ended) word words ≡ goes_on false held waiting ended word words
  place_turn held waiting ended word words =
      ap (λ (found : Option Rule). value_turn found (here held waiting ended) word words) (place_by_index forms)
      ∙ ap (λ (same : Bool). goes_on same held waiting ended word words) (and_false (is_pending place_rule held.pending))

  settled_place : (held : Held) (rows : List Row) (word : List ℕ) → Settles held rows → pushed [] word (settled rules held) ≡ placed word rows
  settled_place held rows word settles = (λ i. record { rows = settles.found i; pending = Some ([], word ∷ []); skip = settles.skips i })

  pub place_open : (held : Held) (rows : List Row) (waiting : Waiting) (ended : Bool) (word : List ℕ) (words : List (List ℕ)) → Settles held rows
      → value_turn (arg_by_index rules 1) (here held waiting ended) word words ≡ final (here (placed word rows) positional ended) words
  place_open held rows waiting ended word words settles =
      place_turn held waiting ended word words
      ∙ (λ i. then_on (settles.faultless i) (final (here (settled_place held rows word settles i) positional (or_false ended i)) words))
