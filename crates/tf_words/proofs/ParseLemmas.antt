-- What the library finds in words is what they are.
use Rattle.std.proofs.Common.{◌≡◌, ◌∙◌, ℕ, Bool, cond, true, false, refl, ap, List, [], ◌∷◌, map, codes, nat_lt, Option, Some, None}
use Rattle.std.specs.List.{fold, list_all}
use Rattle.std.specs.Str.{bytes_eq, is_utf8}
use Rattle.std.proofs.lemmas.Slice.Eq.{bytes_eq-Decides}
use Rattle.tf_numbers.proofs.TruthLemmas.{and_first, and_second}
use Rattle.clap.specs.Lexer.{long_of, short_of}
use Rattle.clap.specs.Kinds.{Kinds}
use Rattle.clap.specs.Walk.{Held, Row, Rule, Waiting, arg_by_index, arg_by_long, idle, option, option_word, positional, pushed, settled, settled_rows, nothing_held, walk_from, used_by_id, walked}
use Rattle.clap.specs.Faults.{settle_fault, use_fault, walk_fault}
use Rattle.std.specs.Option.{option_map_or}
use Rattle.clap.specs.declared.error.kind.ErrorKind.TheVariants as kind
use Rattle.tf_words.specs.Verbs.{Form, Piece, alone, piece_before, option_met, pieces, sort_of, takes_value, value_met, word_met as piece_met, Sort, ending, long, plain, short}
use Rattle.tf_words.proofs.RuleLemmas.{none_by_long, one_by_long, one_by_id, place_by_id}
use Rattle.tf_words.proofs.SortLemmas.{HasLetter, SeenAs, Sees, seen_as}
use Rattle.tf_words.proofs.WalkLemmas.{IsFree, Settles, attached_open, begun_open, final, final_next, here, long_stuck, long_turn, noted, place_open, place_turn, placed, raised_open, resting, resting_settles, rules, seen, seen_as_is, short_turn, then_on, told, unless, value_turn, waits_for}

-- a piece in front of others is noted first
told_front : (rows : List Row) (name value : List ℕ) (found : Option (List Piece)) → told (noted rows (record { name = name; value = value })) found ≡ told rows (piece_before name value found)
told_front rows name value None = refl
told_front rows name value (Some others) = refl

module _ (forms : List Form) (named : takes_value forms [] ≡ None) where
  -- a positional word settles
  place_settles : (word : List ℕ) (rows : List Row) → Settles forms (placed forms word rows) (noted rows (alone word))
  place_settles word rows = record {
    faultless = ap (λ (found : Option Rule). option_map_or (λ rule. use_fault false rule (word ∷ []) rows) found []) (place_by_id forms named);
    found = ap (λ (found : Option Rule). used_by_id found (word ∷ []) rows) (place_by_id forms named);
    skips = refl;
  }

  final_trailing : (held : Held) (waiting : Waiting) (word : List ℕ) (words : List (List ℕ)) → final forms (here held waiting true) (word ∷ words) ≡ value_turn forms (arg_by_index (rules forms) 1) (here held waiting true) word words
  unfolding walked
  final_trailing held waiting word words = final_next forms (here held waiting true) word words

  -- behind `--` all words are positional
  rest_walk : (words : List (List ℕ)) (held : Held) (rows : List Row) (waiting : Waiting) → Settles forms held rows → final forms (here held waiting true) words ≡ Some (fold noted rows (map alone words))
  unfolding walk_fault walked
  rest_walk [] held rows waiting settles = (λ i. unless (settles.faultless i) (settles.found i))
  rest_walk (word ∷ words) held rows waiting settles =
      final_trailing held waiting word words
      ∙ place_open forms held rows waiting true word words settles
      ∙ rest_walk words (placed forms word rows) (noted rows (alone word)) positional (place_settles word rows)

  -- ---- an option that waits for its value

  unsettled : (name : List ℕ) (rows : List Row) → takes_value forms name ≡ Some true → settle_fault (rules forms) false (waits_for name rows) ≡ kind.InvalidValue ∷ []
  unsettled name rows takes = ap (λ (found : Option Rule). option_map_or (λ rule. use_fault false rule [] rows) found []) (one_by_id forms name true takes)

  stuck_end : (name : List ℕ) (rows : List Row) (waiting : Waiting) (ended : Bool) → takes_value forms name ≡ Some true → final forms (here (waits_for name rows) waiting ended) [] ≡ None
  unfolding walk_fault
  stuck_end name rows waiting ended takes = ap (λ (faults : Kinds). unless faults (settled_rows (rules forms) (Some (name, [])) rows)) (unsettled name rows takes)

  -- `--` is no value
  stuck_walk : (words : List (List ℕ)) (name : List ℕ) (rows : List Row) (waiting : Waiting) → takes_value forms name ≡ Some true → final forms (here (waits_for name rows) waiting true) words ≡ None
  stuck_walk [] name rows waiting takes = stuck_end name rows waiting true takes
  stuck_walk (word ∷ words) name rows waiting takes =
      final_trailing (waits_for name rows) waiting word words
      ∙ place_turn forms (waits_for name rows) waiting true word words
      ∙ ap (λ (faults : Kinds). then_on faults (final forms (here (pushed [] word (settled (rules forms) (waits_for name rows))) positional true) words)) (unsettled name rows takes)

  abbrev filled : List ℕ → List ℕ → List Row → Held
  filled name word rows = record { rows = rows; pending = Some (name, word ∷ []); skip = 0 }

  filled_settles : (name word : List ℕ) (rows : List Row) → takes_value forms name ≡ Some true → Settles forms (filled name word rows) (noted rows (record { name = name; value = word }))
  filled_settles name word rows takes = record {
    faultless = ap (λ (found : Option Rule). option_map_or (λ rule. use_fault false rule (word ∷ []) rows) found []) (one_by_id forms name true takes);
    found = ap (λ (found : Option Rule). used_by_id found (word ∷ []) rows) (one_by_id forms name true takes);
    skips = refl;
  }

  abbrev option_turn : Option Rule → List ℕ → List ℕ → List Row → List (List ℕ) → Option (List Row)
  option_turn found name word rows words =
      final forms (here (option_word found name word (waits_for name rows)).0 (option_word found name word (waits_for name rows)).1 false) words

  -- the next word is the value
  value_given : (name word : List ℕ) (rows : List Row) (words : List (List ℕ)) → takes_value forms name ≡ Some true
      → seen_as_is forms false None None (option name) word (waits_for name rows) words ≡ final forms (here (filled name word rows) idle false) words
  value_given name word rows words takes =
      ap (λ (found : Option Rule). option_turn found name word rows words) (one_by_id forms name true takes)
      ∙ ap (λ (same : Bool). final forms (here (filled name word rows) (cond (nat_lt (cond same 1 0) 1) (option name) idle) false) words) ((bytes_eq-Decides name name).1 refl)

  plain_turn : (held : Held) (waiting : Waiting) (word : List ℕ) (words : List (List ℕ)) → IsFree waiting → seen_as_is forms false None None waiting word held words ≡ value_turn forms (arg_by_index (rules forms) 1) (here held waiting false) word words
  plain_turn held idle word words free = refl
  plain_turn held (option name) word words free = absurd free
  plain_turn held positional word words free = refl

  -- ---- the words in turn

  record Walks (words : List (List ℕ)) : Type 0 where
    pub open_walk : (held : Held) (rows : List Row) (waiting : Waiting) → Settles forms held rows → IsFree waiting → final forms (here held waiting false) words ≡ told rows (pieces forms None words)
    pub wait_walk : (name : List ℕ) (rows : List Row) → takes_value forms name ≡ Some true → final forms (here (waits_for name rows) (option name) false) words ≡ told rows (pieces forms (Some name) words)

  none_walks : Walks []
  unfolding walk_fault
  none_walks = record {
    open_walk = λ held rows waiting settles free. (λ i. unless (settles.faultless i) (settles.found i));
    wait_walk = λ name rows takes. stuck_end name rows (option name) false takes;
  }

  rested : (name value : List ℕ) (rows : List Row) (words : List (List ℕ)) → Walks words
      → final forms (here (resting (noted rows (record { name = name; value = value }))) idle false) words ≡ told rows (piece_before name value (pieces forms None words))
  rested name value rows words rest =
      rest.open_walk (resting (noted rows (record { name = name; value = value }))) (noted rows (record { name = name; value = value })) idle (resting_settles forms (noted rows (record { name = name; value = value }))) tt
      ∙ told_front rows name value (pieces forms None words)

  option_walk : (takes : Option Bool) (name : List ℕ) (value : Option (List ℕ)) (held : Held) (rows : List Row) (waiting : Waiting) (word : List ℕ) (words : List (List ℕ)) → takes_value forms name ≡ takes → Settles forms held rows → Walks words
      → long_turn forms (arg_by_long (rules forms) name) value waiting word held words ≡ told rows (option_met takes name value (λ waits. pieces forms waits words))
  option_walk None name value held rows waiting word words takes settles rest =
      ap (λ (found : Option Rule). long_turn forms found value waiting word held words) (none_by_long forms name takes)
  option_walk (Some true) name (Some value) held rows waiting word words takes settles rest =
      ap (λ (found : Option Rule). long_turn forms found (Some value) waiting word held words) (one_by_long forms name true takes)
      ∙ attached_open forms name value waiting word held rows words settles ∙ rested name value rows words rest
  option_walk (Some true) name None held rows waiting word words takes settles rest =
      ap (λ (found : Option Rule). long_turn forms found None waiting word held words) (one_by_long forms name true takes)
      ∙ begun_open forms name waiting word held rows words settles ∙ rest.wait_walk name rows takes
  option_walk (Some false) name (Some value) held rows waiting word words takes settles rest =
      ap (λ (found : Option Rule). long_turn forms found (Some value) waiting word held words) (one_by_long forms name false takes)
  option_walk (Some false) name None held rows waiting word words takes settles rest =
      ap (λ (found : Option Rule). long_turn forms found None waiting word held words) (one_by_long forms name false takes)
      ∙ raised_open forms name waiting word held rows words settles ∙ rested name [] rows words rest

  short_walk : (letters : List ℕ) (held : Held) (waiting : Waiting) (word : List ℕ) (words : List (List ℕ)) → Sees false None (Some letters) word → HasLetter letters → held.skip ≡ 0
      → final forms (here held waiting false) (word ∷ words) ≡ None
  short_walk letters held waiting word words sees has skips =
      seen forms false None (Some letters) held waiting word words sees ∙ short_turn forms letters held waiting word words has skips

  ending_walk : (held : Held) (waiting : Waiting) (word : List ℕ) (words : List (List ℕ)) → bytes_eq word (codes "--") ≡ true → final forms (here held waiting false) (word ∷ words) ≡ final forms (here held waiting true) words
  ending_walk held waiting word words ends =
      seen forms true (long_of word) (short_of word) held waiting word words (record { ending = ends; name = refl; letters = refl })

  open_step : (sort : Sort) (held : Held) (rows : List Row) (waiting : Waiting) (word : List ℕ) (words : List (List ℕ)) → SeenAs sort word → Settles forms held rows → IsFree waiting → Walks words
      → final forms (here held waiting false) (word ∷ words) ≡ told rows (piece_met forms sort word words (λ waits. pieces forms waits words))
  open_step ending held rows waiting word words sees settles free rest = ending_walk held waiting word words sees ∙ rest_walk words held rows waiting settles
  open_step (long name value) held rows waiting word words sees settles free rest =
      seen forms false (Some (name, value)) None held waiting word words sees ∙ option_walk (takes_value forms name) name value held rows waiting word words refl settles rest
  open_step short held rows waiting word words sees settles free rest = short_walk sees.0 held waiting word words sees.1 sees.2 settles.skips
  open_step plain held rows waiting word words sees settles free rest =
      seen forms false None None held waiting word words sees
      ∙ plain_turn held waiting word words free
      ∙ place_open forms held rows waiting false word words settles
      ∙ rest.open_walk (placed forms word rows) (noted rows (alone word)) positional (place_settles word rows) tt
      ∙ told_front rows [] word (pieces forms None words)

  wait_step : (sort : Sort) (name : List ℕ) (rows : List Row) (word : List ℕ) (words : List (List ℕ)) → SeenAs sort word → takes_value forms name ≡ Some true → Walks words
      → final forms (here (waits_for name rows) (option name) false) (word ∷ words) ≡ told rows (value_met sort name word (pieces forms None words))
  wait_step ending name rows word words sees takes rest = ending_walk (waits_for name rows) (option name) word words sees ∙ stuck_walk words name rows (option name) takes
  wait_step (long other value) name rows word words sees takes rest =
      seen forms false (Some (other, value)) None (waits_for name rows) (option name) word words sees
      ∙ long_stuck forms other value (option name) word (waits_for name rows) words [] kind.InvalidValue (unsettled name rows takes)
  wait_step short name rows word words sees takes rest = short_walk sees.0 (waits_for name rows) (option name) word words sees.1 sees.2 refl
  wait_step plain name rows word words sees takes rest =
      seen forms false None None (waits_for name rows) (option name) word words sees
      ∙ value_given name word rows words takes
      ∙ rest.open_walk (filled name word rows) (noted rows (record { name = name; value = word })) idle (filled_settles name word rows takes) tt
      ∙ told_front rows name word (pieces forms None words)

  walks : (words : List (List ℕ)) → list_all is_utf8 words ≡ true → Walks words
  walks [] texts = none_walks
  walks (word ∷ words) texts =
      let sees : SeenAs (sort_of word) word = seen_as word (and_first (is_utf8 word) (list_all is_utf8 words) texts) in
      let rest : Walks words = walks words (and_second (is_utf8 word) (list_all is_utf8 words) texts) in
      record {
        open_walk = λ held rows waiting settles free. open_step (sort_of word) held rows waiting word words sees settles free rest;
        wait_walk = λ name rows takes. wait_step (sort_of word) name rows word words sees takes rest;
      }

  -- the rows that the library finds are those of the pieces
  pub found_is : (words : List (List ℕ)) → list_all is_utf8 words ≡ true → final forms (walk_from nothing_held) words ≡ told [] (pieces forms None words)
  found_is words texts = (walks words texts).open_walk nothing_held [] idle (resting_settles forms []) tt
