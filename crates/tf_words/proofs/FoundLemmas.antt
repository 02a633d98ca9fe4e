-- From what the library answers to what the words say.
use Rattle.std.proofs.Common.{◌≡◌, ◌∙◌, ◌&&◌, ◌⊎◌, inl, inr, ℕ, Bool, cond, true, false, not, refl, sym, ap, List, [], ◌∷◌, ◌++◌, map, Option, Some, None, option_map, unwrap_or, append_assoc, append-nil, length, ◌==◌, nat_le}
use Rattle.std.proofs.Math.Path.{fun_ext}
use Rattle.std.proofs.lemmas.List.{map-id}
use Rattle.std.specs.List.{find, fold, list_all, list_any}
use Rattle.std.specs.Str.{bytes_eq, is_utf8}
use Rattle.std.specs.Cmp.Lexicographic.{same_text}
use Rattle.tf_numbers.proofs.TruthLemmas.{true_both, and_first, and_second, or_true, never_true, clash}
use Rattle.clap.specs.Kinds.{IsAmong, Kinds, or_else}
use Rattle.clap.specs.Walk.{Held, Row, Rule, all_of, stronger, finished, nothing_held, rows_of, rows_after, settled_rows, walk, walk_from, with_default, has_row}
use Rattle.clap.specs.declared.builder.value_parser.Reading.TheVariants as reading
use Rattle.clap.specs.declared.parser.matches.ValueSource.TheVariants.{CommandLine}
use Rattle.clap.specs.Simple.{App, HasMatchesOf, built, matches_of, names_of, is_simple}
use Rattle.clap.specs.Faults.{built_fault, check_fault, defaults_fault, default_fault, fault_of, is_free_app, is_simple_and_free, level_fault, settle_fault, walk_fault}
use Rattle.clap.specs.Takes.{is_given}
use Rattle.clap.specs.Words.{found_of}
use Rattle.clap.specs.declared.error.kind.ErrorKind.{ErrorKind}
use Rattle.clap.specs.declared.error.kind.ErrorKind.TheVariants as kind
use Rattle.clap.specs.declared.parser.matches.ArgMatches.{ArgMatches}
use Rattle.clap.proofs.FaultLemmas.{leaf_fault}
use Rattle.clap.proofs.WalkLemmas.{raw_values-rows}
use Rattle.tf_values.specs.Text.{is_text}
use Rattle.tf_words.specs.Held.{held_by}
use Rattle.tf_words.specs.Verbs.{Form, Piece, are_filled, is_filled, pieces, read_by, takes_value, values_in, same_word}
use Rattle.tf_words.specs.Table.{table}
use Rattle.tf_words.proofs.RuleLemmas.{built_table, rule_of_form, place_rule, rules_for, shape_for, simple_table}
use Rattle.tf_words.proofs.WalkLemmas.{final, noted, told, unless}
use Rattle.tf_words.proofs.ParseLemmas.{found_is}

-- ---- behind the walk nothing is at fault

nothing_else : (faults : Kinds) → or_else faults [] ≡ faults
nothing_else [] = refl
nothing_else (first ∷ others) = refl

same_either : {A : Type 0} (test : Bool) (x : A) → cond test x x ≡ x
same_either true x = refl
same_either false x = refl

option_kept : (form : Form) (rows : List Row) → with_default rows (rule_of_form form) ≡ rows
option_kept form rows = same_either (has_row form.name rows) rows

option_passes : (form : Form) (rows : List Row) → default_fault rows (rule_of_form form) ≡ []
option_passes form rows = ap (λ (test : Bool). cond test [] []) (or_true (has_row form.name rows))

all_kept : (forms : List Form) (rows : List Row) → fold with_default rows (rules_for forms) ≡ rows
all_kept [] rows = same_either (has_row [] rows) rows
all_kept (form ∷ forms) rows = ap (λ (kept : List Row). fold with_default kept (rules_for forms)) (option_kept form rows) ∙ all_kept forms rows

all_pass : (forms : List Form) (rows : List Row) → defaults_fault rows (rules_for forms) ≡ []
unfolding defaults_fault
all_pass [] rows = nothing_else (default_fault rows place_rule) ∙ ap (λ (test : Bool). cond test [] []) (or_true (has_row [] rows))
all_pass (form ∷ forms) rows = (λ i. or_else (option_passes form rows i) (defaults_fault (option_kept form rows i) (rules_for forms))) ∙ all_pass forms rows

none_required : (forms : List Form) (rows : List Row) → list_any (λ (rule : Rule). rule.required && not (is_given rule.id rows)) (rules_for forms) ≡ false
none_required [] rows = refl
none_required (form ∷ forms) rows = none_required forms rows

nothing_missing : (forms : List Form) (rows : List Row) → check_fault (shape_for forms) rows false ≡ []
nothing_missing forms rows = ap (λ (test : Bool). cond test (kind.MissingRequiredArgument ∷ []) []) (none_required forms rows)

module _ (forms : List Form) (words : List (List ℕ)) where
  abbrev last : Held
  last = (walk (rules_for forms) [] nothing_held words).held

  level_is : unless (level_fault (shape_for forms) [] nothing_held words false []) (finished (rules_for forms) last) ≡ final forms (walk_from nothing_held) words
  level_is =
      let faults : Kinds = walk_fault (shape_for forms) [] (walk_from nothing_held) words in
      let settling : Kinds = settle_fault (rules_for forms) false last in
      let rows : List Row = settled_rows (rules_for forms) last.pending last.rows in
      (λ i. unless (or_else faults (or_else settling (or_else (all_pass forms rows i) (nothing_missing forms (finished (rules_for forms) last) i)))) (all_kept forms rows i))
      ∙ ap (λ (rest : Kinds). unless (or_else faults rest) rows) (nothing_else settling)

  library_is : unless (fault_of (table forms) words) (matches_of (table forms) words) ≡ final forms (walk_from nothing_held) words
  library_is =
      let read : App → Option (List Row) = λ app. unless (built_fault app nothing_held words) (rows_after app.top.rules (names_of app) words) in
      ap read (built_table forms)
      ∙ ap (λ (faults : Kinds). unless faults (finished (rules_for forms) last)) (leaf_fault (record { top = shape_for forms; subs = [] }) nothing_held words refl)
      ∙ level_is

-- ---- what is found of a name

abbrev found_of_name : List ℕ → List Row → List (List ℕ)
found_of_name name rows = unwrap_or (all_of name rows) []

abbrev one_more : List ℕ → Piece → List (List ℕ)
one_more name piece = cond (same_word piece.name name) (piece.value ∷ []) []

-- the row with one value more
abbrev changed : Row → Piece → Row
changed row piece = record row { values = row.values ++ piece.value ∷ []; source = Some (stronger row.source CommandLine) }

-- the values of the first row, or those behind it
abbrev first_of : Bool → Row → List ℕ → List Row → List (List ℕ)
first_of asked row name rows = unwrap_or (option_map (λ (r : Row). r.values) (cond asked (Some row) (find (λ (r : Row). bytes_eq r.id name) rows))) []

other_name : (own piece name : List ℕ) → bytes_eq own piece ≡ false → bytes_eq own name ≡ true → bytes_eq piece name ≡ false
other_name own piece name other asked =
    never_true (bytes_eq piece name) (λ same. clash (bytes_eq own piece) (ap (bytes_eq own) (same_text piece name (sym same)) ∙ asked) other)

row_noted : (name : List ℕ) (piece : Piece) (row : Row) (rows : List Row) → found_of_name name (noted rows piece) ≡ found_of_name name rows ++ one_more name piece
    → (own : Bool) → bytes_eq row.id piece.name ≡ own → (asked : Bool) → bytes_eq row.id name ≡ asked
    → found_of_name name (cond own (changed row piece ∷ rows) (row ∷ noted rows piece)) ≡ first_of asked row name rows ++ one_more name piece
row_noted name piece row rows more true own true asked =
    let same : bytes_eq piece.name name ≡ true = ap (λ (id : List ℕ). bytes_eq id name) (sym (same_text row.id piece.name (sym own))) ∙ asked in
    ap (λ (test : Bool). first_of test (changed row piece) name rows) asked
    ∙ ap (λ (test : Bool). row.values ++ cond test (piece.value ∷ []) []) (sym same)
row_noted name piece row rows more true own false asked =
    let other : bytes_eq piece.name name ≡ false = ap (λ (id : List ℕ). bytes_eq id name) (sym (same_text row.id piece.name (sym own))) ∙ asked in
    ap (λ (test : Bool). first_of test (changed row piece) name rows) asked
    ∙ sym (append-nil (found_of_name name rows))
    ∙ ap (λ (test : Bool). found_of_name name rows ++ cond test (piece.value ∷ []) []) (sym other)
row_noted name piece row rows more false own true asked =
    ap (λ (test : Bool). first_of test row name (noted rows piece)) asked
    ∙ sym (append-nil row.values)
    ∙ ap (λ (test : Bool). row.values ++ cond test (piece.value ∷ []) []) (sym (other_name row.id piece.name name own asked))
row_noted name piece row rows more false own false asked =
    ap (λ (test : Bool). first_of test row name (noted rows piece)) asked ∙ more

noted_name : (name : List ℕ) (piece : Piece) (rows : List Row) → found_of_name name (noted rows piece) ≡ found_of_name name rows ++ one_more name piece
noted_name name piece [] = go (same_word piece.name name)
  where
    go : (same : Bool) → unwrap_or (option_map (λ (r : Row). r.values) (cond same (Some (record { id = piece.name; values = piece.value ∷ []; count = None; source = Some CommandLine; reading = reading.AsWritten })) None)) [] ≡ cond same (piece.value ∷ []) []
    go true = refl
    go false = refl
noted_name name piece (row ∷ rows) = row_noted name piece row rows (noted_name name piece rows) (bytes_eq row.id piece.name) refl (bytes_eq row.id name) refl

noted_names : (name : List ℕ) (found : List Piece) (rows : List Row) → found_of_name name (fold noted rows found) ≡ found_of_name name rows ++ values_in found name
noted_names name [] rows = sym (append-nil (found_of_name name rows))
noted_names name (piece ∷ others) rows =
    noted_names name others (noted rows piece)
    ∙ ap (λ (front : List (List ℕ)). front ++ values_in others name) (noted_name name piece rows)
    ∙ append_assoc (found_of_name name rows) (one_more name piece) (values_in others name)
    ∙ ap (λ (rest : List (List ℕ)). found_of_name name rows ++ rest) (go (same_word piece.name name))
  where
    go : (same : Bool) → cond same (piece.value ∷ []) [] ++ values_in others name ≡ cond same (piece.value ∷ values_in others name) (values_in others name)
    go true = refl
    go false = refl

held_is : (matches : ArgMatches) (found : List Piece) → rows_of (found_of matches) ≡ fold noted [] found → held_by matches ≡ values_in found
held_is matches found is = fun_ext (λ name.
    ap (λ (values : Option (List (List ℕ))). unwrap_or values []) (raw_values-rows (found_of matches) name)
    ∙ ap (found_of_name name) is ∙ noted_names name found [])

-- ---- the answer

filled_utf8 : (words : List (List ℕ)) → are_filled words ≡ true → list_all is_utf8 words ≡ true
filled_utf8 [] filled = refl
filled_utf8 (word ∷ words) filled =
    let fills : is_filled word ≡ true = and_first (is_filled word) (are_filled words) filled in
    let text : is_text word ≡ true = and_second (not (length word == 0)) (is_text word) fills in
    true_both (is_utf8 word) (list_all is_utf8 words) (and_second (nat_le (length word) 65536) (is_utf8 word) text) (filled_utf8 words (and_second (is_filled word) (are_filled words) filled))

told_some : (found : Option (List Piece)) (rows : List Row) → Some rows ≡ told [] found → (ps : List Piece) × (found ≡ Some ps) × (rows ≡ fold noted [] ps)
told_some None rows is = absurd (cc)
told_some (Some ps) rows is = (ps, refl, cc)

told_none : (found : Option (List Piece)) → None ≡ told [] found → found ≡ None
told_none None is = refl
told_none (Some ps) is = absurd (cc)

module _ (forms : List Form) (words : List (List ℕ)) (named : takes_value forms [] ≡ None) (filled : are_filled words ≡ true) where
  found_rows : unless (fault_of (table forms) words) (matches_of (table forms) words) ≡ told [] (pieces forms None words)
  found_rows = library_is forms words ∙ found_is forms named words (filled_utf8 words filled)

  faultless_read : (matches : ArgMatches) → fault_of (table forms) words ≡ [] → rows_of (found_of matches) ≡ matches_of (table forms) words → Some (held_by matches) ≡ read_by forms words
  faultless_read matches faultless is =
      let rows : Some (rows_of (found_of matches)) ≡ told [] (pieces forms None words) = (λ i. unless (sym faultless i) (is i)) ∙ found_rows in
      let found = told_some (pieces forms None words) (rows_of (found_of matches)) rows in
      ap Some (held_is matches found.0 found.2) ∙ sym (ap (option_map values_in) found.1)

  faulty_refused : (faults : Kinds) (kind_is : ErrorKind) → IsAmong kind_is faults → fault_of (table forms) words ≡ faults → None ≡ read_by forms words
  faulty_refused [] kind_is among faulty = absurd among
  faulty_refused (first ∷ faults) kind_is among faulty =
      let rows : None ≡ told [] (pieces forms None words) = ap (λ (found : Kinds). unless found (matches_of (table forms) words)) (sym faulty) ∙ found_rows in
      sym (ap (option_map values_in) (told_none (pieces forms None words) rows))

  -- the words are read where the library answers matches
  pub read_as_said : (app : App) (matches : ArgMatches) → app ≡ table forms → (is_simple_and_free app ≡ true → fault_of app (map (λ word. word) words) ≡ []) → HasMatchesOf app (map (λ word. word) words) matches
      → Some (held_by matches) ≡ read_by forms words
  read_as_said app matches is faultless has =
      let same : map (λ word. word) words ≡ words = map-id words in
      let simple : is_simple_and_free app ≡ true = ap is_simple_and_free is ∙ simple_table forms in
      let rows = has (and_first (is_simple app) (is_free_app (built app)) simple) in
      faultless_read matches (sym (λ i. fault_of (is i) (same i)) ∙ faultless simple) (rows.0 ∙ (λ i. matches_of (is i) (same i)))

  -- they are not where it answers an error that is not want of memory
  pub refused_as_said : (app : App) (kind_is : ErrorKind) → app ≡ table forms → (kind_is ≡ kind.OutOfMemory → ⊥)
      → (is_simple_and_free app ≡ true → (kind_is ≡ kind.OutOfMemory) ⊎ IsAmong kind_is (fault_of app (map (λ word. word) words))) → None ≡ read_by forms words
  refused_as_said app kind_is is not_memory faulty =
      let same : map (λ word. word) words ≡ words = map-id words in
      elim (faulty (ap is_simple_and_free is ∙ simple_table forms)) [
        | inl memory ↦ absurd (not_memory memory)
        | inr among ↦ faulty_refused (fault_of app (map (λ word. word) words)) kind_is among (sym (λ i. fault_of (is i) (same i)))
      ]
