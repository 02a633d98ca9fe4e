-- The command of the library grows by one rule at a time.
use Rattle.std.proofs.Common.{◌≡◌, ◌∙◌, ◌+◌, ◌<◌, ◌≤◌, ℕ, List, [], ◌∷◌, ◌++◌, map, take, length, get_or, sym, ap}
use Rattle.std.proofs.lemmas.List.{take_more, map-append}
use Rattle.tf_numbers.proofs.ListLemmas.{take_whole}
use Rattle.clap.specs.Words.{App, Rule, with_rule}
use Rattle.tf_words.specs.declared.verbs.Key.{Key}
use Rattle.tf_words.specs.Verbs.{Form, form_of}
use Rattle.tf_words.specs.Table.{option_rule, positional_rule, table, with_rules}

abbrev option_of : Key → Rule
option_of key = option_rule (form_of key)

rules_grow : (keys : List Key) (i : ℕ) (spare : Key) → i < length keys
    → map option_rule (map form_of (take (i + 1) keys)) ≡ map option_rule (map form_of (take i keys)) ++ option_of (get_or keys i spare) ∷ []
rules_grow keys i spare within =
    ap (λ (some : List Key). map option_rule (map form_of some)) (take_more keys i spare within)
    ∙ ap (λ (some : List Form). map option_rule some) (map-append form_of (take i keys) (get_or keys i spare ∷ []))
    ∙ map-append option_rule (map form_of (take i keys)) (form_of (get_or keys i spare) ∷ [])

-- one more option
pub option_added : (app after : App) (rule : Rule) (keys : List Key) (i : ℕ) (spare : Key) → i < length keys → app ≡ with_rules (map option_rule (map form_of (take i keys)))
    → rule ≡ option_of (get_or keys i spare) → after ≡ with_rule app rule → after ≡ with_rules (map option_rule (map form_of (take (i + 1) keys)))
option_added app after rule keys i spare within before is added =
    added ∙ (λ j. with_rule (before j) (is j)) ∙ ap with_rules (sym (rules_grow keys i spare within))

-- the positional words, behind all options
pub words_added : (app after : App) (rule : Rule) (keys : List Key) (i : ℕ) → length keys ≤ i → app ≡ with_rules (map option_rule (map form_of (take i keys)))
    → rule ≡ positional_rule → after ≡ with_rule app rule → after ≡ table (map form_of keys)
words_added app after rule keys i past before is added =
    added ∙ (λ j. with_rule (before j) (is j)) ∙ ap (λ (all : List Key). with_rules (map option_rule (map form_of all) ++ positional_rule ∷ [])) (take_whole keys i past)
