-- The options of a table as the library fills them in, and how it finds them.
use Rattle.std.proofs.Common.{◌≡◌, ◌∙◌, ◌&&◌, ◌||◌, ℕ, Bool, cond, true, false, not, refl, sym, ap, List, [], ◌∷◌, ◌++◌, map, codes, Some, None, is_some}
use Rattle.std.specs.List.{list_all, list_any}
use Rattle.std.specs.Prelude.{count_by}
use Rattle.std.specs.Cmp.Lexicographic.{same_text}
use Rattle.clap.specs.Walk.{Rule, arg_by_id, arg_by_index, arg_by_long, arg_by_short, is_early_multiple}
use Rattle.clap.specs.Simple.{App, Shape, built, filled, filled_from, is_buildable, is_in_order, is_ready, is_ready_leaf, new_rule, new_shape}
use Rattle.clap.specs.Faults.{is_free_app, is_simple_and_free}
use Rattle.tf_numbers.proofs.TruthLemmas.{true_both}
use Rattle.clap.specs.declared.builder.action.ArgAction.TheVariants.{Append}
use Rattle.clap.specs.declared.builder.range.ValueRange.{ValueRange}
use Rattle.clap.specs.declared.builder.value_parser.ValueParser.TheVariants as vp
use Rattle.tf_words.specs.Verbs.{Form, takes_value, same_word}
use Rattle.tf_words.specs.Table.{no_values, option_rule, positional_rule, table}

-- one use takes one value
abbrev pub one_value : ValueRange
one_value = record { start_inclusive = 1; end_inclusive = 1 }

-- the option of this name, filled in
abbrev pub rule_for : List ℕ → Bool → Rule
rule_for name valued = record (new_rule name) {
  long = Some name;
  action = Some Append;
  range = Some (cond valued one_value no_values);
  missing = cond valued [] ([] ∷ []);
  parser = Some vp.String;
}

-- the positional words, filled in
abbrev pub place_rule : Rule
place_rule = record (new_rule []) { index = Some 1; action = Some Append; range = Some one_value; parser = Some vp.String }

abbrev pub rule_of_form : Form → Rule
rule_of_form form = rule_for form.name form.valued

abbrev pub rules_for : List Form → List Rule
rules_for forms = map rule_of_form forms ++ place_rule ∷ []

-- the command, built
abbrev pub shape_with : List Rule → Shape
shape_with rules = record (new_shape (codes "words")) { rules = rules; no_binary_name = true; disable_help_flag = true; disable_help_subcommand = true; disable_version_flag = true; is_built = true }

abbrev pub shape_for : List Form → Shape
shape_for forms = shape_with (rules_for forms)

filled_option : (form : Form) → filled (option_rule form) ≡ rule_of_form form
filled_option form = go form.valued
  where
    go : (valued : Bool) → filled (option_rule (record { name = form.name; valued = valued })) ≡ rule_for form.name valued
    go true = refl
    go false = refl

filled_rules : (forms : List Form) → filled_from 1 (map option_rule forms ++ positional_rule ∷ []) ≡ rules_for forms
filled_rules [] = refl
filled_rules (form ∷ forms) = (λ i. filled_option form i ∷ filled_rules forms i)

pub built_table : (forms : List Form) → built (table forms) ≡ record { top = shape_for forms; subs = [] }
built_table forms = let app : List Rule → App = λ rules. record { top = shape_with rules; subs = [] } in ap app (filled_rules forms)

raw_simple : (forms : List Form) → list_all (λ (a : Rule). a.is_simple) (map option_rule forms ++ positional_rule ∷ []) ≡ true
raw_simple [] = refl
raw_simple (form ∷ forms) = raw_simple forms

all_simple : (forms : List Form) → list_all (λ (a : Rule). a.is_simple) (rules_for forms) ≡ true
all_simple [] = refl
all_simple (form ∷ forms) = all_simple forms

all_free : (forms : List Form) → list_all (λ (a : Rule). a.is_free) (rules_for forms) ≡ true
all_free [] = refl
all_free (form ∷ forms) = all_free forms

one_place : (forms : List Form) → count_by (λ (a : Rule). is_some a.index) (rules_for forms) ≡ 1
one_place [] = refl
one_place (form ∷ forms) = one_place forms

in_order : (forms : List Form) → list_any (is_early_multiple 1) (rules_for forms) ≡ false
in_order [] = refl
in_order (form ∷ forms) = in_order forms

pub simple_table : (forms : List Form) → is_simple_and_free (table forms) ≡ true
simple_table forms =
    let built_test : App → Bool = λ app. (is_buildable (table forms) && (is_ready app.top && list_all is_ready_leaf app.subs)) && is_free_app app in
    let buildable : is_buildable (table forms) ≡ true = ap (λ (b : Bool). b && true) (raw_simple forms) in
    let ordered : is_in_order (rules_for forms) ≡ true = ap (λ (n : ℕ). not (list_any (is_early_multiple n) (rules_for forms))) (one_place forms) ∙ ap not (in_order forms) in
    let ready : is_ready (shape_for forms) ≡ true = true_both _ _ (all_simple forms) ordered in
    let free : is_free_app (record { top = shape_for forms; subs = [] }) ≡ true = true_both _ _ (all_free forms) refl in
    ap built_test (built_table forms) ∙ true_both _ _ (true_both _ _ buildable (true_both _ _ ready refl)) free

-- ---- how a rule is found

pub place_by_index : (forms : List Form) → arg_by_index (rules_for forms) 1 ≡ Some place_rule
place_by_index [] = refl
place_by_index (form ∷ forms) = place_by_index forms

pub none_by_short : (forms : List Form) (letter : ℕ) → arg_by_short (rules_for forms) letter ≡ None
none_by_short [] letter = refl
none_by_short (form ∷ forms) letter = none_by_short forms letter

pub none_by_long : (forms : List Form) (name : List ℕ) → takes_value forms name ≡ None → arg_by_long (rules_for forms) name ≡ None
none_by_long [] name none = refl
none_by_long (form ∷ forms) name none = go (same_word form.name name) (none_by_long forms name) none
  where
    go : (same : Bool) → (takes_value forms name ≡ None → arg_by_long (rules_for forms) name ≡ None) → cond same (Some form.valued) (takes_value forms name) ≡ None
        → cond (same || false) (Some (rule_of_form form)) (arg_by_long (rules_for forms) name) ≡ None
    go true more is = absurd (cc)
    go false more is = more is

pub one_by_long : (forms : List Form) (name : List ℕ) (valued : Bool) → takes_value forms name ≡ Some valued → arg_by_long (rules_for forms) name ≡ Some (rule_for name valued)
one_by_long [] name valued is = absurd (cc)
one_by_long (form ∷ forms) name valued is = go (same_word form.name name) refl (one_by_long forms name valued) is
  where
    go : (same : Bool) → same_word form.name name ≡ same → (takes_value forms name ≡ Some valued → arg_by_long (rules_for forms) name ≡ Some (rule_for name valued))
        → cond same (Some form.valued) (takes_value forms name) ≡ Some valued
        → cond (same || false) (Some (rule_of_form form)) (arg_by_long (rules_for forms) name) ≡ Some (rule_for name valued)
    go true same more is =
        let named : form.name ≡ name = same_text form.name name (sym same) in
        let takes : form.valued ≡ valued = cc in
        (λ i. Some (rule_for (named i) (takes i)))
    go false same more is = more is

pub one_by_id : (forms : List Form) (name : List ℕ) (valued : Bool) → takes_value forms name ≡ Some valued → arg_by_id (rules_for forms) name ≡ Some (rule_for name valued)
one_by_id [] name valued is = absurd (cc)
one_by_id (form ∷ forms) name valued is = go (same_word form.name name) refl (one_by_id forms name valued) is
  where
    go : (same : Bool) → same_word form.name name ≡ same → (takes_value forms name ≡ Some valued → arg_by_id (rules_for forms) name ≡ Some (rule_for name valued))
        → cond same (Some form.valued) (takes_value forms name) ≡ Some valued
        → cond same (Some (rule_of_form form)) (arg_by_id (rules_for forms) name) ≡ Some (rule_for name valued)
    go true same more is =
        let named : form.name ≡ name = same_text form.name name (sym same) in
        let takes : form.valued ≡ valued = cc in
        (λ i. Some (rule_for (named i) (takes i)))
    go false same more is = more is

pub place_by_id : (forms : List Form) → takes_value forms [] ≡ None → arg_by_id (rules_for forms) [] ≡ Some place_rule
place_by_id [] none = refl
place_by_id (form ∷ forms) none = go (same_word form.name []) (place_by_id forms) none
  where
    go : (same : Bool) → (takes_value forms [] ≡ None → arg_by_id (rules_for forms) [] ≡ Some place_rule) → cond same (Some form.valued) (takes_value forms []) ≡ None
        → cond same (Some (rule_of_form form)) (arg_by_id (rules_for forms) []) ≡ Some place_rule
    go true more is = absurd (cc)
    go false more is = more is
