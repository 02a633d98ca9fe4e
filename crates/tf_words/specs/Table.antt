-- The command of the library that reads the options of a table.
use Rattle.std.specs.Prelude.{List, [], ◌∷◌, ◌++◌, map, codes, true, Some, None, if◌then◌else◌}
use Rattle.clap.specs.Words.{App, Rule, new_app, new_rule}
use Rattle.clap.specs.declared.builder.action.ArgAction.TheVariants.{Append}
use Rattle.clap.specs.declared.builder.range.ValueRange.{ValueRange}
use Rattle.tf_words.specs.Verbs.{Form}

-- one use takes no value
abbrev pub no_values : ValueRange
no_values = record { start_inclusive = 0; end_inclusive = 0 }

-- an option by its long name alone, whose values are kept in order; a flag has the empty value for each use
abbrev pub option_rule : Form → Rule
option_rule form = record (new_rule form.name) {
  long = Some form.name;
  action = Some Append;
  range = if form.valued then None else Some no_values;
  missing = if form.valued then [] else [] ∷ [];
}

-- the positional words, under the empty name
abbrev pub positional_rule : Rule
positional_rule = record (new_rule []) { action = Some Append }

-- a command without a name of a program, help and version, that has these rules
abbrev pub with_rules : List Rule → App
with_rules rules =
    let app = new_app (codes "words") in
    record app {
      top = record app.top
          { no_binary_name = true; disable_help_flag = true; disable_version_flag = true; rules = rules };
    }

-- the command that has these options and any number of positional words
abbrev pub table : List Form → App
table forms = with_rules (map option_rule forms ++ positional_rule ∷ [])
