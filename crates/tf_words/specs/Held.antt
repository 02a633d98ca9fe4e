-- What the library for command lines found.
use Rattle.std.specs.Prelude.{ℕ, List, [], map, option_map, unwrap_or}
use Rattle.std.specs.Borrow.{Bor}
use Rattle.clap.specs.Words.{found_of, matched_of, raw_values}
use Rattle.clap.specs.declared.parser.matches.ArgMatches.{ArgMatches}

-- the texts behind references
abbrev pub texts_in : List (Bor (List ℕ)) → List (List ℕ)
texts_in = map (λ text. text.now)

-- the values that it found of a name
abbrev pub held_by : ArgMatches → List ℕ → List (List ℕ)
held_by matches name = unwrap_or (option_map raw_values (matched_of (found_of matches) name)) []
