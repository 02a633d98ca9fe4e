-- A fault of one part of a document is the fault of the whole.
use Rattle.std.proofs.Common.{◌≡◌, ℕ, ◌+◌, ◌<◌, List, [], ◌∷◌, ◌++◌, Option, Some, None, Result, Ok, Err, length, get_or, drop, add-one, refl, ap, sym, ◌∙◌, append_assoc, append-nil}
use Rattle.std.specs.Prelude.{IfErr}
use Rattle.std.specs.Fmt.{decimal}
use Rattle.tf_files.specs.document.Reading.{below, RefusesWith, chain, unknown_key, unless_unknown, known_only, required_at, required, optional, of_kind, put_first, each}
use Rattle.tf_files.specs.declared.document.faults.FileFault.{FileFault}
use Rattle.tf_files.specs.declared.document.faults.FileFault.TheVariants as fault
use Rattle.toml.proofs.Views.{items_view-drop}
use Rattle.toml.specs.Data.{Data, Members, get_member}
use Rattle.toml.specs.View.{view, items_view}
use Rattle.toml.specs.declared.value.Value.{Value}

-- what fails with a reason fails with it wherever it is read first
pub refuses_as : {A B : Type 0} (part : Result A FileFault) (whole : Result B FileFault) (e : FileFault)
    → ((reason : FileFault) → part ≡ Err reason → whole ≡ Err reason) → RefusesWith part e → RefusesWith whole e
refuses_as part whole fault.NotToml same refused = same fault.NotToml refused
refuses_as part whole (fault.UnknownKey path) same refused = same (fault.UnknownKey path) refused
refuses_as part whole (fault.MissingKey path) same refused = same (fault.MissingKey path) refused
refuses_as part whole (fault.WrongKind path) same refused = same (fault.WrongKind path) refused
refuses_as part whole (fault.BadName path) same refused = same (fault.BadName path) refused
refuses_as part whole (fault.BadChoice path) same refused = same (fault.BadChoice path) refused
refuses_as part whole (fault.BadNumber path) same refused = same (fault.BadNumber path) refused
refuses_as part whole (fault.BadValue path) same refused = same (fault.BadValue path) refused
refuses_as part whole (fault.Plan reason) same refused = same (fault.Plan reason) refused
refuses_as part whole fault.Memory same refused = refused

-- ---- a fault of the part that is read first

-- of what is read before the rest
pub chain_stops : {A B : Type 0} (part : Result A FileFault) (next : A → Result B FileFault) (e : FileFault) → RefusesWith part e → RefusesWith (chain part next) e
chain_stops part next e refused = refuses_as part (chain part next) e (λ reason is. rw is) refused

unknown_stops : {A B : Type 0} (path : List ℕ) (found : Option (List ℕ)) (other : A) (read : Result B FileFault) (reason : FileFault)
    → unless_unknown path found (Ok other) ≡ Err reason → unless_unknown path found read ≡ Err reason
unknown_stops path None other read reason is = cc
unknown_stops path (Some key) other read reason is = cc

-- of a table's keys
pub known_stops : {A B : Type 0} (path : List ℕ) (known : List (List ℕ)) (table : Members) (other : A) (read : Result B FileFault) (e : FileFault)
    → RefusesWith (known_only path known table (Ok other)) e → RefusesWith (known_only path known table read) e
known_stops path known table other read e refused =
    refuses_as (known_only path known table (Ok other)) (known_only path known table read) e (λ reason is. unknown_stops path (unknown_key known table) other read reason is) refused

required_fails : {A : Type 0} (path : List ℕ) (reads : List ℕ → Data → Result A FileFault) (found : Option Data) (reason : FileFault)
    → required_at path (λ place found. Ok found) found ≡ Err reason → required_at path reads found ≡ Err reason
required_fails path reads None reason is = cc
required_fails path reads (Some found) reason is = cc

-- of a key that isn't there
pub required_stops : {A : Type 0} (path : List ℕ) (reads : List ℕ → Data → Result A FileFault) (found : Option Data) (e : FileFault)
    → RefusesWith (required_at path (λ place found. Ok found) found) e → RefusesWith (required_at path reads found) e
required_stops path reads found e refused =
    refuses_as (required_at path (λ place found. Ok found) found) (required_at path reads found) e (λ reason is. required_fails path reads found reason is) refused

kind_fails : {A B : Type 0} (path : List ℕ) (found : Option A) (next : A → Result B FileFault) (reason : FileFault)
    → of_kind path found Ok ≡ Err reason → of_kind path found next ≡ Err reason
kind_fails path None next reason is = cc
kind_fails path (Some found) next reason is = cc

-- of a value of another kind
pub kind_stops : {A B : Type 0} (path : List ℕ) (found : Option A) (next : A → Result B FileFault) (e : FileFault)
    → RefusesWith (of_kind path found Ok) e → RefusesWith (of_kind path found next) e
kind_stops path found next e refused =
    refuses_as (of_kind path found Ok) (of_kind path found next) e (λ reason is. kind_fails path found next reason is) refused

-- ---- reading goes on

-- past what was read
pub chain_goes : {A B : Type 0} (part : Result A FileFault) (next : A → Result B FileFault) (x : A) → part ≡ Ok x → chain part next ≡ next x
chain_goes part next x is = rw is

-- past a table's keys
pub known_goes : {A : Type 0} (path : List ℕ) (known : List (List ℕ)) (table : Members) (read : Result A FileFault) → unknown_key known table ≡ None → known_only path known table read ≡ read
known_goes path known table read is = rw is

-- to a value at a key
pub required_goes : {A : Type 0} (path key : List ℕ) (table : Members) (reads : List ℕ → Data → Result A FileFault) (found : Data)
    → get_member key table ≡ Some found → required path key table reads ≡ reads (below path key) found
required_goes path key table reads found is = rw is

pub optional_goes : {A : Type 0} (path key : List ℕ) (table : Members) (other : A) (reads : List ℕ → Data → Result A FileFault) (found : Data)
    → get_member key table ≡ Some found → optional path key table other reads ≡ reads (below path key) found
optional_goes path key table other reads found is = rw is

pub optional_there : {A : Type 0} (path key : List ℕ) (table : Members) (other : A) (reads : List ℕ → Data → Result A FileFault) (place : List ℕ) (found : Data)
    → place ≡ below path key → Some found ≡ get_member key table → optional path key table other reads ≡ reads place found
optional_there path key table other reads place found at is = rw (← is, ← at) refl

-- what refuses the value at a key refuses what is read there
pub optional_refuses : {A X : Type 0} (result : Result X FileFault) (path key : List ℕ) (table : Members) (other : A) (reads : List ℕ → Data → Result A FileFault) (place : List ℕ) (found : Data)
    → place ≡ below path key → Some found ≡ get_member key table → IfErr result (RefusesWith (reads place found)) → IfErr result (RefusesWith (optional path key table other reads))
optional_refuses result path key table other reads place found at is refused = rw (← is, ← at) refused

-- past a key that isn't there
pub optional_passes : {A : Type 0} (path key : List ℕ) (table : Members) (other : A) (reads : List ℕ → Data → Result A FileFault)
    → get_member key table ≡ None → optional path key table other reads ≡ Ok other
optional_passes path key table other reads is = rw is

-- to a value of the kind that is wanted
pub kind_goes : {A B : Type 0} (path : List ℕ) (found : Option A) (next : A → Result B FileFault) (x : A) → found ≡ Some x → of_kind path found next ≡ next x
kind_goes path found next x is = rw is

-- ---- lists

-- what is made, followed by what the rest spells
abbrev pub after : {A : Type 0} → List A → Result (List A) FileFault → Result (List A) FileFault
after made rest = chain rest (λ xs. Ok (made ++ xs))

-- nothing made yet
pub after_nothing : {A : Type 0} (rest : Result (List A) FileFault) → after [] rest ≡ rest
after_nothing (Ok xs) = refl
after_nothing (Err reason) = refl

-- one more made
pub after_one : {A : Type 0} (made : List A) (x : A) (first : Result A FileFault) (rest : Result (List A) FileFault)
    → first ≡ Ok x → after (made ++ x ∷ []) rest ≡ after made (put_first first rest)
after_one made x first (Ok xs) is = rw is (ap Ok (append_assoc made (x ∷ []) xs))
after_one made x first (Err reason) is = rw is

-- the next one fails
pub after_stops : {A : Type 0} (made : List A) (first : Result A FileFault) (rest whole : Result (List A) FileFault) (e : FileFault)
    → after made (put_first first rest) ≡ whole → RefusesWith first e → RefusesWith whole e
after_stops made first rest whole e same refused = refuses_as first whole e (λ reason is. sym same ∙ rw is) refused

-- all are made
pub after_all : {A : Type 0} (made : List A) (whole : Result (List A) FileFault) → after made (Ok []) ≡ whole → whole ≡ Ok made
after_all made whole same = sym same ∙ ap Ok (append-nil made)

-- the items of an array from a number on
abbrev pub each_from : {A : Type 0} → (List ℕ → Data → Result A FileFault) → List ℕ → ℕ → List Value → Result (List A) FileFault
each_from reads path number array = each reads path number (items_view (drop number array))

-- the item of that number and those after it
pub each_next : {A : Type 0} (reads : List ℕ → Data → Result A FileFault) (path : List ℕ) (number : ℕ) (array : List Value) (found : Value)
    → number < length array → found ≡ get_or array number found
    → each_from reads path number array ≡ put_first (reads (below path (decimal number)) (view found)) (each_from reads path (number + 1) array)
each_next reads path number array found within is =
    rw (items_view-drop array number found within, ← is, add-one)

-- a turn of a loop over an array: the item of that number is read at its place
pub each_turn : {A : Type 0} (reads : List ℕ → Data → Result A FileFault) (path : List ℕ) (number : ℕ) (array : List Value) (found : Value) (place : List ℕ) (value : Value) (made : List A) (x : A) (whole : Result (List A) FileFault)
    → number < length array → found ≡ get_or array number found → place ≡ below path (decimal number) → value ≡ found
    → reads place (view value) ≡ Ok x → after made (each_from reads path number array) ≡ whole
    → after (made ++ x ∷ []) (each_from reads path (number + 1) array) ≡ whole
each_turn reads path number array found place value made x whole within is at same read before =
    let first : reads (below path (decimal number)) (view found) ≡ Ok x = rw (← at, ← same) read in
    after_one made x (reads (below path (decimal number)) (view found)) (each_from reads path (number + 1) array) first
    ∙ ap (after made) (sym (each_next reads path number array found within is)) ∙ before

-- the item of that number fails
pub each_stops : {A : Type 0} (reads : List ℕ → Data → Result A FileFault) (path : List ℕ) (number : ℕ) (array : List Value) (found : Value) (place : List ℕ) (value : Value) (made : List A) (whole : Result (List A) FileFault) (e : FileFault)
    → number < length array → found ≡ get_or array number found → place ≡ below path (decimal number) → value ≡ found
    → after made (each_from reads path number array) ≡ whole → RefusesWith (reads place (view value)) e → RefusesWith whole e
each_stops reads path number array found place value made whole e within is at same before refused =
    let first : RefusesWith (reads (below path (decimal number)) (view found)) e = rw (← at, ← same) refused in
    after_stops made (reads (below path (decimal number)) (view found)) (each_from reads path (number + 1) array) whole e
    (ap (after made) (sym (each_next reads path number array found within is)) ∙ before) first
