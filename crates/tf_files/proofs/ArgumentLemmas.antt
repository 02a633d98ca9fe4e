-- The names and symbols that arguments speak of, one argument at a time.
use Rattle.std.proofs.Common.{◌≡◌, ℕ, ◌+◌, ◌<◌, List, [], ◌∷◌, ◌++◌, Bool, true, false, cond, ◌||◌, length, take, get_or, refl, ap, sym, ◌∙◌}
use Rattle.std.proofs.lemmas.List.{take_more}
use Rattle.std.proofs.lemmas.List.Folds.{list_any-append}
use Rattle.std.specs.List.{list_any}
use Rattle.tf_flow.specs.declared.atoms.Arg.{Arg}
use Rattle.tf_flow.specs.Tree.{same_name}
use Rattle.tf_files.specs.document.Tasks.{speaks_of}

or_last : (seen name symbol : Bool) → cond symbol true (cond name true seen) ≡ (seen || ((name || symbol) || false))
or_last true true true = refl
or_last true true false = refl
or_last true false true = refl
or_last true false false = refl
or_last false true true = refl
or_last false true false = refl
or_last false false true = refl
or_last false false false = refl

-- one argument more speaks of its name and its symbol
pub speaks_more : (args : List Arg) (i : ℕ) (arg : Arg) (symbol : List ℕ) → i < length args → arg ≡ get_or args i arg
    → cond (same_name arg.symbol symbol) true (cond (same_name arg.name symbol) true (list_any (speaks_of symbol) (take i args))) ≡ list_any (speaks_of symbol) (take (i + 1) args)
speaks_more args i arg symbol within is =
    or_last (list_any (speaks_of symbol) (take i args)) (same_name arg.name symbol) (same_name arg.symbol symbol)
    ∙ sym (list_any-append (speaks_of symbol) (take i args) (arg ∷ []))
    ∙ sym (ap (list_any (speaks_of symbol)) (take_more args i arg within ∙ ap (λ (last : Arg). take i args ++ last ∷ []) (sym is)))
