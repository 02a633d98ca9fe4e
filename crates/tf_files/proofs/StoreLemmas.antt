-- A map from symbols to values keeps what is put into it as a store does.
use Rattle.std.proofs.Common.{◌≡◌, ◌∙◌, ℕ, List, [], ◌∷◌, Bool, true, false, map, fold, refl, ap, sym}
use Rattle.std.proofs.lemmas.List.Sums.{fold-append}
use Rattle.std.specs.Prelude.{if◌then◌else◌}
use Rattle.indexmap.specs.IndexMap.{insert_entry, insert_all}
use Rattle.tf_values.specs.declared.value.Val.{Val}
use Rattle.tf_flow.specs.Tree.{same_name}
use Rattle.tf_flow.specs.declared.atoms.Bind.{Bind}
use Rattle.tf_files.specs.Pairs.{pair_of, bind_of}
use Rattle.tf_files.specs.FlowFile.{put, store_with}

chosen : (here : Bool) (entries others : List (List ℕ × Val)) → map bind_of (if here then entries else others) ≡ (if here then map bind_of entries else map bind_of others)
chosen true entries others = refl
chosen false entries others = refl

-- one value
put_once : (entries : List (List ℕ × Val)) (bind : Bind) → map bind_of (insert_entry same_name entries bind.symbol bind.value) ≡ put (map bind_of entries) bind
put_once [] bind = refl
put_once (entry ∷ entries) bind =
    chosen (same_name bind.symbol entry.0) ((entry.0, bind.value) ∷ entries) (entry ∷ insert_entry same_name entries bind.symbol bind.value)
    ∙ ap (λ rest. if same_name bind.symbol entry.0 then (record { symbol = entry.0; value = bind.value } ∷ map bind_of entries) else (bind_of entry ∷ rest)) (put_once entries bind)

-- several values, one after another
put_each : (entries : List (List ℕ × Val)) (binds : List Bind) → map bind_of (insert_all same_name entries (map pair_of binds)) ≡ fold put (map bind_of entries) binds
put_each entries [] = refl
put_each entries (bind ∷ binds) =
    put_each (insert_entry same_name entries bind.symbol bind.value) binds
    ∙ ap (λ done. fold put done binds) (put_once entries bind)

-- a store's values, and then those that are set
pub put_together : (store sets : List Bind) → map bind_of (insert_all same_name (insert_all same_name [] (map pair_of store)) (map pair_of sets)) ≡ store_with store sets
put_together store sets =
    put_each (insert_all same_name [] (map pair_of store)) sets
    ∙ ap (λ done. fold put done sets) (put_each [] store)
    ∙ sym (fold-append put [] store sets)
