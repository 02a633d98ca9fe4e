use Rattle.std.proofs.Common.{◌≡◌, ◌∙◌, ap, cond, true, arith, length, take, ◌<◌, ◌≤◌, List, ℕ}
use Rattle.std.proofs.lemmas.List.{take_all}
use Rattle.std.specs.List.{list_any}
use Rattle.tf_flow.specs.Tree.{same_name}
use Rattle.tf_flow.proofs.NameLemmas.{any_more}
use Rattle.tf_flow.proofs.repeats.set_of.Goals as goal

pub loop-name-preserved : goal.loop-name-preserved
loop-name-preserved c = λ name.
    let within : c.loop-name.name-index < length c.args.names.now = omega arith in
    c.in_ok-insert.ensures.updates.0 name ∙ ap (cond (same_name c.name-item.result name) true) (c.loop-name.invariant name) ∙ any_more c.args.names.now c.loop-name.name-index c.name-item.result name within c.name-item.is

pub returns : goal.returns
returns c = λ name.
    let most : length c.args.names.now ≤ c.loop-name.name-index = omega arith in
    let whole : take c.loop-name.name-index c.args.names.now ≡ c.args.names.now = take_all c.loop-name.name-index c.args.names.now most in
    c.loop-name.invariant name ∙ ap (λ (names : List (List ℕ)). list_any (same_name name) names) whole
