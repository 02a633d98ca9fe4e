use Rattle.std.proofs.Common.{◌∙◌, ap, ◌++◌, ◌∷◌, List, ℕ, codes}
use Rattle.std.proofs.lemmas.Result.{on_ok_weaker}
use Rattle.tf_commands.proofs.MessageLemmas.{forbids_told}
use Rattle.tf_commands.proofs.messages.append_state_forbids.Goals as goal

pub returns : goal.returns
returns c = on_ok_weaker c.append.result
    (λ said. said
    ∙ (ap (λ (text : List ℕ). text ++ codes "\n")
    (c.in_ok-append_named.ensures.ok
    ∙ (ap (λ (name : List ℕ). c.args.out.now.items ++ (codes "taskflow: state forbids: " ++ (name ++ 32 ∷ c.flow_word.result.now))) c.bytes.ensures.value
    ∙ ap (λ (word : List ℕ). c.args.out.now.items ++ (codes "taskflow: state forbids: " ++ (c.args.name.now ++ 32 ∷ word))) c.flow_word.ensures.word))
    ∙ forbids_told c.args.out.now.items c.args.name.now c.args.state))
    c.append.ensures.ok
