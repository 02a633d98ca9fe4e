use Rattle.std.proofs.Common.{◌∙◌, ap, ◌++◌, List, ℕ, codes, ◌-◌}
use Rattle.std.specs.Fmt.{decimal}
use Rattle.std.proofs.lemmas.Result.{on_ok_weaker}
use Rattle.tf_commands.proofs.MessageLemmas.{checked_told}
use Rattle.tf_commands.proofs.messages.append_checked.Goals as goal

pub returns : goal.returns
returns c = on_ok_weaker c.append.result
    (λ said. said
    ∙ (ap (λ (text : List ℕ). text ++ codes " flows\n")
    (c.in_ok-append_counted-3.ensures.ok
    ∙ ap (λ (text : List ℕ). text ++ (codes " retries, " ++ decimal c.flows.result))
    (c.in_ok-append_counted-2.ensures.ok
    ∙ ap (λ (text : List ℕ). text ++ (codes " tasks, " ++ decimal (c.atoms.result - c.count_tasks-tasks.result)))
    (c.in_ok-append_counted.ensures.ok
    ∙ ap (λ (text : List ℕ). text ++ (codes ": " ++ decimal c.count_tasks-tasks.result))
    (c.in_ok-append_pair.ensures.ok ∙ ap (λ (name : List ℕ). c.args.out.now.items ++ (codes "ok " ++ name)) c.flow_name.ensures))))
    ∙ checked_told c.args.plan.now c.args.out.now.items c.count_tasks-tasks.result c.atoms.result c.flows.result c.count_tasks-tasks.ensures.is c.atoms.ensures.count c.flows.ensures.count))
    c.append.ensures.ok
