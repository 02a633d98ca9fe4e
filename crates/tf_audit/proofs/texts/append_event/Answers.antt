use Rattle.std.proofs.Common.{◌≡◌, ◌++◌, ℕ, List, ap, subst, sym, drop, ◌∙◌, length, ◌≤◌}
use Rattle.std.specs.Prelude.{OnOk}
use Rattle.tf_model.specs.Plan.{outline_of}
use Rattle.tf_audit.proofs.TextLemmas.{long_enough, event_behind}
use Rattle.tf_audit.proofs.texts.append_event.Goals as goal

pub behind_numbers-requires : goal.behind_numbers-requires
behind_numbers-requires c =
    subst (λ (t : List ℕ). 4 ≤ length t) (sym c.deref.ensures.value) (long_enough (outline_of c.args.plan.now) c.args.what c.new-text.result.items c.line.new.out.items c.new-text.ensures.items c.in_ok-line.ensures.ok)

pub returns : goal.returns
returns c =
    subst (λ (b : List ℕ). OnOk c.append.result (c.append.new.out.items ≡ c.args.out.now.items ++ b))
    (c.behind_numbers.ensures ∙ (ap (drop 4) c.deref.ensures.value ∙ event_behind (outline_of c.args.plan.now) c.args.what c.new-text.result.items c.line.new.out.items c.new-text.ensures.items c.in_ok-line.ensures.ok))
    c.append.ensures.ok
