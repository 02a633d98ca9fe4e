use Rattle.std.proofs.Common.{◌∙◌, ap, sym}
use Rattle.std.specs.Prelude.{Result}
use Rattle.tf_hands.specs.Hands.{by_hand}
use Rattle.tf_model.specs.History.{flow_of}
use Rattle.tf_book.proofs.ForceLemmas.{forced_stays}
use Rattle.tf_book.specs.Book.{BookValue, outline}
use Rattle.tf_book.specs.Recording.{past_after}
use Rattle.tf_book.specs.declared.faults.Halt.{Halt}
use Rattle.tf_book.specs.Turns.{IsNoEndBy}
use Rattle.tf_book.proofs.TriedLemmas.{tried_by, force_tried}
use Rattle.tf_book.proofs.TurnLemmas.{on_err}
use Rattle.tf_book.proofs.book.Book.force_once.Goals as goal

pub returns-clause-running : goal.returns-clause-running
returns-clause-running g c =
    ap (λ (b : BookValue _). flow_of b.past) c.record.ensures.same
    ∙ ap (λ (r : Result (Unit {0}) Halt). flow_of (past_after (by_hand c.args.hand c.in-Some.what) c.args.self.now.past r)) c.in_ok-record.was
    ∙ forced_stays (outline c.args.self.now) c.args.hand c.args.self.now.past c.in-Some.what (sym c.in-Ok.ensures ∙ c.in-Some.is) ∙ c.requires.running

pub returns-in_err-record-clause-tried : goal.returns-in_err-record-clause-tried
returns-in_err-record-clause-tried g c =
    on_err _ _ (tried_by (IsNoEndBy c.args.hand) c.args.self.now c.record.new.self _ c.record.result c.record.ensures.same
    (force_tried c.args.hand _ _ c.in-Some.what c.requires.running (sym c.in-Ok.ensures ∙ c.in-Some.is)))
