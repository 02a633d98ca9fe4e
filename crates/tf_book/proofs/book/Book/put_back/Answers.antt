use Rattle.std.proofs.Common.{ap, Bool, Ok}
use Rattle.tf_model.specs.Plan.{outline_of}
use Rattle.tf_book.proofs.InvariantLemmas.{proceeds_on}
use Rattle.tf_book.proofs.ResetLemmas.{put_more, put_cut}
use Rattle.tf_book.proofs.TurnLemmas.{on_err}
use Rattle.tf_book.proofs.book.Book.put_back.Goals as goal

pub returns-in_err-put_back_once-clause-cut : goal.returns-in_err-put_back_once-clause-cut
returns-in_err-put_back_once-clause-cut g c =
    let l = c.putting.invariant in
    on_err _ _ (put_cut _ _ _ _ _ (ap outline_of l.proceeds.plan) l.on c.in_err-put_back_once.ensures.cut)

pub returns-then-not-branch-clause-put_back : goal.returns-then-not-branch-clause-put_back
returns-then-not-branch-clause-put_back g c =
    let l = c.putting.invariant in
    let e = c.in_ok-put_back_once.ensures in
    record { on = put_more _ _ _ _ _ (ap outline_of l.proceeds.plan) l.on e.put; pending = e.done (ap (λ (b : Bool). Ok b) c.if-not-branch.true) }

pub putting-preserved : goal.putting-preserved
putting-preserved g c =
    let l = c.putting.invariant in
    let e = c.in_ok-put_back_once.ensures in
    record {
      proceeds = proceeds_on l.proceeds e.proceeds;
      on = put_more _ _ _ _ _ (ap outline_of l.proceeds.plan) l.on e.put;
      sound = e.sound;
      may = e.more (ap (λ (b : Bool). Ok b) c.if-not-branch.false);
    }
