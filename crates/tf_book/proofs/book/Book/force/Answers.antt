use Rattle.std.proofs.Common.{◌∙◌, sym, ap, Bool, Ok, arith}
use Rattle.tf_model.specs.Plan.{outline_of}
use Rattle.tf_book.proofs.ForceLemmas.{forced_more, forced_cut, forced_out, stops_same}
use Rattle.tf_book.proofs.InvariantLemmas.{proceeds_on}
use Rattle.tf_book.proofs.TurnLemmas.{on_err}
use Rattle.tf_book.proofs.book.Book.force.Goals as goal

pub returns-then-is_to_stop-clause-stops : goal.returns-then-is_to_stop-clause-stops
returns-then-is_to_stop-clause-stops g c = λ told.
    let l = c.forcing.invariant in
    record { on = l.on; running = l.running; stops = stops_same _ _ _ _ _ l.proceeds.limit (sym c.is_to_stop.ensures ∙ c.if-is_to_stop.true) }

pub returns-in_err-force_once-clause-cut : goal.returns-in_err-force_once-clause-cut
returns-in_err-force_once-clause-cut g c =
    let l = c.forcing.invariant in
    on_err _ _ (forced_cut _ _ _ _ _ _ _ _ (ap outline_of l.proceeds.plan) (stops_same _ _ _ _ _ l.proceeds.limit (sym c.is_to_stop.ensures ∙ c.if-is_to_stop.false)) l.on c.in_err-force_once.ensures.cut)

pub returns-then-not-branch-clause-ran : goal.returns-then-not-branch-clause-ran
returns-then-not-branch-clause-ran g c = λ told.
    let l = c.forcing.invariant in
    let e = c.in_ok-force_once.ensures in
    let none = e.nothing (ap (λ (b : Bool). Ok b) c.if-not-branch.true) in
    forced_out _ _ _ _ _ _ _ _ (ap outline_of l.proceeds.plan) (stops_same _ _ _ _ _ l.proceeds.limit (sym c.is_to_stop.ensures ∙ c.if-is_to_stop.false)) l.on l.running none.0 none.1

pub forcing-preserved : goal.forcing-preserved
forcing-preserved g c =
    let l = c.forcing.invariant in
    let e = c.in_ok-force_once.ensures in
    record {
      proceeds = proceeds_on l.proceeds e.proceeds;
      on = forced_more _ _ _ _ _ _ _ _ (ap outline_of l.proceeds.plan) (stops_same _ _ _ _ _ l.proceeds.limit (sym c.is_to_stop.ensures ∙ c.if-is_to_stop.false)) l.on (e.forced (ap (λ (b : Bool). Ok b) c.if-not-branch.false));
      sound = e.halt;
      running = e.running;
      no_more = omega (arith, e.no_more, l.no_more);
    }
