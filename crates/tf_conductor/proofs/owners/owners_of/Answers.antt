use Rattle.std.proofs.Common.{◌≡◌, ◌≤◌, ◌∷◌, ◌++◌, [], ℕ, List, length, ap, sym, subst, ◌∙◌, arith, length-append}
use Rattle.std.specs.Prelude.{slice_get}
use Rattle.tf_conductor.specs.Rounds.{AreDifferent, AreNamedBy}
use Rattle.tf_conductor.proofs.OwnerLemmas.{named_different, named_more}
use Rattle.tf_conductor.proofs.owners.owners_of.Goals as goal

pub loop-number-init : goal.loop-number-init
loop-number-init c = record {
  long = ap length c.new-owners.ensures.items;
  named = λ i owner at. (let clash = sym (ap (λ (l : List (List ℕ)). slice_get l i) c.new-owners.ensures.items) ∙ at in absurd (cc));
}

pub loop-number-preserved : goal.loop-number-preserved
loop-number-preserved c =
    let i = c.loop-number.invariant in
    let owner = c.in_ok-owner.owner in
    let old = c.loop-number.owners.items in
    let items : c.push.new.self.items ≡ old ++ owner ∷ [] = c.in_ok-push.ensures.items in
    record {
      long = omega (arith, ap length items, length-append old (owner ∷ []), i.long);
      named = subst (λ (l : List (List ℕ)). AreNamedBy c.args.word.now l) (sym items) (named_more c.args.word.now old c.loop-number.number owner i.named i.long c.in_ok-owner.ensures);
    }

pub returns-clause-count : goal.returns-clause-count
returns-clause-count c = omega (arith, ap length c.make.ensures, c.loop-number.invariant.long, c.loop-number-test.false, c.loop-number.auto.number-end)

pub returns-clause-named : goal.returns-clause-named
returns-clause-named c = subst (λ (l : List (List ℕ)). AreNamedBy c.args.word.now l) (sym c.make.ensures) c.loop-number.invariant.named

pub returns-clause-different : goal.returns-clause-different
returns-clause-different c =
    let few : length c.loop-number.owners.items ≤ 64 = omega (arith, c.loop-number.invariant.long, c.loop-number.auto.number-end, c.requires.few) in
    subst (λ (l : List (List ℕ)). AreDifferent l) (sym c.make.ensures) (named_different c.args.word.now c.loop-number.owners.items few c.loop-number.invariant.named)
