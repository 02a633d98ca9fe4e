-- A request passes the tests exactly where it is allowed.
use Rattle.std.proofs.Common.{◌≡◌, ℕ, ◌≤◌, List, true, false, not, ◌&&◌, nat_le, length, refl, ap, arith}
use Rattle.std.proofs.lemmas.Grind.{common_steps}
use Rattle.tf_numbers.proofs.TruthLemmas.{and_first, and_second, true_both, not_true}
use Rattle.tf_flow.specs.Rules.{is_command, least_arguments, has_wrong_words, has_none, runs_nothing}
use Rattle.tf_flow.specs.declared.atoms.TaskKind.{TaskKind}
use Rattle.tf_flow.specs.declared.atoms.TaskKind.TheVariants as kind
use Rattle.tf_actions.specs.Gives.{IsGivenEnough, HasFewWords}
use Rattle.tf_actions.specs.declared.orders.Given.TheVariants as given
use Rattle.tf_actions.specs.declared.orders.Pair.{Pair}
use Rattle.tf_actions.specs.declared.outcomes.Action.{Action}
use Rattle.tf_actions.specs.declared.outcomes.Action.TheVariants as action
use Rattle.tf_wire.specs.Grammar.{undo_of, IsFitRequest, RevertsByCommand, is_fit_request, suits, names_differ}
use Rattle.tf_wire.specs.declared.messages.Request.{Request}

at_most : (m n : ℕ) → nat_le m n ≡ true → m ≤ n
at_most m n is = grind (arith, common_steps)

is_at_most : (m n : ℕ) → m ≤ n → nat_le m n ≡ true
is_at_most m n le = grind (arith, common_steps)

the_command : (k : TaskKind) → is_command k ≡ true → k ≡ kind.Command
the_command kind.Echo is = cc
the_command kind.Concat is = cc
the_command kind.Sum is = cc
the_command kind.Length is = cc
the_command kind.Pick is = cc
the_command kind.List is = cc
the_command kind.Fail is = cc
the_command kind.FailBelow is = cc
the_command kind.FailUnless is = cc
the_command kind.Command is = refl

some_words : (k : TaskKind) (words : List (List ℕ)) → is_command k ≡ true → has_wrong_words k words ≡ false → has_none words ≡ false
some_words k words is right = rw is at right

runs_something : (how : Action) (k : TaskKind) (words : List (List ℕ)) (pairs : List Pair) → suits how k pairs ≡ true → has_wrong_words k words ≡ false → runs_nothing (undo_of how words) ≡ false
runs_something action.Execute k words pairs suit right = refl
runs_something action.Revert k words pairs suit right = some_words k words suit right

few_undo : (how : Action) (words : List (List ℕ)) → length words ≤ 64 → HasFewWords (undo_of how words)
few_undo action.Execute words few = tt
few_undo action.Revert words few = few

enough : (how : Action) (k : TaskKind) (pairs : List Pair) → suits how k pairs ≡ true → length pairs ≤ 64 → IsGivenEnough how k (given.Found pairs)
enough action.Execute k pairs suit few = (at_most (least_arguments k) (length pairs) suit, few)
enough action.Revert k pairs suit few = few

by_command : (how : Action) (k : TaskKind) (pairs : List Pair) → suits how k pairs ≡ true → RevertsByCommand how k
by_command action.Execute k pairs suit = tt
by_command action.Revert k pairs suit = the_command k suit

pub passes : (request : Request) → is_fit_request request ≡ true → IsFitRequest request
passes request is =
    let few_words = nat_le (length request.words) 64 in
    let few_args = nat_le (length request.args) 64 in
    let right_words = not (has_wrong_words request.kind request.words) in
    let suited = suits request.action request.kind request.args in
    let differ = names_differ request.args in
    let four = and_first (((few_words && few_args) && right_words) && suited) differ is in
    let three = and_first ((few_words && few_args) && right_words) suited four in
    let two = and_first (few_words && few_args) right_words three in
    let words_64 : length request.words ≤ 64 = at_most (length request.words) 64 (and_first few_words few_args two) in
    let args_64 : length request.args ≤ 64 = at_most (length request.args) 64 (and_second few_words few_args two) in
    let right : has_wrong_words request.kind request.words ≡ false = not_true (has_wrong_words request.kind request.words) (and_second (few_words && few_args) right_words three) in
    let suit : suits request.action request.kind request.args ≡ true = and_second ((few_words && few_args) && right_words) suited four in
    record {
      whole = record {
        words = right;
        few_words = words_64;
        undo = runs_something request.action request.kind request.words request.args suit right;
        few_undo_words = few_undo request.action request.words words_64;
        given = enough request.action request.kind request.args suit args_64;
      };
      differ = and_second (((few_words && few_args) && right_words) && suited) differ is;
      reverts = by_command request.action request.kind request.args suit;
    }

suited : (how : Action) (k : TaskKind) (pairs : List Pair) → IsGivenEnough how k (given.Found pairs) → RevertsByCommand how k → suits how k pairs ≡ true
suited action.Execute k pairs enough reverts = is_at_most (least_arguments k) (length pairs) enough.0
suited action.Revert k pairs enough reverts = ap is_command reverts

few_given : (how : Action) (k : TaskKind) (pairs : List Pair) → IsGivenEnough how k (given.Found pairs) → length pairs ≤ 64
few_given action.Execute k pairs enough = enough.1
few_given action.Revert k pairs enough = enough

pub passes_where_allowed : (request : Request) → IsFitRequest request → is_fit_request request ≡ true
passes_where_allowed request is =
    let few_words = nat_le (length request.words) 64 in
    let few_args = nat_le (length request.args) 64 in
    let right_words = not (has_wrong_words request.kind request.words) in
    let suit = suits request.action request.kind request.args in
    true_both (((few_words && few_args) && right_words) && suit) (names_differ request.args)
    (true_both ((few_words && few_args) && right_words) suit
    (true_both (few_words && few_args) right_words
    (true_both few_words few_args (is_at_most (length request.words) 64 is.whole.few_words) (is_at_most (length request.args) 64 (few_given request.action request.kind request.args is.whole.given)))
    (ap not is.whole.words))
    (suited request.action request.kind request.args is.whole.given is.reverts))
    is.differ
