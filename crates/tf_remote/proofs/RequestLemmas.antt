-- The request that names an order.
use Rattle.std.proofs.Common.{◌≡◌, ℕ, ◌<◌, ◌≤◌, ◌^◌, List, [], ◌++◌, length, true, false, refl, ap, ◌∙◌, subst, arith}
use Rattle.serde_json.specs.Written.{compact_text}
use Rattle.tf_flow.specs.declared.atoms.TaskKind.{TaskKind}
use Rattle.tf_flow.specs.declared.atoms.Undo.{Undo}
use Rattle.tf_flow.specs.declared.atoms.Undo.TheVariants as undo
use Rattle.tf_actions.specs.declared.orders.Given.{Given}
use Rattle.tf_actions.specs.declared.orders.Given.TheVariants as given
use Rattle.tf_actions.specs.declared.orders.Order.{Order}
use Rattle.tf_actions.specs.declared.outcomes.Action.{Action}
use Rattle.tf_actions.specs.declared.outcomes.Action.TheVariants as action
use Rattle.tf_actions.specs.Gives.{is_sent, IsWhole}
use Rattle.tf_tasks.specs.Program.{is_program}
use Rattle.tf_wire.specs.Grammar.{order_of, request_data, frame_of, names_differ, IsFitRequest, RevertsByCommand, AreRequest}
use Rattle.tf_wire.specs.declared.messages.Request.{Request}
use Rattle.tf_remote.specs.Requests.{pairs_asked, request_for, frame_for}
use Rattle.tf_remote.specs.Asking.{NamesOrder, IsRequestBack}

abbrev parts : ℕ → Action → TaskKind → List (List ℕ) → Undo → Given → Order
parts a how made words un g = record { atom = a; action = how; kind = made; words = words; undo = un; given = g }

-- ---- few words and arguments

words_of_parts : (id a : ℕ) (how : Action) (made : TaskKind) (words : List (List ℕ)) (un : Undo) (g : Given) → IsWhole (parts a how made words un g) → length (request_for (parts a how made words un g) id).words ≤ 64
words_of_parts id a action.Execute made words un g whole = whole.few_words
words_of_parts id a action.Revert made words undo.Pass g whole = omega arith
words_of_parts id a action.Revert made words undo.Fail g whole = omega arith
words_of_parts id a action.Revert made words (undo.Run run) g whole = whole.few_undo_words

pub few_words : (order : Order) (id : ℕ) → IsWhole order → length (request_for order id).words ≤ 64
few_words order id whole = words_of_parts id order.atom order.action order.kind order.words order.undo order.given whole

args_of_parts : (id a : ℕ) (how : Action) (made : TaskKind) (words : List (List ℕ)) (un : Undo) (g : Given) → IsWhole (parts a how made words un g) → length (request_for (parts a how made words un g) id).args ≤ 64
args_of_parts id a action.Execute made words un (given.Found pairs) whole = whole.given.1
args_of_parts id a action.Execute made words un (given.Missing symbol) whole = omega arith
args_of_parts id a action.Revert made words un (given.Found pairs) whole = whole.given
args_of_parts id a action.Revert made words un (given.Missing symbol) whole = omega arith

pub few_args : (order : Order) (id : ℕ) → IsWhole order → length (request_for order id).args ≤ 64
few_args order id whole = args_of_parts id order.atom order.action order.kind order.words order.undo order.given whole

-- ---- the request is allowed

fit_of_parts : (id a : ℕ) (how : Action) (made : TaskKind) (words : List (List ℕ)) (un : Undo) (g : Given) → IsWhole (parts a how made words un g) → is_sent (parts a how made words un g) ≡ true
    → IsWhole (order_of (request_for (parts a how made words un g) id)) × RevertsByCommand how (request_for (parts a how made words un g) id).kind
fit_of_parts id a action.Execute made words un (given.Found pairs) whole sent = (record { words = whole.words; few_words = whole.few_words; undo = refl; few_undo_words = tt; given = whole.given }, tt)
fit_of_parts id a action.Execute made words un (given.Missing symbol) whole sent = absurd (cc)
fit_of_parts id a action.Revert made words undo.Pass g whole sent = absurd (cc)
fit_of_parts id a action.Revert made words undo.Fail g whole sent = absurd (cc)
fit_of_parts id a action.Revert made words (undo.Run run) (given.Found pairs) whole sent = (
  record { words = whole.undo; few_words = whole.few_undo_words; undo = whole.undo; few_undo_words = whole.few_undo_words; given = whole.given },
  refl,
)
fit_of_parts id a action.Revert made words (undo.Run run) (given.Missing symbol) whole sent = absurd whole.given

pub is_fit : (order : Order) (id : ℕ) → IsWhole order → is_sent order ≡ true → names_differ (pairs_asked order.given) ≡ true → IsFitRequest (request_for order id)
is_fit order id whole sent differ =
    let fit = fit_of_parts id order.atom order.action order.kind order.words order.undo order.given whole sent in
    record { whole = fit.0; differ = differ; reverts = fit.1 }

-- ---- whoever performs the order that the request names gives what the order may give

names_of_parts : (id a : ℕ) (how : Action) (made : TaskKind) (words : List (List ℕ)) (un : Undo) (g : Given) → IsWhole (parts a how made words un g) → is_sent (parts a how made words un g) ≡ true
    → NamesOrder (parts a how made words un g) id
names_of_parts id a action.Execute made words un (given.Found pairs) whole sent = λ came. (λ gives. gives, λ gives. gives)
names_of_parts id a action.Execute made words un (given.Missing symbol) whole sent = absurd (cc)
names_of_parts id a action.Revert made words undo.Pass g whole sent = absurd (cc)
names_of_parts id a action.Revert made words undo.Fail g whole sent = absurd (cc)
names_of_parts id a action.Revert made words (undo.Run run) (given.Found pairs) whole sent = λ came. (λ gives. gives, λ gives. gives)
names_of_parts id a action.Revert made words (undo.Run run) (given.Missing symbol) whole sent = absurd whole.given

pub names_order : (order : Order) (id : ℕ) → IsWhole order → is_sent order ≡ true → NamesOrder order id
names_order order id whole sent = names_of_parts id order.atom order.action order.kind order.words order.undo order.given whole sent

-- ---- an order that isn't sent runs no program

unsent_of_parts : (a : ℕ) (how : Action) (made : TaskKind) (words : List (List ℕ)) (un : Undo) (g : Given) → is_sent (parts a how made words un g) ≡ false → is_program (parts a how made words un g) ≡ false
unsent_of_parts a action.Execute made words un (given.Found pairs) sent = absurd (cc)
unsent_of_parts a action.Execute made words un (given.Missing symbol) sent = refl
unsent_of_parts a action.Revert made words undo.Pass (given.Found pairs) sent = refl
unsent_of_parts a action.Revert made words undo.Fail (given.Found pairs) sent = refl
unsent_of_parts a action.Revert made words (undo.Run run) (given.Found pairs) sent = absurd (cc)
unsent_of_parts a action.Revert made words un (given.Missing symbol) sent = refl

pub unsent_is_no_program : (order : Order) → is_sent order ≡ false → is_program order ≡ false
unsent_is_no_program order sent = unsent_of_parts order.atom order.action order.kind order.words order.undo order.given sent

-- ---- the frame of the request

pub printed : (order : Order) (id : ℕ) (request : Request) (old out : List ℕ) → request ≡ request_for order id → old ≡ [] → out ≡ old ++ frame_of (request_data request) → out ≡ frame_for order id
unfolding frame_for
printed order id request old out named none is =
    is ∙ ap (λ (prefix : List ℕ). prefix ++ frame_of (request_data request)) none ∙ ap (λ (r : Request). frame_of (request_data r)) named

-- a request that is allowed is read back from its text
Reads : Request → Type 0
Reads request = request.id < 2 ^ 63 → IsFitRequest request → AreRequest (compact_text (request_data request)) request

pub read_back : (order : Order) (id : ℕ) (request : Request) → request ≡ request_for order id → IsWhole order → is_sent order ≡ true → id < 2 ^ 63
    → (request.id < 2 ^ 63 → IsFitRequest request → AreRequest (compact_text (request_data request)) request) → IsRequestBack order id
unfolding IsRequestBack Reads
read_back order id request named whole sent small reads = λ differ. (subst Reads named reads) small (is_fit order id whole sent differ)
