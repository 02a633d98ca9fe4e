-- Which outcomes an order may have, decided.
use Rattle.std.proofs.Common.{◌≡◌, ℕ, List, Bool, true, false, Some, refl, sym, subst, ◌∙◌, inl, inr}
use Rattle.std.specs.Prelude.{◌↔◌, IsTrue}
use Rattle.tf_flow.specs.declared.atoms.TaskKind.{TaskKind}
use Rattle.tf_flow.specs.declared.atoms.TaskKind.TheVariants as kind
use Rattle.tf_flow.specs.declared.atoms.Undo.{Undo}
use Rattle.tf_flow.specs.declared.atoms.Undo.TheVariants as undo
use Rattle.tf_flow.specs.Rules.{is_command}
use Rattle.tf_actions.specs.declared.orders.Given.{Given}
use Rattle.tf_actions.specs.declared.orders.Given.TheVariants as given
use Rattle.tf_actions.specs.declared.orders.Order.{Order}
use Rattle.tf_actions.specs.declared.orders.Pair.{Pair}
use Rattle.tf_actions.specs.declared.outcomes.Action.{Action}
use Rattle.tf_actions.specs.declared.outcomes.Action.TheVariants as action
use Rattle.tf_actions.specs.declared.outcomes.Outcome.{Outcome}
use Rattle.tf_actions.specs.Built.{built}
use Rattle.tf_actions.specs.Gives.{GivesFar, FailsFar, Gives, GivesExecuted, GivesText}
use Rattle.tf_tasks.specs.Program.{is_program}
use Rattle.tf_audit.specs.Outcomes.{EndsProgram}

abbrev order_of_parts : ℕ → Action → TaskKind → List (List ℕ) → Undo → Given → Order
order_of_parts a how made words un g = record { atom = a; action = how; kind = made; words = words; undo = un; given = g }

-- ---- an order for which no program is asked has one outcome

built_once : (made : TaskKind) (pairs : List Pair) (x y : Outcome) → built made pairs ≡ Some x → built made pairs ≡ Some y → x ≡ y
built_once made pairs x y p q = cc

built_one : (made : TaskKind) (pairs : List Pair) (x y : Outcome) → is_command made ≡ false → GivesExecuted made pairs x → GivesExecuted made pairs y → x ≡ y
built_one kind.Echo pairs x y is p q = built_once kind.Echo pairs x y p q
built_one kind.Concat pairs x y is p q = built_once kind.Concat pairs x y p q
built_one kind.Sum pairs x y is p q = built_once kind.Sum pairs x y p q
built_one kind.Length pairs x y is p q = built_once kind.Length pairs x y p q
built_one kind.Pick pairs x y is p q = built_once kind.Pick pairs x y p q
built_one kind.List pairs x y is p q = built_once kind.List pairs x y p q
built_one kind.Fail pairs x y is p q = built_once kind.Fail pairs x y p q
built_one kind.FailBelow pairs x y is p q = built_once kind.FailBelow pairs x y p q
built_one kind.FailUnless pairs x y is p q = built_once kind.FailUnless pairs x y p q
built_one kind.Command pairs x y is p q = absurd (cc)

one_of_parts : (a : ℕ) (how : Action) (made : TaskKind) (words : List (List ℕ)) (un : Undo) (g : Given) (x y : Outcome) → is_program (order_of_parts a how made words un g) ≡ false
    → Gives (order_of_parts a how made words un g) x → Gives (order_of_parts a how made words un g) y → x ≡ y
one_of_parts a action.Execute made words un (given.Found pairs) x y is p q = built_one made pairs x y is p q
one_of_parts a action.Execute made words un (given.Missing symbol) x y is p q = p ∙ sym q
one_of_parts a action.Revert made words undo.Pass (given.Found pairs) x y is p q = p ∙ sym q
one_of_parts a action.Revert made words undo.Fail (given.Found pairs) x y is p q = p ∙ sym q
one_of_parts a action.Revert made words (undo.Run run) (given.Found pairs) x y is p q = absurd (cc)
one_of_parts a action.Revert made words un (given.Missing symbol) x y is p q = p ∙ sym q

one_outcome : (order : Order) (x y : Outcome) → is_program order ≡ false → Gives order x → Gives order y → x ≡ y
one_outcome order x y is p q = one_of_parts order.atom order.action order.kind order.words order.undo order.given x y is p q

-- ---- what a program gives

text_of_parts : (made : TaskKind) (pairs : List Pair) (x : Outcome) → is_command made ≡ true → GivesExecuted made pairs x ↔ GivesText x
text_of_parts kind.Command pairs x is = (λ p. p, λ p. p)
text_of_parts kind.Echo pairs x is = absurd (cc)
text_of_parts kind.Concat pairs x is = absurd (cc)
text_of_parts kind.Sum pairs x is = absurd (cc)
text_of_parts kind.Length pairs x is = absurd (cc)
text_of_parts kind.Pick pairs x is = absurd (cc)
text_of_parts kind.List pairs x is = absurd (cc)
text_of_parts kind.Fail pairs x is = absurd (cc)
text_of_parts kind.FailBelow pairs x is = absurd (cc)
text_of_parts kind.FailUnless pairs x is = absurd (cc)

program_of_parts : (a : ℕ) (how : Action) (made : TaskKind) (words : List (List ℕ)) (un : Undo) (g : Given) (x : Outcome) → is_program (order_of_parts a how made words un g) ≡ true
    → Gives (order_of_parts a how made words un g) x ↔ EndsProgram how x
program_of_parts a action.Execute made words un (given.Found pairs) x is = text_of_parts made pairs x is
program_of_parts a action.Execute made words un (given.Missing symbol) x is = absurd (cc)
program_of_parts a action.Revert made words undo.Pass (given.Found pairs) x is = absurd (cc)
program_of_parts a action.Revert made words undo.Fail (given.Found pairs) x is = absurd (cc)
program_of_parts a action.Revert made words (undo.Run run) (given.Found pairs) x is = (λ p. p, λ p. p)
program_of_parts a action.Revert made words un (given.Missing symbol) x is = absurd (cc)

program_gives : (order : Order) (x : Outcome) → is_program order ≡ true → Gives order x ↔ EndsProgram order.action x
program_gives order x is = program_of_parts order.atom order.action order.kind order.words order.undo order.given x is

-- ---- the outcomes that are allowed

pub far_allowed : (order : Order) (x : Outcome) (far : Bool) → far ≡ true → IsTrue far ↔ FailsFar order x → IsTrue true ↔ GivesFar order x
far_allowed order x far is fails = (λ _. inr (fails.0 is), λ _. refl)

near : (order : Order) (x : Outcome) (far : Bool) → far ≡ false → IsTrue far ↔ FailsFar order x → GivesFar order x → Gives order x
near order x far is fails allowed = elim allowed [
  | inl gives ↦ gives
  | inr failed ↦ absurd (let clash : far ≡ true = fails.1 failed in let other : false ≡ true = sym is ∙ clash in cc)
]

pub program_allowed : (order : Order) (x : Outcome) (far ends : Bool) → far ≡ false → IsTrue far ↔ FailsFar order x → is_program order ≡ true → IsTrue ends ↔ EndsProgram order.action x → IsTrue ends ↔ GivesFar order x
program_allowed order x far ends is fails program told =
    (λ e. inl ((program_gives order x program).1 (told.0 e)), λ g. told.1 ((program_gives order x program).0 (near order x far is fails g)))

pub built_allowed : (order : Order) (y x : Outcome) (far same : Bool) → far ≡ false → IsTrue far ↔ FailsFar order x → is_program order ≡ false → Gives order y → IsTrue same ↔ (y ≡ x) → IsTrue same ↔ GivesFar order x
built_allowed order y x far same is fails program gives told =
    (λ e. let equal = told.0 e in inl (subst (Gives order) equal gives), λ g. told.1 (one_outcome order y x program gives (near order x far is fails g)))
