use Rattle.std.proofs.Common.{ℕ, List, sym, ap, ◌∙◌}
use Rattle.tf_numbers.specs.Numbers.{has_number}
use Rattle.tf_flow.specs.Tree.{first_some}
use Rattle.tf_model.specs.Plan.{outline_of}
use Rattle.tf_model.specs.Scope.{given_by}
use Rattle.tf_scopes.specs.Sources.{bound_at}
use Rattle.tf_scopes.specs.declared.sources.Source.TheVariants as source
use Rattle.tf_flow.specs.declared.atoms.Bind.{Bind}
use Rattle.tf_flow.specs.Paths.{shown_part}
use Rattle.tf_model.proofs.PlanLemmas.{injects_are}
use Rattle.tf_scopes.proofs.ValueLemmas.{says_of, given_is_atom}
use Rattle.tf_scopes.proofs.found.found_in.Goals as goal

pub first_given-requires : goal.first_given-requires
first_given-requires c = λ k on.
    given_is_atom (outline_of c.args.plan.now) c.args.atom c.args.symbol.now c.in-Given.givers k (sym c.in-Given.is ∙ c.requires.source)
    (ap (λ (xs : List ℕ). has_number xs k) (sym c.atoms.ensures) ∙ on)

pub returns-in-Injected : goal.returns-in-Injected
returns-in-Injected c = λ s shows.
    c.bound_at.ensures
    ∙ (ap (λ (binds : List Bind). bound_at binds c.in-Injected.place) (c.injects.ensures ∙ sym (injects_are c.args.plan.now c.args.atom (shown_part c.part.result) c.part.ensures))
    ∙ sym (says_of (outline_of c.args.plan.now) s c.args.atom c.args.symbol.now (source.Injected c.in-Injected.place) (sym c.in-Injected.is ∙ c.requires.source)))

pub returns-in-Stored : goal.returns-in-Stored
returns-in-Stored c = λ s shows.
    c.bound_at-in-Stored.ensures
    ∙ (ap (λ (binds : List Bind). bound_at binds c.in-Stored.place) (c.items.ensures ∙ c.store.ensures.value)
    ∙ sym (says_of (outline_of c.args.plan.now) s c.args.atom c.args.symbol.now (source.Stored c.in-Stored.place) (sym c.in-Stored.is ∙ c.requires.source)))

pub returns-in-Given : goal.returns-in-Given
returns-in-Given c = λ s shows.
    c.first_given.ensures s shows
    ∙ (ap (first_some (given_by (outline_of c.args.plan.now) s c.args.symbol.now)) c.atoms.ensures
    ∙ sym (says_of (outline_of c.args.plan.now) s c.args.atom c.args.symbol.now (source.Given c.in-Given.givers) (sym c.in-Given.is ∙ c.requires.source)))
