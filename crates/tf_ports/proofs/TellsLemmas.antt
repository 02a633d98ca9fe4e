-- What sources told before some call they tell after it, or nothing.
use Rattle.std.proofs.Common.{ℕ, List, None, sym, subst, inl, inr}
use Rattle.tf_ports.specs.Ports.{Contents, GivesBytes, PassesLimit, TellsStill}

-- so it is of a fact that holds of sources which tell nothing
pub told_on : (P : Contents → Type 0) (before after : Contents) → P None → TellsStill before after → P before → P after
told_on P before after none still had = elim still [ inl same ↦ subst P (sym same) had | inr nothing ↦ subst P (sym nothing) none ]

pub gives_on : (before after : Contents) (name bytes : List ℕ) → TellsStill before after → GivesBytes before name bytes → GivesBytes after name bytes
gives_on before after name bytes = told_on (λ contents. GivesBytes contents name bytes) before after tt

pub passes_on : (before after : Contents) (name : List ℕ) → TellsStill before after → PassesLimit before name → PassesLimit after name
passes_on before after name = told_on (λ contents. PassesLimit contents name) before after tt

pub still_on : (a b c : Contents) → TellsStill a b → TellsStill b c → TellsStill a c
still_on a b c first second = elim second [ inl same ↦ subst (TellsStill a) (sym same) first | inr nothing ↦ inr nothing ]
