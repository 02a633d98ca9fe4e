use Rattle.std.proofs.Common.{◌≡◌, ℤ, Some, ap, ◌∙◌}
use Rattle.std.specs.Int.{w32, cast_signed, cast_unsigned}
use Rattle.std.proofs.lemmas.Int.{to_z-of_z}
use Rattle.tf_audit.proofs.NumberLemmas.{status_utf8, status_parses}
use Rattle.tf_audit.proofs.numbers.status_of.Goals as goal

pub returns-in_default : goal.returns-in_default
returns-in_default c = λ z fits e. absurd (c.in_default.ensures.cases.0 (status_utf8 c.args.word.now z fits e))

pub returns-in-Ok-parse : goal.returns-in-Ok-parse
returns-in-Ok-parse c = λ z fits e.
    let parsed = status_parses c.args.word.now c.in-Ok.text.now z c.parse.result fits c.in-Ok.ensures.cases.0 e c.parse.ensures.value.0 in
    let is = c.in-Ok-parse.is in
    let same : c.in-Ok-parse.number ≡ z = cc in
    ap (λ (x : ℤ). Some (cast_signed w32 (cast_unsigned w32 x))) same ∙ ap (λ (x : ℤ). Some x) (to_z-of_z w32 z fits)

pub returns-in-Err : goal.returns-in-Err
returns-in-Err c = λ z fits e.
    let parsed = status_parses c.args.word.now c.in-Ok.text.now z c.parse.result fits c.in-Ok.ensures.cases.0 e c.parse.ensures.value.0 in
    let is = c.in-Err.is in
    absurd (cc)
