use Rattle.std.proofs.Common.{◌≡◌}
use Rattle.tf_values.proofs.WordLemmas.{signed_utf8, signed_parses, signed_prints}
use Rattle.tf_values.proofs.word.int_of.Goals as goal

pub returns-in_default : goal.returns-in_default
returns-in_default c = λ z fits e. c.in_default.ensures.cases.0 (signed_utf8 c.args.word.now z fits e)

pub returns-in_default-parse : goal.returns-in_default-parse
returns-in_default-parse c = λ z fits e. c.in_default-parse.not-Ok z (signed_parses c.args.word.now c.in-Ok.text.now z c.parse.result fits c.in-Ok.ensures.cases.0 e c.parse.ensures.value.0)

pub returns-else-eq : goal.returns-else-eq
returns-else-eq c = λ z fits e.
    let parsed = signed_parses c.args.word.now c.in-Ok.text.now z c.parse.result fits c.in-Ok.ensures.cases.0 e c.parse.ensures.value.0 in
    let is = c.in-Ok-parse.is in
    let same : c.in-Ok-parse.number ≡ z = cc in
    signed_prints c.args.word.now c.as_bytes.result.now c.format.result.now z c.in-Ok-parse.number fits e same c.format.ensures.text c.as_bytes.ensures.value c.if-eq.ensures
