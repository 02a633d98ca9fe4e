use Rattle.std.proofs.Common.{◌≡◌, ℕ, Some, ap}
use Rattle.tf_audit.proofs.NumberLemmas.{number_utf8, number_parses}
use Rattle.tf_audit.proofs.numbers.number_of.Goals as goal

pub returns-in_default : goal.returns-in_default
returns-in_default c = λ n fits e. absurd (c.in_default.ensures.cases.0 (number_utf8 c.args.word.now n fits e))

pub returns-in-Ok-parse : goal.returns-in-Ok-parse
returns-in-Ok-parse c = λ n fits e.
    let parsed = number_parses c.args.word.now c.in-Ok.text.now n c.parse.result fits c.in-Ok.ensures.cases.0 e c.parse.ensures.value.0 in
    let is = c.in-Ok-parse.is in
    let same : c.in-Ok-parse.number ≡ n = cc in
    ap (λ (m : ℕ). Some m) same

pub returns-in-Err : goal.returns-in-Err
returns-in-Err c = λ n fits e.
    let parsed = number_parses c.args.word.now c.in-Ok.text.now n c.parse.result fits c.in-Ok.ensures.cases.0 e c.parse.ensures.value.0 in
    let is = c.in-Err.is in
    absurd (cc)
