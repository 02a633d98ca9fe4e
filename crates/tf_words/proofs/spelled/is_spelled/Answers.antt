use Rattle.std.proofs.Common.{◌∙◌, sym, ap, arith, is_some}
use Rattle.std.proofs.lemmas.Bool.Decides.{nat_tests}
use Rattle.tf_values.specs.Value.{value_of}
use Rattle.tf_words.specs.Verbs.{scalar_spelled}
use Rattle.tf_words.proofs.SpelledLemmas.{spelled_bare, is_some-map}
use Rattle.tf_words.proofs.spelled.is_spelled.Goals as goal

pub returns : goal.returns
returns c =
    c.is_scalar.ensures ∙ sym (ap is_some (spelled_bare c.args.bytes.now c.in-Some.others.now c.in-Some.first.now c.in-Some.ensures.cases.0 (grind (arith, nat_tests, c.if-first-eq91.false))) ∙ is_some-map value_of (scalar_spelled c.args.bytes.now))
