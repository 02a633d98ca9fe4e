use Rattle.std.proofs.Common.{◌≡◌, ◌<◌, arith, sym, length, true}
use Rattle.std.proofs.lemmas.Bool.Decides.{nat_tests}
use Rattle.std.specs.List.{list_all}
use Rattle.tf_words.specs.Verbs.{is_digit}
use Rattle.tf_words.proofs.NumberLemmas.{digits_read}
use Rattle.tf_words.proofs.numbers.number_between.Goals as goal

pub returns-in-Err-clause-value : goal.returns-in-Err-clause-value
returns-in-Err-clause-value c =
    let digits : list_all is_digit c.args.word.now ≡ true = rw (← c.as_bytes.ensures.value) (sym c.if-not-are_digits.ensures) in
    let some : 0 < length c.args.word.now = grind (arith, nat_tests, c.if-is_empty.ensures) in
    absurd (digits_read c.args.word.now c.parse.result c.in-Err.field-0 c.parse.ensures.value.0 digits some (omega arith) c.in-Err.is)
