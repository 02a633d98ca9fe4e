use Rattle.std.proofs.Common.{◌∙◌, sym, ap, Err}
use Rattle.tf_words.proofs.ValueFormLemmas.{form_meant}
use Rattle.tf_words.proofs.SpelledFormLemmas.{none_meant}
use Rattle.tf_words.proofs.spelled.value_meant.Goals as goal

pub returns-in-Ok : goal.returns-in-Ok
returns-in-Ok c = sym (form_meant c.args.bytes.now c.in-Ok.value c.in-Ok.ensures.ok)

pub returns-then-is_spelled : goal.returns-then-is_spelled
returns-then-is_spelled c =
    sym (none_meant c.args.bytes.now (c.in-Err-No.ensures.refused (ap Err c.in-Err-No.field-0-is)) (sym c.is_spelled.ensures ∙ c.if-is_spelled.true))
