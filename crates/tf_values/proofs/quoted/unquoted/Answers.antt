use Rattle.tf_values.proofs.QuoteLemmas.{no_text}
use Rattle.tf_values.proofs.ListLemmas.{otherwise, empty_begins_none}
use Rattle.tf_values.proofs.quoted.unquoted.Goals as goal

pub returns-in_default-split_first-clause-refused : goal.returns-in_default-split_first-clause-refused
returns-in_default-split_first-clause-refused c =
    λ is. no_text c.loop-byte.text.items c.loop-byte.rest.now c.args.bytes.now c.loop-byte.invariant c.in_default.ensures
    (empty_begins_none c.loop-byte.rest.now c.in_default-split_first.ensures.cases 34)

pub returns-then-quote-ne34-clause-refused : goal.returns-then-quote-ne34-clause-refused
returns-then-quote-ne34-clause-refused c =
    λ is. no_text c.loop-byte.text.items c.loop-byte.rest.now c.args.bytes.now c.loop-byte.invariant c.in_default.ensures
    (otherwise c.in-Some-split_first.quote.now 34 c.in-Some-split_first.after.now c.loop-byte.rest.now c.in-Some-split_first.ensures.cases.0 c.if-quote-ne34.true)
