use Rattle.std.proofs.Common.{rules, refl}
use Rattle.tf_entries.proofs.heads.find_head.Goals as goal

pub returns-in-1 : goal.returns-in-1
returns-in-1 c = (record { rest = c.in_ok-tag.rest.now; read = search rules }, refl)

pub returns-in_ok-number-in-2 : goal.returns-in_ok-number-in-2
returns-in_ok-number-in-2 c = (record { rest = c.in_ok-number-in-2.field-0-1.now; read = search rules }, refl)
