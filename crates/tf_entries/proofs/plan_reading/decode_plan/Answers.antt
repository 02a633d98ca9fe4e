use Rattle.std.proofs.Common.{◌∙◌, sym}
use Rattle.std.proofs.lemmas.Result.{err_from_is_err_and}
use Rattle.tf_entries.proofs.DecodingLemmas.{refused_form, refused_plan, made_plan, passed_fault, this_fault}
use Rattle.tf_entries.proofs.plan_reading.decode_plan.Goals as goal

pub returns-in_err-parts-clause-refused : goal.returns-in_err-parts-clause-refused
returns-in_err-parts-clause-refused c =
    let p = err_from_is_err_and c.from_residual.result c.from_residual.ensures.1 in
    rw (p.1, p.2) (λ is. refused_form c.args.bytes.now c.in_err-parts.field-0.0 c.in_err-parts.ensures.refused (passed_fault _ _ is))

pub returns-in-Ok-clause-ok : goal.returns-in-Ok-clause-ok
returns-in-Ok-clause-ok c = made_plan c.args.bytes.now c.in_ok-parts.parts.root c.in_ok-parts.parts.store c.in_ok-parts.parts.defer c.in-Ok.plan c.in_ok-parts.ensures.ok c.in-Ok.ensures.given

pub returns-in-Err-clause-refused : goal.returns-in-Err-clause-refused
returns-in-Err-clause-refused c = λ is.
    refused_plan c.args.bytes.now c.in_ok-parts.parts.root c.in_ok-parts.parts.store c.in_ok-parts.parts.defer c.in-Err.fault c.in_ok-parts.ensures.ok c.in-Err.ensures.refused (sym c.fault_of.ensures ∙ this_fault _ _ is)
