use Rattle.std.proofs.lemmas.Result.{err_from_is_err_and}
use Rattle.tf_accept.proofs.AcceptLemmas.{given_whole, given_up_to, refused_target}
use Rattle.tf_accept.proofs.accepting.accept.Goals as goal

pub returns-in_err-plan-clause-refused : goal.returns-in_err-plan-clause-refused
returns-in_err-plan-clause-refused c =
    let p = err_from_is_err_and c.from_residual.result c.from_residual.ensures.1 in
    rw (p.1, p.2) (c.in_err-plan.ensures.refused c.args.target)

pub returns-in_err-machine-clause-refused : goal.returns-in_err-machine-clause-refused
returns-in_err-machine-clause-refused c =
    let p = err_from_is_err_and c.from_residual-in_err-machine.result c.from_residual-in_err-machine.ensures.1 in
    rw (p.1, p.2) (c.in_err-machine.ensures.refused c.args.sets c.args.defer c.args.target c.args.bytes.now c.in_ok-plan.ensures.ok)

pub returns-in-Some-clause-ok : goal.returns-in-Some-clause-ok
returns-in-Some-clause-ok c =
    given_up_to c.args.sets c.args.defer c.args.target c.args.bytes.now _ c.in-Some.name c.up_to.result c.in-Some.is
    (given_whole c.args.sets c.args.defer c.args.bytes.now c.in_ok-plan.plan c.in_ok-machine.machine c.in_ok-plan.ensures.ok c.in_ok-machine.ensures.given c.in_ok-machine.ensures.accepted c.in_ok-machine.ensures.provided)
    c.up_to.ensures.target

pub returns-in-Some-clause-refused : goal.returns-in-Some-clause-refused
returns-in-Some-clause-refused c =
    refused_target c.args.sets c.args.defer c.args.target c.args.bytes.now c.in-Some.name c.up_to.result c.in-Some.is
    (c.up_to.ensures.refused c.args.sets c.args.defer c.args.bytes.now
    (given_whole c.args.sets c.args.defer c.args.bytes.now c.in_ok-plan.plan c.in_ok-machine.machine c.in_ok-plan.ensures.ok c.in_ok-machine.ensures.given c.in_ok-machine.ensures.accepted c.in_ok-machine.ensures.provided))
