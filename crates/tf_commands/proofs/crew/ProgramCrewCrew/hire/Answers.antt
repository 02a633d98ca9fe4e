use Rattle.std.proofs.Common.{◌≡◌, ◌+◌, List, sym, ap, ◌∙◌, subst, arith}
use Rattle.tf_ports.specs.Ports.{addresses_wanted, DialsSome}
use Rattle.tf_ports.specs.declared.crews.Address.{Address}
use Rattle.tf_commands.proofs.WorkLemmas.{dialled_next}
use Rattle.tf_commands.proofs.crew.ProgramCrewCrew.hire.Goals as goal

pub returns-then-is_err-clause-dialled_some : goal.returns-then-is_err-clause-dialled_some
returns-then-is_err-clause-dialled_some g c =
    let items : List Address = c.items-address-items.result.now in
    let same : addresses_wanted c.args.want.now ≡ items = ap addresses_wanted c.in-Remote.is ∙ sym c.items-address-items.ensures in
    subst (λ (addresses : List Address). DialsSome addresses (g.D.Dialer.dialled c.args.self.now.dialer) (g.D.Dialer.dialled c.dial.new.self)) (sym same) (record {
      count = c.loop-address.address-index + 1;
      few = omega arith;
      dialled = dialled_next items c.loop-address.address-index c.address-item.result _ _ _ (omega arith) c.address-item.is c.loop-address.invariant.dialled c.in-Ok-dial.ensures.dialled;
    })
