use Rattle.std.proofs.Common.{◌≡◌, ◌-◌, Some, ap, arith, length, drop, take, sym, ◌∙◌, length-drop}
use Rattle.std.proofs.lemmas.List.{take_all}
use Rattle.tf_ports.specs.MemoryLink.{HeldByLink}
use Rattle.tf_ports.proofs.LinkLemmas.{given_first}
use Rattle.tf_ports.proofs.memory_link.MemoryLinkLink.recv.Goals as goal

pub returns-clause-came : goal.returns-clause-came
returns-clause-came c =
    let bytes = c.self.inside.bytes.items in
    let place = c.self.inside.given in
    let rest = take (length c.deref.result.now - place) (drop place c.deref.result.now) in
    let given : rest ≡ drop place bytes = take_all (length c.deref.result.now - place) (drop place c.deref.result.now) (omega (arith, length-drop place c.deref.result.now)) ∙ ap (drop place) c.deref.ensures.value in
    let left : c.args.self.now.left ≡ drop place bytes = ap (λ (held : HeldByLink). held.left) (sym c.fails.ensures.same ∙ sym c.self.view_is) in (
      c.copy_prefix-count.ensures.some,
      c.copy_prefix-count.ensures.fits,
      ap Some (left ∙ given_first bytes rest c.copy_prefix-count.new.buf place c.copy_prefix-count.result given c.copy_prefix-count.ensures.copied),
    )
