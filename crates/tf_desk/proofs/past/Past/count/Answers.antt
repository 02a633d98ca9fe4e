use Rattle.std.proofs.Common.{length, reverse, sym, ap, arith}
use Rattle.std.proofs.lemmas.List.{length-reverse}
use Rattle.tf_desk.proofs.LogLemmas.{length-acts_of}
use Rattle.tf_desk.proofs.past.Past.count.Goals as goal

pub returns : goal.returns
returns c =
    let p = c.self.inside in
    omega (arith, ap length (sym c.self.view_is), length-acts_of (reverse p.log.items) p.written.items p.shown.items, length-reverse p.log.items, c.len.ensures, p.log.ok.0)
