use Rattle.std.proofs.Common.{◌≡◌, ℕ, List, arith, sym, ◌∙◌, ap, subst}
use Rattle.tf_desk.specs.declared.past.MemoryFile.{MemoryFile}
use Rattle.tf_desk.specs.Acts.{Act, content_after}
use Rattle.tf_desk.specs.Crash.{bytes_of, Reads}
use Rattle.tf_desk.specs.Sound.{acts}
use Rattle.tf_desk.proofs.KeepsLemmas.{keeps_within, keeps_bytes}
use Rattle.tf_desk.proofs.past.Past.read.Goals as goal

pub index-requires : goal.index-requires
index-requires c =
    let p = c.self.inside in
    omega (arith, keeps_within (acts p) p.shown.items p.files.items p.picked c.self.invariant.keeps c.in-Some.place c.in-Some.is, p.files.ok.0)

pub returns : goal.returns
returns c =
    let p = c.self.inside in
    let file = c.index.result.now in
    let whole = keeps_bytes (acts p) p.shown.items p.files.items p.picked c.self.invariant.keeps c.in-Some.place c.in-Some.is file in
    let its : bytes_of (content_after c.args.self.now) ≡ c.deref.result.now =
    ap (λ (past : List Act). bytes_of (content_after past)) (sym c.self.view_is) ∙ whole ∙ ap (λ (f : MemoryFile). f.bytes.items) (sym c.index.ensures) ∙ sym c.deref.ensures.value in
    subst (λ (bytes : List ℕ). Reads bytes c.args.at c.copy_from.new.buf c.copy_from.result) (sym its) c.copy_from.ensures
