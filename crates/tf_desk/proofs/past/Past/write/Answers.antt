use Rattle.std.proofs.Common.{◌≡◌, List, length, arith, refl, sym, ◌∙◌, ap}
use Rattle.tf_desk.specs.declared.past.MemoryFile.{MemoryFile}
use Rattle.tf_desk.specs.Acts.{Act, content_after}
use Rattle.tf_desk.specs.Crash.{bytes_of}
use Rattle.tf_desk.specs.Sound.{acts}
use Rattle.tf_desk.proofs.KeepsLemmas.{keeps_within, keeps_bytes, keeps_put}
use Rattle.tf_desk.proofs.LogLemmas.{put_wrote, put_said}
use Rattle.tf_desk.proofs.past.Past.write.Goals as goal

pub index_mut-file-requires : goal.index_mut-file-requires
index_mut-file-requires c =
    let p = c.self.inside in
    omega (arith, keeps_within (acts p) p.shown.items p.files.items p.picked c.self.invariant.keeps c.in-Some.place c.in-Some.is, p.files.ok.0)

pub put-requires : goal.put-requires
put-requires c =
    let p = c.self.inside in
    let file = c.index_mut-file.result.now in
    let whole = keeps_bytes (acts p) p.shown.items p.files.items p.picked c.self.invariant.keeps c.in-Some.place c.in-Some.is file in
    let its : bytes_of (content_after c.args.self.now) ≡ file.bytes.items =
    ap (λ (past : List Act). bytes_of (content_after past)) (sym c.self.view_is) ∙ whole ∙ ap (λ (f : MemoryFile). f.bytes.items) (sym c.index_mut-file.ensures.value) in
    omega (arith, c.requires, ap length its)

pub invariant_of-self : goal.invariant_of-self
invariant_of-self c =
    let p = c.self.inside in
    let old = c.index_mut-file.result.now in
    let new : MemoryFile = record { name = old.name; bytes = c.put.new.file } in
    record {
      keeps = keeps_put c.put.result p.log.items c.put.new.log.items p.written.items c.put.new.tape.items p.shown.items p.files.items p.picked c.self.invariant.keeps
          c.in-Some.place c.in-Some.is new old c.args.at c.args.bytes.now c.index_mut-file.ensures.value refl c.put.ensures.file c.put.ensures.log c.put.ensures.tape;
      wrote = put_wrote c.put.result p.log.items c.put.new.log.items p.written.items c.put.new.tape.items c.args.at c.args.bytes.now c.self.invariant.wrote c.put.ensures.log c.put.ensures.tape;
      said = put_said c.put.result p.log.items c.put.new.log.items p.shown.items c.args.at c.args.bytes.now c.self.invariant.said c.put.ensures.log;
    }
