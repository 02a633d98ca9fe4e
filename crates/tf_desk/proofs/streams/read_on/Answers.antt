use Rattle.std.proofs.Common.{◌≤◌, ◌≡◌, ◌-◌, length, take, sym, subst, ℕ, arith}
use borrow.Rule.Slice.PartMut.{put_mid}
use Rattle.std.specs.Io.KnownBytes.{Consumes}
use Rattle.tf_desk.proofs.StreamLemmas.{room_stays, taken_more, taken_same}
use Rattle.tf_desk.proofs.streams.read_on.Goals as goal
use Rattle.tf_desk.proofs.streams.read_on.Goals.{in-Ok, in-Err+else-not-is_interrupted}

pub loop-preserved : goal.loop-preserved
loop-preserved g c =
    let had = c.loop.invariant in
    let buf = put_mid c.loop.done (length c.loop.buf - c.loop.done) c.loop.buf c.read.new.buf in
    let room : length c.read.new.buf ≡ length c.loop.buf - c.loop.done = omega arith in
    let remaining = g.R.Read.remaining in
    let P : ℕ → Type 0 = λ done. (done ≤ length buf) × Consumes (remaining c.args.from.now) (remaining c.read.new.self) (take done buf) in
    elim c.match-read.branch [
      | in-Ok w ↦ subst P (sym w.done-is) (
        omega (arith, room_stays c.loop.buf c.read.new.buf c.loop.done had.0 room, room, w.in-Ok.ensures.bound.0, had.0),
        taken_more (remaining c.args.from.now) (remaining c.loop.from) (remaining c.read.new.self) c.loop.buf c.read.new.buf c.loop.done w.in-Ok.n had.0 w.in-Ok.ensures.bound.0 had.1 w.in-Ok.ensures.bytes.0,
      )
      | in-Err+else-not-is_interrupted w ↦ subst P (sym w.done-is) (
        omega (arith, room_stays c.loop.buf c.read.new.buf c.loop.done had.0 room, had.0),
        taken_same (remaining c.args.from.now) (remaining c.loop.from) (remaining c.read.new.self) c.loop.buf c.read.new.buf c.loop.done had.0 had.1 w.in-Err.ensures.bytes,
      )
    ]
