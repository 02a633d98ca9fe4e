use Rattle.std.proofs.Common.{sym, ◌∙◌}
use Rattle.std.proofs.lemmas.List.{take_rest}
use Rattle.tf_wire.proofs.KeepingLemmas.{keeps_more}
use Rattle.tf_wire.proofs.frames.keep_frames.Goals as goal

pub loop-frame-preserved : goal.loop-frame-preserved
loop-frame-preserved c =
    let front = sym (take_rest c.args.bytes.now c.loop-frame.len) ∙ c.in-Frame.ensures.1.1 in
    let more = keeps_more c.args.bytes.now c.in-Frame.frame.now c.in-Frame.ensures.1.0 c.args.waiting.now c.loop-frame.waiting c.push.new.self c.loop-frame.len c.loop-frame.invariant.within c.loop-frame.invariant.kept
    c.in-Frame.ensures.0 front c.in-Ok.ensures.ok in
    record { within = more.1; kept = more.0 }
