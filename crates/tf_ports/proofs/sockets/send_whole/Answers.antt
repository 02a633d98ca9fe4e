use Rattle.std.proofs.Common.{◌≡◌, ◌≤◌, length, ℕ, ◌+◌, ◌-◌, ◌++◌, List, take, drop, sym, subst, ◌∙◌, ap, arith, length-take, length-drop, slice_range}
use Rattle.std.proofs.lemmas.List.{take_all}
use Rattle.std.proofs.Math.Seq.{take-add}
use Rattle.std.specs.Io.KnownBytes.{Appends}
use Rattle.tf_trace.specs.Calls.{Call}
use Rattle.tf_ports.specs.Noted.{passed_in}
use Rattle.tf_ports.specs.Transcript.{sent_with}
use Rattle.tf_ports.proofs.SocketLemmas.{appends_none, appends_on, appends_still}
use Rattle.tf_ports.proofs.TranscriptLemmas.{sent_more, sent_none}
use Rattle.tf_ports.proofs.sockets.send_whole.Goals as goal
use Rattle.tf_ports.proofs.sockets.send_whole.Goals.{in-Ok, in-Err+else-ne}

range_size : (bytes : List ℕ) (i j : ℕ) → i ≤ j → j ≤ length bytes → length (slice_range bytes i j) ≡ j - i
range_size bytes i j le within = omega (arith, le, within, length-take (j - i) (drop i bytes), length-drop i bytes)

pub loop-init : goal.loop-init
loop-init g c = record {
  within = omega arith;
  taken = appends_none (g.S.Write.contents c.args.stream.now);
  passed = sent_none (passed_in c.args.trace.now.calls);
}

pub loop-preserved : goal.loop-preserved
loop-preserved g c =
    let bytes = c.args.bytes.now in
    let done = c.loop.done in
    let inv = c.loop.invariant in
    let contents = g.S.Write.contents in
    elim c.match-write.branch [
      | in-Ok w ↦
          let n = w.in-Ok.n in
          let part = slice_range bytes done (done + n) in
          let within : done + n ≤ length bytes = omega (arith, w.in-Ok.ensures.bound, range_size bytes done (length bytes) inv.within (omega arith), inv.within) in
          let all : take (length bytes - done) (drop done bytes) ≡ drop done bytes = take_all (length bytes - done) (drop done bytes) (omega (arith, length-drop done bytes)) in
          let sum : (done + n) - done ≡ n = omega arith in
          let parts : take done bytes ++ part ≡ take (done + n) bytes = ap (λ (k : ℕ). take done bytes ++ take k (drop done bytes)) sum ∙ sym (take-add done n bytes) in
          record {
            within = omega (arith, w.done-is, within);
            taken = subst (Appends (contents c.args.stream.now) (contents c.write.new.self)) (
                ap (λ (rest : List ℕ). take done bytes ++ take n rest) all ∙ sym (take-add done n bytes) ∙ ap (λ (k : ℕ). take k bytes) (sym w.done-is)
                ) (appends_on (contents c.args.stream.now) (contents c.loop.stream) (contents c.write.new.self) (take done bytes) (take n (take (length bytes - done) (drop done bytes))) inv.taken w.in-Ok.ensures.bytes);
            passed =
                ap (λ t. passed_in t.calls) w.trace-is
                ∙ sent_more (passed_in c.args.trace.now.calls) (passed_in c.loop.trace.calls) (passed_in w.said.new.self.calls) (take done bytes) part inv.passed (ap (λ (calls : List Call). passed_in calls) w.said.ensures)
                ∙ ap (sent_with (passed_in c.args.trace.now.calls)) parts ∙ ap (λ (k : ℕ). sent_with (passed_in c.args.trace.now.calls) (take k bytes)) (sym w.done-is);
          }
      | in-Err+else-ne w ↦ record {
        within = omega (arith, w.done-is, inv.within);
        taken = subst (λ (k : ℕ). Appends (contents c.args.stream.now) (contents c.write.new.self) (take k bytes)) (sym w.done-is)
            (appends_still (contents c.args.stream.now) (contents c.loop.stream) (contents c.write.new.self) (take done bytes) inv.taken w.in-Err.ensures.bytes);
        passed = ap (λ t. passed_in t.calls) w.trace-is ∙ inv.passed ∙ ap (λ (k : ℕ). sent_with (passed_in c.args.trace.now.calls) (take k bytes)) (sym w.done-is);
      }
    ]
