use Rattle.std.proofs.Common.{◌≡◌, ◌≤◌, length, ℕ, ◌+◌, ◌-◌, List, ◌∷◌, take, drop, sym, subst, arith, length-take, length-drop}
use Rattle.tf_trace.specs.Calls.{Call, said}
use Rattle.tf_desk.specs.Replay.{replay}
use Rattle.tf_desk.specs.Loops.{SaysFront}
use Rattle.tf_desk.proofs.OptionLemmas.{some_holds, none_holds}
use Rattle.tf_desk.proofs.SaysLemmas.{says_on, part_of}
use Rattle.tf_desk.proofs.streams.say_whole.Goals as goal
use Rattle.tf_desk.proofs.streams.say_whole.Goals.{in-Some, in-None}

pub loop-preserved : goal.loop-preserved
loop-preserved g c =
    let bytes = c.args.bytes.now in
    let done = c.loop.done in
    let old = c.args.trace.now.calls in
    let past = c.loop.trace.calls in
    let rest = take (length bytes - done) (drop done bytes) in
    elim c.match-branch-2.branch [
      | in-Some w ↦
          let n = w.in-Some.n in
          let put = c.in_ok-say_once.field-0 in
          let fits = some_holds (λ k. k ≤ length rest) put n w.in-Some.is c.in_ok-say_once.ensures.bound in
          let calls = some_holds (λ k. c.say_once.new.trace.calls ≡ said (take k rest) ∷ past) put n w.in-Some.is c.in_ok-say_once.ensures.put in
          record {
            within = omega (arith, w.done-is, fits, c.loop.invariant.within, length-take (length bytes - done) (drop done bytes), length-drop done bytes);
            says = λ first.
                subst (λ (k : ℕ). SaysFront bytes k (replay first old) (replay first c.say_once.new.trace.calls)) (sym w.done-is)
                (subst (λ (k : List Call). SaysFront bytes (done + n) (replay first old) (replay first k)) (sym calls)
                (says_on bytes (take n rest) done n (replay first old) (replay first past) (part_of bytes done n fits) (c.loop.invariant.says first)));
          }
      | in-None w ↦
          let calls = none_holds (c.say_once.new.trace.calls ≡ past) c.in_ok-say_once.field-0 w.in-None.is c.in_ok-say_once.ensures.none in
          record {
            within = omega (arith, w.done-is, c.loop.invariant.within);
            says = λ first. rw (w.done-is, calls) (c.loop.invariant.says first);
          }
    ]
