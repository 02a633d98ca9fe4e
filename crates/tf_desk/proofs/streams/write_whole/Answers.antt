use Rattle.std.proofs.Common.{rules, ◌≡◌, ◌≤◌, length, ℕ, ◌+◌, ◌-◌, List, ◌∷◌, take, drop, Option, Some, IfSome, sym, subst, arith, length-take, length-drop}
use Rattle.std.proofs.lemmas.Result.{err_from_is_err_and}
use Rattle.tf_trace.specs.Calls.{Call, wrote}
use Rattle.tf_desk.specs.Replay.{First, replay}
use Rattle.tf_desk.specs.Loops.{Puts, PutsSome}
use Rattle.tf_desk.proofs.OptionLemmas.{some_holds, none_holds}
use Rattle.tf_desk.proofs.PutsLemmas.{put_part, put_failed}
use Rattle.tf_desk.proofs.streams.write_whole.Goals as goal
use Rattle.tf_desk.proofs.streams.write_whole.Goals.{in-Some-2, in-None}

pub returns-in_err-write_once : goal.returns-in_err-write_once
returns-in_err-write_once g c first =
    let from : c.in-Some.from ≡ c.args.at + c.loop.done = search rules in
    let p = err_from_is_err_and c.from_residual.result c.from_residual.ensures.1 in
    subst (λ (calls : List Call). PutsSome c.args.at c.args.bytes.now c.from_residual.result (replay first c.args.trace.now.calls) (replay first calls))
    (sym c.in_err-write_once.ensures.failed)
    (put_failed first c.args.at c.loop.done c.in-Some.from c.args.bytes.now c.args.trace.now.calls c.loop.trace.calls c.loop.invariant.within from
    (c.loop.invariant.puts first) c.from_residual.result p.0 p.1)

-- what is put after one write more
puts_more : (first : First) (at done from n : ℕ) (bytes : List ℕ) (put : Option ℕ) (old past new : List Call) → done ≤ length bytes → from ≡ at + done
    → Puts at (length bytes) (take done bytes) (replay first old) (replay first past) → put ≡ Some n
    → IfSome put (λ k. k ≤ length (take (length bytes - done) (drop done bytes)))
    → IfSome put (λ k. new ≡ wrote from (take k (take (length bytes - done) (drop done bytes))) ∷ past)
    → Puts at (length bytes) (take (done + n) bytes) (replay first old) (replay first new)
puts_more first at done from n bytes put old past new within is puts some bound noted =
    let rest = take (length bytes - done) (drop done bytes) in
    let fits = some_holds (λ k. k ≤ length rest) put n some bound in
    let calls = some_holds (λ k. new ≡ wrote from (take k rest) ∷ past) put n some noted in
    subst (λ (k : List Call). Puts at (length bytes) (take (done + n) bytes) (replay first old) (replay first k)) (sym calls)
    (put_part first at done from bytes old past within is puts n fits)

pub returns-in-Some-eq0 : goal.returns-in-Some-eq0
returns-in-Some-eq0 g c first =
    let from : c.in-Some.from ≡ c.args.at + c.loop.done = search rules in
    record {
      front = take (c.loop.done + c.in-Some-eq0.field-0) c.args.bytes.now;
      puts = puts_more first c.args.at c.loop.done c.in-Some.from c.in-Some-eq0.field-0 c.args.bytes.now c.in_ok-write_once.field-0 c.args.trace.now.calls c.loop.trace.calls
          c.write_once.new.trace.calls c.loop.invariant.within from (c.loop.invariant.puts first) c.in-Some-eq0.is c.in_ok-write_once.ensures.bound c.in_ok-write_once.ensures.put;
      whole = tt;
    }

pub loop-preserved : goal.loop-preserved
loop-preserved g c =
    let bytes = c.args.bytes.now in
    let done = c.loop.done in
    let rest = take (length bytes - done) (drop done bytes) in
    let from : c.in-Some.from ≡ c.args.at + done = search rules in
    elim c.match-branch-2.branch [
      | in-Some-2 w ↦
          let fits = some_holds (λ k. k ≤ length rest) c.in_ok-write_once.field-0 w.in-Some-2.n w.in-Some-2.is c.in_ok-write_once.ensures.bound in
          record {
            within = omega (arith, w.done-is, fits, c.loop.invariant.within, length-take (length bytes - done) (drop done bytes), length-drop done bytes);
            puts = λ first.
                subst (λ (k : ℕ). Puts c.args.at (length bytes) (take k bytes) (replay first c.args.trace.now.calls) (replay first c.write_once.new.trace.calls)) (sym w.done-is)
                (puts_more first c.args.at done c.in-Some.from w.in-Some-2.n bytes c.in_ok-write_once.field-0 c.args.trace.now.calls c.loop.trace.calls
                c.write_once.new.trace.calls c.loop.invariant.within from (c.loop.invariant.puts first) w.in-Some-2.is c.in_ok-write_once.ensures.bound c.in_ok-write_once.ensures.put);
          }
      | in-None w ↦
          let calls = none_holds (c.write_once.new.trace.calls ≡ c.loop.trace.calls) c.in_ok-write_once.field-0 w.in-None.is c.in_ok-write_once.ensures.none in
          record {
            within = omega (arith, w.done-is, c.loop.invariant.within);
            puts = λ first. rw (w.done-is, calls) (c.loop.invariant.puts first);
          }
    ]
