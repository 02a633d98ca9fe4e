use Rattle.std.proofs.Common.{rules, ◌≡◌, ◌≤◌, ◌<◌, length, ℕ, ◌+◌, ◌-◌, IsTrue, List, ◌∷◌, take, sym, ap, subst, arith}
use Rattle.std.proofs.lemmas.Bool.{and_parts}
use borrow.Rule.Slice.PartMut.{put_mid}
use Rattle.tf_trace.specs.Calls.{Call, gave}
use Rattle.tf_desk.specs.Crash.{Content, bytes_of}
use Rattle.tf_desk.specs.State.{bytes_now}
use Rattle.tf_desk.specs.Replay.{replay, agrees}
use Rattle.tf_desk.specs.Loops.{Answers, ReadsFront}
use Rattle.tf_desk.proofs.OptionLemmas.{some_holds, none_holds}
use Rattle.tf_desk.proofs.ReadsLemmas.{answers_on, room_kept, reads_more, reads_same}
use Rattle.tf_desk.proofs.streams.read_whole.Goals as goal
use Rattle.tf_desk.proofs.streams.read_whole.Goals.{in-Some-2, in-None}

pub loop-preserved : goal.loop-preserved
loop-preserved g c =
    let done = c.loop.done in
    let inv = c.loop.invariant in
    let new = c.read_once.new.buf in
    let buf = put_mid done (length c.loop.buf - done) c.loop.buf new in
    let room : length new ≡ length c.loop.buf - done = omega arith in
    let stays = room_kept c.loop.buf new done inv.within room in
    let got = c.in_ok-read_once.field-0 in
    let past = c.loop.trace.calls in
    let start = c.args.trace.now.calls in
    elim c.match-branch-2.branch [
      | in-Some-2 w ↦
          let n = w.in-Some-2.n in
          let fits = some_holds (λ k. k ≤ length new) got n w.in-Some-2.is c.in_ok-read_once.ensures.bound in
          let calls = some_holds (λ k. c.read_once.new.trace.calls ≡ gave c.in-Some.from (take k new) ∷ past) got n w.in-Some-2.is c.in_ok-read_once.ensures.got in
          let from : c.in-Some.from ≡ c.args.at + done = search rules in
          let some : 0 < n = omega (arith, w.in-Some-2.n-test.1) in
          record {
            within = omega (arith, stays, w.done-is, fits, room, inv.within);
            answers = λ first.
                subst (λ (k : List Call). Answers (replay first start) (replay first k)) (sym calls)
                (answers_on (agrees (bytes_now (replay first past)) c.in-Some.from (take n new)) (replay first start) (replay first past) (inv.answers first));
            front = λ first told.
                let old = replay first start in
                let mid = replay first past in
                let both = and_parts mid.tells (agrees (bytes_now mid) c.in-Some.from (take n new)) (subst (λ (k : List Call). IsTrue (replay first k).tells) calls told) in
                let same : bytes_now mid ≡ bytes_now old = ap (λ (content : Content). bytes_of content) (inv.answers first).content in
                let agreed = subst (λ (file : List ℕ). IsTrue (agrees file c.in-Some.from (take n new))) same both.1 in
                subst (λ (k : ℕ). ReadsFront (bytes_now old) c.args.at k buf) (sym w.done-is)
                (reads_more c.loop.buf new done inv.within room (bytes_now old) c.args.at c.in-Some.from n from fits (inv.front first both.0) agreed some);
          }
      | in-None w ↦
          let calls = none_holds (c.read_once.new.trace.calls ≡ past) got w.in-None.is c.in_ok-read_once.ensures.none in
          record {
            within = omega (arith, stays, w.done-is, inv.within);
            answers = λ first. rw calls (inv.answers first);
            front = λ first told.
                let old = replay first start in
                let still = subst (λ (k : List Call). IsTrue (replay first k).tells) calls told in
                subst (λ (k : ℕ). ReadsFront (bytes_now old) c.args.at k buf) (sym w.done-is) (reads_same c.loop.buf new done inv.within room (bytes_now old) c.args.at (inv.front first still));
          }
    ]
