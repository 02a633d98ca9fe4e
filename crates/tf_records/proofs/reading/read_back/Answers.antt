use Rattle.std.proofs.Common.{rules, ◌≡◌, ◌∙◌, Bool, ℕ, List, ◌++◌, ◌∷◌, [], None, refl, ap, sym, subst, arith, Err}
use Rattle.std.specs.Prelude.{slice_get}
use Rattle.std.proofs.lemmas.Result.{err_from_is_err_and}
use Rattle.tf_numbers.specs.Numbers.{Rises}
use Rattle.tf_desk.proofs.CountLemmas.{rises_later}
use Rattle.tf_journal.specs.Format.{Held}
use Rattle.tf_journal.specs.Reading.{IsNext, IsNoRefusal}
use Rattle.tf_journal.proofs.ReadingLemmas.{reads_on}
use Rattle.tf_records.specs.Refusing.{HasRefusedBody}
use Rattle.tf_records.proofs.ReplayLemmas.{found_behind, refuses_nothing, refuses_so, read_none, read_on, read_refused, read_out, read_ends}
use Rattle.tf_records.proofs.reading.read_back.Goals as goal

pub reading-init : goal.reading-init
reading-init g c = record {
  low = omega arith;
  read = read_none g.K.Desk.state g.R.Replay.replayed c.args.journal.now c.window.new.self.desk c.args.into.now c.requires.none;
  fixed = refl;
  window = c.in-Ok.ensures.shows c.requires.in_file;
  reads = c.window.ensures.reads;
}

pub replay-requires : goal.replay-requires
replay-requires g c = let read = c.reading.invariant.read in record { ready = (read.before, read.is_replayed) }

pub returns-in_err-next_body-clause-fails : goal.returns-in_err-next_body-clause-fails
returns-in_err-next_body-clause-fails g c =
    let D = g.K.Desk in
    let l = c.reading.invariant in
    let p = err_from_is_err_and c.from_residual.result c.from_residual.ensures.1 in
    rw (p.1, p.2)
    (record {
      refused = λ told held lies. refuses_nothing _ _ _ held (found_behind D.state g.R.Replay.replayed _ _ c.next_body.new.journal.desk _ _ (λ rest. IsNoRefusal c.in_err-next_body.field-0.0) l.read l.reads (c.in_err-next_body.ensures.whole l.window) c.next_body.ensures.reads.rests.falls told held lies).2;
      cause = λ is. rises_later (D.state c.args.journal.now.desk).disk_faults (D.state c.reading.journal.desk).disk_faults (D.state c.next_body.new.journal.desk).disk_faults
          l.reads.rests.does.on_disk.disk_faults (c.in_err-next_body.ensures.cause (ap (λ f. Err f) is));
      new_format = c.in_err-next_body.ensures.never_old;
    })

pub returns-in-Err-clause-fails : goal.returns-in-Err-clause-fails
returns-in-Err-clause-fails g c =
    let l = c.reading.invariant in
    let R = g.R.Replay in
    let items = c.next_body.new.body.items in
    record {
      refused = λ told held lies.
          refuses_so _ R.refuses c.in-Err.fault c.refusal.result held _ _ c.refusal.ensures.no c.refusal.ensures.memory
          (λ is. read_refused g.K.Desk.state R.replayed R.refuses _ _ c.next_body.new.journal.desk _ _ _ items _ l.read l.reads
          (λ before rest told_now rest_now at. subst (λ (v : Bool). IsNext v rest items) c.if-not-branch.false (c.in_ok-next_body.ensures.found l.window before rest told_now rest_now at))
          c.next_body.ensures.reads.rests.falls
          (λ before kept. subst (λ (b : List ℕ). R.refuses before b) c.deref.ensures.value (c.in-Err.ensures.refused (ap (λ f. Err f) is) before kept))
          (search rules) (ap (λ (b : List ℕ). slice_get b 0) c.deref-in-Err.ensures.value) told held lies);
      cause = λ is. absurd {A = Rises (g.K.Desk.state c.args.journal.now.desk).disk_faults (g.K.Desk.state c.next_body.new.journal.desk).disk_faults} (c.refusal.ensures.no_disk is);
      new_format = c.refusal.ensures.new_format;
    }

pub reading-preserved : goal.reading-preserved
reading-preserved g c =
    let l = c.reading.invariant in
    let R = g.R.Replay in
    let items = c.next_body.new.body.items in
    record {
      low = omega (arith, l.low);
      read = read_on g.K.Desk.state R.replayed _ _ c.next_body.new.journal.desk _ _ _ _ items l.read l.reads
          (λ before rest told_now rest_now at. subst (λ (v : Bool). IsNext v rest items) c.if-not-branch.false (c.in_ok-next_body.ensures.found l.window before rest told_now rest_now at))
          c.next_body.ensures.reads.rests.falls
          (λ before kept. subst (λ (b : List ℕ). R.replayed c.replay.new.self (before ++ b ∷ [])) c.deref.ensures.value (c.in-Ok-replay.ensures.replayed before kept)) (search rules);
      fixed = c.in-Ok-replay.ensures.fixed ∙ l.fixed;
      window = c.in_ok-next_body.ensures.window l.window;
      reads = reads_on g.K.Desk.state _ _ _ l.reads c.in_ok-next_body.ensures.reads;
    }

pub returns-then-place-size-clause-fails : goal.returns-then-place-size-clause-fails
returns-then-place-size-clause-fails g c =
    let l = c.reading.invariant in
    let reads = reads_on g.K.Desk.state _ _ _ l.reads c.in_ok-next_body.ensures.reads in
    let size : c.size.result ≡ c.args.journal.now.size = c.size.ensures ∙ ap (λ (h : Held _). h.size) reads.journal in
    record {
      refused = λ told held lies.
          absurd {A = HasRefusedBody c.args.journal.now.title g.R.Replay.refuses held c.reading.place None} (read_ends g.K.Desk.state g.R.Replay.replayed _ _ c.next_body.new.journal.desk _ _ l.read l.reads
          (λ before rest told_now rest_now at. subst (λ (v : Bool). IsNext v rest c.next_body.new.body.items) c.if-not-branch.true (c.in_ok-next_body.ensures.found l.window before rest told_now rest_now at))
          c.next_body.ensures.reads.rests.falls
          (λ same. c.if-place-size.true (same ∙ sym size)) told held lies);
      cause = λ is. absurd {A = Rises (g.K.Desk.state c.args.journal.now.desk).disk_faults (g.K.Desk.state c.next_body.new.journal.desk).disk_faults} (cc);
      new_format = λ is. cc;
    }

pub returns-clause-read : goal.returns-clause-read
returns-clause-read g c =
    let l = c.reading.invariant in
    let reads = reads_on g.K.Desk.state _ _ _ l.reads c.in_ok-next_body.ensures.reads in
    let size : c.size.result ≡ c.args.journal.now.size = c.size.ensures ∙ ap (λ (h : Held _). h.size) reads.journal in
    read_out g.K.Desk.state g.R.Replay.replayed _ _ c.next_body.new.journal.desk _ _ l.read l.reads
    (λ before rest told_now rest_now at. subst (λ (v : Bool). IsNext v rest c.next_body.new.body.items) c.if-not-branch.true (c.in_ok-next_body.ensures.found l.window before rest told_now rest_now at))
    c.next_body.ensures.reads.rests.falls
    (omega (arith, size, c.if-place-size.false)) c.in_ok-next_body.ensures.within

pub returns-in_err-next_body-clause-reads : goal.returns-in_err-next_body-clause-reads
returns-in_err-next_body-clause-reads g c = reads_on g.K.Desk.state _ _ _ c.reading.invariant.reads c.in_err-next_body.ensures.reads

pub returns-in-Err-clause-reads : goal.returns-in-Err-clause-reads
returns-in-Err-clause-reads g c = reads_on g.K.Desk.state _ _ _ c.reading.invariant.reads c.in_ok-next_body.ensures.reads

pub returns-then-place-size-clause-reads : goal.returns-then-place-size-clause-reads
returns-then-place-size-clause-reads g c = reads_on g.K.Desk.state _ _ _ c.reading.invariant.reads c.in_ok-next_body.ensures.reads

pub returns-clause-reads : goal.returns-clause-reads
returns-clause-reads g c = reads_on g.K.Desk.state _ _ _ c.reading.invariant.reads c.in_ok-next_body.ensures.reads
