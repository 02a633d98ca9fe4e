use Rattle.std.proofs.Common.{◌≡◌, ℕ, ◌+◌, List, [], ◌∷◌, ◌++◌, length, refl, sym, subst, arith, length-append}
use Rattle.tf_desk.specs.State.{bytes_now}
use Rattle.tf_desk.proofs.StateLemmas.{bytes_stay, trusts_files, trusts_rests_none, trusts_rests_on}
use Rattle.tf_journal.specs.Reach.{IsNear, Shows, Reaches, IsWindow}
use Rattle.tf_journal.specs.declared.scanning.Look.{Look}
use Rattle.tf_journal.specs.declared.scanning.Look.TheVariants.{Closed, Body, Bad}
use Rattle.tf_journal.proofs.ReachLemmas.{reach_start, reach_on, reach_bad}
use Rattle.tf_journal.proofs.scanning.scan_records.Goals as goal

pub loop-length-init : goal.loop-length-init
loop-length-init g c = record {
  place = (omega arith, omega arith);
  few = omega arith;
  window = λ told. c.make-window.ensures.shows (bytes_now (g.K.Desk.state c.args.desk.now)) (c.requires told);
  rests = trusts_rests_none;
  reaches = λ told whole. ([], refl, reach_start c.args.title (bytes_now (g.K.Desk.state c.args.desk.now)) (omega (arith, whole)));
}

pub returns-in-Ok-Closed-clause-rests : goal.returns-in-Ok-Closed-clause-rests
returns-in-Ok-Closed-clause-rests g c = trusts_rests_on c.loop-length.invariant.rests c.look_through.ensures.rests

pub loop-length-preserved : goal.loop-length-preserved
loop-length-preserved g c =
    let S = g.K.Desk.state in
    let old = bytes_now (S c.args.desk.now) in
    let mid = bytes_now (S c.loop-length.desk) in
    let had = c.loop-length.invariant in
    let near : IsNear (Body c.in-Ok-Body.length) c.loop-length.place = subst (λ (l : Look). IsNear l c.loop-length.place) c.in-Ok-Body.field-0-is c.in-Ok-Body.ensures.near in
    record {
      place = (omega (arith, had.place.0), omega (arith, near));
      few = omega (arith, had.few);
      window = λ told.
          let told_mid = c.look_through.ensures.rests.falls told in
          let same : mid ≡ old = bytes_stay (trusts_files had.rests told_mid) in
          let before = subst (λ (b : List ℕ). IsWindow b c.loop-length.window) (sym same) (had.window told_mid) in
          subst (λ (b : List ℕ). IsWindow b c.look_through.new.window) same (c.in-Ok-Body.ensures.window told before);
      rests = trusts_rests_on had.rests c.in-Ok-Body.ensures.rests;
      reaches = λ told whole.
          let told_mid = c.look_through.ensures.rests.falls told in
          let r = had.reaches told_mid whole in
          let same : mid ≡ old = bytes_stay (trusts_files had.rests told_mid) in
          let before = subst (λ (b : List ℕ). IsWindow b c.loop-length.window) (sym same) (had.window told_mid) in
          let shown : Shows c.args.title (Body c.in-Ok-Body.length) mid c.loop-length.place = subst (λ (l : Look). Shows c.args.title l mid c.loop-length.place) c.in-Ok-Body.field-0-is (c.in-Ok-Body.ensures.shows told before) in
          let here : Shows c.args.title (Body c.in-Ok-Body.length) old c.loop-length.place = subst (λ (b : List ℕ). Shows c.args.title (Body c.in-Ok-Body.length) b c.loop-length.place) same shown in
          let next : c.loop-length.place + 5 + length here.0 ≡ c.loop-length.place + (5 + c.in-Ok-Body.length) = omega (arith, here.1) in (
            r.0 ++ here.0 ∷ [],
            omega (arith, r.1, length-append r.0 (here.0 ∷ [])),
            subst (Reaches c.args.title old (r.0 ++ here.0 ∷ [])) next (reach_on c.args.title old r.0 c.loop-length.place here.0 r.2 here.2),
          );
    }

pub returns-in-Ok-Closed-clause-scanned : goal.returns-in-Ok-Closed-clause-scanned
returns-in-Ok-Closed-clause-scanned g c =
    let S = g.K.Desk.state in
    let old = bytes_now (S c.args.desk.now) in
    let mid = bytes_now (S c.loop-length.desk) in
    let had = c.loop-length.invariant in
    λ told whole.
    let told_mid = c.look_through.ensures.rests.falls told in
    let r = had.reaches told_mid whole in
    let same : mid ≡ old = bytes_stay (trusts_files had.rests told_mid) in
    let before = subst (λ (b : List ℕ). IsWindow b c.loop-length.window) (sym same) (had.window told_mid) in
    let shown : Shows c.args.title Closed mid c.loop-length.place = subst (λ (l : Look). Shows c.args.title l mid c.loop-length.place) c.in-Ok-Closed.field-0-is (c.in-Ok-Closed.ensures.shows told before) in
    record {
      held = r.0;
      many = r.1;
      place = c.loop-length.place;
      reaches = r.2;
      ends = subst (λ (b : List ℕ). Shows c.args.title Closed b c.loop-length.place) same shown;
      behind = omega arith;
    }

pub returns-in-Ok-Bad-clause-scanned : goal.returns-in-Ok-Bad-clause-scanned
returns-in-Ok-Bad-clause-scanned g c =
    let S = g.K.Desk.state in
    let old = bytes_now (S c.args.desk.now) in
    let mid = bytes_now (S c.loop-length.desk) in
    let had = c.loop-length.invariant in
    λ told whole.
    let told_mid = c.look_through.ensures.rests.falls told in
    let r = had.reaches told_mid whole in
    let same : mid ≡ old = bytes_stay (trusts_files had.rests told_mid) in
    let before = subst (λ (b : List ℕ). IsWindow b c.loop-length.window) (sym same) (had.window told_mid) in
    let shown : Shows c.args.title (Bad c.in-Ok-Bad.offset c.in-Ok-Bad.byte) mid c.loop-length.place = subst (λ (l : Look). Shows c.args.title l mid c.loop-length.place) c.in-Ok-Bad.field-0-is (c.in-Ok-Bad.ensures.shows told before) in
    let here : Shows c.args.title (Bad c.in-Ok-Bad.offset c.in-Ok-Bad.byte) old c.loop-length.place = subst (λ (b : List ℕ). Shows c.args.title (Bad c.in-Ok-Bad.offset c.in-Ok-Bad.byte) b c.loop-length.place) same shown in
    reach_bad c.args.title old r.0 c.loop-length.place c.in-Ok-Bad.offset c.in-Ok-Bad.byte r.2 here

pub returns-in-Ok-Bad-clause-rests : goal.returns-in-Ok-Bad-clause-rests
returns-in-Ok-Bad-clause-rests g c = trusts_rests_on c.loop-length.invariant.rests c.look_through.ensures.rests

pub returns-in-Err-clause-rests : goal.returns-in-Err-clause-rests
returns-in-Err-clause-rests g c = trusts_rests_on c.loop-length.invariant.rests c.look_through.ensures.rests
