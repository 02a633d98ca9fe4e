use Rattle.std.proofs.Common.{◌≡◌, ◌∷◌, [], ℕ, length, length-append, IsTrue, sym, ◌∙◌, ap, subst, arith}
use Rattle.std.proofs.lemmas.Result.{on_ok_weaker}
use Rattle.tf_desk.specs.Crash.{written, Torn}
use Rattle.tf_desk.specs.State.{bytes_now}
use Rattle.tf_desk.proofs.StateLemmas.{goes_within}
use Rattle.tf_journal.specs.Format.{title_of}
use Rattle.tf_journal.specs.Birth.{IsTitled}
use Rattle.tf_journal.proofs.HeaderLemmas.{sixteen}
use Rattle.tf_journal.proofs.BirthLemmas.{letters_long, titled_there, titled_closed, torn_closed, zero_gate, torn_title, titled_now}
use Rattle.tf_journal.proofs.birth.write_title.Goals as goal

pub returns-then-has_closed-clause-titled : goal.returns-then-has_closed-clause-titled
returns-then-has_closed-clause-titled g c = λ told.
    let r = c.requires in
    titled_there c.args.title c.args.head.now (bytes_now (g.K.Desk.state c.args.desk.now)) (r.unborn told) (r.short told) (r.long told) (r.gate told) (c.has_closed.ensures.0 c.if-has_closed.true)

pub write_synced-requires-clause-within : goal.write_synced-requires-clause-within
write_synced-requires-clause-within g c = λ told.
    let r = c.requires in
    (letters_long c.args.title c.args.head.now (bytes_now (g.K.Desk.state c.args.desk.now)) (r.short told) (r.long told) (c.is_unclosed.ensures.0 c.if-is_unclosed.true).1).0

pub returns-then-is_unclosed-clause-titled : goal.returns-then-is_unclosed-clause-titled
returns-then-is_unclosed-clause-titled g c =
    let S = g.K.Desk.state in
    let r = c.requires in
    let title = c.args.title in
    let told_old = IsTrue (S c.args.desk.now).tells in
    let old = bytes_now (S c.args.desk.now) in
    let new = bytes_now (S c.write_synced.new.desk) in
    let letters = c.is_unclosed.ensures.0 c.if-is_unclosed.true in
    on_ok_weaker {P = told_old → new ≡ written old 17 (0 ∷ [])} {Q = told_old → IsTitled title old new} c.write_synced.result
    (λ wrote told. subst (IsTitled title old) (sym (wrote told)) (titled_closed title c.args.head.now old (r.unborn told) (r.short told) (r.long told) (r.gate told) letters.0 letters.1))
    c.write_synced.ensures.written

pub returns-then-is_unclosed-clause-goes : goal.returns-then-is_unclosed-clause-goes
returns-then-is_unclosed-clause-goes g c =
    let r = c.requires in
    let letters = c.is_unclosed.ensures.0 c.if-is_unclosed.true in
    goes_within c.write_synced.ensures.goes (λ told image text torn. (
      torn_closed c.args.title c.args.head.now (bytes_now (g.K.Desk.state c.args.desk.now)) image (r.unborn told) (r.short told) (r.long told) (r.gate told) letters.0 letters.1 torn.0,
      torn.1,
    ))

pub returns-clause-titled : goal.returns-clause-titled
returns-clause-titled g c =
    let S = g.K.Desk.state in
    let r = c.requires in
    let title = c.args.title in
    let told_old = IsTrue (S c.args.desk.now).tells in
    let old = bytes_now (S c.args.desk.now) in
    let new = bytes_now (S c.write_synced-2.new.desk) in
    on_ok_weaker {P = told_old → new ≡ written old 1 c.closed.result.now} {Q = told_old → IsTitled title old new} c.write_synced-2.result
    (λ wrote told. subst (IsTitled title old) (sym (wrote told ∙ ap (written old 1) c.closed.ensures))
    (titled_now title old (r.unborn told) (λ brief. (r.short told brief).0) (r.gate told)
    (zero_gate title c.args.head.now old (r.unborn told) (r.short told) (r.long told)
    (λ its. let yes = c.has_closed.ensures.1 its in let no = c.if-has_closed.false in cc)
    (λ its. let yes = c.is_unclosed.ensures.1 its in let no = c.if-is_unclosed.false in cc))))
    c.write_synced-2.ensures.written

pub returns-clause-goes : goal.returns-clause-goes
returns-clause-goes g c =
    let r = c.requires in
    let title = c.args.title in
    let old = bytes_now (g.K.Desk.state c.args.desk.now) in
    let long : length c.closed.result.now ≡ 17 = omega (arith, ap length c.closed.ensures, length-append (title_of title) (0 ∷ []), sixteen title) in
    goes_within c.write_synced-2.ensures.goes (λ told image text torn. (
      torn_title title old image
          (zero_gate title c.args.head.now old (r.unborn told) (r.short told) (r.long told)
          (λ its. let yes = c.has_closed.ensures.1 its in let no = c.if-has_closed.false in cc)
          (λ its. let yes = c.is_unclosed.ensures.1 its in let no = c.if-is_unclosed.false in cc))
          (r.gate told)
          (subst (λ (n : ℕ). Torn 1 n old image) long torn.0),
      torn.1,
    ))
