use Rattle.std.proofs.Common.{◌≡◌, ℕ, List, length, take, IsTrue, Result, Ok, Err, OnOk, ◌∷◌, sym, ◌∙◌, ap, subst, arith}
use Rattle.std.proofs.lemmas.Result.{MatchResult-weaker}
use Rattle.tf_desk.specs.State.{bytes_now, IsDurable}
use Rattle.tf_desk.proofs.StateLemmas.{bytes_stay, trusts_files, durable_on}
use Rattle.tf_journal.specs.declared.faults.ScanFault.{ScanFault}
use Rattle.tf_journal.specs.declared.scanning.Scanned.{Scanned}
use Rattle.tf_journal.specs.declared.scanning.Scanned.TheVariants as scanned
use Rattle.tf_journal.specs.declared.title.Title.{Title}
use Rattle.tf_journal.specs.Format.{OPEN, recovered, records_from, title_of, LiesAs}
use Rattle.tf_journal.specs.Answers.{IsScanned, RefusesScan}
use Rattle.tf_journal.specs.Reach.{EndsRecords, EndsScanned}
use Rattle.tf_journal.proofs.ReachLemmas.{reach_closed, reach_lies}
use Rattle.tf_journal.proofs.HeaderLemmas.{sixteen}
use Rattle.tf_journal.proofs.scanning.scan.Goals as goal

pub returns-in-Titled-clause-scanned : goal.returns-in-Titled-clause-scanned
returns-in-Titled-clause-scanned g c =
    let S = g.K.Desk.state in
    let old = c.args.desk.now in
    let mid = c.read_start.new.desk in
    let new = c.scan_records.new.desk in
    let title = c.args.title in
    let bytes = bytes_now (S old) in
    λ told.
    let still : IsTrue (S mid).tells = c.scan_records.ensures.rests.falls told in
    let same : bytes_now (S mid) ≡ bytes = bytes_stay (trusts_files c.read_start.ensures.rests still) in
    let size : length bytes ≡ c.in-Ok.size = c.in-Ok.ensures.size still in
    let titled = c.in-Titled.ensures.shows bytes (c.in-Ok.ensures.bytes still) size in
    let ends = c.scan_records.ensures.scanned told (omega (arith, titled.1, ap length same)) in
    MatchResult-weaker c.scan_records.result {P = λ found. EndsScanned title found (bytes_now (S mid))} {P' = λ found. IsScanned found title bytes}
    {Q = λ fault. RefusesScan fault (records_from title (length (bytes_now (S mid))) (bytes_now (S mid)) 17)} {Q' = λ fault. RefusesScan fault (recovered title bytes)}
    ends
    (λ found its. lies_in title bytes (bytes_now (S mid)) found same titled.0 titled.2 its)
    (λ fault refuses. subst (RefusesScan fault) (ap (λ (b : List ℕ). records_from title (length b) b 17) same ∙ sym titled.2) refuses)
  where
    lies_in : (title : Title) (bytes mid : List ℕ) (found : Scanned) → mid ≡ bytes → take 17 bytes ≡ OPEN ∷ title_of title → recovered title bytes ≡ records_from title (length bytes) bytes 17 → EndsScanned title found mid → IsScanned found title bytes
    lies_in title bytes mid scanned.Unborn same prefix whole ends = absurd ends
    lies_in title bytes mid (scanned.Records count end) same prefix whole ends =
        let e : EndsRecords title bytes count end = subst (λ (b : List ℕ). EndsRecords title b count end) same ends in (
          e.held,
          whole ∙ reach_closed title bytes e.held e.place e.reaches e.ends,
          e.many,
          subst (λ (n : ℕ). LiesAs title e.held n bytes) (sym e.behind) (reach_lies title bytes e.held e.place prefix (sixteen title) e.reaches e.ends),
        )

pub returns-in-Titled-clause-durable : goal.returns-in-Titled-clause-durable
returns-in-Titled-clause-durable g c =
    let S = g.K.Desk.state in
    let mid = c.read_start.new.desk in
    let new = c.scan_records.new.desk in
    let kept : IsTrue (S new).tells → IsDurable (S new) = λ told.
    let still : IsTrue (S mid).tells = c.scan_records.ensures.rests.falls told in
    durable_on (trusts_files c.scan_records.ensures.rests told) (c.in-Ok.ensures.durable still) in
    ok_anyway c.scan_records.result (IsTrue (S new).tells → IsDurable (S new)) kept
  where
    ok_anyway : (r : Result Scanned ScanFault) (P : Type 0) → P → OnOk r P
    ok_anyway (Ok n) P p = p
    ok_anyway (Err f) P p = tt
