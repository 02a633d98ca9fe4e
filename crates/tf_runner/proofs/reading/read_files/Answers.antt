use Rattle.std.proofs.Common.{rules, ◌≡◌, ◌<◌, ◌+◌, ◌∙◌, ℕ, suc, Some, List, length, take, sym, ap, subst, arith}
use Rattle.std.specs.Prelude.{slice_get}
use Rattle.std.specs.List.{AllByRecursion}
use Rattle.std.proofs.Math.Seq.{take-length}
use Rattle.std.proofs.lemmas.Option.{slice_get-get_or}
use Rattle.tf_report.specs.declared.job_lines.JobLine.{JobLine}
use Rattle.tf_runner.specs.Reading.{HasLineFile}
use Rattle.tf_runner.proofs.ReadLemmas.{have_files, lines_more}
use Rattle.tf_runner.proofs.reading.read_files.Goals as goal

pub loop-line-preserved : goal.loop-line-preserved
loop-line-preserved g c =
    let i = c.loop-line.line-index in
    let lines : List JobLine = c.deref-line-items.result.now in
    let line : JobLine = c.line-item.result in
    let past = c.args.board.now.past in
    let new = c.read_job.new.files.items in
    let inside : i < length lines = omega arith in
    let at : slice_get lines i ≡ Some line = slice_get-get_or lines i line inside ∙ ap (λ (l : JobLine). Some l) (sym c.line-item.is) in
    let next : i + 1 ≡ suc i = omega arith in
    record {
      no_fall = search rules;
      read = search rules;
      lines = subst (λ (n : ℕ). AllByRecursion (HasLineFile past new) (take n lines)) (sym next)
          (lines_more past c.loop-line.files.items new lines i line at c.read_job.ensures.kept c.loop-line.invariant.lines c.in_ok-read_job.ensures.has);
    }

pub returns-clause-all : goal.returns-clause-all
returns-clause-all g c =
    let lines : List JobLine = c.deref-line-items.result.now in
    let past = c.args.board.now.past in
    let files = c.loop-line.files.items in
    let last : c.loop-line.line-index ≡ length lines = omega arith in
    let whole : take c.loop-line.line-index lines ≡ lines = ap (λ (n : ℕ). take n lines) last ∙ take-length lines in
    have_files past files (subst (λ (l : List JobLine). AllByRecursion (HasLineFile past files) l) (whole ∙ c.deref-line-items.ensures.value ∙ c.in-Ok.ensures) c.loop-line.invariant.lines)
