use Rattle.std.proofs.Common.{◌≡◌, ◌∙◌, ◌++◌, ◌∷◌, [], List, ℕ, ap}
use Rattle.std.specs.Fmt.{decimal}
use Rattle.tf_report.specs.Lines.{priority_word, job_word, owner_text}
use Rattle.tf_report.proofs.JobLemmas.{on_ok, by_seven}
use Rattle.tf_report.proofs.job_lines.append_job.Goals as goal

pub returns-clause-ok : goal.returns-clause-ok
returns-clause-ok c =
    let job = c.args.job.now in
    let old : List ℕ = c.args.out.now.items in
    let one : c.append.new.out.items ≡ old ++ priority_word job.priority = c.in_ok-append.ensures.ok ∙ ap (λ (w : List ℕ). old ++ w) (c.as_bytes.ensures.value ∙ c.priority_word.ensures) in
    let two : c.append_counted.new.out.items ≡ (old ++ priority_word job.priority) ++ 32 ∷ decimal job.number =
    c.in_ok-append_counted.ensures.ok ∙ ap (λ (t : List ℕ). t ++ 32 ∷ decimal job.number) one in
    let three : c.append_pair.new.out.items ≡ ((old ++ priority_word job.priority) ++ 32 ∷ decimal job.number) ++ 32 ∷ job.id =
    c.in_ok-append_pair.ensures.ok ∙ ap (λ (b : List ℕ). c.append_counted.new.out.items ++ 32 ∷ b) c.bytes.ensures.value ∙ ap (λ (t : List ℕ). t ++ 32 ∷ job.id) two in
    let four : c.append_named.new.out.items ≡ (((old ++ priority_word job.priority) ++ 32 ∷ decimal job.number) ++ 32 ∷ job.id) ++ (32 ∷ job.name ++ 32 ∷ job_word job.state) =
    c.in_ok-append_named.ensures.ok ∙ ap (λ (b : List ℕ). c.append_pair.new.out.items ++ (32 ∷ b ++ 32 ∷ c.job_word.result.now)) c.bytes-2.ensures.value
    ∙ ap (λ (w : List ℕ). c.append_pair.new.out.items ++ (32 ∷ job.name ++ 32 ∷ w)) c.job_word.ensures ∙ ap (λ (t : List ℕ). t ++ (32 ∷ job.name ++ 32 ∷ job_word job.state)) three in
    on_ok c.append_owner.result c.append_owner.ensures.ok
    (λ five. five ∙ ap (λ (t : List ℕ). t ++ (32 ∷ owner_text job.owner ++ 10 ∷ [])) four
    ∙ by_seven old (priority_word job.priority) (32 ∷ decimal job.number) (32 ∷ job.id) (32 ∷ job.name) (32 ∷ job_word job.state) (32 ∷ owner_text job.owner) (10 ∷ []))
