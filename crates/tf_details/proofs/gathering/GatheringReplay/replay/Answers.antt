use Rattle.std.proofs.Common.{◌≡◌, ◌<◌, ◌^◌, ◌++◌, ◌∙◌, ap, subst}
use Rattle.tf_entries.specs.Heads.{IsHead, head_bytes}
use Rattle.tf_entries.specs.declared.heads.Head.{Head}
use Rattle.tf_entries.specs.declared.heads.Head.TheVariants as head
use Rattle.tf_details.proofs.ReadingLemmas.{ok_so, gathered_read, gathered_detail, gathered_entry, refused_detail, refused_entry}
use Rattle.tf_details.proofs.gathering.GatheringReplay.replay.Goals as goal

pub returns-in-Some-Detail-default-clause-replayed : goal.returns-in-Some-Detail-default-clause-replayed
returns-in-Some-Detail-default-clause-replayed g c =
    let d = c.in-Some-Detail-default in
    let split : c.args.body.now ≡ head_bytes head.Detail ++ d.form.now = d.ensures.1 ∙ ap (λ (h : Head). head_bytes h ++ d.form.now) d.field-0-0-is in
    ok_so c.read_detail.result (λ read before r. gathered_detail g.H.Keeps.keeps c.args.self.now c.read_detail.new.self before c.args.body.now d.form.now r split read) c.read_detail.ensures.read

pub returns-in-Some-Detail-default-clause-refused : goal.returns-in-Some-Detail-default-clause-refused
returns-in-Some-Detail-default-clause-refused g c = λ is before r.
    let d = c.in-Some-Detail-default in
    let split : c.args.body.now ≡ head_bytes head.Detail ++ d.form.now = d.ensures.1 ∙ ap (λ (h : Head). head_bytes h ++ d.form.now) d.field-0-0-is in
    refused_detail c.args.self.now.details before c.args.body.now d.form.now (gathered_read g.H.Keeps.keeps c.args.self.now before r) split (c.read_detail.ensures.refused is)

pub returns-in-Some-Entry-default-clause-replayed : goal.returns-in-Some-Entry-default-clause-replayed
returns-in-Some-Entry-default-clause-replayed g c =
    let d = c.in-Some-Entry-default in
    let split : c.args.body.now ≡ head_bytes (head.Entry d.number) ++ d.form.now = d.ensures.1 ∙ ap (λ (h : Head). head_bytes h ++ d.form.now) d.field-0-0-is in
    ok_so c.read_entry.result (λ read before r. gathered_entry g.H.Keeps.keeps c.args.self.now c.read_entry.new.self before c.args.body.now d.form.now d.number r split read) c.read_entry.ensures.read

pub returns-in-Some-Entry-default-clause-refused : goal.returns-in-Some-Entry-default-clause-refused
returns-in-Some-Entry-default-clause-refused g c = λ is before r.
    let d = c.in-Some-Entry-default in
    let split : c.args.body.now ≡ head_bytes (head.Entry d.number) ++ d.form.now = d.ensures.1 ∙ ap (λ (h : Head). head_bytes h ++ d.form.now) d.field-0-0-is in
    let short : d.number < 2 ^ 16 = subst IsHead d.field-0-0-is d.ensures.0 in
    refused_entry c.args.self.now.details before c.args.body.now d.form.now d.number (gathered_read g.H.Keeps.keeps c.args.self.now before r) short split (c.read_entry.ensures.refused is)
