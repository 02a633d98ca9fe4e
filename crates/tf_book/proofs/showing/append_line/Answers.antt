use Rattle.std.proofs.Common.{◌≡◌, ◌∙◌, ◌++◌, ap, sym}
use Rattle.std.specs.Prelude.{Result, Ok, Err, OnOk}
use Rattle.tf_states.specs.declared.record.Entry.{Entry}
use Rattle.tf_entries.specs.Entries.{entry_bytes}
use Rattle.tf_model.specs.Plan.{outline_of}
use Rattle.tf_report.specs.Lines.{line}
use Rattle.tf_details.specs.Elements.{IsEntryOf}
use Rattle.tf_book.proofs.showing.append_line.Goals as goal

ok_so : {A B : Type 0} (r : Result A B) (P Q : Type 0) → (P → Q) → OnOk r P → OnOk r Q
ok_so (Ok u) P Q follows is = follows is
ok_so (Err h) P Q follows is = tt

pub returns-in-Ok : goal.returns-in-Ok
returns-in-Ok c =
    ok_so c.line-result.result (c.line-result.new.out.items ≡ c.args.out.now.items ++ line (outline_of c.args.plan.now) c.args.number c.in-Ok.entry)
    ((e : Entry) → IsEntryOf c.args.plan.now e → entry_bytes e ≡ c.args.body.now → c.line-result.new.out.items ≡ c.args.out.now.items ++ line (outline_of c.args.plan.now) c.args.number e)
    (λ is e is_entry form. is ∙ ap (λ (x : Entry). c.args.out.now.items ++ line (outline_of c.args.plan.now) c.args.number x) (sym (c.entry_has_one_form.ensures.one _ _ e c.in-Ok.entry is_entry c.in-Ok.ensures.ok.0 (form ∙ sym c.in-Ok.ensures.ok.1))))
    c.line-result.ensures.ok
