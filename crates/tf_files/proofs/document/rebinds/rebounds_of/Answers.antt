use Rattle.std.proofs.Common.{◌≡◌, ◌∙◌, ◌∷◌, ap, sym}
use Rattle.toml.specs.View.{view, members_view}
use Rattle.tf_files.specs.document.Places.{place_of}
use Rattle.tf_files.specs.document.Tasks.{rebound_form, rebounds_of}
use Rattle.tf_files.proofs.ReadingLemmas.{after, after_one}
use Rattle.tf_files.proofs.document.rebinds.rebounds_of.Goals as goal

pub loop-key-preserved : goal.loop-key-preserved
loop-key-preserved c =
    let goes : c.loop-key.key-iterator ≡ (c.in-Some.key.now, c.in-Some.value.now) ∷ c.next.new.self = c.in-Some.ensures.steps in
    rw c.in_ok-push.ensures.items
    (after_one c.loop-key.args.items c.in_ok-rebound_form.field-0 (rebound_form (place_of c.args.field.now) c.as_str.result.now (view c.in-Some.value.now)) (rebounds_of (place_of c.args.field.now) (members_view c.next.new.self)) c.in_ok-rebound_form.ensures.ok
    ∙ rw (c.as_str.ensures.value) (ap (λ entries. after c.loop-key.args.items (rebounds_of (place_of c.args.field.now) (members_view entries))) (sym goes)) ∙ c.loop-key.invariant)
