use Rattle.std.proofs.Common.{◌≡◌, ℕ, List, Some, subst, ◌∙◌}
use Rattle.std.proofs.lemmas.Str.{IsUtf8-string_bytes}
use Rattle.std.specs.Prelude.{string_bytes}
use Rattle.serde_json.specs.View.{view}
use Rattle.tf_wire.specs.Grammar.{message_of}
use Rattle.tf_wire.proofs.MessageLemmas.{utf8_message}
use Rattle.tf_wire.proofs.printing.print_message.Goals as goal

pub returns-clause-back : goal.returns-clause-back
returns-clause-back c = λ shallow.
    subst (λ (bytes : List ℕ). message_of bytes ≡ Some (view c.args.message.now)) (c.in_ok-text.ensures.text c.requires.no_float)
    (utf8_message (string_bytes c.in_ok-text.text) (IsUtf8-string_bytes c.in_ok-text.text) ∙ c.in_ok-text.ensures.reads_back shallow)
