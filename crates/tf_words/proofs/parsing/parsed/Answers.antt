use Rattle.std.proofs.Common.{◌∙◌, map}
use Rattle.clap.specs.Words.{kind_of}
use Rattle.tf_words.specs.Verbs.{form_of}
use Rattle.tf_words.proofs.FoundLemmas.{read_as_said, refused_as_said}
use Rattle.tf_words.proofs.parsing.parsed.Goals as goal

pub returns-in-Ok : goal.returns-in-Ok
returns-in-Ok c =
    read_as_said (map form_of c.args.keys.now) c.args.words.now c.requires.named c.requires.filled _ c.in-Ok.matches c.in_ok-command.ensures c.in-Ok.ensures.kinds c.in-Ok.ensures.matches

pub returns : goal.returns
returns c =
    refused_as_said (map form_of c.args.keys.now) c.args.words.now c.requires.named c.requires.filled _ (kind_of c.in-Err.error) c.in_ok-command.ensures
    (λ memory. c.in_default.not-OutOfMemory (c.kind.ensures ∙ memory)) c.in-Err.ensures.kinds
