use Rattle.std.proofs.Common.{sym, ◌∙◌, ap, map, option_map}
use Rattle.tf_words.specs.Held.{held_by}
use Rattle.tf_words.specs.Verbs.{form_of}
use Rattle.tf_words.proofs.TextLemmas.{said_texts}
use Rattle.tf_words.proofs.given.read_by.Goals as goal

pub invariant_of-result : goal.invariant_of-result
invariant_of-result c = record {
  texts = λ name. said_texts (map form_of c.args.keys.now) c.args.words.now (held_by c.in-Some.matches) name c.requires.filled (ap (option_map held_by) (sym c.in-Some.is) ∙ c.in_ok-matches.ensures);
}
