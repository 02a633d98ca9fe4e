use Rattle.std.proofs.Common.{ℕ, List, [], Option, unwrap_or, ap}
use Rattle.tf_words.specs.Held.{held_by}
use Rattle.tf_words.proofs.TextLemmas.{found_texts}
use Rattle.tf_words.proofs.given.Given.values.Goals as goal

pub returns-clause-texts : goal.returns-clause-texts
returns-clause-texts c =
    found_texts c.get_strs.result (held_by c.args.self.now.matches c.args.name.now) (ap (λ (texts : Option (List (List ℕ))). unwrap_or texts []) c.get_strs.ensures) (c.args.self.now.texts c.args.name.now)
