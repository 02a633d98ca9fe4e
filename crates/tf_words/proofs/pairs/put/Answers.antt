use Rattle.std.proofs.Common.{◌∙◌, sym, ap}
use Rattle.tf_words.specs.Verbs.{place_of}
use Rattle.tf_words.proofs.PairLemmas.{put_there, put_last}
use Rattle.tf_words.proofs.pairs.put.Goals as goal

pub returns-in-Some : goal.returns-in-Some
returns-in-Some c =
    put_there c.args.bind c.args.sets.now.items c.in-Some.place (ap (place_of c.args.bind.symbol) (sym c.deref.ensures.value) ∙ sym c.in-Some.ensures)

pub returns-in_ok-push-in-None : goal.returns-in_ok-push-in-None
returns-in_ok-push-in-None c =
    c.in_ok-push-in-None.ensures.items ∙ put_last c.args.bind c.args.sets.now.items (ap (place_of c.args.bind.symbol) (sym c.deref.ensures.value) ∙ sym c.in-None.ensures)
