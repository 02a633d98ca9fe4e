use Rattle.std.proofs.Common.{◌≡◌, ◌∙◌, ℕ, List, refl, ap, slice_index_or}
use Rattle.tf_links.proofs.NumberLemmas.{word_over}
use Rattle.tf_links.proofs.bits.Bits.add_numbers_of_word.Goals as goal

pub returns-in-None : goal.returns-in-None
returns-in-None c =
    let read : c.index-word.result.now ≡ slice_index_or c.args.self.now c.args.i c.index-word.result.now =
    c.index-word.ensures ∙ ap (λ (words : List ℕ). slice_index_or words c.args.i c.index-word.result.now) c.self.view_is in
    word_over c.args.self.now c.loop-bit.numbers.items c.args.i c.loop-bit.bit c.index-word.result.now c.requires.within read c.loop-bit.invariant.so_far c.loop-bit.invariant.room (c.in-None.ensures.none refl)
