use Rattle.std.proofs.Common.{◌≡◌, ℕ, List, ap, ◌∙◌, subst}
use Rattle.tf_wire.specs.Stream.{BeginsWithBadLength, KeptFrames}
use Rattle.tf_wire.specs.Fronts.{IsFront}
use Rattle.tf_wire.proofs.KeepingLemmas.{with_piece, fed_ok, fed_refused}
use Rattle.tf_wire.proofs.StreamLemmas.{front_not_bad}
use Rattle.tf_wire.proofs.frames.Frames.feed.Goals as goal

pub returns : goal.returns
returns c =
    let old : KeptFrames = record { waiting = c.self.inside.waiting; rest = c.self.inside.rest.items; place = c.self.inside.place } in
    let seen : old ≡ c.args.self.now = c.self.view_is in
    let found : IsFront c.self.inside.rest.items c.front_of.result = subst (λ (bytes : List ℕ). IsFront bytes c.front_of.result) c.deref.ensures.value c.front_of.ensures in
    let whole : ¬ (BeginsWithBadLength c.args.self.now.rest) = subst (λ (kept : KeptFrames). ¬ (BeginsWithBadLength kept.rest)) seen (front_not_bad c.self.inside.rest.items c.front_of.result found c.in_default.not-BadLength) in
    let mid : KeptFrames = record { waiting = c.self.inside.waiting; rest = c.extend_from_slice.new.self.items; place = c.self.inside.place } in
    let is : mid ≡ with_piece c.args.self.now c.args.piece.now =
    ap (λ (rest : List ℕ). record { waiting = c.self.inside.waiting; rest = rest; place = c.self.inside.place }) c.in_ok-extend_from_slice.ensures.items ∙ ap (λ (kept : KeptFrames). with_piece kept c.args.piece.now) seen in
    record {
      ok = fed_ok c.cut.result c.args.self.now mid c.cut.new.self c.args.piece.now whole is c.cut.ensures.cut c.cut.ensures.ok;
      refused = fed_refused c.cut.result c.args.self.now mid c.cut.new.self c.args.piece.now whole is c.cut.ensures.cut c.cut.ensures.here;
      here = c.cut.ensures.here;
      again = λ bad. absurd (whole bad);
    }
