use Rattle.std.proofs.Common.{◌∙◌, ◌<◌, sym, ap, ℕ, List, length, slice_index_or}
use Rattle.tf_numbers.specs.Numbers.{has_number}
use Rattle.tf_links.proofs.ReachLemmas.{reaching_more, reaching_all, pivot_within, row_width, read_same, kept_more}
use Rattle.tf_links.proofs.links.Links.reach.Goals as goal

pub pass_pivot-requires-clause-wide : goal.pass_pivot-requires-clause-wide
pass_pivot-requires-clause-wide c =
    let within : slice_index_or c.deref-pivot-items.result.now c.loop-pivot.pivot-index 0 < c.args.self.now.count =
    pivot_within c.deref-pivot-items.result.now c.args.self.now.count c.loop-pivot.pivot-index (λ k on. c.in_ok-pivots.ensures.within k (ap (λ (xs : List ℕ). has_number xs k) (sym c.deref-pivot-items.ensures.value) ∙ on)) c.loop-pivot-test.true in
    ap length c.in_ok-through.ensures ∙ row_width c.args.self.now.count c.loop-pivot.rows.items (slice_index_or c.deref-pivot-items.result.now c.loop-pivot.pivot-index 0) c.index.result.now c.loop-pivot.invariant.reaching.square within c.index.ensures

pub stays_kept-is_kept-requires : goal.stays_kept-is_kept-requires
stays_kept-is_kept-requires c =
    let within : slice_index_or c.deref-pivot-items.result.now c.loop-pivot.pivot-index 0 < c.args.self.now.count =
    pivot_within c.deref-pivot-items.result.now c.args.self.now.count c.loop-pivot.pivot-index (λ k on. c.in_ok-pivots.ensures.within k (ap (λ (xs : List ℕ). has_number xs k) (sym c.deref-pivot-items.ensures.value) ∙ on)) c.loop-pivot-test.true in
    record {
      wide = ap length c.in_ok-through.ensures ∙ (row_width c.args.self.now.count c.loop-pivot.rows.items (slice_index_or c.deref-pivot-items.result.now c.loop-pivot.pivot-index 0) c.index.result.now c.loop-pivot.invariant.reaching.square within c.index.ensures
          ∙ (sym c.loop-pivot.invariant.width ∙ sym c.insert.ensures.room));
    }

pub loop-pivot-preserved : goal.loop-pivot-preserved
loop-pivot-preserved c =
    let within : slice_index_or c.deref-pivot-items.result.now c.loop-pivot.pivot-index 0 < c.args.self.now.count =
    pivot_within c.deref-pivot-items.result.now c.args.self.now.count c.loop-pivot.pivot-index (λ k on. c.in_ok-pivots.ensures.within k (ap (λ (xs : List ℕ). has_number xs k) (sym c.deref-pivot-items.ensures.value) ∙ on)) c.loop-pivot-test.true in
    record {
      reaching = reaching_more c.args.self.now c.loop-pivot.rows.items c.pass_pivot.new.rows.items c.deref-pivot-items.result.now c.loop-pivot.pivot-index c.in_ok-through.through c.loop-pivot.invariant.reaching c.loop-pivot-test.true within
          (read_same c.loop-pivot.rows.items (slice_index_or c.deref-pivot-items.result.now c.loop-pivot.pivot-index 0) c.in_ok-through.through c.index.result.now c.in_ok-through.ensures c.index.ensures)
          c.in_ok-pass_pivot.ensures.square c.in_ok-pass_pivot.ensures.more;
      width = c.insert.ensures.room ∙ c.loop-pivot.invariant.width;
      kept = λ on. kept_more c.args.self.now.rows c.loop-pivot.rows.items c.pass_pivot.new.rows.items c.loop-pivot.passed c.insert.new.self c.in_ok-through.through (slice_index_or c.deref-pivot-items.result.now c.loop-pivot.pivot-index 0)
          (c.loop-pivot.invariant.kept (c.stays_kept-is_kept.ensures.before on)) c.insert.ensures.set c.in_ok-pass_pivot.ensures.more (c.stays_kept-is_kept.ensures.within on);
    }

pub returns : goal.returns
returns c = reaching_all c.args.self.now c.loop-pivot.rows.items c.deref-pivot-items.result.now c.loop-pivot.pivot-index c.loop-pivot.invariant.reaching c.loop-pivot-test.false
    (λ k below. ap (λ (xs : List ℕ). has_number xs k) c.deref-pivot-items.ensures.value ∙ c.in_ok-pivots.ensures.all k below)
