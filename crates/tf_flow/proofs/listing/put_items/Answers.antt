use Rattle.std.proofs.Common.{map, refl}
use Rattle.tf_flow.specs.Listing.{shown_item}
use Rattle.tf_flow.proofs.ListingLemmas.{put_level}
use Rattle.tf_flow.proofs.listing.put_items.Goals as goal

pub returns : goal.returns
returns c = put_level c.args.levels.now.items c.args.number c.index_mut.result.now (record { flow = c.index_mut.result.now.flow; retry = c.index_mut.result.now.retry; items = c.args.items; number = c.index_mut.result.now.number }) c.index_mut.result.now (map shown_item c.args.items.items) c.requires c.index_mut.ensures.value refl
