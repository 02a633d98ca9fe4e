pub mod NameLemmas
pub mod FlowLemmas
pub mod HomeLemmas
pub mod ResolutionLemmas
pub mod ValueLemmas
pub mod SeenLemmas
pub mod DepthLemmas
pub mod NeighborLemmas
