pub mod FreeLemmas
pub mod MeanLemmas
pub mod ReadLemmas
pub mod CallLemmas
pub mod CommandLemmas
pub mod RunLemmas
