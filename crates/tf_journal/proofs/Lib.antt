pub mod CrashLemmas
pub mod FoundLemmas
pub mod ReachLemmas
pub mod HeaderLemmas
pub mod LieLemmas
pub mod TornLemmas
pub mod BirthLemmas
pub mod AppendLemmas
pub mod DraftLemmas
pub mod PlaceLemmas
pub mod PathLemmas
pub mod OpenLemmas
pub mod UnbornLemmas
pub mod ReadingLemmas
mod WindowLemmas
