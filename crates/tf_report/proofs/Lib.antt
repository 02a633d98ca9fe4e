pub mod LineLemmas
pub mod ReportLemmas
pub mod JobLemmas
pub mod FaultLemmas
pub mod ClosingLemmas
