pub mod PlanLemmas
pub mod TriesLemmas
pub mod WholeLemmas
pub mod CountLemmas
pub mod ReadinessLemmas
pub mod CaseLemmas
pub mod FirstLemmas
pub mod EntryLemmas
pub mod DecidedLemmas
pub mod BestLemmas
pub mod EndLemmas
pub mod RuleLemmas
pub mod AttemptLemmas
pub mod ChangeLemmas
pub mod LaterLemmas
pub mod RecordLemmas
pub mod MachineLemmas
pub mod LeftLemmas
pub mod Rows
mod WorkLemmas
mod ListedLemmas
mod IntervalLemmas
mod SpanLemmas
mod ExtentLemmas
