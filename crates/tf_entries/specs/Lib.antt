pub mod Plans
pub mod Entries
pub mod Reading
pub mod EntryReading
pub mod Heads
pub mod AtomReading
pub mod PlanReading
pub mod Shown
