pub mod Words
pub mod Events
pub mod Names
pub mod Verdicts
pub mod Outcomes
pub mod Starts
pub mod Kept
pub mod Progress
