pub mod Costs
pub mod Owed
pub mod Short
pub mod Kept
