pub mod Migrates
pub mod Reading
pub mod Writing
