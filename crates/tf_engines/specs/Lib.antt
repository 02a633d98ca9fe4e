pub mod Runs
pub mod Asked
pub mod Shared
pub mod Working
pub mod Taking
