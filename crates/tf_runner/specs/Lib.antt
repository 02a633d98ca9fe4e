pub mod Conducts
pub mod Reading
pub mod Working
