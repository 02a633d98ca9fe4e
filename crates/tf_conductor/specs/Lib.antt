pub mod Rounds
pub mod Conducting
pub mod Working
pub mod Conducted
