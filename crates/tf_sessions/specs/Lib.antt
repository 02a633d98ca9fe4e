pub mod Receiving
pub mod Talks
