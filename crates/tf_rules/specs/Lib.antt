pub mod Answers
pub mod Flows
pub mod Resolutions
pub mod Seen
pub mod Deciders
