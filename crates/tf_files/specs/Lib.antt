pub mod document
pub mod FlowFile
pub mod Pairs
