pub mod Graphs
pub mod Bits
pub mod Links
pub mod Layers
