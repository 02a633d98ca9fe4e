pub mod Elements
pub mod Whole
pub mod Marks
pub mod Reading
