pub mod Stream
pub mod Fronts
pub mod Grammar
pub mod Limits
