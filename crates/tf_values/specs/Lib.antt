pub mod Text
pub mod Scalars
pub mod Value
pub mod Growth
pub mod Quote
pub mod Word
