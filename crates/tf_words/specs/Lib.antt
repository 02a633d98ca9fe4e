pub mod Verbs
pub mod Held
pub mod Table
pub mod Words
