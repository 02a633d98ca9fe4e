pub mod Refusing
pub mod Replaying
