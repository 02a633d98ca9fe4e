pub mod Asking
pub mod Messages
pub mod Books
pub mod Behaviour
pub mod Opened
pub mod Runs
pub mod Begun
pub mod Crews
