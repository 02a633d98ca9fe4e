pub mod Numbered
pub mod Passes
pub mod Order
pub mod Steps
pub mod Seats
pub mod Tally
