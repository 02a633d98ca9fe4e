pub mod Demo
pub mod Order
