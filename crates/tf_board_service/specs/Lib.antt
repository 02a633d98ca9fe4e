pub mod Sessions
pub mod Printing
pub mod Serving
pub mod Turns
pub mod Turning
pub mod Served
