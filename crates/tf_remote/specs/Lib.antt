pub mod Requests
pub mod Received
pub mod Replies
pub mod Stopped
pub mod Asking
pub mod Allowed
pub mod FarLaws
