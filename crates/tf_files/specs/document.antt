-- what the tables of a flow file spell
pub mod Reading
pub mod Tasks
pub mod Places
