pub mod Board
pub mod Reading
pub mod Seeking
pub mod Does
