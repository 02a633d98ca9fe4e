pub mod CallLemmas
pub mod AskLemmas
pub mod ShareLemmas
pub mod HaltLemmas
