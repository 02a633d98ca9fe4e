mod CrewLemmas
mod LinkLemmas
mod RemainingLemmas
mod SocketLemmas
mod FolderLemmas
pub mod TellsLemmas
pub mod TranscriptLemmas
