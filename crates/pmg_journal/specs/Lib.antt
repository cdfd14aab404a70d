pub mod Replays
pub mod Journals
pub mod Transcripts
pub mod Calling
pub mod Records
pub mod Knowing
