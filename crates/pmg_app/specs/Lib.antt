pub mod Job
pub mod Replay
