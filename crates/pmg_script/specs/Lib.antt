pub mod Lines
pub mod Fields
pub mod Scripts
pub mod Reading
pub mod Replays
