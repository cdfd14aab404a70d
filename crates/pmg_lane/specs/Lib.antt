pub mod Entries
pub mod Joining
pub mod Lanes
pub mod Merged
pub mod Readings
pub mod Waiting
