pub mod Levels
pub mod Parked
pub mod Refreshes
pub mod Requests
