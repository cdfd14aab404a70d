pub mod Entries
pub mod Appending
