pub mod Described
pub mod Reading
