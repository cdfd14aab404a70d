pub mod Worlds
pub mod Forgetting
pub mod Laws
pub mod Refreshes
pub mod Lawful
pub mod Turns
pub mod Examples
