pub mod Caching
pub mod OwnKeys
