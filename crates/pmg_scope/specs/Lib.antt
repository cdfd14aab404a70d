pub mod Cached
pub mod CacheRules
pub mod Examples
pub mod Rules
pub mod Scopes
pub mod Scripts
pub mod Sealing
pub mod Rows
