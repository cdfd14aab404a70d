pub mod Changes
pub mod Members
pub mod Refusing
pub mod Rules
pub mod Sets
