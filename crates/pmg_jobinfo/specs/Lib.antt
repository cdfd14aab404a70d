pub mod Expansion
pub mod Jobs
pub mod Procs
pub mod Refusing
pub mod Reserved
pub mod Rules
