pub mod Fields
pub mod Grammar
pub mod Many
pub mod Reading
pub mod Spelling
pub use Rattle.pmg_value.specs.Names
pub use Rattle.pmg_value.specs.Process
pub use Rattle.pmg_value.specs.Spelling as Values
