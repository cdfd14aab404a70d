pub mod Gets
pub mod Views
