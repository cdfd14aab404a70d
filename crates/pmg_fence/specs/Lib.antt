pub mod Entering
pub mod Tables
pub mod Codes
pub mod Changes
pub mod Rules
pub mod Kept
pub mod TakenBack
