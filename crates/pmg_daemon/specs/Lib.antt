pub mod Calls
pub mod Arguments
pub mod Codes
pub mod Daemons
pub mod Frames
pub mod Opening
