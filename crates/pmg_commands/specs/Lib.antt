pub mod CommandLine
pub mod Dump
pub mod Merge
pub mod Output
pub mod Text
