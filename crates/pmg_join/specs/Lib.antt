pub mod Joins
pub mod Laws
pub mod Maps
pub mod Numbers
pub mod Pairs
pub mod Places
pub mod Ranges
pub mod Sets
