pub mod Crossing
mod RunLemmas
