pub mod ReplayLemmas
mod NoteLemmas
