pub mod GroupLemmas
pub mod LineLemmas
pub mod SpaceLemmas
