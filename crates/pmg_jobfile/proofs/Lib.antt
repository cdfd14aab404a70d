pub mod ReadLemmas
pub mod JobLemmas
