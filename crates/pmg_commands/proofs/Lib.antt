pub mod CommandLemmas
pub mod MergeLemmas
pub mod TextLemmas
pub mod LineLemmas
pub mod RunLemmas
