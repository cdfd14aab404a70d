pub mod InnerLemmas
pub mod LevelLemmas
pub mod RefreshLemmas
