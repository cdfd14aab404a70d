pub mod CallLemmas
pub mod FrameLemmas
