pub mod CacheLaws
pub mod ScriptLaws
pub mod SealingLaws
pub mod TableLemmas
pub mod SizeLemmas
pub mod SameRows
pub mod SumLemmas
