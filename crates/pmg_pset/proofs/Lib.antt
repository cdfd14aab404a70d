pub mod MeasureLemmas
pub mod MemberLemmas
pub mod OrderLemmas
pub mod RuleLemmas
pub mod SetLemmas
