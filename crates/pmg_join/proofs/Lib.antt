pub mod ManyJoined
pub mod MapSteps
pub mod MapsJoined
pub mod RangeLemmas
pub mod RangeSteps
pub mod SetSteps
