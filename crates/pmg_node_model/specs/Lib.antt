pub mod Holdings
pub mod Acts
pub mod Sending
pub mod Choosing
pub mod Kept
pub mod Fitting
pub mod NodeLaws
pub mod SendingRules
