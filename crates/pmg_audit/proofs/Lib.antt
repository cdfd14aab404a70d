mod PutSteps
mod ActSteps
mod Weaving
mod OneRun
pub mod GoingSteps
pub mod DueLemmas
pub mod SameActs
pub mod SayingLemmas
pub mod LaneLemmas
pub mod SendLemmas
pub mod StepLemmas
pub mod JournalSteps
pub mod ReplaySteps
pub mod NodeSteps
pub mod EndSteps
pub mod AuditLemmas
