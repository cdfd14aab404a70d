mod RunForms
pub mod ToldScripts
pub mod Naming
pub mod Speaking
pub mod Steps
pub mod Starting
pub mod Runs
pub mod Leaving
pub mod Seeing
pub mod Replied
pub mod Hearing
pub mod Rising
pub mod StepView
pub mod Counting
pub mod Refreshed
pub mod Turning
pub mod Turned
pub mod Keeping
pub mod RunLemmas
pub mod ExampleGroup
pub mod ExampleTables
pub mod ExampleNodes
pub mod ExampleActs
pub mod ExampleOwed
pub mod ExampleSteps
pub mod ExampleRun
pub mod ExampleGet
pub mod ExampleCommit
pub mod ExampleMeeting
pub mod ExampleWaiting
mod ExampleRefreshing
pub mod ExampleLone
pub mod ExampleEntering
mod ExampleRounds
