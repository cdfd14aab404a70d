use Rattle.pmg_group_model.proofs.ExampleGet as ending
use Rattle.pmg_group_model.proofs.ExampleMeeting as meeting
use Rattle.pmg_group_model.proofs.ExampleWaiting as waiting
use Rattle.pmg_group_model.proofs.ExampleRefreshing as refreshing
use Rattle.pmg_group_model.proofs.ExampleRounds as rounds
use Rattle.pmg_group_model.proofs.laws.worked_runs.Goals as goal

pub returns : goal.returns
returns c = record {
  run_of_two = ending.run_of_two;
  run_of_meeting = meeting.run_of_meeting;
  run_of_waiting = waiting.run_of_waiting;
  run_of_refreshing = refreshing.run_of_refreshing;
  run_of_three = rounds.run_of_three;
}
