mod LaunchLemmas
