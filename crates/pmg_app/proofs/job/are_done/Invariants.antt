use Rattle.std.proofs.Common.{◌≡◌, drop}
use Rattle.std.specs.List.{list_all}
use Rattle.pmg_app.specs.Job.{is_done}
use Rattle.pmg_app.proofs.job.are_done.Given as goal

-- it is for the reports that are left to say
abbrev pub invariant-loop-report : goal.invariant-loop-report
invariant-loop-report l = list_all is_done l.reports ≡ list_all is_done (drop l.report-index l.reports)
