use Rattle.std.proofs.Common.{take}
use Rattle.std.specs.List.{flat_map}
use Rattle.std.specs.Io.KnownBytes.{Appends}
use Rattle.pmg_app.specs.Job.{report_text}
use Rattle.pmg_app.proofs.job.write_reports.Given as goal

-- what was written so far are the texts of the first reports
abbrev pub invariant-loop-report : goal.invariant-loop-report
invariant-loop-report g l =
    Appends (g.W.Write.contents l.fn.writer.writer) (g.W.Write.contents l.writer.writer) (flat_map report_text (take l.report-index l.fn.reports))
