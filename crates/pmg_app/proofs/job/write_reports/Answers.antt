use Rattle.std.proofs.Common.{rules, arith, ◌<◌, ◌≤◌, length, ap, subst}
use Rattle.std.specs.Io.KnownBytes.{Appends}
use Rattle.pmg_value.specs.Written.{AppendsFront}
use Rattle.pmg_value.proofs.FlatLemmas.{flat_front, flat_more, flat_all}
use Rattle.pmg_value.proofs.WrittenLemmas.{front_of_all}
use Rattle.pmg_app.specs.Job.{report_text, reports_text}
use Rattle.pmg_app.proofs.job.write_reports.Goals as goal

pub returns-in_err-write_report-clause-text : goal.returns-in_err-write_report-clause-text
unfolding reports_text
returns-in_err-write_report-clause-text g c =
    let lt : c.loop-report.report-index < length c.args.reports.now = omega (arith, c.loop-report-test.true) in
    let r = c.report-item.result in
    let front = subst (AppendsFront _ _) (ap report_text c.report-item.is) c.in_err-write_report.ensures.text.0 in
    (flat_front report_text _ _ _ c.args.reports.now c.loop-report.report-index r lt front c.loop-report.invariant, search rules)

pub loop-report-preserved : goal.loop-report-preserved
loop-report-preserved g c =
    let lt : c.loop-report.report-index < length c.args.reports.now = omega (arith, c.loop-report-test.true) in
    let r = c.report-item.result in
    let next = subst (Appends _ _) (ap report_text c.report-item.is) c.in_ok-write_report.ensures.text.1 in
    flat_more report_text _ _ _ c.args.reports.now c.loop-report.report-index r lt next c.loop-report.invariant

pub returns-clause-text : goal.returns-clause-text
unfolding reports_text
returns-clause-text g c =
    let past : length c.args.reports.now ≤ c.loop-report.report-index = omega (arith, c.loop-report-test.false) in
    let all = flat_all report_text _ _ c.args.reports.now c.loop-report.report-index past c.loop-report.invariant in
    (front_of_all _ _ _ all, all)
