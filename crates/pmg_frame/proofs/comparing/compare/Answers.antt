use Rattle.std.proofs.Common.{sym, ap, ◌∙◌}
use Rattle.std.specs.Cmp.Lexicographic.{slice_cmp, lists_total}
use Rattle.std.proofs.lemmas.Cmp.{tied_itself}
use Rattle.pmg_value.specs.Process.{proc_cmp}
use Rattle.pmg_value.proofs.ProcessOrder.{procs_total}
use Rattle.pmg_frame.proofs.comparing.compare.Goals as goal

pub returns-then-are_one_run : goal.returns-then-are_one_run
returns-then-are_one_run c = sym (tied_itself (lists_total procs_total) c.args.procs.now) ∙ ap (slice_cmp proc_cmp c.args.procs.now) (c.are_one_run.ensures c.if-are_one_run.true)
