use Rattle.std.proofs.Common.{rules}
use Rattle.std.proofs.lemmas.Fn.{always_returns_same}
use Rattle.pmg_frame.specs.declared.local.Local.{Local}
use Rattle.pmg_value.specs.Process.{proc_cmp}
use Rattle.pmg_fence.proofs.SearchLemmas.{line_found, line_nowhere}
use Rattle.pmg_fence.proofs.headers.told_entry.Goals as goal

pub returns-in-Ok : goal.returns-in-Ok
returns-in-Ok c =
    let found = c.binary_search_by.ensures.position (λ (l : Local). proc_cmp l.proc c.args.proc.now) (always_returns_same _ _ _ (λ a r g called. search rules)) in
    line_found c.args.proc.now c.args.locals.now c.in-Ok.index c.index-locals-index.result c.requires (rw c.in-Ok.is at c.binary_search_by.ensures.bound) (rw c.in-Ok.is at found) c.index-locals-index.is

pub returns-in-Err : goal.returns-in-Err
returns-in-Err c =
    let found = c.binary_search_by.ensures.position (λ (l : Local). proc_cmp l.proc c.args.proc.now) (always_returns_same _ _ _ (λ a r g called. search rules)) in
    line_nowhere c.args.proc.now c.args.locals.now c.in-Err.field-0 c.requires (rw c.in-Err.is at found)
