use Rattle.std.proofs.Common.{◌≡◌, ◌<◌, Some, length, get_or, sym, ap, ◌∙◌}
use Rattle.std.proofs.lemmas.Option.{slice_get-get_or}
use Rattle.std.specs.FinSet as set
use Rattle.std.specs.List.Sorted.{IsBinarySearchResult, IsSearchInRange}
use Rattle.std.specs.Prelude.{slice_get, is_ok}
use Rattle.pmg_value.specs.Process.{proc_cmp}
use Rattle.pmg_value.specs.InOrder.{in_order}
use Rattle.pmg_value.proofs.ProcessOrder.{procs_total, exact_procs}
use Rattle.pmg_value.proofs.SetOrder.{in_order_rises, from_list-in_order}
use Rattle.pmg_frame.proofs.Among.{run_seen, run_missing}
use Rattle.pmg_frame.proofs.Searching.{found_by_search}
use Rattle.pmg_frame.proofs.local_run_reading.are_participants.Goals as goal

pub returns-in-Err : goal.returns-in-Err
returns-in-Err c =
    let s = c.args.name.now.signature.participants in
    let p = c.args.first.now in
    let listed : c.participants-participants.result.now ≡ in_order s = rw c.signature.ensures at c.participants-participants.ensures.value in
    let bound : IsSearchInRange c.binary_search.result (length (in_order s)) = rw listed at c.binary_search.ensures.bound in
    let found : IsBinarySearchResult (λ y. proc_cmp y p) (in_order s) c.binary_search.result = rw listed at c.binary_search.ensures.position in
    let has = found_by_search procs_total (in_order s) p c.binary_search.result (in_order_rises s) bound found in
    run_missing s p c.args.last c.requires (sym (ap is_ok (sym c.in-Err.is) ∙ has ∙ ap (λ (t : set.FinSet proc_cmp). set.contains t p) (from_list-in_order procs_total exact_procs s)))

pub returns-in-Ok : goal.returns-in-Ok
returns-in-Ok c =
    let s = c.args.name.now.signature.participants in
    let p = c.args.first.now in
    let i = c.in-Ok.index in
    let listed : c.participants-participants.result.now ≡ in_order s = rw c.signature.ensures at c.participants-participants.ensures.value in
    let bound : i < length (in_order s) = rw listed at c.in-Ok.ensures.bound in
    let same : get_or (in_order s) i p ≡ p = exact_procs _ p (rw listed at c.in-Ok.ensures.ok p) in
    let first : slice_get (in_order s) i ≡ Some p = slice_get-get_or (in_order s) i p bound ∙ ap Some same in
    rw (listed, c.number.ensures) at c.stands_at.ensures ∙ run_seen s p c.args.last i c.requires first
