use Rattle.std.proofs.Common.{◌∙◌, ap, length}
use Rattle.std.specs.FinSet as set
use Rattle.std.specs.List.Sorted.{IsBinarySearchResult, IsSearchInRange}
use Rattle.pmg_value.specs.Process.{proc_cmp}
use Rattle.pmg_value.specs.Signatures.{Signature}
use Rattle.pmg_value.proofs.ProcessOrder.{procs_total}
use Rattle.pmg_frame.proofs.Searching.{found_by_search}
use Rattle.pmg_frame.specs.Listed.{listed_in}
use Rattle.pmg_frame.proofs.signature.Signature.contains.Goals as goal

pub returns : goal.returns
returns c =
    let ps = listed_in c.self.inside.participants in
    let q = c.args.process.now in
    let bound : IsSearchInRange c.binary_search.result (length ps) = rw c.as_slice.ensures at c.binary_search.ensures.bound in
    let found : IsBinarySearchResult (λ y. proc_cmp y q) ps c.binary_search.result = rw c.as_slice.ensures at c.binary_search.ensures.position in
    c.is_ok.ensures.value ∙ found_by_search procs_total ps q c.binary_search.result c.self.invariant.rising bound found
    ∙ ap (λ (s : Signature). set.contains s.participants q) c.self.view_is
