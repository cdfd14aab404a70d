-- The order of processes is total, and processes that compare alike are one.
use Rattle.std.proofs.Common.{ℕ, List, ap}
use Rattle.std.specs.Ordering.{nat_cmp}
use Rattle.std.specs.Cmp.{IsTotalOrder}
use Rattle.std.specs.Cmp.Lexicographic.{slice_cmp, nat_list_cmp_total}
use Rattle.std.proofs.lemmas.Cmp.{then_total, on_total, nat_cmp_total}
use Rattle.std.proofs.lemmas.Map.Lookups.{CmpEqualImpliesEq, exact_pairs, exact_bytes, exact_unsigned}
use Rattle.pmg_value.specs.Process.{proc_cmp}

pub procs_total : IsTotalOrder proc_cmp
procs_total = then_total (on_total (λ p. p.nspace) nat_list_cmp_total) (on_total (λ p. p.rank) nat_cmp_total)

pub exact_procs : CmpEqualImpliesEq proc_cmp
exact_procs p q h =
    let pair = exact_pairs (slice_cmp nat_cmp) nat_cmp exact_bytes exact_unsigned (p.nspace, p.rank) (q.nspace, q.rank) h in
    ap (λ (x : List ℕ × ℕ). record { nspace = x.0; rank = x.1 }) pair
