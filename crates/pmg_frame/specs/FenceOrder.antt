-- The order of signatures and of fences' names.
use Rattle.std.specs.Prelude.{◌≡◌}
use Rattle.std.specs.Cmp.{IsTotalOrder, then_total, on_total, nat_cmp_total, bool_cmp_total}
use Rattle.std.specs.Cmp.Lexicographic.{slice_cmp, lists_total}
use Rattle.std.specs.Ordering.{nat_cmp, bool_cmp, on, then_cmp}
use Rattle.std.specs.declared.cmp.Ordering.{Ordering}
use Rattle.std.specs.declared.cmp.Ordering.TheVariants.{Equal}
use Rattle.pmg_value.specs.Process.{proc_cmp}
use Rattle.pmg_value.specs.Signatures.{Signature, FenceName}
use Rattle.pmg_value.proofs.ProcessOrder.{procs_total}
use Rattle.pmg_value.specs.InOrder.{in_order}

-- the order by the participants in their order, then by whether data is collected
abbrev pub signature_cmp : Signature → Signature → Ordering
signature_cmp = then_cmp (on (λ s. in_order s.participants) (slice_cmp proc_cmp)) (on (λ s. s.collect) bool_cmp)

-- the order by the signature, then by the instance
abbrev pub name_cmp : FenceName → FenceName → Ordering
name_cmp = then_cmp (on (λ f. f.signature) signature_cmp) (on (λ f. f.instance) nat_cmp)

-- these orders are total
pub signature_total : IsTotalOrder signature_cmp
signature_total = then_total (on_total (λ s. in_order s.participants) (lists_total procs_total)) (on_total (λ s. s.collect) bool_cmp_total)

pub name_total : IsTotalOrder name_cmp
name_total = then_total (on_total (λ f. f.signature) signature_total) (on_total (λ f. f.instance) nat_cmp_total)

-- signatures that compare as equal are equal
abbrev pub AreSignaturesExact : Type 0
AreSignaturesExact = (s t : Signature) → signature_cmp s t ≡ Equal → s ≡ t

-- names that compare as equal are equal
abbrev pub AreNamesExact : Type 0
AreNamesExact = (f g : FenceName) → name_cmp f g ≡ Equal → f ≡ g
