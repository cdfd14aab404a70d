-- The members that a set has, measured.
use Rattle.std.proofs.Common.{◌≡◌, ℕ, ◌+◌, ◌≤◌, min, true, false, nat_lt, length, refl, sym, ap, ◌∙◌, arith}
use Rattle.std.specs.FinSet as set
use Rattle.std.specs.List.{sum_by}
use Rattle.std.proofs.lemmas.Bool.{lt-ltb, le-ltb, ltb-true, ltb-false}
use Rattle.pmg_value.specs.InOrder.{in_order}
use Rattle.pmg_value.specs.Process.{proc_cmp}
use Rattle.pmg_value.proofs.ProcessOrder.{procs_total, exact_procs}
use Rattle.pmg_value.proofs.SetOrder.{len-from_list, in_order_rises, from_list-in_order}
use Rattle.pmg_pset.specs.Members.{proc_size}
use Rattle.pmg_pset.specs.Refusing.{AreMeasured}
use Rattle.pmg_pset.proofs.MemberLemmas.{bytes_len}

len_of_set : (s : set.FinSet proc_cmp) → length (in_order s) ≡ set.len s
len_of_set s = sym (len-from_list procs_total (in_order s) (in_order_rises s)) ∙ ap set.len (from_list-in_order procs_total exact_procs s)

counted_alike : (n count : ℕ) → count ≡ min 4097 n → nat_lt 4096 count ≡ nat_lt 4096 n
counted_alike n count is =
    elim (nat_lt 4096 n) as (λ b. nat_lt 4096 n ≡ b → nat_lt 4096 count ≡ b) [
      | true ↦ λ t. let more = ltb-true 4096 n t in lt-ltb 4096 count (omega (arith, is, more))
      | false ↦ λ t. let few = ltb-false 4096 n t in le-ltb 4096 count (omega (arith, is, few))
    ] refl

-- a count up to 4097, and the bytes of those that are no more, measure the processes of a set
pub set_measured : (s : set.FinSet proc_cmp) (count size : ℕ) → count ≡ min 4097 (set.len s) → (set.len s ≤ 4096 → size ≡ 6 + sum_by proc_size (in_order s)) → AreMeasured (in_order s) count size
set_measured s count size counted sized = record {
  number = counted_alike (set.len s) count counted ∙ ap (nat_lt 4096) (sym (len_of_set s));
  bytes = λ few. sized (let len = len_of_set s in omega (arith, len, few)) ∙ sym (bytes_len (in_order s));
}
