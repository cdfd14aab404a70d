-- The processes of a list, each once and in their order: those that a sort leaves once repeats are dropped.
use Rattle.std.proofs.Common.{◌≡◌, true, List, [], sym, ap, subst, ◌∙◌}
use Rattle.std.specs.Cmp.{eq_by_cmp_equiv}
use Rattle.std.specs.FinSet as set
use Rattle.std.specs.List.{list_any}
use Rattle.std.specs.List.Retain.{IsFiltered, DiffersFromLast}
use Rattle.std.specs.List.Sorted.{IsSorted, IsPermutation}
use Rattle.std.specs.Ordering.{eq_by_cmp}
use Rattle.pmg_value.specs.declared.process.Proc.{Proc}
use Rattle.pmg_value.specs.InOrder.{in_order}
use Rattle.pmg_value.specs.Lists.{In}
use Rattle.pmg_value.specs.Process.{proc_cmp, is_same_proc}
use Rattle.pmg_value.proofs.ListLemmas.{in_from_list_any, list_any_in}
use Rattle.pmg_value.proofs.ProcessOrder.{procs_total, exact_procs}
use Rattle.pmg_value.proofs.SetLemmas.{same_bool}
use Rattle.pmg_value.proofs.SetOrder.{in_order_rises, any_in_order, in_order-from_list}
use Rattle.pmg_value.proofs.SortedLists.{tied, kept_rises, kept_set}
use Rattle.pmg_pset.specs.Members.{each_once}
use Rattle.pmg_pset.specs.Rules.{MembersRise, MembersAreListed, MemberOrderIsFree}

-- what is kept of a list
pub kept_once : (list sorted ps : List Proc) → IsPermutation list sorted → IsSorted proc_cmp sorted → IsFiltered (DiffersFromLast is_same_proc) [] sorted ps → ps ≡ each_once list
unfolding each_once
kept_once list sorted ps moved rises filtered =
    sym (in_order-from_list procs_total exact_procs ps (kept_rises list sorted ps moved rises filtered)) ∙ ap in_order (kept_set list sorted ps moved rises filtered)

-- ---- the rules

pub members_rise : MembersRise
unfolding each_once
members_rise list = in_order_rises (set.from_list {R = proc_cmp} list)

-- whether a process ties with one of them
any_once : (list : List Proc) (q : Proc) → list_any (eq_by_cmp proc_cmp q) (each_once list) ≡ list_any (eq_by_cmp proc_cmp q) list
unfolding each_once
any_once list q = any_in_order procs_total (set.from_list list) q ∙ set.contains-from_list procs_total list q

itself : (p : Proc) → eq_by_cmp proc_cmp p p ≡ true
itself p = (eq_by_cmp_equiv procs_total).refl p

-- a process is in a list where one ties with it
found : (q : Proc) (ps : List Proc) → list_any (eq_by_cmp proc_cmp q) ps ≡ true → In q ps
found q ps h = let one = in_from_list_any (eq_by_cmp proc_cmp q) ps h in subst (λ (p : Proc). In p ps) (sym (tied q one.0 one.2)) one.1

pub members_are_listed : MembersAreListed
members_are_listed list q = (
  λ i. found q list (sym (any_once list q) ∙ list_any_in (eq_by_cmp proc_cmp q) (each_once list) q i (itself q)),
  λ i. found q (each_once list) (any_once list q ∙ list_any_in (eq_by_cmp proc_cmp q) list q i (itself q)),
)

moved_to : (xs ys : List Proc) → ((p : Proc) → In p xs → In p ys) → (q : Proc) → list_any (eq_by_cmp proc_cmp q) xs ≡ true → list_any (eq_by_cmp proc_cmp q) ys ≡ true
moved_to xs ys more q h = list_any_in (eq_by_cmp proc_cmp q) ys q (more q (found q xs h)) (itself q)

same_any : (xs ys : List Proc) → ((p : Proc) → (In p xs → In p ys) × (In p ys → In p xs)) → (q : Proc) → list_any (eq_by_cmp proc_cmp q) xs ≡ list_any (eq_by_cmp proc_cmp q) ys
same_any xs ys same q = same_bool _ _ (moved_to xs ys (λ p. (same p).0) q) (moved_to ys xs (λ p. (same p).1) q)

pub order_is_free : MemberOrderIsFree
unfolding each_once
order_is_free xs ys same =
    ap in_order (set.same_set procs_total exact_procs (set.from_list xs) (set.from_list ys)
    (λ q. set.contains-from_list procs_total xs q ∙ same_any xs ys same q ∙ sym (set.contains-from_list procs_total ys q)))
