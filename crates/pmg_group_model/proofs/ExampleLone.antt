-- The group of one node: where its processes are at home, and what they may do.
use Rattle.std.proofs.Common.{◌≡◌, ◌<◌, ℕ, Bool, true, false, ◌&&◌, ◌||◌, ◌==◌, not, nat_lt, nat_le, cond, List, [], ◌∷◌, length, Option, Some, None, Ok, is_some, get_or, codes, refl, sym, ap, subst, ◌∙◌, arith}
use Rattle.std.proofs.lemmas.Bool.Decides.{nat_tests}
use Rattle.std.specs.FinMap as finite
use Rattle.std.specs.FinSet as set
use Rattle.std.specs.List.{filter, list_any}
use Rattle.std.specs.Cmp.{Equal-is}
use Rattle.std.specs.Cmp.Lexicographic.{slice_cmp, nat_list_cmp_total}
use Rattle.std.specs.Ordering.{nat_cmp, eq_by_cmp}
use Rattle.std.specs.Option.{IfSome, unwrap_or}
use Rattle.pmg_value.specs.CheckOrder.{check_order}
use Rattle.pmg_value.specs.Process.{proc_cmp}
use Rattle.pmg_value.specs.Signatures.{Signature}
use Rattle.pmg_value.specs.declared.process.Proc.{Proc}
use Rattle.pmg_value.proofs.ProcessOrder.{procs_total}
use Rattle.pmg_jobinfo.specs.Expansion.{expansion}
use Rattle.pmg_jobinfo.specs.Jobs.{IsSpace, AreJobs, is_registered, homes_of, is_member, home_of}
use Rattle.pmg_jobinfo.proofs.TableLemmas.{one_space}
use Rattle.pmg_fence.specs.Entering.{same_proc, locals_of}
use Rattle.pmg_fence.specs.Tables.{count_of}
use Rattle.pmg_node_model.specs.Acts.{Request, Act, also, free_cause, busy_cause, caller_cause, list_cause, signature_cause, request_cause, cause, does, over, acts}
use Rattle.pmg_node_model.specs.Holdings.{NodeState, sealer_of, call_of}
use Rattle.pmg_node_model.proofs.CauseFacts.{NoCause}
use Rattle.pmg_group_model.specs.Examples.{lone, j0, j1, round}
use Rattle.pmg_group_model.proofs.ExampleGroup.{ranked, who_meets}
use Rattle.pmg_group_model.proofs.ExampleNodes.{goes_on, both_causes}
use Rattle.pmg_group_model.proofs.ExampleActs.{both, not_busy, few}

-- ---- homes

space_there : finite.get lone.spaces (codes "j") ≡ Some (0 ∷ 0 ∷ [])
space_there = finite.get-insert nat_list_cmp_total finite.empty (codes "j") (0 ∷ 0 ∷ []) (codes "j")

homes_are : homes_of lone (codes "j") ≡ 0 ∷ 0 ∷ []
homes_are = ap (λ (o : Option (List ℕ)). unwrap_or o []) space_there

is_there : is_registered lone (codes "j") ≡ true
is_there = ap (λ (o : Option (List ℕ)). is_some o) space_there

pub home_0 : home_of lone j0 ≡ 0
home_0 = ap (λ homes. get_or homes 0 0) homes_are

pub home_1 : home_of lone j1 ≡ 0
home_1 = ap (λ homes. get_or homes 1 0) homes_are

pub member_0 : is_member lone j0 ≡ true
member_0 = ap (λ (homes : List ℕ). nat_lt 0 (length homes)) homes_are

pub member_1 : is_member lone j1 ≡ true
member_1 = ap (λ (homes : List ℕ). nat_lt 1 (length homes)) homes_are

-- ---- the jobs

the_space : IsSpace 1 (codes "j") (0 ∷ 0 ∷ [])
the_space = record { named = refl; some = omega arith; few = omega arith; at_nodes = refl }

space_by : (name : List ℕ) (b : Bool) → eq_by_cmp (slice_cmp nat_cmp) name (codes "j") ≡ b → IfSome (cond b (Some (0 ∷ 0 ∷ [])) None) (IsSpace 1 name)
space_by name true same = subst (λ n. IsSpace 1 n (0 ∷ 0 ∷ [])) (sym (finite.slice_cmp-IsAntisymmetric finite.nat_cmp-IsAntisymmetric name (codes "j") ((Equal-is _).0 same))) the_space
space_by name false same = tt

pub are_lone : AreJobs lone
are_lone = record {
  some = omega arith;
  few = omega arith;
  few_spaces = one_space (codes "j") (0 ∷ 0 ∷ []);
  spaces = λ name. subst (λ (o : Option (List ℕ)). IfSome o (IsSpace 1 name))
      (sym (finite.get-insert nat_list_cmp_total finite.empty (codes "j") (0 ∷ 0 ∷ []) name
      ∙ ap (cond (eq_by_cmp (slice_cmp nat_cmp) name (codes "j")) (Some (0 ∷ 0 ∷ []))) (finite.get-empty (slice_cmp nat_cmp) name)))
      (space_by name (eq_by_cmp (slice_cmp nat_cmp) name (codes "j")) refl);
}

pub locals_are : (k : ℕ) → locals_of lone (round k) 0 ≡ j0 ∷ j1 ∷ []
unfolding locals_of
locals_are k = ap (filter (λ p. home_of lone p == 0)) who_meets ∙ (λ i. cond (home_0 i == 0) (j0 ∷ cond (home_1 i == 0) (j1 ∷ []) []) (cond (home_1 i == 0) (j1 ∷ []) []))

-- ---- an act without a cause

pub done_then : (h : NodeState) (a : Act) → NoCause (cause lone 0 h a) → acts lone 0 h a ≡ over lone 0 h (Ok (does lone 0 h a))
done_then h a none = ap (over lone 0 h) (goes_on (cause lone 0 h a) (does lone 0 h a) check_order none)

-- a process of the group that has not ended
pub calls_well : (rank : ℕ) (h : NodeState) → is_member lone (ranked rank) ≡ true → home_of lone (ranked rank) ≡ 0 → (sealer_of h (ranked rank)).ended ≡ false
    → NoCause (caller_cause lone 0 h (ranked rank))
calls_well rank h member home live =
    (refl, ((λ i. is_there i && not (member i)), ((λ i. not (is_there i)), (ap (λ n. not (n == 0)) home, (live, (refl, (refl, (refl, (refl, (refl, (refl, tt)))))))))))

-- ---- a process may enter

abbrev pub sig : Signature
sig = (round 1).signature

abbrev pub joining : Proc → Act
joining p = Act.request (Request.enter p both false)

good_list : NoCause (list_cause lone both)
good_list = (
  refl,
  ((λ i. (is_there i && not (member_0 i)) || ((is_there i && not (member_1 i)) || false)), ((λ i. not (is_there i) || (not (is_there i) || false)), (refl, (refl, (refl, (refl, (refl, (refl, (refl, (refl, tt)))))))))),
)

-- a process that takes part, and entered the fences of the signature so often
module _ (h : NodeState) (rank k : ℕ) (part : list_any (same_proc (ranked rank)) both ≡ true) (times : count_of h.table sig (ranked rank) ≡ k) (few_times : k < 3) where
  takes_part : set.contains (set.from_list {R = proc_cmp} both) (ranked rank) ≡ true
  takes_part = set.contains-from_list procs_total both (ranked rank) ∙ part

  below : (n : ℕ) → n < 3 → nat_le 4294967295 n ≡ false
  below n less = grind (arith, nat_tests)

  good_signature : NoCause (signature_cause h sig (ranked rank))
  good_signature = (
    refl,
    (refl, (refl, (refl, (refl, (refl, (ap not takes_part, (refl, (refl, (refl, ((λ i. nat_lt 4096 (few i) || nat_le 4294967295 (times i)) ∙ below k few_times, tt)))))))))),
  )

  pub may_join : is_member lone (ranked rank) ≡ true → home_of lone (ranked rank) ≡ 0 → (sealer_of h (ranked rank)).ended ≡ false → call_of h (ranked rank) ≡ None
      → NoCause (cause lone 0 h (joining (ranked rank)))
  unfolding cause request_cause expansion
  may_join member home live idle =
      both_causes (free_cause lone 0 h (ranked rank)) (also (list_cause lone both) (signature_cause h sig (ranked rank)))
      (both_causes (caller_cause lone 0 h (ranked rank)) (busy_cause h (ranked rank)) (calls_well rank h member home live) (not_busy h (ranked rank) idle))
      (both_causes (list_cause lone both) (signature_cause h sig (ranked rank)) good_list good_signature)
