-- The group of the examples: where its processes are at home, and who meets in their fence.
use Rattle.std.proofs.Common.{◌≡◌, ℕ, Bool, true, false, ◌==◌, nat_lt, cond, List, [], ◌∷◌, length, Option, Some, None, is_some, get_or, codes, inl, refl, sym, ap, subst, ◌∙◌, arith}
use Rattle.std.specs.FinMap as finite
use Rattle.std.specs.List.{filter}
use Rattle.std.specs.List.Sorted.{IsStrictlySortedBy}
use Rattle.std.specs.Cmp.{Equal-is}
use Rattle.std.specs.Cmp.Lexicographic.{slice_cmp, nat_list_cmp_total}
use Rattle.std.specs.Ordering.{nat_cmp, eq_by_cmp}
use Rattle.std.specs.Option.{IfSome, unwrap_or}
use Rattle.pmg_value.specs.Lists.{In}
use Rattle.pmg_value.specs.Process.{proc_cmp}
use Rattle.pmg_value.specs.declared.process.Proc.{Proc}
use Rattle.pmg_value.proofs.ProcessOrder.{procs_total, exact_procs}
use Rattle.pmg_value.proofs.SetOrder.{in_order-from_list}
use Rattle.pmg_frame.specs.Fences.{participants_of}
use Rattle.pmg_jobinfo.specs.Jobs.{IsSpace, AreJobs, is_registered, homes_of, is_member, home_of}
use Rattle.pmg_jobinfo.proofs.TableLemmas.{one_space}
use Rattle.pmg_fence.specs.Entering.{locals_of}
use Rattle.pmg_group_model.specs.Examples.{two, j0, j1, meeting}

-- the process of that rank
abbrev pub ranked : ℕ → Proc
ranked rank = record { nspace = j0.nspace; rank = rank }

-- ---- homes

space_there : finite.get two.spaces (codes "j") ≡ Some (0 ∷ 1 ∷ [])
space_there = finite.get-insert nat_list_cmp_total finite.empty (codes "j") (0 ∷ 1 ∷ []) (codes "j")

pub homes_are : homes_of two (codes "j") ≡ 0 ∷ 1 ∷ []
homes_are = ap (λ (o : Option (List ℕ)). unwrap_or o []) space_there

pub is_there : is_registered two (codes "j") ≡ true
is_there = ap (λ (o : Option (List ℕ)). is_some o) space_there

pub home_of_j0 : home_of two j0 ≡ 0
home_of_j0 = ap (λ homes. get_or homes 0 0) homes_are

pub home_of_j1 : home_of two j1 ≡ 1
home_of_j1 = ap (λ homes. get_or homes 1 0) homes_are

pub j0_is_member : is_member two j0 ≡ true
j0_is_member = ap (λ (homes : List ℕ). nat_lt 0 (length homes)) homes_are

pub j1_is_member : is_member two j1 ≡ true
j1_is_member = ap (λ (homes : List ℕ). nat_lt 1 (length homes)) homes_are

-- ---- the jobs

the_space : IsSpace 2 (codes "j") (0 ∷ 1 ∷ [])
the_space = record { named = refl; some = omega arith; few = omega arith; at_nodes = refl }

space_by : (name : List ℕ) (b : Bool) → eq_by_cmp (slice_cmp nat_cmp) name (codes "j") ≡ b → IfSome (cond b (Some (0 ∷ 1 ∷ [])) None) (IsSpace 2 name)
space_by name true same = subst (λ n. IsSpace 2 n (0 ∷ 1 ∷ [])) (sym (finite.slice_cmp-IsAntisymmetric finite.nat_cmp-IsAntisymmetric name (codes "j") ((Equal-is _).0 same))) the_space
space_by name false same = tt

pub are_jobs : AreJobs two
are_jobs = record {
  some = omega arith;
  few = omega arith;
  few_spaces = one_space (codes "j") (0 ∷ 1 ∷ []);
  spaces = λ name. subst (λ (o : Option (List ℕ)). IfSome o (IsSpace 2 name))
      (sym (finite.get-insert nat_list_cmp_total finite.empty (codes "j") (0 ∷ 1 ∷ []) name
      ∙ ap (cond (eq_by_cmp (slice_cmp nat_cmp) name (codes "j")) (Some (0 ∷ 1 ∷ []))) (finite.get-empty (slice_cmp nat_cmp) name)))
      (space_by name (eq_by_cmp (slice_cmp nat_cmp) name (codes "j")) refl);
}

-- ---- who meets

pub rising : IsStrictlySortedBy proc_cmp (j0 ∷ j1 ∷ [])
unfolding IsStrictlySortedBy
rising = ((refl, tt), (tt, tt))

pub who_meets : participants_of meeting ≡ j0 ∷ j1 ∷ []
who_meets = in_order-from_list procs_total exact_procs (j0 ∷ j1 ∷ []) rising

pub j0_meets : In j0 (participants_of meeting)
j0_meets = subst (In j0) (sym who_meets) (inl refl)

pub locals_at_0 : locals_of two meeting 0 ≡ j0 ∷ []
unfolding locals_of
locals_at_0 = ap (filter (λ p. home_of two p == 0)) who_meets ∙ (λ i. cond (home_of_j0 i == 0) (j0 ∷ cond (home_of_j1 i == 0) (j1 ∷ []) []) (cond (home_of_j1 i == 0) (j1 ∷ []) []))

pub locals_at_1 : locals_of two meeting 1 ≡ j1 ∷ []
unfolding locals_of
locals_at_1 = ap (filter (λ p. home_of two p == 1)) who_meets ∙ (λ i. cond (home_of_j0 i == 1) (j0 ∷ cond (home_of_j1 i == 1) (j1 ∷ []) []) (cond (home_of_j1 i == 1) (j1 ∷ []) []))
