-- Tables of namespaces, entry by entry.
use Rattle.std.proofs.Common.{BTreeMap, ◌≡◌, ℕ, Bool, false, ◌&&◌, ◌++◌, nat_eq, List, [], ◌∷◌, length, sym, ap, ◌∙◌, ◌+◌, arith}
use Rattle.std.specs.Bool.{Decides}
use Rattle.std.specs.Cmp.Lexicographic.{slice_cmp, nat_list_cmp_total, pointwise, pointwise_decides, bytes_decides}
use Rattle.std.specs.FinMap as finite
use Rattle.std.specs.Ordering.{nat_cmp, eq_by_cmp}
use Rattle.std.proofs.lemmas.Bool.{false≢true}
use Rattle.std.proofs.lemmas.Bool.Decides.{Decides-like}
use Rattle.std.proofs.lemmas.List.{map-append}
use Rattle.std.proofs.lemmas.Map.Lookups.{exact_bytes, btree_map_eq-Decides}
use Rattle.pmg_value.specs.Rows.{AreRising}
use Rattle.pmg_value.specs.declared.process.Proc.{Proc}
use Rattle.pmg_value.proofs.RowLemmas.{entries-map_of, len_rising}
use Rattle.pmg_value.proofs.SameLemmas.{by_cmp}
use Rattle.pmg_jobinfo.proofs.HomeLemmas.{range_more}
use Rattle.pmg_jobinfo.specs.Jobs.{Jobs, Spaces, spaces_of, jobs_of}
use Rattle.pmg_jobinfo.specs.Expansion.{ranks}
use Rattle.pmg_jobinfo.specs.Procs.{procs_of}

abbrev pub SpaceRows : Type 0
SpaceRows = List (List ℕ × List ℕ)

abbrev IsRising : SpaceRows → Type 0
IsRising es = AreRising (slice_cmp nat_cmp) es

-- the entries of a table that rises, whatever is made of them
pub each_entry : {A : Type 0} (f : SpaceRows → List A) (es rest : SpaceRows) (spaces : Spaces) → rest ≡ es → IsRising es → spaces_of es ≡ spaces → f rest ≡ f (finite.entries spaces)
each_entry f es rest spaces start rising same = ap f (start ∙ sym (entries-map_of nat_list_cmp_total es rising) ∙ ap finite.entries same)

-- one table is the other where their entries are one
pub same_spaces : (m n : BTreeMap (List ℕ) (List ℕ)) → IsRising m.entries → IsRising n.entries
    → (r : Bool) → r ≡ pointwise (λ (p q : List ℕ × List ℕ). pointwise nat_eq p.0 q.0 && eq_by_cmp (slice_cmp nat_cmp) p.1 q.1) m.entries n.entries
    → Decides r (spaces_of m.entries ≡ spaces_of n.entries)
same_spaces m n rises rise r is =
    Decides-like _ (λ e. ap spaces_of e) (λ e. sym (entries-map_of nat_list_cmp_total m.entries rises) ∙ ap finite.entries e ∙ entries-map_of nat_list_cmp_total n.entries rise)
    (btree_map_eq-Decides bytes_decides (by_cmp (slice_cmp nat_cmp) nat_list_cmp_total exact_bytes) m n r is)

-- tables of which the one has more entries are not one
pub longer_differs : (es fs : SpaceRows) → IsRising es → IsRising fs → (length es ≡ length fs → ⊥) → (r : Bool) → r ≡ false → Decides r (spaces_of es ≡ spaces_of fs)
longer_differs es fs rises rise differ r is = (
  λ h. absurd (false≢true (sym is ∙ h)),
  λ e. absurd (differ (sym (len_rising nat_list_cmp_total (λ h. h) es rises) ∙ ap finite.len e ∙ len_rising nat_list_cmp_total (λ h. h) fs rise)),
)

-- ---- the processes of one rank more

one_proc : List ℕ → ℕ → Proc
one_proc name rank = record { nspace = name; rank = rank }

pub more_procs : (name : List ℕ) (n : ℕ) → procs_of name (ranks (n + 1)) ≡ procs_of name (ranks n) ++ record { nspace = name; rank = n } ∷ []
unfolding one_proc
more_procs name n =
    let same : 0 + n ≡ n = omega arith in
    ap (procs_of name) (range_more 0 n) ∙ map-append (one_proc name) (ranks n) ((0 + n) ∷ [])
    ∙ ap (λ (k : ℕ). procs_of name (ranks n) ++ one_proc name k ∷ []) same

-- ---- groups

module _ (names others : List (List ℕ)) (es fs : SpaceRows) (x y : Jobs) (first : jobs_of names es ≡ x) (second : jobs_of others fs ≡ y) where
  -- groups of the same nodes are one where their namespaces are
  pub same_groups : names ≡ others → (r : Bool) → Decides r (spaces_of es ≡ spaces_of fs) → Decides r (x ≡ y)
  same_groups e r same = Decides-like _
      (λ s. sym first ∙ (λ i. record { nodes = e i; spaces = s i }) ∙ second)
      (λ s. ap (λ (j : Jobs). j.spaces) (first ∙ s ∙ sym second)) same

  -- and of other nodes they are not
  pub other_groups : pointwise (pointwise nat_eq) names others ≡ false → (r : Bool) → r ≡ false → Decides r (x ≡ y)
  other_groups differ r is = (
    λ h. absurd (false≢true (sym is ∙ h)),
    λ s. absurd (false≢true (sym differ ∙ (pointwise_decides bytes_decides names others).1 (ap (λ (j : Jobs). j.nodes) (first ∙ s ∙ sym second)))),
  )
