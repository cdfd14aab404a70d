-- Unions, cores and data are joined lawfully.
use Rattle.std.proofs.Common.{◌≡◌, Bool, true, false, cond, refl, sym, ap, ◌∙◌}
use Rattle.std.specs.Prelude.{Option, Some, None, if◌then◌else◌}
use Rattle.std.specs.Ordering.{eq_by_cmp}
use Rattle.std.specs.FinSet as set
use Rattle.std.specs.FinMap as map
use Rattle.std.specs.FinMap.{nat_cmp-IsAntisymmetric}
use Rattle.std.proofs.lemmas.Cmp.{nat_cmp_total}
use Rattle.std.proofs.lemmas.Bool.{false≢true}
use Rattle.pmg_value.specs.Maps.{join_options}
use Rattle.pmg_value.specs.Operations.{IsAssociative, IsCommutative, IsIdempotent}
use Rattle.pmg_value.specs.Process.{proc_cmp}
use Rattle.pmg_value.proofs.MapLemmas.{get-join_maps}
use Rattle.pmg_value.proofs.ProcessOrder.{procs_total}
use Rattle.pmg_value.proofs.SetLemmas.{union_assoc, union_comm, union_idem, union_empty, same_members}
use Rattle.pmg_commit.specs.Entries.{entry_cmp}
use Rattle.pmg_commit.specs.EntryOrder.{entries_total, exact_entries}
use Rattle.pmg_commit.specs.Knowledge.{Knowledge, nothing, union, core, knowledge_of}
use Rattle.pmg_commit.specs.CoreLaws.{same_knowledge, numbers-core, core_keeps, core-union_left}
use Rattle.pmg_commit.specs.Cores.{Core, core_of, join_cores, same_core}
use Rattle.pmg_commit.specs.Data.{of_contribution, knowledge_in, known}
use Rattle.pmg_commit.specs.Rules.{CoreOfUnion, AlikeAfter, KnownTogether, KnownOfOne}

pub unions_assoc : IsAssociative union
unions_assoc a b c = same_knowledge _ _ (union_assoc nat_cmp_total nat_cmp-IsAntisymmetric a.numbers b.numbers c.numbers) (union_assoc entries_total exact_entries a.entries b.entries c.entries)

pub unions_comm : IsCommutative union
unions_comm a b = same_knowledge _ _ (union_comm nat_cmp_total nat_cmp-IsAntisymmetric a.numbers b.numbers) (union_comm entries_total exact_entries a.entries b.entries)

pub unions_idem : IsIdempotent union
unions_idem a = same_knowledge _ _ (union_idem nat_cmp_total nat_cmp-IsAntisymmetric a.numbers) (union_idem entries_total exact_entries a.entries)

pub union_nothing : (k : Knowledge) → union nothing k ≡ k
union_nothing k = same_knowledge _ _ (union_empty nat_cmp_total nat_cmp-IsAntisymmetric k.numbers) (union_empty entries_total exact_entries k.entries)

pub core-union_right : (k l : Knowledge) → core (union k (core l)) ≡ core (union k l)
core-union_right k l = ap core (unions_comm k (core l)) ∙ core-union_left l k ∙ ap core (unions_comm l k)

pub core_of_union : CoreOfUnion
core_of_union k l = sym (core-union_left k (core l) ∙ core-union_right k l)

pub alike_after : AlikeAfter
alike_after k l more e = sym (core-union_left k more) ∙ ap (λ c. core (union c more)) e ∙ core-union_left l more

pub cores_assoc : IsAssociative join_cores
cores_assoc a b c =
    same_core _ _ (core-union_left (union a.knowledge b.knowledge) c.knowledge
    ∙ ap core (unions_assoc a.knowledge b.knowledge c.knowledge)
    ∙ sym (core-union_right a.knowledge (union b.knowledge c.knowledge)))

pub cores_comm : IsCommutative join_cores
cores_comm a b = same_core _ _ (ap core (unions_comm a.knowledge b.knowledge))

pub cores_idem : IsIdempotent join_cores
cores_idem a = same_core _ _ (ap core (unions_idem a.knowledge) ∙ a.is_core)

-- ---- data
pub core-nothing : core nothing ≡ nothing
core-nothing =
    same_knowledge (core nothing) nothing (numbers-core nothing)
    (same_members entries_total exact_entries (core nothing).entries set.empty (λ e h. (core_keeps nothing e h).0) (λ e h. absurd (false≢true (sym (set.contains-empty entry_cmp e) ∙ h))))

joined_in : (a b : Option Core) → knowledge_in (join_options join_cores a b) ≡ core (union (knowledge_in a) (knowledge_in b))
joined_in None None = sym (ap core (unions_idem nothing) ∙ core-nothing)
joined_in None (Some b) = sym (ap core (union_nothing b.knowledge) ∙ b.is_core)
joined_in (Some a) None = sym (ap core (unions_comm a.knowledge nothing ∙ union_nothing a.knowledge) ∙ a.is_core)
joined_in (Some a) (Some b) = refl

pub known_together : KnownTogether
unfolding known
known_together d e p = ap knowledge_in (get-join_maps procs_total join_cores d e p) ∙ joined_in (map.get d p) (map.get e p)

pub known_of_one : KnownOfOne
unfolding known of_contribution
known_of_one c p =
    ap knowledge_in (map.get-insert procs_total map.empty c.proc (core_of (knowledge_of c)) p ∙ ap (cond (eq_by_cmp proc_cmp p c.proc) (Some (core_of (knowledge_of c)))) (map.get-empty proc_cmp p))
    ∙ chosen (eq_by_cmp proc_cmp p c.proc)
  where
    chosen : (b : Bool) → knowledge_in (cond b (Some (core_of (knowledge_of c))) None) ≡ (if b then core (knowledge_of c) else nothing)
    chosen true = refl
    chosen false = refl
