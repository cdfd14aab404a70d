-- Knowledge without superseded entries, as a type of its own, and its join.
use Rattle.std.specs.Prelude.{◌≡◌}
use base.Stored.{coded_via}
use mathlib.Core.HLevel.{Σ_prop_path}
use Rattle.std.specs.Coded.{Coded, Coded-set}
use Rattle.pmg_commit.specs.Knowledge.{Knowledge, union, core, coded_knowledge}
use Rattle.pmg_commit.specs.CoreLaws.{core-core}

-- knowledge that is its own core
pub record Core : Type 0 where
  pub knowledge : Knowledge
  pub is_core : core knowledge ≡ knowledge

-- the core of any knowledge
abbrev pub core_of : Knowledge → Core
core_of k = record { knowledge = core k; is_core = core-core k }

-- the core of the knowledge of two cores together
abbrev pub join_cores : Core → Core → Core
join_cores a b = core_of (union a.knowledge b.knowledge)

-- cores of one knowledge are equal
pub same_core : (a b : Core) → a.knowledge ≡ b.knowledge → a ≡ b
same_core a b e =
    let pairs : ◌≡◌ {A = (k : Knowledge) × (core k ≡ k)} (a.knowledge, a.is_core) (b.knowledge, b.is_core) = Σ_prop_path (λ k. Coded-set coded_knowledge (core k) k) e in
    λ i. record { knowledge = (pairs i).0; is_core = (pairs i).1 }

-- a core as its knowledge
abbrev pub coded_core : Coded Core
coded_core = coded_via coded_knowledge (λ c. c.knowledge) same_core
