-- The commits of a node's own processes, and the process sets.
use Rattle.std.specs.Prelude.{refl}
use Rattle.std.specs.Coded.{Coded, code_by, coded×}
use Rattle.std.specs.FinMap as finite
use Rattle.pmg_value.specs.declared.process.Proc.{Proc}
use Rattle.pmg_commit.specs.Sealed.{Sealed, coded_sealed}
use Rattle.pmg_node_model.specs.Holdings.{sealer_in}
use Rattle.pmg_node_parts.specs.Sealers.{AllSealed, coded_all_sealed}

-- the sealed states of own processes, and of the process that represents the group's host
pub record LocalCommits : Type 0 where
  pub sealers : AllSealed
  pub sets : Sealed

-- the sealed states of own processes and of the group's host, as a pair
abbrev pub coded_own : Coded LocalCommits
coded_own = code_by (AllSealed × Sealed) (coded× coded_all_sealed coded_sealed) (λ o. (o.sealers, o.sets)) (λ p. record { sealers = p.0; sets = p.1 }) (λ _. refl)

-- the sealed state of the process: the sets, if it represents the group's host
abbrev pub sealed_of : LocalCommits → Proc → Sealed
sealed_of own p = sealer_in own.sets own.sealers p

-- replaces the sealed state of an own process
abbrev pub with_sealed : LocalCommits → Proc → Sealed → LocalCommits
with_sealed own p z = record { sealers = finite.insert own.sealers p z; sets = own.sets }

-- replaces the sets
abbrev pub with_sets : LocalCommits → Sealed → LocalCommits
with_sets own z = record { sealers = own.sealers; sets = z }
