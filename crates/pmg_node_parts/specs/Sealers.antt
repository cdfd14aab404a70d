-- The sealed states of own processes, as a node keeps them.
use Rattle.std.specs.Prelude.{◌≡◌, false, List, [], ◌∷◌, map}
use Rattle.std.specs.Coded.{Coded}
use Rattle.std.specs.FinMap as finite
use Rattle.std.specs.Option.{unwrap_or}
use Rattle.pmg_value.specs.Process.{proc_cmp, coded_proc}
use Rattle.pmg_value.specs.Rows.{map_of}
use Rattle.pmg_value.specs.declared.process.Proc.{Proc}
use Rattle.pmg_commit.specs.Sealed.{Sealed, coded_sealed, fresh}

-- the sealed state of each of some processes
abbrev pub AllSealed : Type 0
AllSealed = finite.FinMap proc_cmp Sealed

-- the code of sealed states, by process
abbrev pub coded_all_sealed : Coded AllSealed
coded_all_sealed = finite.code coded_proc coded_sealed

-- fresh sealers of these processes, without commits
abbrev pub all_fresh : List Proc → AllSealed
all_fresh procs = map_of (map (λ p. (p, fresh p)) procs)

-- the sealed state of the process
abbrev pub sealed_by : AllSealed → Proc → Sealed
sealed_by all p = unwrap_or (finite.get all p) (fresh p)

-- no process has ended
abbrev pub NoneEnded : AllSealed → Type 0
NoneEnded all = (p : Proc) → (sealed_by all p).ended ≡ false

-- the map with fresh sealers of these processes too
abbrev pub with_fresh : List Proc → AllSealed → AllSealed
with_fresh [] all = all
with_fresh (p ∷ ps) all = finite.insert (with_fresh ps all) p (fresh p)
