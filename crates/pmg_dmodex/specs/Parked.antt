-- Gets that wait, by the process whose key they ask for.
use Rattle.std.specs.Prelude.{ℕ, List, Option, if◌then◌else◌}
use Rattle.std.specs.Option.{unwrap_or}
use Rattle.std.specs.FinMap as finite
use Rattle.std.specs.Coded.{Coded, coded_ℕ, coded_list}
use Rattle.pmg_value.specs.declared.process.Proc.{Proc}
use Rattle.pmg_value.specs.Process.{proc_cmp, coded_proc}

-- the keys that some processes ask for, one each
abbrev pub Askers : Type 0
Askers = finite.FinMap proc_cmp (List ℕ)

-- The gets that are parked: for each of some processes who asks for a key of it, and for which (PMIx Standard 5.0, PMIx_Get).
abbrev pub Parked : Type 0
Parked = finite.FinMap proc_cmp Askers

-- the code of keys by asker
abbrev pub coded_askers : Coded Askers
coded_askers = finite.code coded_proc (coded_list coded_ℕ)

-- the code of parked gets
abbrev pub coded_parked : Coded Parked
coded_parked = finite.code coded_proc coded_askers

-- who asks for a key of the process
abbrev pub askers_of : Parked → Proc → Askers
askers_of parked target = unwrap_or (finite.get parked target) finite.empty

-- the key of the process that the asker waits for
abbrev pub awaited : Parked → Proc → Proc → Option (List ℕ)
awaited parked target asker = finite.get (askers_of parked target) asker

-- the gets that are parked on the process, by who asks
abbrev pub parked_on : Parked → Proc → List (Proc × List ℕ)
parked_on parked target = finite.entries (askers_of parked target)

-- the get parks; an asker waits for one key of a process at a time
abbrev pub parking : Parked → Proc → Proc → List ℕ → Parked
parking parked target asker key = finite.insert parked target (finite.insert (askers_of parked target) asker key)

-- the asker's get waits no longer
abbrev pub unparked : Parked → Proc → Proc → Parked
unparked parked target asker =
    if finite.contains_key parked target then finite.insert parked target (finite.remove (askers_of parked target) asker) else parked
