-- The processes of a group, and how they see one another.
use Rattle.std.specs.Prelude.{ℕ, ◌==◌, List, length, map, if◌then◌else◌}
use Rattle.std.specs.FinMap as finite
use Rattle.std.specs.List.{flat_map}
use Rattle.pmg_value.specs.declared.process.Proc.{Proc}
use Rattle.pmg_value.specs.Process.{is_same_proc}
use Rattle.pmg_scope.specs.declared.scope.Reach.{Reach}
use Rattle.pmg_scope.specs.declared.scope.Reach.TheVariants as reach
use Rattle.pmg_jobinfo.specs.Expansion.{ranks}
use Rattle.pmg_jobinfo.specs.Jobs.{Jobs, home_of}
use Rattle.pmg_jobinfo.specs.Reserved.{ranks_at}

-- the processes of these ranks of the namespace
abbrev pub procs_of : List ℕ → List ℕ → List Proc
procs_of name list = map (λ rank. record { nspace = name; rank = rank }) list

-- all processes of a group, by namespace and rank
abbrev pub all_procs : Jobs → List Proc
all_procs jobs = flat_map (λ e. procs_of e.0 (ranks (length e.1))) (finite.entries jobs.spaces)

-- the processes at home at the node, by namespace and rank
abbrev pub procs_at : Jobs → ℕ → List Proc
procs_at jobs node = flat_map (λ e. procs_of e.0 (ranks_at node e.1)) (finite.entries jobs.spaces)

-- The reach of a reader on a target: its own, near where they are at home at one node, else far (PMIx Standard 5.0,
-- scopes of put data).
abbrev pub reach_of : Jobs → Proc → Proc → Reach
reach_of jobs reader target =
    if is_same_proc reader target then reach.Own else if home_of jobs reader == home_of jobs target then reach.Near else reach.Far
