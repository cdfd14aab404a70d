-- The changes by a process's end, beside its reply.
use Rattle.std.specs.Prelude.{ℕ, [], Option}
use Rattle.pmg_value.specs.declared.process.Proc.{Proc}
use Rattle.pmg_commit.specs.Sealed.{ended_with}
use Rattle.pmg_commit.specs.TakenBack.{end_back}
use Rattle.pmg_commit.specs.declared.sealer.SealerUndo.{SealerUndo}
use Rattle.pmg_fence.specs.Changes.{changed, ended_by, taken}
use Rattle.pmg_fence.specs.Codes.{Known}
use Rattle.pmg_node_parts.specs.Owns.{LocalCommits, sealed_of, with_sealed}

-- the own process ended, and the end is its last commit
abbrev pub own_ended : LocalCommits → Proc → LocalCommits
own_ended own p = with_sealed own p (ended_with (sealed_of own p))

-- the own process's end is taken back
abbrev pub own_back : LocalCommits → Proc → Option SealerUndo → LocalCommits
own_back own p before = with_sealed own p (end_back (sealed_of own p) before)

-- the process ended after so many commits, and the own headers that began to exist were taken
abbrev pub table_ended : Known → Proc → ℕ → Known
table_ended table p last = taken (changed table (ended_by table.fences p last)) []
