-- The encoding of processes as runs, in frames from version 2 on.
use Rattle.std.specs.Prelude.{ℕ, List, ◌++◌, length}
use Rattle.std.specs.List.{flat_map}
use Rattle.std.specs.Int.{w32, w64, to_be_bytes}
use Rattle.pmg_value.specs.Signatures.{FenceName}
use Rattle.pmg_value.specs.declared.process.Proc.{Proc}
use Rattle.pmg_wire.specs.Spelling.{proc_spelling}
use Rattle.pmg_frame.specs.Fences.{participants_of, is_gone, Header, FenceAsk}
use Rattle.pmg_frame.specs.Runs.{proc_ranks, local_ranks, RankRun, runs_of}
use Rattle.pmg_frame.specs.Spelling.{flag_spelling}
use Rattle.pmg_frame.specs.declared.local.Local.{Local}

-- a run of processes: the first of them, and the last rank
abbrev pub run_spelling : RankRun Proc → List ℕ
run_spelling r = proc_spelling r.first ++ to_be_bytes w32 r.last

-- a list of processes as runs: their number, and the runs
abbrev pub runs_spelling : List Proc → List ℕ
runs_spelling ps = to_be_bytes w32 (length (runs_of proc_ranks ps)) ++ flat_map run_spelling (runs_of proc_ranks ps)

-- a fence's name: whether it collects, the instance, and the participants as runs
abbrev pub short_name : FenceName → List ℕ
short_name name = flag_spelling name.signature.collect ++ (to_be_bytes w64 name.instance ++ runs_spelling (participants_of name))

-- a run of participants of a header: the first, the last rank, whether they are gone, and their level
abbrev pub local_run_spelling : RankRun Local → List ℕ
local_run_spelling r = proc_spelling r.first.proc ++ (to_be_bytes w32 r.last ++ (flag_spelling (is_gone r.first.state) ++ to_be_bytes w64 r.first.level))

-- the participants of a header, as runs: their number, and the runs
abbrev pub local_runs_spelling : List Local → List ℕ
local_runs_spelling ls = to_be_bytes w32 (length (runs_of local_ranks ls)) ++ flat_map local_run_spelling (runs_of local_ranks ls)

-- the body of a header: the node, the fence's name, and the participants
abbrev pub short_header : Header → List ℕ
short_header h = to_be_bytes w32 h.node ++ (short_name h.name ++ local_runs_spelling h.locals)

-- the body of a fence ask: the node, and the fence's name
abbrev pub short_fence_ask : FenceAsk → List ℕ
short_fence_ask a = to_be_bytes w32 a.node ++ short_name a.name
