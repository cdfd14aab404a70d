-- The reading of runs, in frames from version 2 on: the fields in order from the left, and the first fault.
use Rattle.std.specs.Prelude.{ℕ, zero, suc, ◌+◌, ◌-◌, ◌&&◌, not, nat_lt, nat_le, Bool, true, List, [], ◌∷◌, ◌++◌, length, Option, Some, None, Ok}
use Rattle.std.specs.FinSet as set
use Rattle.std.specs.Int.{w32}
use Rattle.std.specs.List.{list_all}
use Rattle.std.specs.Option.{option_map}
use Rattle.pmg_value.specs.Signatures.{FenceName}
use Rattle.pmg_value.specs.declared.process.Proc.{Proc}
use Rattle.pmg_value.specs.declared.refusal.Cause.TheVariants as causes
use Rattle.pmg_wire.specs.declared.fields.Admits.TheVariants as admits
use Rattle.pmg_wire.specs.Fields.{read_proc, read_flag}
use Rattle.pmg_wire.specs.Reading.{Place, Read, fault, ◌>>=◌, check, number_at}
use Rattle.pmg_frame.specs.FenceReading.{is_greater, read_node, read_level, read_name_by, read_ask_by}
use Rattle.pmg_frame.specs.Fences.{state_of, Header, FenceAsk}
use Rattle.pmg_frame.specs.Runs.{Ranked, proc_ranks, local_ranks, RankRun, next_rank, line, items_of}
use Rattle.pmg_frame.specs.declared.local.Local.{Local}
use Rattle.pmg_frame.specs.declared.signature.TheConstants.{MAX_PARTICIPANTS}
use Rattle.pmg_value.specs.declared.process.TheConstants.{MAX_RANK}

-- a step of reading, so many times; each step gets the result of the steps before it
unfoldable pub repeated : {S : Type 0} → (S → Place → Read S) → ℕ → S → Place → Read S
repeated read zero before at = Ok (before, at)
repeated read (suc n) before at = read before at >>= λ made. repeated read n made.0 made.1

-- the last item, or the item before if the list is empty
abbrev pub last_or : {A : Type 0} → Option A → List A → Option A
last_or before [] = before
last_or before (x ∷ xs) = last_or (Some x) xs

-- the item does not go on from the one before
abbrev pub is_new : {A : Type 0} → Ranked A → Option A → A → Bool
is_new k None x = true
is_new k (Some before) x = not (k.same (next_rank k before) x)

-- the number of ranks from the process's to the last one
abbrev pub ranks_to : ℕ → Proc → ℕ
ranks_to last p = suc last - p.rank

-- the last rank of a run that begins with the process
abbrev pub is_last : Proc → ℕ → Bool
is_last p last = nat_le p.rank last && nat_le last MAX_RANK

-- a run of participants, after a process or none, and after so many participants
unfoldable pub read_part : Option Proc → ℕ → Place → Read (RankRun Proc)
read_part before count at = do
  p ← read_proc admits.Clients at
  _ ← check (is_greater before p.0 && is_new proc_ranks before p.0) (fault at.offset causes.Order)
  last ← number_at w32 p.1
  _ ← check (is_last p.0 last.0) (fault p.1.offset causes.Rank)
  _ ← check (nat_le (count + ranks_to last.0 p.0) MAX_PARTICIPANTS) (fault p.1.offset causes.Count)
  Ok (record { first = p.0; last = last.0 }, last.1)

-- the processes before the run, and the run's processes
unfoldable pub read_run : List Proc → Place → Read (List Proc)
read_run before at = read_part (last_or None before) (length before) at >>= λ run. Ok (before ++ items_of proc_ranks run.0, run.1)

-- there is at least one run, and there are at most as many runs as participants may be
abbrev pub is_run_count : ℕ → Bool
is_run_count n = nat_lt 0 n && nat_le n MAX_PARTICIPANTS

-- the participants, as runs
unfoldable pub read_runs : Place → Read (List Proc)
read_runs at = do
  count ← number_at w32 at
  _ ← check (is_run_count count.0) (fault at.offset causes.Count)
  repeated read_run count.0 [] count.1

-- a fence's name
abbrev pub read_short_name : Place → Read FenceName
read_short_name at = read_name_by read_runs at

-- a run of participants of a header, after another participant or none
unfoldable pub read_local_part : FenceName → Option Local → Place → Read (RankRun Local)
read_local_part name before at = do
  p ← read_proc admits.Clients at
  _ ← check (is_greater (option_map (λ l. l.proc) before) p.0) (fault at.offset causes.Order)
  last ← number_at w32 p.1
  _ ← check (is_last p.0 last.0) (fault p.1.offset causes.Rank)
  _ ← check (list_all (set.contains name.signature.participants) (line proc_ranks (ranks_to last.0 p.0) p.0)) (fault at.offset causes.Member)
  gone ← read_flag last.1
  level ← read_level gone.1
  _ ← check (is_new local_ranks before (record { proc = p.0; state = state_of gone.0; level = level.0 })) (fault at.offset causes.Order)
  Ok (record { first = record { proc = p.0; state = state_of gone.0; level = level.0 }; last = last.0 }, level.1)

-- the participants before the run, and the run's participants
unfoldable pub read_local_run : FenceName → List Local → Place → Read (List Local)
read_local_run name before at = read_local_part name (last_or None before) at >>= λ run. Ok (before ++ items_of local_ranks run.0, run.1)

-- the participants of a header, as runs
unfoldable pub read_local_runs : FenceName → Place → Read (List Local)
read_local_runs name at = do
  count ← number_at w32 at
  _ ← check (is_run_count count.0) (fault at.offset causes.Count)
  repeated (read_local_run name) count.0 [] count.1

-- the body of a header
unfoldable pub read_short_header : Place → Read Header
read_short_header at = do
  node ← read_node at
  name ← read_short_name node.1
  locals ← read_local_runs name.0 name.1
  Ok (record { node = node.0; name = name.0; locals = locals.0 }, locals.1)

-- the body of a fence ask
abbrev pub read_short_ask : Place → Read FenceAsk
read_short_ask at = read_ask_by read_runs at
