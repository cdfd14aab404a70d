-- Rollback of a table's changes, by the earlier state.
use Rattle.std.specs.Prelude.{ℕ, take, Option, Some, None}
use Rattle.std.specs.FinMap as finite
use Rattle.pmg_value.specs.Rows.{changed_at, put_back}
use Rattle.pmg_value.specs.Signatures.{Signature, FenceName}
use Rattle.pmg_fence.specs.declared.numbers.NumberUndo.{NumberUndo}
use Rattle.pmg_fence.specs.declared.fence.FenceUndo.{FenceUndo}
use Rattle.pmg_fence.specs.declared.fence.FenceUndo.TheVariants as fence_befores
use Rattle.pmg_fence.specs.declared.series.SeriesUndo.{SeriesUndo}
use Rattle.pmg_fence.specs.declared.table.TableUndo.{TableUndo}
use Rattle.pmg_fence.specs.declared.table.ChangeBefore.{ChangeBefore}
use Rattle.pmg_fence.specs.declared.table.ChangeBefore.TheVariants as change_befores
use Rattle.pmg_fence.specs.Tables.{Numbers, Fence, Series, Fences}
use Rattle.pmg_fence.specs.Codes.{Headers, Instances, AllSeries, Known, Owns}
use Rattle.pmg_fence.specs.Kept.{fence_in, series_in, IsKept}

-- the numbers with the earlier number of the process
abbrev pub number_back : Numbers → NumberUndo → Numbers
number_back m before = put_back m before.proc before.number

-- the headers without the node's header, if it came
abbrev pub headers_back : Headers → Option ℕ → Headers
headers_back m None = m
headers_back m (Some node) = finite.remove m node

-- the earlier knowledge of the fence
abbrev pub fence_back : Fence → FenceUndo → Fence
fence_back fence fence_befores.Learned = fence
fence_back fence (fence_befores.Entered before) = record { levels = number_back fence.levels before; headers = fence.headers }
fence_back fence (fence_befores.Told node) = record { levels = fence.levels; headers = headers_back fence.headers node }

-- the fences of a signature with the earlier knowledge of the instance
abbrev pub instances_back : Instances → ℕ → Option FenceUndo → Instances
instances_back m k None = finite.remove m k
instances_back m k (Some before) = changed_at m k (fence_back (fence_in m k) before)

-- the earlier counts, if a process had entered
abbrev pub counts_back : Numbers → Option NumberUndo → Numbers
counts_back m None = m
counts_back m (Some before) = number_back m before

-- the earlier series: its counts, the knowledge of the instance, and the greatest instance
abbrev pub series_back : Series → ℕ → SeriesUndo → Series
series_back s k before = record { counts = counts_back s.counts before.count; fences = instances_back s.fences k before.fence; top = before.top }

-- all fences, with the earlier fences of the signature
abbrev pub all_series_back : AllSeries → Signature → ℕ → Option SeriesUndo → AllSeries
all_series_back m g k None = finite.remove m g
all_series_back m g k (Some before) = changed_at m g (series_back (series_in m g) k before)

-- the earlier fences, if this was the series of the signature
abbrev pub fences_back : Fences → FenceName → Option SeriesUndo → Fences
fences_back t f before = record { series = all_series_back t.series f.signature f.instance before; ends = t.ends }

-- the fences before one of them changed or a process ended
abbrev pub change_back : Fences → ChangeBefore → Fences
change_back t (change_befores.Fence f before) = fences_back t f.now before
change_back t (change_befores.End before) = record { series = t.series; ends = number_back t.ends before }

-- The earlier table. The number of headers that wait is cut to the number that waited before.
abbrev pub table_back : Known → TableUndo → Known
table_back k before = record { jobs = k.jobs; node = k.node; fences = change_back k.fences before.change; waiting = take before.waiting k.waiting }

-- A change that can be taken back: the rollback preserves the invariant.
abbrev pub CanRollTableBack : Known → TableUndo → Type 0
CanRollTableBack k before = (owns : Owns) → IsKept k owns → IsKept (table_back k before) owns
