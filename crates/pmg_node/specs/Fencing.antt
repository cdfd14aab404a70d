-- The effects of a change of one fence on a node, and the frames that are due.
use Rattle.std.specs.Prelude.{◌≡◌, ℕ, List, []}
use Rattle.std.specs.List.{flat_map}
use Rattle.pmg_value.specs.Signatures.{FenceName}
use Rattle.pmg_commit.specs.Data.{Data}
use Rattle.pmg_jobinfo.specs.Jobs.{Jobs}
use Rattle.pmg_fence.specs.Changes.{news, fence_changed_at, taken}
use Rattle.pmg_fence.specs.Codes.{Known}
use Rattle.pmg_fence.specs.Kept.{noted_by, placed_by}
use Rattle.pmg_fence.specs.Tables.{Fences}
use Rattle.pmg_fence.specs.declared.change.Change.{Change}
use Rattle.pmg_node_parts.specs.Codes.{Calls}
use Rattle.pmg_node_model.specs.Holdings.{NodeState, mapped}
use Rattle.pmg_node_model.specs.Kept.{is_in, settle_where}
use Rattle.pmg_node_parts.specs.Telling.{announcing_by}
use Rattle.pmg_node_model.specs.declared.due.ToSend.{ToSend}

-- the table after the change of the fence and without the own headers that began to exist, before old fences are forgotten
abbrev pub fence_noted : Known → FenceName → Change → Known
fence_noted k f change = taken (fence_changed_at k f (noted_by k.fences f change)) []

-- the table after the change of the fence, without the own headers that began to exist
abbrev pub fence_after : Known → FenceName → Change → Known
fence_after k f change = taken (fence_changed_at k f (placed_by k.fences f change)) []

-- the own headers that began to exist, due to each other node of the fence
abbrev pub fence_dues : Known → FenceName → Change → List ToSend
fence_dues k f change = flat_map (announcing_by k.jobs k.node) (news k.jobs k.node k.fences (placed_by k.fences f change) f)

-- The new calls are the old ones, with each call in the fence settled again, with this table and these stores.
abbrev pub AreSettledIn : FenceName → Jobs → ℕ → Fences → Data → Data → Calls → Calls → Type 0
AreSettledIn f jobs id table near far old new =
    (h : NodeState) → h.table ≡ table → h.near ≡ near → h.far ≡ far → new ≡ mapped (settle_where jobs id h (is_in f)) old
