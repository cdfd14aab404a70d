-- The knowledge of a journal.
use Rattle.std.specs.Prelude.{◌≡◌, ℕ, true, List, [], ◌∷◌, ◌++◌, Option, Some, None, drop}
use mathlib.Core.List.{IsPrefix}
use Rattle.pmg_value.specs.Signatures.{FenceName}
use Rattle.pmg_value.specs.declared.process.Proc.{Proc}
use Rattle.pmg_jobinfo.specs.Jobs.{Jobs}
use Rattle.pmg_commit.specs.Data.{level_at}
use Rattle.pmg_fence.specs.Tables.{gone_by, is_ready}
use Rattle.pmg_node_model.specs.Acts.{Act, Reply}
use Rattle.pmg_node_model.specs.Holdings.{CallState, call_of, is_ready_at}
use Rattle.pmg_node_model.specs.declared.sent.Sent.{Sent}
use Rattle.pmg_node.specs.Opening.{new_server}
use Rattle.pmg_publish.specs.Publications.{far_of}
use Rattle.pmg_publish.specs.declared.counting.Publication.{Publication}
use Rattle.pmg_store.specs.Dump.{dump}
use Rattle.pmg_journal.specs.Replays.{Happening, IsReplay, after_all, happening, sent_over}
use Rattle.pmg_desk.specs.Publishing.{published_over}

-- The known part of the journal of a node is a replay, and all its publications are known.
pub record IsKnown (jobs : Jobs) (id : ℕ) (es : List Happening) (known : List Publication) : Type 0 where
  pub replay : IsReplay (new_server jobs id) es
  pub is_known : IsPrefix (published_over (new_server jobs id) es) known

-- the process's call at the node, after all events of the journal
abbrev pub call_at : Jobs → ℕ → List Happening → Proc → Option CallState
call_at jobs id es p = call_of (after_all (new_server jobs id) es).holding p

-- the fence of a process that is in it, or is released from it
abbrev pub fence_of_call : Option CallState → Option FenceName
fence_of_call (Some (CallState.in_fence f)) = Some f
fence_of_call (Some (CallState.released f gone)) = Some f
fence_of_call c = None

-- The process was released from the fence at the end of the journal, before its last event. At some time of the journal the fence was
-- ready at the node, with the participants that were gone by then. All publications until the end are known. Therefore the fence is ready
-- at the known levels.
pub record WasReadyAt (jobs : Jobs) (id : ℕ) (p : Proc) (fence : FenceName) (gone : List Proc) (journal : List Happening) (known : List Publication) : Type 0 where
  pub es : List Happening
  pub later : List Happening
  pub last : Happening
  pub is_journal : journal ≡ (es ++ later) ++ last ∷ []
  pub released : call_at jobs id (es ++ later) p ≡ Some (CallState.released fence gone)
  pub ready : is_ready_at jobs id (after_all (new_server jobs id) es).holding fence ≡ true
  pub gone_then : gone ≡ gone_by jobs id (after_all (new_server jobs id) es).holding.table fence
  pub levels_known : is_ready jobs id (after_all (new_server jobs id) es).holding.table fence (level_at (far_of known)) ≡ true

-- The node gave this reply to the act at the end of some journal, which is a replay.
pub record WasReplied (jobs : Jobs) (id : ℕ) (act : Act) (reply : Reply) : Type 0 where
  pub es : List Happening
  pub replay : IsReplay (new_server jobs id) (es ++ happening act reply ∷ [])

-- Some journal of the node, which is a replay, sent the frames. They are all its frames without some first ones.
pub record WasSent (jobs : Jobs) (id : ℕ) (frames : List Sent) : Type 0 where
  pub es : List Happening
  pub replay : IsReplay (new_server jobs id) es
  pub taken : ℕ
  pub are_the_rest : frames ≡ drop taken (sent_over (new_server jobs id) es)

-- The text is the far dump of the node after some journal, which is a replay.
pub record WasFarDump (jobs : Jobs) (id : ℕ) (text : List ℕ) : Type 0 where
  pub es : List Happening
  pub replay : IsReplay (new_server jobs id) es
  pub is_dump : text ≡ dump (after_all (new_server jobs id) es).holding.far
