-- The events at one node of a group, one after another: its clients' puts, the replies, and the frames that it sent.
use Rattle.std.specs.Prelude.{◌≡◌, ◌⊎◌, ℕ, Bool, true, false, List, [], ◌∷◌, Option, Some, None, Ok, if◌then◌else◌}
use Rattle.pmg_value.specs.CheckOrder.{first_of}
use Rattle.pmg_value.specs.declared.process.Proc.{Proc}
use Rattle.pmg_scope.specs.Cached.{Cached, put_cause, unsealed_of, with_put}
use Rattle.pmg_scope.specs.declared.scope.Scope.{Scope}
use Rattle.pmg_jobinfo.specs.Jobs.{home_of}
use Rattle.pmg_node_model.specs.Acts.{Act, Reply, Request, free_cause}
use Rattle.pmg_node_model.specs.declared.sent.Sent.{Sent}
use Rattle.pmg_node.specs.Servers.{Server, after, reply_to, sent_by}
use Rattle.pmg_group_model.specs.Worlds.{is_own}
use Rattle.pmg_journal.specs.Calling.{caller_of, is_by}
use Rattle.pmg_journal.specs.Replays.{Happening, happening}
use Rattle.pmg_journal.specs.Transcripts.{commit_by}

-- a put that is done
pub record Put : Type 0 where
  pub scope : Scope
  pub key : List ℕ
  pub value : List ℕ

-- An event of a journal: the puts of its client since the previous event, the act, its reply, and the frames that the node sent then.
pub record Move : Type 0 where
  pub puts : List Put
  pub act : Act
  pub reply : Reply
  pub frames : List Sent

-- the event of the move, as in the journal
abbrev pub event_in : Move → Happening
event_in m = happening m.act m.reply

-- ---- the callers

-- a get of the process's own key, for which no node is asked
abbrev pub is_own_ask : Act → Bool
is_own_ask (Act.request (Request.ask p get mode)) = is_own p get
is_own_ask _ = false

-- ---- the puts

-- the cache after all of these puts
abbrev pub put_all : Cached → List Put → Cached
put_all c [] = c
put_all c (x ∷ xs) = put_all (with_put c x.scope x.key x.value) xs

-- the cache refuses no put of the list
abbrev pub AllPut : Cached → List Put → Type 0
AllPut c [] = Unit {0}
AllPut c (x ∷ xs) = (first_of (put_cause c x.scope x.key x.value) (tt {0}) ≡ Ok tt) × AllPut (with_put c x.scope x.key x.value) xs

-- the cache after the act with that reply
abbrev pub cache_then : Cached → Act → Reply → Cached
cache_then c (Act.commit p b) r = commit_by c r
cache_then c (Act.request q) r = c
cache_then c (Act.deliver frame) r = c

-- a commit seals the cache's puts that no commit sealed
abbrev pub Seals : Cached → Act → Type 0
Seals c (Act.commit p b) = b ≡ unsealed_of c
Seals c (Act.request q) = Unit {0}
Seals c (Act.deliver frame) = Unit {0}

-- the cache of the process after the move
abbrev pub cache_next : Proc → Cached → Move → Cached
cache_next p c m = if is_by p m.act then cache_then (put_all c m.puts) m.act m.reply else c

-- the cache takes the puts before the process's event, and a commit carries them
abbrev pub FitsMove : Proc → Cached → Move → Type 0
FitsMove p c m = is_by p m.act ≡ true → AllPut c m.puts × Seals (put_all c m.puts) m.act × (is_own_ask m.act ≡ false)

-- all moves fit, one after another
unfoldable pub PutsFit : Proc → Cached → List Move → Type 0
PutsFit p c [] = Unit {0}
PutsFit p c (m ∷ ms) = FitsMove p c m × PutsFit p (cache_next p c m) ms

-- ---- replays

-- the caller is at home at the node; if it made puts, it was in no call there, and had not ended
abbrev pub PutsAt : Server → Option Proc → List Put → Type 0
PutsAt s None puts = puts ≡ []
PutsAt s (Some p) puts = (home_of s.jobs p ≡ s.id) × ((puts ≡ []) ⊎ (first_of (free_cause s.jobs s.id s.holding p) (tt {0}) ≡ Ok tt))

-- the server there gives each reply and sends the frames
unfoldable pub Replays : Server → List Move → Type 0
Replays s [] = Unit {0}
Replays s (m ∷ ms) = (reply_to s m.act ≡ m.reply) × (m.frames ≡ sent_by s m.act) × PutsAt s (caller_of m.act) m.puts × Replays (after s m.act) ms

-- the server after the moves
abbrev pub server_after : Server → List Move → Server
server_after s [] = s
server_after s (m ∷ ms) = server_after (after s m.act) ms
