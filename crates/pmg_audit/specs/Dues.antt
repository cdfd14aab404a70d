-- The claims of a transcript about its client's events.
use Rattle.std.specs.Prelude.{ℕ, Bool, true, false, ◌&&◌, List, [], ◌∷◌, ◌++◌, Option, Some, None, is_ok, if◌then◌else◌}
use Rattle.pmg_value.specs.CheckOrder.{first_of}
use Rattle.pmg_value.specs.declared.process.Proc.{Proc}
use Rattle.pmg_value.specs.declared.refusal.Refusal.TheVariants as refusals
use Rattle.pmg_scope.specs.Cached.{Cached, no_puts, put_cause, unsealed_of}
use Rattle.pmg_scope.specs.declared.scope.Scope.{Scope}
use Rattle.pmg_node_model.specs.Acts.{Act, Reply}
use Rattle.pmg_journal.specs.Replays.{Happening, happening}
use Rattle.pmg_journal.specs.Transcripts.{Calling, Noted, cached_by, noted_in}
use Rattle.pmg_journal.specs.declared.transcript.Transcript.{Transcript}
use Rattle.pmg_audit.specs.Moves.{Move, Put, is_own_ask}

-- a call whose allocation failed, or that found its desk closed, is passed over: it is no event
abbrev pub is_passed : Reply → Bool
is_passed (Reply.refused refusals.NoMemory) = true
is_passed (Reply.refused refusals.Closed) = true
is_passed _ = false

-- an event that a client claims: the puts since its previous event, the act, and its reply
pub record Due : Type 0 where
  pub puts : List Put
  pub act : Act
  pub reply : Reply

-- an event that a client claims: after these puts, the act with its reply
abbrev pub made_due : List Put → Act → Reply → Due
made_due puts act reply = record { puts = puts; act = act; reply = reply }

-- the event, as in a journal
abbrev pub due_event : Due → Happening
due_event d = happening d.act d.reply

-- the move, as its client claims it
abbrev pub due_in : Move → Due
due_in m = made_due m.puts m.act m.reply

-- a put of the value under the key, with that scope
abbrev pub due_put : Scope → List ℕ → List ℕ → Put
due_put scope key value = record { scope = scope; key = key; value = value }

-- the act of a call, if the process's cache is this; a put, and a get of the process's own key, have no act
abbrev pub act_by : Proc → Cached → Calling → Option Act
act_by p c (Calling.put scope key value) = None
act_by p c Calling.commit = Some (Act.commit p (unsealed_of c))
act_by p c (Calling.request r) = if is_own_ask (Act.request r) then None else Some (Act.request r)

-- the act of a call, unless it is passed over
abbrev pub act_said : Proc → Cached → Noted → Option Act
act_said p c n = if is_passed n.reply then None else act_by p c n.call

-- the puts by then that belong to no event yet
abbrev pub put_by_call : List Put → Calling → Reply → List Put
put_by_call puts (Calling.put scope key value) Reply.done = puts ++ due_put scope key value ∷ []
put_by_call puts call reply = puts

-- the event of the act, after these puts and with that reply; empty without an act
abbrev pub due_of : List Put → Reply → Option Act → List Due
due_of puts reply None = []
due_of puts reply (Some a) = made_due puts a reply ∷ []

-- the puts after the call that belong to no event yet
abbrev pub puts_next : List Put → Noted → Option Act → List Put
puts_next puts n None = put_by_call puts n.call n.reply
puts_next puts n (Some a) = []

-- The events that the calls claim, with this cache, whose latest puts since the previous event are these. A commit carries the cache's
-- puts that no commit sealed.
unfoldable pub dues : Proc → Cached → List Put → List Noted → List Due
dues p c puts [] = []
dues p c puts (n ∷ ns) = due_of puts n.reply (act_said p c n) ++ dues p (cached_by c n.call n.reply) (puts_next puts n (act_said p c n)) ns

-- the events of a client, by its transcript
abbrev pub dues_of : Transcript → List Due
dues_of t = dues t.proc no_puts [] (noted_in t)

-- the puts after the calls that belong to no event
unfoldable pub puts_after : Proc → Cached → List Put → List Noted → List Put
puts_after p c puts [] = puts
puts_after p c puts (n ∷ ns) = puts_after p (cached_by c n.call n.reply) (puts_next puts n (act_said p c n)) ns

-- the puts of a client after its last event, by its transcript
abbrev pub last_puts : Transcript → List Put
last_puts t = puts_after t.proc no_puts [] (noted_in t)

-- the cache takes the put, if the put is claimed to be done
abbrev pub takes_put : Cached → Calling → Reply → Bool
takes_put c (Calling.put scope key value) Reply.done = is_ok (first_of (put_cause c scope key value) (tt {0}))
takes_put c call reply = true

-- the cache takes each put that is claimed to be done
unfoldable pub takes_all : Cached → List Noted → Bool
takes_all c [] = true
takes_all c (n ∷ ns) = takes_put c n.call n.reply && takes_all (cached_by c n.call n.reply) ns
