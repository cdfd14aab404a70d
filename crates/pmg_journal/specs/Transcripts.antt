-- The calls of a client, with values as their canonical bytes, and the state that follows from them.
use Rattle.std.specs.Prelude.{◌≡◌, ℕ, Bool, true, false, List, [], ◌∷◌, ◌++◌, map, Result, Ok, Err}
use Rattle.pmg_value.specs.Spelling.{spelling}
use Rattle.pmg_value.specs.declared.refusal.Refusal.{Refusal}
use Rattle.pmg_value.specs.declared.refusal.Refusal.TheVariants as refusals
use Rattle.pmg_scope.specs.Cached.{Cached, after_commit, put_cause, with_put}
use Rattle.pmg_scope.specs.declared.scope.Scope.{Scope}
use Rattle.pmg_node_model.specs.Acts.{Reply, Request}
use Rattle.pmg_node.specs.Acting.{reply_as, request_of}
use Rattle.pmg_node.specs.Servers.{reply_in}
use Rattle.pmg_journal.specs.declared.transcript.Call.{Call}
use Rattle.pmg_journal.specs.declared.transcript.Call.TheVariants as calls
use Rattle.pmg_journal.specs.declared.transcript.Called.{Called}
use Rattle.pmg_journal.specs.declared.transcript.Transcript.{Transcript}

-- a call: a put, a commit, or a request
pub data Calling : Type 0 where
  put : Scope → List ℕ → List ℕ → Calling
  commit : Calling
  request : Request → Calling

-- the call is a put
abbrev pub is_put : Calling → Bool
is_put (Calling.put scope key value) = true
is_put Calling.commit = false
is_put (Calling.request r) = false

-- a call with its reply
pub record Noted : Type 0 where
  pub call : Calling
  pub reply : Reply

-- the call with that reply
abbrev pub noted : Calling → Reply → Noted
noted call reply = record { call = call; reply = reply }

-- the meaning of the code's call
abbrev pub calling_of : Call → Calling
calling_of (calls.Put scope key value) = Calling.put scope key (spelling value)
calling_of calls.Commit = Calling.commit
calling_of (calls.Request r) = Calling.request (request_of r)

-- the meaning of the code's call with its reply
abbrev pub noted_of : Called → Noted
noted_of c = noted (calling_of c.call) (reply_in reply_as c.answer)

-- the calls of the transcript with their replies
abbrev pub noted_in : Transcript → List Noted
noted_in t = map noted_of t.calls.items

-- ---- the client's puts

-- the cache after a put with that reply: the put is added if it is done
abbrev pub put_by : Cached → Scope → List ℕ → List ℕ → Reply → Cached
put_by c scope key value Reply.done = with_put c scope key value
put_by c scope key value _ = c

-- the cache after a commit with that reply: all of it is sealed if the commit was made
abbrev pub commit_by : Cached → Reply → Cached
commit_by c (Reply.committed number) = after_commit c
commit_by c _ = c

-- the cache after a call: after a put that is done, and after a commit
abbrev pub cached_by : Cached → Calling → Reply → Cached
cached_by c (Calling.put scope key value) reply = put_by c scope key value reply
cached_by c Calling.commit reply = commit_by c reply
cached_by c (Calling.request r) reply = c

-- the client's puts after these later calls with their answers
abbrev pub cached_after : Cached → List Noted → Cached
cached_after c [] = c
cached_after c (n ∷ ns) = cached_after (cached_by c n.call n.reply) ns

-- ---- whether a call waits

-- A call waits from the entry of a fence, or from a get that parks, until the process is released, or the get is answered.
abbrev pub waits_reply : Bool → Reply → Bool
waits_reply w (Reply.entered instance) = true
waits_reply w Reply.parked = true
waits_reply w (Reply.released instance gone) = false
waits_reply w (Reply.found value) = false
waits_reply w (Reply.refused refusals.NotFound) = false
waits_reply w (Reply.refused refusals.OutsideScope) = false
waits_reply w _ = w

-- whether a call waits after this one; a put and a commit change nothing
abbrev pub waits_by : Bool → Calling → Reply → Bool
waits_by w (Calling.put scope key value) reply = w
waits_by w Calling.commit reply = w
waits_by w (Calling.request r) reply = waits_reply w reply

-- whether a call of the client waits, after these calls with their replies
abbrev pub waits_after : Bool → List Noted → Bool
waits_after w [] = w
waits_after w (n ∷ ns) = waits_after (waits_by w n.call n.reply) ns

-- ---- the notes of calls

-- The causes to refuse a put: the causes of its cache, and a call that waits.
abbrev pub put_cause_of : Bool → Cached → Scope → List ℕ → List ℕ → Refusal → Bool
put_cause_of waits c scope key value refusals.Busy = waits
put_cause_of waits c scope key value e = put_cause c scope key value e

-- There is one more call, with its reply. If an allocation failed, it may be missing.
abbrev pub NotesCall : List Noted → List Noted → Calling → {X : Type 0} → (X → Reply) → Result X Refusal → Type 0
NotesCall old new call view (Ok x) = new ≡ old ++ noted call (view x) ∷ []
NotesCall old new call view (Err refusals.NoMemory) = new ≡ old
NotesCall old new call view (Err e) = new ≡ old ++ noted call (Reply.refused e) ∷ []

-- the answer is the due one, unless an allocation failed
abbrev pub Answers : {X : Type 0} → Result X Refusal → Result X Refusal → Type 0
Answers (Err refusals.NoMemory) due = Unit {0}
Answers answer due = due ≡ answer
