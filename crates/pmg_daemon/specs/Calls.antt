-- The calls of a process on its node through a link: the due reply, and the link afterwards.
use Rattle.std.specs.Prelude.{◌≡◌, ◌⊎◌, ℕ, List, Option, Some, None, Result, Ok, Err}
use Rattle.pmg_value.specs.CheckOrder.{first_of}
use Rattle.pmg_value.specs.Spelling.{spelling}
use Rattle.pmg_value.specs.declared.process.Proc.{Proc}
use Rattle.pmg_value.specs.declared.refusal.Refusal.{Refusal}
use Rattle.pmg_value.specs.declared.refusal.Refusal.TheVariants as refusals
use Rattle.pmg_scope.specs.declared.scope.Scope.{Scope}
use Rattle.pmg_node_model.specs.Acts.{Act, Reply, Request}
use Rattle.pmg_node.specs.Acting.{request_of}
use Rattle.pmg_node.specs.Servers.{IsAccepted, reply_to}
use Rattle.pmg_group_model.specs.Worlds.{reply_or_refusal}
use Rattle.pmg_caches.specs.Caching.{cached_for, put_cause_at}
use Rattle.pmg_caches.specs.OwnKeys.{own_answer, own_key}
use Rattle.pmg_link.specs.Links.{Linked, after_request, commit_of, link_after, link_committed, link_with_put}
use Rattle.pmg_daemon.specs.declared.call.ProcCall.{ProcCall as GivenCall}
use Rattle.pmg_daemon.specs.declared.call.ProcCall.TheVariants as calls

-- a put of a process; its commit; or a request
pub data ProcCall : Type 0 where
  put : Proc → Scope → List ℕ → List ℕ → ProcCall
  commit : Proc → ProcCall
  request : Request → ProcCall

-- the meaning of the code's call
abbrev pub proc_call_of : GivenCall → ProcCall
proc_call_of (calls.Put p scope key value) = ProcCall.put p scope key (spelling value)
proc_call_of (calls.Commit p) = ProcCall.commit p
proc_call_of (calls.Request r) = ProcCall.request (request_of r)

-- the due reply to a put: it is done, or its refusal
abbrev pub put_due : Linked → Proc → Scope → List ℕ → List ℕ → Result Reply Refusal
put_due l p scope key value = first_of (put_cause_at l.node (cached_for l.caches p) p scope key value) Reply.done

-- the due reply to a request: the client's puts answer a get of the process's own key, the node any other
abbrev pub request_due_by : Option (Proc × List ℕ) → Linked → Request → Reply
request_due_by None l r = reply_to l.node (Act.request r)
request_due_by (Some own) l r = reply_or_refusal (own_answer l.node (cached_for l.caches own.0) own.0 own.1)

-- the due reply to a call
unfoldable pub call_due : Linked → ProcCall → Reply
call_due l (ProcCall.put p scope key value) = reply_or_refusal (put_due l p scope key value)
call_due l (ProcCall.commit p) = reply_to l.node (commit_of l p)
call_due l (ProcCall.request r) = request_due_by (own_key r) l r

-- A call is accepted, or passes a limit: for some calls only copies show the limit.
abbrev pub MayBeDone : Reply → Type 0
MayBeDone due = IsAccepted due ⊎ (due ≡ Reply.refused refusals.TooMany)

-- the link after a put with this due reply
abbrev pub after_put : Result Reply Refusal → Linked → Proc → Scope → List ℕ → List ℕ → Linked
after_put (Ok r) l p scope key value = link_with_put l p scope key value
after_put (Err e) l p scope key value = l

-- the link after a commit with this due reply: refused puts remain to be committed
abbrev pub after_commit_due : Reply → Linked → Proc → Linked
after_commit_due (Reply.refused e) l p = link_after l (commit_of l p)
after_commit_due _ l p = link_committed l p

-- the link after a call
unfoldable pub call_after : Linked → ProcCall → Linked
call_after l (ProcCall.put p scope key value) = after_put (put_due l p scope key value) l p scope key value
call_after l (ProcCall.commit p) = after_commit_due (reply_to l.node (commit_of l p)) l p
call_after l (ProcCall.request r) = after_request l r

-- ---- the meaning of arguments, which may be no call

-- the due reply: the refusal of the arguments, or the due reply to the call
abbrev pub said_due : Linked → Result ProcCall Refusal → Reply
said_due l (Ok call) = call_due l call
said_due l (Err e) = Reply.refused e

-- the link after the call of the arguments
abbrev pub said_after : Linked → Result ProcCall Refusal → Linked
said_after l (Ok call) = call_after l call
said_after l (Err e) = l
