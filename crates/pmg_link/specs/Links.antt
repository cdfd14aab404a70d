-- A server with its clients' caches, and its waiting frames.
use Rattle.std.specs.Prelude.{◌≡◌, ◌⊎◌, ℕ, ◌++◌, List, [], ◌∷◌, Option, Some, None, Result, Ok, Err, refl}
use Rattle.std.specs.Coded.{Coded, code_by, coded×, coded_list, coded_option}
use Rattle.std.specs.FinMap as finite
use Rattle.pmg_value.specs.Rows.{changed_at}
use Rattle.pmg_value.specs.declared.process.Proc.{Proc}
use Rattle.pmg_value.specs.declared.refusal.Refusal.{Refusal}
use Rattle.pmg_value.specs.declared.refusal.Refusal.TheVariants as refusals
use Rattle.pmg_scope.specs.Cached.{after_commit, unsealed_of, with_put}
use Rattle.pmg_scope.specs.declared.scope.Scope.{Scope}
use Rattle.pmg_commit.specs.Knowledge.{Contribution}
use Rattle.pmg_frame.specs.declared.frame.Frame.{Frame}
use Rattle.pmg_node_model.specs.Acts.{Act, Reply, Request}
use Rattle.pmg_node_model.specs.declared.sent.Sent.{Sent}
use Rattle.pmg_node.specs.Acting.{reply_as}
use Rattle.pmg_node.specs.Joining.{Joins, joins, no_joins}
use Rattle.pmg_node.specs.Servers.{Server, IsAccepted, Replies, RepliesAct, after, coded_server, reply_to, sent_by}
use Rattle.pmg_node.specs.declared.act.Reply.{Reply as GivenReply}
use Rattle.pmg_group_model.specs.Worlds.{reply_or_refusal}
use Rattle.pmg_caches.specs.Caching.{AllCached, cached_for, coded_all_cached}
use Rattle.pmg_caches.specs.OwnKeys.{own_answer, own_key}
use Rattle.pmg_link.specs.declared.inbox.Inbox.{Inbox}

-- a node, the puts of its clients, its waiting frames, the next one first, and the pieces that its last act joined
pub record Linked : Type 0 where
  pub node : Server
  pub caches : AllCached
  pub waiting : List Sent
  pub joined : Joins

-- the code of a link, from the codes of a sent frame and of a contribution
abbrev pub coded_linked : Coded Sent → Coded Contribution → Coded Linked
coded_linked coded_sent coded_piece =
    code_by (Server × (AllCached × (List Sent × (Option Contribution × Option Contribution))))
    (coded× coded_server (coded× coded_all_cached (coded× (coded_list coded_sent) (coded× (coded_option coded_piece) (coded_option coded_piece)))))
    (λ l. (l.node, (l.caches, (l.waiting, (l.joined.near, l.joined.far)))))
    (λ p. record { node = p.0; caches = p.1.0; waiting = p.1.1.0; joined = record { near = p.1.1.1.0; far = p.1.1.1.1 } }) (λ _. refl)

-- a link of the node, without puts, waiting frames and joined pieces
abbrev pub new_link : Server → Linked
new_link s = record { node = s; caches = finite.empty; waiting = []; joined = no_joins }

-- the link after the node performed the act: the sent frames wait after the waiting ones
abbrev pub link_after : Linked → Act → Linked
link_after l a = record {
  node = after l.node a;
  caches = l.caches;
  waiting = l.waiting ++ sent_by l.node a;
  joined = joins l.node.jobs l.node.id l.node.holding a;
}

-- ---- calls of clients

-- the link after the process's client put that value
abbrev pub link_with_put : Linked → Proc → Scope → List ℕ → List ℕ → Linked
link_with_put l p scope key value = record {
  node = l.node;
  caches = finite.insert l.caches p (with_put (cached_for l.caches p) scope key value);
  waiting = l.waiting;
  joined = l.joined;
}

-- the act of the node if the process commits its client's puts
abbrev pub commit_of : Linked → Proc → Act
commit_of l p = Act.commit p (unsealed_of (cached_for l.caches p))

-- the link after that commit
abbrev pub link_committed : Linked → Proc → Linked
link_committed l p =
    let done = link_after l (commit_of l p) in
    record { node = done.node; caches = changed_at l.caches p (after_commit (cached_for l.caches p)); waiting = done.waiting; joined = done.joined }

-- The refusal of a commit is the due one. NoMemory comes only if the commit would be accepted, or would pass a limit: only a copy of the
-- puts shows whether it does.
abbrev pub RefusesCommit : Refusal → Reply → Type 0
RefusesCommit refusals.NoMemory due = IsAccepted due ⊎ (due ≡ Reply.refused refusals.TooMany)
RefusesCommit e due = due ≡ Reply.refused e

-- the answer to a commit is the due one, or an allocation of the commit failed
abbrev pub RepliesCommit : Result GivenReply Refusal → Reply → Type 0
RepliesCommit (Ok r) due = due ≡ reply_as r
RepliesCommit (Err e) due = RefusesCommit e due

-- The answer to a request: the client's puts answer a get of the process's own key, and the node answers any other request.
abbrev pub RepliesBy : Option (Proc × List ℕ) → Linked → Request → Result GivenReply Refusal → Type 0
RepliesBy None l r answer = RepliesAct reply_as answer l.node (Act.request r)
RepliesBy (Some own) l r answer = Replies reply_as answer (reply_or_refusal (own_answer l.node (cached_for l.caches own.0) own.0 own.1))

-- the answer to a request, by the target of its get
abbrev pub RepliesRequest : Linked → Request → Result GivenReply Refusal → Type 0
RepliesRequest l r answer = RepliesBy (own_key r) l r answer

-- the link afterwards, which a get of the process's own key leaves unchanged
abbrev pub after_by : Option (Proc × List ℕ) → Linked → Request → Linked
after_by None l r = link_after l (Act.request r)
after_by (Some own) l r = l

-- the link after a request
abbrev pub after_request : Linked → Request → Linked
after_request l r = after_by (own_key r) l r

-- ---- frames of other nodes

-- the first frame is delivered, with that reply, and waits no more
pub record DeliversFirst (c d : Inbox) (l m : Linked) (reply : GivenReply) : Type 0 where
  pub frame : Frame
  pub first : c.frames.items ≡ frame ∷ d.frames.items
  pub stream : d.stream ≡ c.stream
  pub fault : d.fault ≡ c.fault
  pub replies : reply_to l.node (Act.deliver frame) ≡ reply_as reply
  pub done : m ≡ link_after l (Act.deliver frame)

-- the first frame is delivered, or no frame waits and nothing is done
abbrev pub DeliversNext : Inbox → Inbox → Linked → Linked → Option GivenReply → Type 0
DeliversNext c d l m None = (c.frames.items ≡ []) × ((d ≡ c) × (m ≡ l))
DeliversNext c d l m (Some reply) = DeliversFirst c d l m reply
