-- A node, and its acts with the frames that they send.
use Rattle.std.specs.Prelude.{◌≡◌, ◌⊎◌, ◌≤◌, ℕ, List, is_some, true, Result, Ok, Err, refl}
use Rattle.std.specs.Coded.{Coded, code_by, coded×, coded_ℕ}
use Rattle.std.specs.FinMap as finite
use Rattle.std.specs.FinSet as set
use Rattle.pmg_value.specs.Lists.{In}
use Rattle.pmg_value.specs.declared.process.Proc.{Proc}
use Rattle.pmg_value.specs.declared.refusal.Refusal.{Refusal}
use Rattle.pmg_value.specs.declared.refusal.Refusal.TheVariants as refusals
use Rattle.pmg_frame.specs.declared.fence_name.TheConstants.{MAX_INSTANCE}
use Rattle.pmg_frame.specs.declared.signature.TheConstants.{MAX_PARTICIPANTS}
use Rattle.pmg_jobinfo.specs.Jobs.{Jobs, AreJobs, coded_jobs, is_node}
use Rattle.pmg_fence.specs.Tables.{count_of}
use Rattle.pmg_dmodex.specs.Levels.{Levels, coded_levels, node_level as mark_at}
use Rattle.pmg_node_model.specs.Acts.{Act, Request, Reply, acts, is_peer, signature_of}
use Rattle.pmg_node_model.specs.Choosing.{chosen}
use Rattle.pmg_node_parts.specs.Codes.{coded_holding}
use Rattle.pmg_node_parts.specs.Marking.{senders}
use Rattle.pmg_node_model.specs.Holdings.{NodeState}
use Rattle.pmg_node_model.specs.Kept.{IsOwn, IsServer}
use Rattle.pmg_node_model.specs.declared.sent.Sent.{Sent}

-- a node: its group's jobs, its index, its state, and its marks
pub record Server : Type 0 where
  pub jobs : Jobs
  pub id : ℕ
  pub holding : NodeState
  pub marks : Levels

-- a node as a tuple
abbrev pub coded_server : Coded Server
coded_server =
    code_by (Jobs × (ℕ × (NodeState × Levels))) (coded× coded_jobs (coded× coded_ℕ (coded× coded_holding coded_levels))) (λ s. (s.jobs, (s.id, (s.holding, s.marks))))
    (λ p. record { jobs = p.0; id = p.1.0; holding = p.1.1.0; marks = p.1.1.1 }) (λ _. refl)

-- the node's reply to an act
abbrev pub reply_to : Server → Act → Reply
reply_to s a = (acts s.jobs s.id s.holding a).reply

-- the frames that the node sends by the act
abbrev pub sent_by : Server → Act → List Sent
sent_by s a = (chosen s.jobs s.id s.holding s.marks a).frames

-- the node after the act
abbrev pub after : Server → Act → Server
after s a = record { jobs = s.jobs; id = s.id; holding = (acts s.jobs s.id s.holding a).left; marks = (chosen s.jobs s.id s.holding s.marks a).marks }

-- the answer as a reply
abbrev pub reply_in : {X : Type 0} → (X → Reply) → Result X Refusal → Reply
reply_in view (Ok x) = view x
reply_in view (Err e) = Reply.refused e

-- the due reply is not a refusal
abbrev pub IsAccepted : Reply → Type 0
IsAccepted (Reply.refused e) = ⊥
IsAccepted _ = Unit {0}

-- a refusal is the due one; `NoMemory` comes only if no other refusal is due
abbrev pub Refuses : Refusal → Reply → Type 0
Refuses refusals.NoMemory due = IsAccepted due
Refuses e due = due ≡ Reply.refused e

-- the answer, as a reply, is the due one, or an allocation of the call failed
abbrev pub Replies : {X : Type 0} → (X → Reply) → Result X Refusal → Reply → Type 0
Replies view (Ok x) due = due ≡ view x
Replies view (Err e) due = Refuses e due

-- the process entered fences of these participants, within their limit, as often as it may
abbrev pub IsSpent : Server → Act → Type 0
IsSpent s (Act.request (Request.enter p list collect)) =
    let g = signature_of s.jobs p list collect in (set.len g.participants ≤ MAX_PARTICIPANTS) × (MAX_INSTANCE ≤ count_of s.holding.table g p)
IsSpent s _ = ⊥

-- A refusal is the due one. `NoMemory` comes only if no other refusal is due, or if an entry is one too many: the count of entries needs
-- the participants that the process's list means.
abbrev pub RefusesAct : Server → Act → Refusal → Type 0
RefusesAct s a refusals.NoMemory = IsAccepted (reply_to s a) ⊎ ((reply_to s a ≡ Reply.refused refusals.TooMany) × IsSpent s a)
RefusesAct s a e = reply_to s a ≡ Reply.refused e

-- the answer of any act, as a reply, is the due one, or an allocation of the act failed
abbrev pub RepliesAct : {X : Type 0} → (X → Reply) → Result X Refusal → Server → Act → Type 0
RepliesAct view (Ok x) s a = reply_to s a ≡ view x
RepliesAct view (Err e) s a = RefusesAct s a e

-- no allocation of the call failed
abbrev pub IsAnswered : {X : Type 0} → Result X Refusal → Type 0
IsAnswered (Ok x) = Unit {0}
IsAnswered (Err refusals.NoMemory) = ⊥
IsAnswered (Err e) = Unit {0}

-- each own process has a sealer
abbrev pub HasSealers : Jobs → ℕ → NodeState → Type 0
HasSealers jobs id h = (p : Proc) → IsOwn jobs id p → is_some (finite.get h.sealers p) ≡ true

-- each process whose commits the node may send has a mark at each other node of the group
abbrev pub HasMarks : Jobs → ℕ → Levels → Type 0
HasMarks jobs id marks = (p : Proc) (node : ℕ) → In p (senders jobs id) → is_peer jobs id node ≡ true → is_some (mark_at marks p node) ≡ true

-- the invariant of a node
pub record IsNode (s : Server) : Type 0 where
  pub jobs : AreJobs s.jobs
  pub node : is_node s.jobs s.id ≡ true
  pub server : IsServer s.jobs s.id s.holding
  pub sealers : HasSealers s.jobs s.id s.holding
  pub marks : HasMarks s.jobs s.id s.marks
