-- The acts by which an own process, or the process that represents the group's host, makes a commit.
use Rattle.std.specs.Prelude.{◌≡◌, ℕ, List, [], true, false, is_some, Result, Ok}
use Rattle.std.specs.FinMap as finite
use Rattle.std.specs.FinSet as set
use Rattle.pmg_value.specs.CheckOrder.{first_of}
use Rattle.pmg_value.specs.Process.{proc_cmp, is_host}
use Rattle.pmg_value.specs.declared.process.Proc.{Proc}
use Rattle.pmg_value.specs.declared.refusal.Refusal.{Refusal}
use Rattle.pmg_commit.specs.Sealed.{Sealed, sealed_with, commit_answer}
use Rattle.pmg_commit.specs.TakenBack.{CanRollBack}
use Rattle.pmg_commit.specs.declared.sealer.SealerUndo.{SealerUndo}
use Rattle.pmg_jobinfo.specs.Expansion.{expansion}
use Rattle.pmg_jobinfo.specs.Jobs.{Jobs}
use Rattle.pmg_pset.specs.Members.{each_once, proc_bytes, no_members}
use Rattle.pmg_pset.specs.Refusing.{define_cause, delete_cause}
use Rattle.pmg_pset.specs.Sets.{host, set_changed, AreSetsBack}
use Rattle.pmg_node_model.specs.Acts.{Act, Request, Reply, also, cause, free_cause, name_cause, node_cause, members_of}
use Rattle.pmg_node_model.specs.Holdings.{NodeState}
use Rattle.pmg_node_parts.specs.Owns.{LocalCommits, sealed_of, with_sealed, with_sets}
use Rattle.pmg_node_parts.specs.Telling.{spread_by}
use Rattle.pmg_node_model.specs.declared.due.ToSend.{ToSend}
use Rattle.pmg_node.specs.declared.committing.Committed.{Committed}
use Rattle.pmg_node.specs.declared.sealing.SealingAct.{SealingAct}
use Rattle.pmg_node.specs.declared.sealing.SealingAct.TheVariants as sealings

-- the act
abbrev pub sealing_act : SealingAct → Act
sealing_act (sealings.Commit p batch) = Act.commit p.now batch.now
sealing_act (sealings.Define name list) = Act.request (Request.define name.now list.now)
sealing_act (sealings.Delete name) = Act.request (Request.delete name.now)

-- the process that makes the commit: for a change of the sets this is the process that represents the host
abbrev pub sealer_named : SealingAct → Proc
sealer_named (sealings.Commit p batch) = p.now
sealer_named (sealings.Define name list) = host
sealer_named (sealings.Delete name) = host

-- the reply, by the commit's number
abbrev pub reply_sealed : SealingAct → ℕ → Reply
reply_sealed (sealings.Commit p batch) level = Reply.committed level
reply_sealed (sealings.Define name list) level = Reply.defined level
reply_sealed (sealings.Delete name) level = Reply.defined level

-- the reply, by the result of the commit
abbrev pub sealing_reply : SealingAct → Committed → Reply
sealing_reply a c = reply_sealed a c.level

-- the check before anything is sealed
abbrev pub judged_before : Jobs → ℕ → NodeState → SealingAct → Result (Unit {0}) Refusal
judged_before jobs id h (sealings.Commit p batch) = first_of (free_cause jobs id h p.now) tt
judged_before jobs id h (sealings.Define name list) = first_of (cause jobs id h (Act.request (Request.define name.now list.now))) tt
judged_before jobs id h (sealings.Delete name) = first_of (also (node_cause id) (name_cause name.now)) tt

-- ---- the sealed states of own processes

-- the sealed state before the act, of the process that makes the commit
abbrev pub last_sealed : LocalCommits → SealingAct → Sealed
last_sealed own (sealings.Commit p batch) = sealed_of own p.now
last_sealed own (sealings.Define name list) = own.sets
last_sealed own (sealings.Delete name) = own.sets

-- the sealed state after the act
abbrev pub sealed_next : Jobs → LocalCommits → SealingAct → Sealed
sealed_next jobs own (sealings.Commit p batch) = sealed_with (sealed_of own p.now) batch.now
sealed_next jobs own (sealings.Define name list) = set_changed own.sets name.now (proc_bytes (each_once (members_of jobs list.now)))
sealed_next jobs own (sealings.Delete name) = set_changed own.sets name.now no_members

-- replaces the sealed state
abbrev pub with_next : LocalCommits → SealingAct → Sealed → LocalCommits
with_next own (sealings.Commit p batch) z = with_sealed own p.now z
with_next own (sealings.Define name list) z = with_sets own z
with_next own (sealings.Delete name) z = with_sets own z

-- The precondition of the act. An own process that commits has a sealer. The sets accept each way to write the members of a defined set.
abbrev pub CanSealNext : Jobs → LocalCommits → SealingAct → Type 0
CanSealNext jobs own (sealings.Commit p batch) = (is_host p.now ≡ false) × (is_some (finite.get own.sealers p.now) ≡ true)
CanSealNext jobs own (sealings.Define name list) =
    (items : List Proc) → set.from_list {R = proc_cmp} items ≡ expansion jobs list.now → first_of (define_cause own.sets name.now items) own.sets ≡ Ok own.sets
CanSealNext jobs own (sealings.Delete name) = Unit {0}

-- the sealed state before the act, unless sealing the next commit shows a refusal
abbrev pub sealing_answer : LocalCommits → SealingAct → Result Sealed Refusal
sealing_answer own (sealings.Commit p batch) = commit_answer (sealed_of own p.now) batch.now
sealing_answer own (sealings.Define name list) = Ok own.sets
sealing_answer own (sealings.Delete name) = first_of (delete_cause own.sets name.now) own.sets

-- the precondition to take the commit back
abbrev pub CanUnseal : LocalCommits → SealingAct → SealerUndo → Type 0
CanUnseal own (sealings.Commit p batch) before = (is_host p.now ≡ false) × (is_some (finite.get own.sealers p.now) ≡ true) × CanRollBack (sealed_of own p.now) before
CanUnseal own (sealings.Define name list) before = AreSetsBack own.sets before
CanUnseal own (sealings.Delete name) before = AreSetsBack own.sets before

-- ---- the frames that an act sends

-- the frames beside the waiting requests: a change of the sets goes to each other node, with all changes before it
abbrev pub told_besides : Jobs → ℕ → SealingAct → (Proc → Sealed) → List ToSend
told_besides jobs id (sealings.Commit p batch) sealer = []
told_besides jobs id (sealings.Define name list) sealer = spread_by jobs id sealer host
told_besides jobs id (sealings.Delete name) sealer = spread_by jobs id sealer host
