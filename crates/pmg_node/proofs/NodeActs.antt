-- Calls of a node: each makes its act, by the clauses of its server's call.
use Rattle.std.proofs.Common.{◌≡◌, ℕ, List, ◌++◌, Result, Ok, Err, inl, refl, sym, ap, ◌∙◌}
use Rattle.pmg_value.specs.declared.refusal.Refusal.{Refusal}
use Rattle.pmg_value.specs.declared.refusal.Refusal.TheVariants as refusals
use Rattle.pmg_frame.specs.declared.frame.Frame.{Frame}
use Rattle.pmg_node.specs.Acting.{commit_joins, delivery_joins}
use Rattle.pmg_node.specs.Joining.{Joins, frame_joins, joins, no_joins}
use Rattle.pmg_node.specs.Nodes.{Node, Acts, joined_by}
use Rattle.pmg_node.specs.Replies.{delivery_reply}
use Rattle.pmg_node.specs.Servers.{Server, IsAnswered, RepliesAct, after, reply_to, sent_by}
use Rattle.pmg_node.specs.declared.asked.Delivery.{Delivery}
use Rattle.pmg_node.specs.declared.committing.Committed.{Committed}
use Rattle.pmg_node_model.specs.Acts.{Act, Reply}
use Rattle.pmg_node_model.specs.declared.sent.Sent.{Sent}
use Rattle.pmg_node.proofs.JoiningLemmas.{delivered_joins}
use Rattle.pmg_node.proofs.ReplyLemmas.{deliver_accepted}

-- the node of these parts
abbrev pub node_as : Server → List Sent → Joins → Node
node_as s o j = record { server = s; outbox = o; joined = j }

-- where the act joins nothing, the call joins nothing, however it answers
joined_none : {X : Type 0} (r : Result X Refusal) (s : Server) (a : Act) → joins s.jobs s.id s.holding a ≡ no_joins → no_joins ≡ joined_by r s a
joined_none (Ok x) s a none = sym none
joined_none (Err e) s a none = refl

-- a call that joins nothing
pub quiet : {X : Type 0} (view : X → Reply) (s server : Server) (o outbox : List Sent) (j joined : Joins) (a : Act) (r : Result X Refusal) → RepliesAct view r s a
    → (IsAnswered r → server ≡ after s a) → (IsAnswered r → outbox ≡ o ++ sent_by s a) → (r ≡ Err refusals.NoMemory → server ≡ s) → (r ≡ Err refusals.NoMemory → outbox ≡ o)
    → joins s.jobs s.id s.holding a ≡ no_joins → joined ≡ no_joins → Acts view (node_as s o j) a r (node_as server outbox joined)
quiet view s server o outbox j joined a r reply done sent memory unsent none nothing = record {
  reply = reply;
  done = done;
  sent = sent;
  joined = nothing ∙ joined_none r s a none;
  memory = λ is. (memory is, unsent is);
}

-- a call that seals
pub sealed : (view : ℕ → Reply) (s server : Server) (o outbox : List Sent) (j joined : Joins) (a : Act) (c : Committed) (n : ℕ) → n ≡ c.level → reply_to s a ≡ view c.level
    → server ≡ after s a → outbox ≡ o ++ sent_by s a → joined ≡ commit_joins c → commit_joins c ≡ joins s.jobs s.id s.holding a
    → Acts view (node_as s o j) a (Ok n) (node_as server outbox joined)
sealed view s server o outbox j joined a c n same reply done sent kept all = record {
  reply = reply ∙ ap view (sym same);
  done = λ _. done;
  sent = λ _. sent;
  joined = kept ∙ all;
  memory = λ is. absurd cc;
}

-- a delivery for which an allocation failed
pub undelivered : (s server : Server) (o outbox : List Sent) (j joined : Joins) (frame : Frame) → server ≡ s → outbox ≡ o → joined ≡ no_joins
    → Acts delivery_reply (node_as s o j) (Act.deliver frame) (Err refusals.NoMemory) (node_as server outbox joined)
undelivered s server o outbox j joined frame same unsent nothing = record {
  reply = inl (deliver_accepted s.jobs s.id s.holding frame);
  done = λ answered. absurd answered;
  sent = λ answered. absurd answered;
  joined = nothing;
  memory = λ is. (same, unsent);
}

-- a delivery that is answered
pub delivered : (s server : Server) (o outbox : List Sent) (j joined : Joins) (frame : Frame) (d e : Delivery) → d ≡ e → reply_to s (Act.deliver frame) ≡ delivery_reply d
    → server ≡ after s (Act.deliver frame) → outbox ≡ o ++ sent_by s (Act.deliver frame) → joined ≡ delivery_joins e (frame_joins frame)
    → Acts delivery_reply (node_as s o j) (Act.deliver frame) (Ok e) (node_as server outbox joined)
delivered s server o outbox j joined frame d e is reply done sent kept = record {
  reply = reply ∙ ap delivery_reply is;
  done = λ _. done;
  sent = λ _. sent;
  joined = kept ∙ delivered_joins s.jobs s.id s.holding frame e (reply ∙ ap delivery_reply is);
  memory = λ short. absurd cc;
}
