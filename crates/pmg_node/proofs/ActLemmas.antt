-- An act of a node: that it is refused, or what it does and sends.
use Rattle.std.proofs.Common.{◌≡◌, false, List, [], ◌++◌, append-nil, Ok, Err, sym, ap, ◌∙◌}
use Rattle.pmg_value.specs.CheckOrder.{first_of}
use Rattle.pmg_value.specs.declared.refusal.Refusal.{Refusal}
use Rattle.pmg_node_model.specs.Acts.{Act, Reply, Done, done_as, cause, does, acts}
use Rattle.pmg_node_model.specs.Choosing.{Out, due_by, marked_by_act, sends, chosen}
use Rattle.pmg_node_model.specs.Holdings.{NodeState, sealer_of, settled}
use Rattle.pmg_node_model.specs.Sending.{is_quiet}
use Rattle.pmg_node.specs.Servers.{Server, reply_to, sent_by, after}
use Rattle.pmg_node_model.specs.declared.due.ToSend.{ToSend}
use Rattle.pmg_node_model.specs.declared.sent.Sent.{Sent}
use Rattle.pmg_node.proofs.SilentLemmas.{act_free, act_refused, refused_silent, sent_as, after_is, sent_none}

-- an act that is refused changes nothing
module _ (s : Server) (a : Act) (e : Refusal) (is : first_of (cause s.jobs s.id s.holding a) (tt {0}) ≡ Err e) where
  pub refused_reply : reply_to s a ≡ Reply.refused e
  refused_reply = ap (λ (d : Done). d.reply) (act_refused s.jobs s.id s.holding a e is)

  pub refused_after : after s a ≡ s
  refused_after = after_is s a (refused_silent s.jobs s.id s.holding a s.marks e is) (done_as (Reply.refused e) s.holding) (act_refused s.jobs s.id s.holding a e is)

  pub refused_sent : sent_by s a ≡ []
  refused_sent = sent_none s a (refused_silent s.jobs s.id s.holding a s.marks e is)

-- so this is told, left and sent
pub record IsRefused (s : Server) (a : Act) (e : Refusal) (out : List Sent) : Type 0 where
  pub reply : reply_to s a ≡ Reply.refused e
  pub done : s ≡ after s a
  pub sent : out ≡ out ++ sent_by s a

pub refused : (s : Server) (a : Act) (e : Refusal) → first_of (cause s.jobs s.id s.holding a) (tt {0}) ≡ Err e → (out : List Sent) → IsRefused s a e out
refused s a e is out = record {
  reply = refused_reply s a e is;
  done = sym (refused_after s a e is);
  sent = sym (append-nil out) ∙ ap (λ (x : List Sent). out ++ x) (sym (refused_sent s a e is));
}

-- an act that is not refused, by what it leaves and by what is due then
module _
    (s : Server)
    (a : Act)
    (free : first_of (cause s.jobs s.id s.holding a) (tt {0}) ≡ Ok tt)
    (loud : is_quiet (does s.jobs s.id s.holding a).reply ≡ false)
    (left : NodeState)
    (leaves : settled s.jobs s.id (does s.jobs s.id s.holding a).left ≡ left)
    (dues : List ToSend)
    (owes : due_by s.jobs s.id s.holding a left ≡ dues) where
  is_done : acts s.jobs s.id s.holding a ≡ done_as (does s.jobs s.id s.holding a).reply left
  is_done = act_free s.jobs s.id s.holding a free ∙ ap (done_as (does s.jobs s.id s.holding a).reply) leaves

  goes_out : chosen s.jobs s.id s.holding s.marks a ≡ sends (sealer_of left) (marked_by_act s.marks a) dues
  goes_out = sent_as s.jobs s.id s.holding a s.marks (done_as (does s.jobs s.id s.holding a).reply left) is_done loud ∙ ap (sends (sealer_of left) (marked_by_act s.marks a)) owes

  pub accepted_reply : reply_to s a ≡ (does s.jobs s.id s.holding a).reply
  accepted_reply = ap (λ (d : Done). d.reply) is_done

  pub accepted_after : after s a ≡ record { jobs = s.jobs; id = s.id; holding = left; marks = (sends (sealer_of left) (marked_by_act s.marks a) dues).marks }
  accepted_after = λ i. record { jobs = s.jobs; id = s.id; holding = (is_done i).left; marks = (goes_out i).marks }

  pub accepted_sent : sent_by s a ≡ (sends (sealer_of left) (marked_by_act s.marks a) dues).frames
  accepted_sent = ap (λ (out : Out). out.frames) goes_out
