-- An own process's next commit, or a change of the sets, as a node makes it.
use Rattle.std.proofs.Common.{◌≡◌, ℕ, false, List, ◌++◌, Ok, refl, sym, ap, subst, ◌∙◌}
use Rattle.pmg_value.specs.CheckOrder.{first_of}
use Rattle.pmg_value.specs.declared.process.Proc.{Proc}
use Rattle.pmg_scope.specs.declared.scope.Reach.TheVariants as reach
use Rattle.pmg_commit.specs.Data.{absorbed}
use Rattle.pmg_commit.specs.Knowledge.{Contribution}
use Rattle.pmg_commit.specs.Sealed.{Sealed, piece_at}
use Rattle.pmg_dmodex.specs.Levels.{without_below}
use Rattle.pmg_node_model.specs.Acts.{Act, Reply, Done, done_as, cause, does}
use Rattle.pmg_node_parts.specs.Answering.{AreAnswers}
use Rattle.pmg_node_parts.specs.Calls.{all_instead}
use Rattle.pmg_node_model.specs.Choosing.{due_by, marked_by_act, sends, settling}
use Rattle.pmg_node_model.specs.Holdings.{NodeState, sealer_in, sealer_of, sealers_with, sets_with, sealing, with_calls, settled}
use Rattle.pmg_node_model.specs.Kept.{is_about}
use Rattle.pmg_node_parts.specs.Owns.{LocalCommits, sealed_of}
use Rattle.pmg_node_model.specs.Sending.{is_quiet}
use Rattle.pmg_node.specs.Servers.{Server, IsNode, reply_to, sent_by, after}
use Rattle.pmg_node_parts.specs.Telling.{settling_by}
use Rattle.pmg_node_parts.specs.declared.call.Completion.{Completion}
use Rattle.pmg_node_model.specs.declared.due.ToSend.{ToSend}
use Rattle.pmg_node.proofs.ActLemmas.{accepted_reply, accepted_after, accepted_sent}
use Rattle.pmg_node_model.proofs.KeptAgain.{settled_on, sealing_differs}
use Rattle.pmg_node_model.proofs.KeptChanges.{sealer_there}

-- An act that is not refused, and seals this for the process; after what nodes waited for, more may be due.
pub record Seals (s : Server) (a : Act) (p : Proc) (z : Sealed) (reply : Reply) (more : (Proc → Sealed) → List ToSend) : Type 0 where
  pub node : IsNode s
  pub free : first_of (cause s.jobs s.id s.holding a) (tt {0}) ≡ Ok tt
  pub does : does s.jobs s.id s.holding a ≡ done_as reply (sealing s.holding p z)
  pub loud : is_quiet reply ≡ false
  pub proc : z.proc ≡ p
  pub owes : (new : NodeState) → due_by s.jobs s.id s.holding a new ≡ settling s.holding new p ++ more (sealer_of new)
  pub unasked : marked_by_act s.marks a ≡ s.marks

-- what is told of the process's next commit, where this is what each process sealed
abbrev pub told_on : Server → Proc → ((Proc → Sealed) → List ToSend) → (Proc → Sealed) → List ToSend
told_on s p more sealer = settling_by sealer s.holding.held p ++ more sealer

-- the near and the far piece of the process's next commit
abbrev pub near_piece : Server → Proc → Sealed → Contribution
near_piece s p z = piece_at z (sealer_of s.holding p).level reach.Near

abbrev pub far_piece : Server → Proc → Sealed → Contribution
far_piece s p z = piece_at z (sealer_of s.holding p).level reach.Far

-- A node that is the same but for what comes of the process's next commit, which sealed this.
pub record IsSealing (s : Server) (p : Proc) (z : Sealed) (answers : List (Proc × Completion)) (more : (Proc → Sealed) → List ToSend) (new : Server) : Type 0 where
  pub jobs : new.jobs ≡ s.jobs
  pub id : new.id ≡ s.id
  pub near : new.holding.near ≡ absorbed s.holding.near (near_piece s p z)
  pub far : new.holding.far ≡ absorbed s.holding.far (far_piece s p z)
  pub sealers : new.holding.sealers ≡ sealers_with s.holding p z
  pub sets : new.holding.sets ≡ sets_with s.holding p z
  pub table : new.holding.table ≡ s.holding.table
  pub calls : new.holding.calls ≡ all_instead s.holding.calls answers
  pub held : new.holding.held ≡ without_below s.holding.held p z.level
  pub requests : new.holding.requests ≡ s.holding.requests
  pub marks : new.marks ≡ (sends (sealer_of new.holding) s.marks (told_on s p more (sealer_of new.holding))).marks

module _ (s : Server) (a : Act) (p : Proc) (z : Sealed) (reply : Reply) (more : (Proc → Sealed) → List ToSend) (seals : Seals s a p z reply more) (answers : List (Proc × Completion))
    (are : AreAnswers s.jobs s.id (is_about p) s.holding.table (absorbed s.holding.near (near_piece s p z)) (absorbed s.holding.far (far_piece s p z)) s.holding.calls answers) where
  abbrev left : NodeState
  left = with_calls (sealing s.holding p z) (all_instead s.holding.calls answers)

  leaves : settled s.jobs s.id (does s.jobs s.id s.holding a).left ≡ left
  leaves =
      ap (λ (d : Done). settled s.jobs s.id d.left) seals.does
      ∙ settled_on s.jobs s.id p s.holding (sealing s.holding p z) seals.node.server.settled (sealing_differs s.jobs s.id s.holding p z seals.proc)
      ∙ ap (with_calls (sealing s.holding p z)) (sym (are (sealing s.holding p z) refl refl refl))

  loud : is_quiet (does s.jobs s.id s.holding a).reply ≡ false
  loud = ap (λ (d : Done). is_quiet d.reply) seals.does ∙ seals.loud

  owes : due_by s.jobs s.id s.holding a left ≡ told_on s p more (sealer_of left)
  owes = seals.owes left

  pub sealed_reply : reply_to s a ≡ reply
  sealed_reply = accepted_reply s a seals.free loud left leaves (told_on s p more (sealer_of left)) owes ∙ ap (λ (d : Done). d.reply) seals.does

  module _ (new : Server) (is : IsSealing s p z answers more new) where
    holding_is : new.holding ≡ left
    holding_is = λ i. record {
      near = is.near i;
      far = is.far i;
      sealers = is.sealers i;
      sets = is.sets i;
      table = is.table i;
      calls = is.calls i;
      held = is.held i;
      requests = is.requests i;
    }

    pub sealed_after : new ≡ after s a
    sealed_after =
        (λ i. record {
          jobs = is.jobs i;
          id = is.id i;
          holding = holding_is i;
          marks = (is.marks ∙ (λ j. (sends (sealer_of (holding_is j)) (sym seals.unasked j) (told_on s p more (sealer_of (holding_is j)))).marks)) i;
        })
        ∙ sym (accepted_after s a seals.free loud left leaves (told_on s p more (sealer_of left)) owes)

    pub sealed_sent : (sends (sealer_of new.holding) s.marks (told_on s p more (sealer_of new.holding))).frames ≡ sent_by s a
    sealed_sent =
        (λ j. (sends (sealer_of (holding_is j)) (sym seals.unasked j) (told_on s p more (sealer_of (holding_is j)))).frames)
        ∙ sym (accepted_sent s a seals.free loud left leaves (told_on s p more (sealer_of left)) owes)

-- ---- what publishing leaves

-- A node that is the same but for what was published of the process's next commit, where own processes sealed this.
pub record IsPublished (s : Server) (p : Proc) (own : LocalCommits) (from : ℕ) (answers : List (Proc × Completion)) (dues : List ToSend) (new : Server) : Type 0 where
  pub jobs : new.jobs ≡ s.jobs
  pub id : new.id ≡ s.id
  pub near : new.holding.near ≡ absorbed s.holding.near (piece_at (sealed_of own p) from reach.Near)
  pub far : new.holding.far ≡ absorbed s.holding.far (piece_at (sealed_of own p) from reach.Far)
  pub sealers : new.holding.sealers ≡ own.sealers
  pub sets : new.holding.sets ≡ own.sets
  pub table : new.holding.table ≡ s.holding.table
  pub calls : new.holding.calls ≡ all_instead s.holding.calls answers
  pub held : new.holding.held ≡ without_below s.holding.held p (sealed_of own p).level
  pub requests : new.holding.requests ≡ s.holding.requests
  pub marks : new.marks ≡ (sends (sealed_of own) s.marks (settling_by (sealed_of own) s.holding.held p ++ dues)).marks
  pub found : AreAnswers s.jobs s.id (is_about p) s.holding.table (absorbed s.holding.near (piece_at (sealed_of own p) from reach.Near))
      (absorbed s.holding.far (piece_at (sealed_of own p) from reach.Far)) s.holding.calls answers

module _ (s : Server) (a : Act) (p : Proc) (z : Sealed) (reply : Reply) (more : (Proc → Sealed) → List ToSend) (seals : Seals s a p z reply more)
    (own : LocalCommits) (sealers : own.sealers ≡ sealers_with s.holding p z) (sets : own.sets ≡ sets_with s.holding p z) (from : ℕ) (last : from ≡ (sealer_of s.holding p).level)
    (answers : List (Proc × Completion)) (new : Server) (is : IsPublished s p own from answers (more (sealed_of own)) new) where
  pub now_sealed : sealed_of own p ≡ z
  now_sealed = (λ i. sealer_in (sets i) (sealers i) p) ∙ sealer_there s.holding p z

  near_is : piece_at (sealed_of own p) from reach.Near ≡ near_piece s p z
  near_is = λ i. piece_at (now_sealed i) (last i) reach.Near

  far_is : piece_at (sealed_of own p) from reach.Far ≡ far_piece s p z
  far_is = λ i. piece_at (now_sealed i) (last i) reach.Far

  sealer_is : sealed_of own ≡ sealer_of new.holding
  sealer_is = λ i q. sealer_in (sym is.sets i) (sym is.sealers i) q

  sealing_is : IsSealing s p z answers more new
  sealing_is = record {
    jobs = is.jobs;
    id = is.id;
    near = is.near ∙ ap (absorbed s.holding.near) near_is;
    far = is.far ∙ ap (absorbed s.holding.far) far_is;
    sealers = is.sealers ∙ sealers;
    sets = is.sets ∙ sets;
    table = is.table;
    calls = is.calls;
    held = is.held ∙ ap (λ (x : Sealed). without_below s.holding.held p x.level) now_sealed;
    requests = is.requests;
    marks = is.marks ∙ ap (λ (f : Proc → Sealed). (sends f s.marks (told_on s p more f)).marks) sealer_is;
  }

  are : AreAnswers s.jobs s.id (is_about p) s.holding.table (absorbed s.holding.near (near_piece s p z)) (absorbed s.holding.far (far_piece s p z)) s.holding.calls answers
  are = subst (λ (c : Contribution × Contribution). AreAnswers s.jobs s.id (is_about p) s.holding.table (absorbed s.holding.near c.0) (absorbed s.holding.far c.1) s.holding.calls answers)
      (λ i. (near_is i, far_is i)) is.found

  pub published_reply : reply_to s a ≡ reply
  published_reply = sealed_reply s a p z reply more seals answers are

  pub published_after : new ≡ after s a
  published_after = sealed_after s a p z reply more seals answers are new sealing_is

  pub published_sent : (sends (sealed_of own) s.marks (told_on s p more (sealed_of own))).frames ≡ sent_by s a
  published_sent = ap (λ (f : Proc → Sealed). (sends f s.marks (told_on s p more f)).frames) sealer_is ∙ sealed_sent s a p z reply more seals answers are new sealing_is
